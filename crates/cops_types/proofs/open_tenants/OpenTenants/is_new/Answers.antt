use Rattle.std.proofs.Common.{◌≡◌, ◌∙◌, ◌&&◌, not, ap, refl, sym}
use Rattle.std.specs.Prelude.{is_some}
use Rattle.std.specs.List.{list_any}
use Rattle.cops_types.specs.OpenSlots.{has_name, has_token, is_new}
use Rattle.cops_types.proofs.OpenSlotLemmas.{any_found}
use Rattle.cops_types.proofs.open_tenants.OpenTenants.is_new.Goals as goal

pub returns-then-not-contains_key : goal.returns-then-not-contains_key
returns-then-not-contains_key c =
    let slots = c.self.inside.slots.items in
    let tenant = c.args.tenant.now in
    let names = c.contains_key.ensures ∙ ap is_some (c.self.invariant.names_are tenant.name) ∙ any_found (has_name tenant.name) 0 slots in
    let token = c.as_bytes.result.now in
    let tokens = c.contains_key-then-not-contains_key.ensures ∙ ap is_some (c.self.invariant.tokens_are token) ∙ any_found (has_token token) 0 slots in
    let same = ap (λ text. list_any (has_token text) slots) c.as_bytes.ensures in
    let fresh = sym names ∙ c.if-not-contains_key.true in
    let both : not c.contains_key-then-not-contains_key.result ≡ is_new slots tenant = (λ i. not (sym fresh i) && not ((tokens ∙ same) i)) in
    both ∙ ap (λ ts. is_new ts tenant) c.self.view_is

pub returns-else-not-contains_key : goal.returns-else-not-contains_key
returns-else-not-contains_key c =
    let slots = c.self.inside.slots.items in
    let tenant = c.args.tenant.now in
    let names = c.contains_key.ensures ∙ ap is_some (c.self.invariant.names_are tenant.name) ∙ any_found (has_name tenant.name) 0 slots in
    let taken : not c.contains_key.result ≡ is_new slots tenant = rw (← names) (rw c.if-not-contains_key.false refl) in
    taken ∙ ap (λ ts. is_new ts tenant) c.self.view_is

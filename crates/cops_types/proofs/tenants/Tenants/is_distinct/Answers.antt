use Rattle.std.proofs.Common.{◌≡◌, ◌∙◌, ◌&&◌, not, ap, refl, sym}
use Rattle.std.specs.List.{list_any}
use Rattle.std.specs.Str.{bytes_eq}
use Rattle.cops_types.specs.declared.configs.Tenant.{Tenant}
use Rattle.cops_types.specs.HeadLines.{is_distinct}
use Rattle.cops_types.proofs.SlotLemmas.{any_found}
use Rattle.cops_types.proofs.tenants.Tenants.is_distinct.Goals as goal

pub returns-then-not-contains : goal.returns-then-not-contains
returns-then-not-contains c =
    let tenants = c.self.inside.tenants.items in
    let tenant = c.args.tenant.now in
    let names = c.contains.ensures ∙ any_found (λ t. t.name) tenant.name c.self.inside.names.keys tenants c.self.invariant.names_are in
    let tokens = c.contains-then-not-contains.ensures ∙ any_found (λ t. t.token) c.as_bytes.result.now c.self.inside.tokens.keys tenants c.self.invariant.tokens_are in
    let same = ap (λ text. list_any (λ (t : Tenant). bytes_eq t.token text) tenants) c.as_bytes.ensures in
    let fresh = sym names ∙ c.if-not-contains.true in
    let both : not c.contains-then-not-contains.result ≡ is_distinct tenants tenant = (λ i. not (sym fresh i) && not ((tokens ∙ same) i)) in
    both ∙ ap (λ ts. is_distinct ts tenant) c.self.view_is

pub returns-else-not-contains : goal.returns-else-not-contains
returns-else-not-contains c =
    let tenants = c.self.inside.tenants.items in
    let tenant = c.args.tenant.now in
    let names = c.contains.ensures ∙ any_found (λ t. t.name) tenant.name c.self.inside.names.keys tenants c.self.invariant.names_are in
    let taken : not c.contains.result ≡ is_distinct tenants tenant = rw (← names) (rw c.if-not-contains.false refl) in
    taken ∙ ap (λ ts. is_distinct ts tenant) c.self.view_is

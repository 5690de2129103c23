use Rattle.std.proofs.Common.{◌≡◌, ◌<◌, List, Option, Some, ◌∙◌, refl, sym, ap, subst, arith}
use Rattle.std.proofs.lemmas.Option.{slice_get_read}
use Rattle.std.proofs.Math.ListN.{get_or}
use Rattle.std.proofs.lemmas.Slice.Eq.{bytes_eq-Decides}
use Rattle.std.specs.Prelude.{length}
use Rattle.std.specs.Str.{bytes_eq}
use Rattle.cops_types.specs.declared.configs.Tenant.{Tenant}
use Rattle.cops_types.specs.OpenSlots.{open_slot_of_name}
use Rattle.cops_types.proofs.OpenSlotLemmas.{found_there}
use Rattle.cops_types.proofs.open_tenants.OpenTenants.is_at.Goals as goal

pub returns-in-Some-Some : goal.returns-in-Some-Some
returns-in-Some-Some c equal =
    let slots : List (Option Tenant) = c.self.inside.slots.items in
    let found : Option Tenant = c.in-Some-Some.field-0.now in
    let within : c.args.place < length slots = subst (λ (xs : List (Option Tenant)). c.args.place < length xs) c.deref.ensures.value c.in-Some-Some.ensures.lookup.3.0 in
    let value : found ≡ get_or slots c.args.place found = subst (λ (xs : List (Option Tenant)). found ≡ get_or xs c.args.place found) c.deref.ensures.value c.in-Some-Some.ensures.lookup.1 in
    let there = slice_get_read slots (length slots) c.args.place found refl within value ∙ ap Some c.in-Some-Some.field-0-is in
    let same = ap (λ text. bytes_eq text c.args.name.now) (sym c.bytes.ensures.value) ∙ (bytes_eq-Decides c.bytes.result.now c.args.name.now).1 (c.are_same.ensures.same equal) in
    ap (λ ts. open_slot_of_name ts c.args.name.now) (sym c.self.view_is)
    ∙ found_there (λ t. t.name) slots c.args.place c.in-Some-Some.tenant c.args.name.now 0 there c.self.invariant.names_apart same ∙ ap Some (omega arith)

use Rattle.std.proofs.Common.{◌∙◌, ap, refl, sym}
use Rattle.cops_types.specs.Key.{is_name}
use Rattle.cops_types.specs.OpenSlots.{has_name, open_slot_of_name}
use Rattle.cops_types.proofs.OpenSlotLemmas.{none_named, none_passes}
use Rattle.cops_types.proofs.SlotLemmas.{no_name}
use Rattle.cops_types.proofs.open_tenants.OpenTenants.slot_by_hash.Goals as goal

pub returns-in_default : goal.returns-in_default
returns-in_default c =
    let slots = c.self.inside.slots.items in
    let is = no_name c.args.name.now c.in_default.field-0 (is_name c.args.name.now) refl (sym c.new.ensures ∙ c.in_default.is) in
    sym (none_passes (has_name c.args.name.now) 0 slots (none_named slots c.args.name.now c.self.invariant.named is)) ∙ ap (λ ts. open_slot_of_name ts c.args.name.now) c.self.view_is

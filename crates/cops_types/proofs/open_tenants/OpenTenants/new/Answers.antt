use Rattle.cops_types.proofs.OpenSlotLemmas.{none_open}
use Rattle.cops_types.proofs.open_tenants.OpenTenants.new.Goals as goal

pub invariant_of-result : goal.invariant_of-result
invariant_of-result c = none_open c.in_ok-free_slots.field-0.items c.new.result c.new-2.result c.in_ok-free_slots.ensures c.new.ensures.empty c.new-2.ensures.empty

use Rattle.std.proofs.Common.{◌≡◌, ◌++◌, map}
use Rattle.std.specs.Prelude.{None, Some, replicate, take}
use Rattle.cops_types.proofs.open_tenants.slots_of.Given as goal

abbrev pub invariant-loop-tenant : goal.invariant-loop-tenant
invariant-loop-tenant l = l.slots.items ≡ map Some (take l.tenant-index l.tenants)

abbrev pub invariant-loop-slot : goal.invariant-loop-slot
invariant-loop-slot l = l.slots.items ≡ map Some l.tenants ++ replicate l._slot None

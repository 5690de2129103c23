use Rattle.std.specs.Prelude.{◌<◌, All, length}
use Rattle.cops_world.proofs.run_tests.events_of.Given as goal

abbrev pub invariant-loop-line : goal.invariant-loop-line
invariant-loop-line g l = All (λ e. e.slot < length l.tenants) l.events.items

use Rattle.cops_repl.specs.Stands.{RunsIn}
use Rattle.store_tests.proofs.repl.carriers.carry.Given as goal

abbrev pub invariant-loop : goal.invariant-loop
invariant-loop g l = RunsIn (record { data_centres = 2; shards = 2 }) l.carrier.shards l.carrier.stream

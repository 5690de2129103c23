use Rattle.std.proofs.Common.{◌≡◌, true, List, ◌++◌, take}
use Rattle.cops_types.specs.Context.{Observation, StandFor, observations_of, can_observe}
use Rattle.cops_context.proofs.observing.has_seen_all.Given as goal

-- the reads so far change nothing, and are within the limit
abbrev pub invariant-loop-read : goal.invariant-loop-read
invariant-loop-read l = record {
  seen : (obs : List Observation) → StandFor l.all.pairs l.near.pairs obs → StandFor l.all.pairs l.near.pairs (obs ++ observations_of (take l.read-index l.reads));
  within : (obs : List Observation) → StandFor l.all.pairs l.near.pairs obs → can_observe l.limit obs (observations_of (take l.read-index l.reads)) ≡ true;
}

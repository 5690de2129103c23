use Rattle.std.proofs.Common.{◌≡◌, ℕ, length, take}
use Rattle.cops_model.specs.Cluster.{SoloCluster}
use Rattle.cops_model.specs.Events.{own, replies}
use Rattle.cops_model.specs.Goes.{Goes}
use Rattle.cops_model.specs.Setups.{config_in}
use Rattle.cops_script.proofs.runs.run_all.Given as goal

-- the replies to each tenant so far are a run of its own acts, and its part of the world is as it is then
abbrev pub invariant-loop-event : goal.invariant-loop-event
invariant-loop-event g l =
    let setup = g.W.Tenancy.setup in
    let past = take l.event-index l.events in
    record {
      same : setup l.world ≡ setup l.fn.world;
      as_long : length l.told.items ≡ l.event-index;
      goes : (slot : ℕ) (cluster : SoloCluster) → g.W.Tenancy.StandsFor l.fn.world slot cluster →
          (left : SoloCluster) × Goes (config_in (setup l.fn.world) slot) (own slot past) (replies slot past l.told.items) cluster left × g.W.Tenancy.StandsFor l.world slot left;
    }

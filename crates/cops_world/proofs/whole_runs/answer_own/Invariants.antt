use Rattle.std.proofs.Common.{◌≡◌, take, length}
use Rattle.cops_model.specs.Cluster.{SoloCluster}
use Rattle.cops_model.specs.Events.{own}
use Rattle.cops_model.specs.Goes.{Goes}
use Rattle.cops_model.specs.Setups.{config_in}
use Rattle.cops_world.specs.Worlds.{HasOpenCluster}
use Rattle.cops_world.proofs.whole_runs.answer_own.Given as goal

-- the replies so far are those of a run of the tenant's acts, and the world has the cluster that it leaves
abbrev pub invariant-loop-event : goal.invariant-loop-event
invariant-loop-event l =
    let config = config_in l.fn.world.setup 0 in
    let past = take l.event-index l.events in
    record {
      same : config_in l.world.setup 0 ≡ config;
      as_long : length l.told.items ≡ length (own l.slot past);
      run : (cluster : SoloCluster) → HasOpenCluster l.fn.world 0 cluster → (left : SoloCluster) × Goes config (own l.slot past) l.told.items cluster left × HasOpenCluster l.world 0 left;
    }

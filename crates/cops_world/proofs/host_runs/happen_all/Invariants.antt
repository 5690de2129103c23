use Rattle.std.proofs.Common.{◌≡◌, length, take}
use Rattle.cops_types.specs.declared.configs.Config.{Config}
use Rattle.cops_script.specs.Lives.{first_lives}
use Rattle.cops_world.specs.Worlds.{HasOpenCluster, open_setup}
use Rattle.cops_world.proofs.HostRunLemmas.{IsSoFar}
use Rattle.cops_world.proofs.host_runs.happen_all.Given as goal

-- the events so far were answered, each to a life
abbrev pub invariant-loop-event : goal.invariant-loop-event
invariant-loop-event l =
    record {
      as_long : length l.told.items ≡ l.event-index;
      so_far : (config : Config) → IsSoFar open_setup HasOpenCluster l.fn.world (first_lives config) l.world (take l.event-index l.events) l.told.items;
    }

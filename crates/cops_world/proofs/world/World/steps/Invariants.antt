use Rattle.std.proofs.Common.{◌≡◌}
use Rattle.std.specs.Prelude.{Result, Some}
use Rattle.std.specs.declared.alloc.AllocError.{AllocError}
use Rattle.cops_model.specs.declared.replies.Reply.{Reply}
use Rattle.cops_model.specs.Cluster.{actor_steps}
use Rattle.cops_script.specs.Acting.{IsSparedReply}
use Rattle.cops_model.specs.Lacks.{StepsStop}
use Rattle.cops_world.specs.ActorTables.{actor_place}
use Rattle.cops_world.specs.Worlds.{World, Leaves, Moves, world_of}
use Rattle.cops_world.proofs.world.World.steps.Given as goal

-- the actor is at its place, and the steps that are left make, with those that were taken, all the steps
abbrev pub invariant-loop-self : goal.invariant-loop-self
invariant-loop-self l = record {
  same : l.self.setup ≡ l.fn.self.setup;
  placed : Some l.place ≡ actor_place l.id l.self.table;
  rest : (answered : Result Reply AllocError) (new : World) → Moves IsSparedReply (λ config. actor_steps l.more config l.id.name l.moment) (world_of l.self) l.slot answered new →
      Moves IsSparedReply (λ config. actor_steps l.fn.more config l.id.name l.moment) (world_of l.fn.self) l.slot answered new;
  lack_rest : (answered : Result Reply AllocError) (new : World) → Leaves (λ config. StepsStop l.more config l.id.name l.moment) (world_of l.self) l.slot answered new →
      Leaves (λ config. StepsStop l.fn.more config l.id.name l.moment) (world_of l.fn.self) l.slot answered new;
}

abbrev pub decreases-loop-self : goal.decreases-loop-self
decreases-loop-self l = l.more

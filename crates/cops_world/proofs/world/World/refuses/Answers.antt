use Rattle.std.proofs.Common.{sym, ◌∙◌}
use Rattle.cops_world.specs.Worlds.{world_of}
use Rattle.cops_world.proofs.WorldCalls.{name_taken}
use Rattle.cops_world.proofs.world.World.refuses.Goals as goal

pub returns-then-has_actor-clause-refused : goal.returns-then-has_actor-clause-refused
returns-then-has_actor-clause-refused c = λ solo reply. name_taken (world_of c.args.self.now) c.args.id (sym c.has_actor.ensures ∙ c.if-has_actor.true) solo reply

use Rattle.std.proofs.Common.{ap, subst, refl, sym, ◌∙◌}
use Rattle.std.specs.Prelude.{Ok}
use Rattle.cops_types.specs.declared.faults.Fault.TheVariants.{UnknownTenant}
use Rattle.cops_model.specs.declared.acts.Act.TheVariants as acts
use Rattle.cops_model.specs.declared.replies.Reply.TheVariants.{Refused}
use Rattle.cops_model.specs.Cluster.{actor_steps, cluster_step}
use Rattle.cops_model.specs.Setups.{config_in}
use Rattle.cops_script.specs.Acting.{IsSparedReply, TellsExactly}
use Rattle.cops_model.specs.Lacks.{Lacks, StepsStop}
use Rattle.cops_world.specs.Worlds.{world_of}
use Rattle.cops_world.proofs.WorldJoins.{same_moves}
use Rattle.cops_world.proofs.WorldCalls.{acted}
use Rattle.cops_world.proofs.WorldLacks.{acted_leaves, spared_leaves}
use Rattle.cops_world.proofs.WorldLives.{vacant_moves}
use Rattle.cops_world.proofs.world.WorldTenancy.act.Goals as goal

pub returns-then-not-has_tenant-clause-moves : goal.returns-then-not-has_tenant-clause-moves
returns-then-not-has_tenant-clause-moves c =
    vacant_moves (TellsExactly c.args.act.now) (λ config. cluster_step config c.args.act.now) (world_of c.args.self.now) c.args.slot UnknownTenant (sym c.has_tenant.ensures ∙ c.if-not-has_tenant.true)

pub returns-then-not-has_tenant-clause-lack : goal.returns-then-not-has_tenant-clause-lack
returns-then-not-has_tenant-clause-lack c = spared_leaves (λ config. Lacks config c.args.act.now) (world_of c.args.self.now) c.args.slot (Ok (Refused UnknownTenant)) (world_of c.args.self.now) refl

pub returns-in-Open-clause-moves : goal.returns-in-Open-clause-moves
returns-in-Open-clause-moves c = acted (world_of c.args.self.now) c.args.slot c.args.act.now _ c.in-Open.is c.open.result (world_of c.open.new.self) c.open.ensures.moves

pub returns-in-Create-clause-moves : goal.returns-in-Create-clause-moves
returns-in-Create-clause-moves c = acted (world_of c.args.self.now) c.args.slot c.args.act.now _ c.in-Create.is c.create.result (world_of c.create.new.self) c.create.ensures.moves

pub returns-in-Delete-clause-moves : goal.returns-in-Delete-clause-moves
returns-in-Delete-clause-moves c = acted (world_of c.args.self.now) c.args.slot c.args.act.now _ c.in-Delete.is c.delete.result (world_of c.delete.new.self) c.delete.ensures.moves

pub returns-in-Put-clause-moves : goal.returns-in-Put-clause-moves
returns-in-Put-clause-moves c = acted (world_of c.args.self.now) c.args.slot c.args.act.now _ c.in-Put.is c.put.result (world_of c.put.new.self) c.put.ensures.moves

pub returns-in-Get-clause-moves : goal.returns-in-Get-clause-moves
returns-in-Get-clause-moves c = acted (world_of c.args.self.now) c.args.slot c.args.act.now _ c.in-Get.is c.get.result (world_of c.get.new.self) c.get.ensures.moves

pub returns-in-Show-clause-moves : goal.returns-in-Show-clause-moves
returns-in-Show-clause-moves c = acted (world_of c.args.self.now) c.args.slot c.args.act.now _ c.in-Show.is c.show.result (world_of c.show.new.self) c.show.ensures.moves

pub returns-in-Carry-clause-moves : goal.returns-in-Carry-clause-moves
returns-in-Carry-clause-moves c = acted (world_of c.args.self.now) c.args.slot c.args.act.now _ c.in-Carry.is c.carry.result (world_of c.carry.new.self) c.carry.ensures.moves

pub returns-in-Step-clause-moves : goal.returns-in-Step-clause-moves
returns-in-Step-clause-moves c = acted (world_of c.args.self.now) c.args.slot c.args.act.now _ c.in-Step.is c.steps.result (world_of c.steps.new.self) c.steps.ensures.moves

pub returns-in-Done-clause-moves : goal.returns-in-Done-clause-moves
returns-in-Done-clause-moves c = acted (world_of c.args.self.now) c.args.slot c.args.act.now _ c.in-Done.is c.steps-in-Done.result (world_of c.steps-in-Done.new.self)
    (same_moves IsSparedReply (λ config. actor_steps c.most_steps-more.result config c.in-Done.name c.in-Done.moment) (λ config. cluster_step config (acts.Done c.in-Done.name c.in-Done.moment)) (world_of c.args.self.now) c.args.slot
    c.steps-in-Done.result (world_of c.steps-in-Done.new.self)
    (λ cluster. ap (λ n. actor_steps n (config_in c.args.self.now.setup c.args.slot) c.in-Done.name c.in-Done.moment cluster) c.most_steps-more.ensures) c.steps-in-Done.ensures.moves)

pub returns-in-Collect-clause-moves : goal.returns-in-Collect-clause-moves
returns-in-Collect-clause-moves c = acted (world_of c.args.self.now) c.args.slot c.args.act.now _ c.in-Collect.is c.collect.result (world_of c.collect.new.self) c.collect.ensures.moves

pub returns-in-Open-clause-lack : goal.returns-in-Open-clause-lack
returns-in-Open-clause-lack c = acted_leaves (world_of c.args.self.now) c.args.slot c.args.act.now _ c.in-Open.is c.open.result (world_of c.open.new.self) c.open.ensures.lack

pub returns-in-Create-clause-lack : goal.returns-in-Create-clause-lack
returns-in-Create-clause-lack c = acted_leaves (world_of c.args.self.now) c.args.slot c.args.act.now _ c.in-Create.is c.create.result (world_of c.create.new.self) c.create.ensures.lack

pub returns-in-Delete-clause-lack : goal.returns-in-Delete-clause-lack
returns-in-Delete-clause-lack c = acted_leaves (world_of c.args.self.now) c.args.slot c.args.act.now _ c.in-Delete.is c.delete.result (world_of c.delete.new.self) c.delete.ensures.lack

pub returns-in-Put-clause-lack : goal.returns-in-Put-clause-lack
returns-in-Put-clause-lack c = acted_leaves (world_of c.args.self.now) c.args.slot c.args.act.now _ c.in-Put.is c.put.result (world_of c.put.new.self) c.put.ensures.lack

pub returns-in-Get-clause-lack : goal.returns-in-Get-clause-lack
returns-in-Get-clause-lack c = acted_leaves (world_of c.args.self.now) c.args.slot c.args.act.now _ c.in-Get.is c.get.result (world_of c.get.new.self) c.get.ensures.lack

pub returns-in-Show-clause-lack : goal.returns-in-Show-clause-lack
returns-in-Show-clause-lack c = acted_leaves (world_of c.args.self.now) c.args.slot c.args.act.now _ c.in-Show.is c.show.result (world_of c.show.new.self) c.show.ensures.lack

pub returns-in-Carry-clause-lack : goal.returns-in-Carry-clause-lack
returns-in-Carry-clause-lack c = acted_leaves (world_of c.args.self.now) c.args.slot c.args.act.now _ c.in-Carry.is c.carry.result (world_of c.carry.new.self) c.carry.ensures.lack

pub returns-in-Step-clause-lack : goal.returns-in-Step-clause-lack
returns-in-Step-clause-lack c = acted_leaves (world_of c.args.self.now) c.args.slot c.args.act.now _ c.in-Step.is c.steps.result (world_of c.steps.new.self) c.steps.ensures.lack

pub returns-in-Collect-clause-lack : goal.returns-in-Collect-clause-lack
returns-in-Collect-clause-lack c = acted_leaves (world_of c.args.self.now) c.args.slot c.args.act.now _ c.in-Collect.is c.collect.result (world_of c.collect.new.self) c.collect.ensures.lack

pub returns-in-Done-clause-lack : goal.returns-in-Done-clause-lack
returns-in-Done-clause-lack c = acted_leaves (world_of c.args.self.now) c.args.slot c.args.act.now _ c.in-Done.is c.steps-in-Done.result (world_of c.steps-in-Done.new.self)
    (λ lack cluster stands.
    let left = c.steps-in-Done.ensures.lack lack cluster stands in
    (left.0, subst (λ n. StepsStop n (config_in c.args.self.now.setup c.args.slot) c.in-Done.name c.in-Done.moment cluster left.0) c.most_steps-more.ensures left.1, left.2))

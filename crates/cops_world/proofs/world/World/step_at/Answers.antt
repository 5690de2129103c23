use Rattle.std.proofs.Common.{◌≡◌, inr, Bool, true, false, refl, sym, subst, ap, ◌∙◌, true≢false}
use Rattle.std.specs.Prelude.{IsTrue, Some}
use Rattle.indexmap.specs.IndexMap.{set_value_at}
use Rattle.cops_types.proofs.WordLemmas.{same_value}
use Rattle.cops_node.specs.Clusters.{shape_of}
use Rattle.cops_node.specs.declared.Shape.{Shape}
use Rattle.cops_model.specs.Cluster.{actor_step, goes_on}
use Rattle.cops_model.specs.Setups.{is_open_at}
use Rattle.cops_world.specs.declared.actors.Actor.{Actor}
use Rattle.cops_world.specs.declared.actors.ActorId.{ActorId}
use Rattle.cops_world.specs.ActorsStand.{RunsAt, actor_ended, stepped_to}
use Rattle.cops_world.specs.ActorTables.{Table, actor_place}
use Rattle.cops_script.specs.Acting.{IsSparedReply, told_act}
use Rattle.cops_model.specs.Lacks.{StepStops}
use Rattle.cops_world.specs.Worlds.{KeptWorld, Leaves, Moves, world_of}
use Rattle.cops_world.proofs.WorldCalls.{steps_world}
use Rattle.cops_world.proofs.WorldKeeps.{has_left, kept_called, kept_placed, put_back, sites_stay}
use Rattle.cops_world.proofs.WorldLacks.{steps_world_leaves}
use Rattle.cops_world.proofs.WorldSteps.{HasSteppedAt}
use Rattle.cops_world.proofs.world.World.step_at.Goals as goal

pub actor_mut-actor-requires : goal.actor_mut-actor-requires
actor_mut-actor-requires c = subst (λ (k : KeptWorld). Some c.args.place ≡ actor_place c.args.id.now k.table) (sym c.self.view_is) c.requires.place

pub step-requires : goal.step-requires
step-requires c =
    let id = c.args.id.now in
    let old : KeptWorld = record { setup = record { head = c.self.inside.config; tenants = c.self.inside.tenants }; nodes = c.self.inside.nodes; table = c.self.inside.actors } in
    let before = c.actor_mut-actor.result.now in
    let there = c.actor_mut-actor.ensures.before in
    subst (λ (s : Shape). RunsAt s id.slot before) (sym c.self.invariant.whole.shape_is) (c.self.invariant.whole.run id before there)

pub invariant_of-self : goal.invariant_of-self
invariant_of-self c =
    let slot = c.args.id.now.slot in
    let old : KeptWorld = record { setup = record { head = c.self.inside.config; tenants = c.self.inside.tenants }; nodes = c.self.inside.nodes; table = c.self.inside.actors } in
    let id : ActorId = c.args.id.now in
    let lent = c.actor_mut-actor.ensures in
    let before = c.actor_mut-actor.result.now in
    let after = c.step.new.self in
    let there = lent.before in
    let mid : Table = record old.table { actors = set_value_at old.table.actors c.args.place after } in
    let back = lent.back after in
    let ensures = c.step.ensures in
    let stepped = stepped_to c.step.result after in
    let nodes = c.step.new.nodes in
    kept_placed (record old { nodes = nodes }) (kept_called old c.self.invariant nodes ensures.shape (sites_stay old.nodes nodes slot ensures.once)) id (Some after) mid back.0
    (λ actor same. (subst (RunsAt (shape_of c.self.inside.config) slot) (same_value after actor same) (ensures.runs (shape_of c.self.inside.config) slot (c.self.invariant.whole.run id before there)), c.self.invariant.whole.hosted id before there))

pub returns-clause-moves : goal.returns-clause-moves
returns-clause-moves c =
    let slot = c.args.id.now.slot in
    let old : KeptWorld = record { setup = record { head = c.self.inside.config; tenants = c.self.inside.tenants }; nodes = c.self.inside.nodes; table = c.self.inside.actors } in
    let id : ActorId = c.args.id.now in
    let lent = c.actor_mut-actor.ensures in
    let before = c.actor_mut-actor.result.now in
    let after = c.step.new.self in
    let there = lent.before in
    let mid : Table = record old.table { actors = set_value_at old.table.actors c.args.place after } in
    let back = lent.back after in
    let ensures = c.step.ensures in
    let stepped = stepped_to c.step.result after in
    let nodes = c.step.new.nodes in
    let open_there = subst (λ (k : KeptWorld). IsTrue (is_open_at k.setup slot)) (sym c.self.view_is) c.requires.slot in
    let step : HasSteppedAt (world_of old) slot id.name c.args.moment stepped nodes before after = record { there = there; steps = ensures.steps; once = ensures.once } in
    λ left is_left.
    let over = has_left old id after mid nodes left back is_left in
    subst (λ (k : KeptWorld). Moves IsSparedReply (λ config. actor_step config id.name c.args.moment) (world_of k) slot stepped.answered (world_of left)) c.self.view_is
    (steps_world (world_of old) c.self.invariant.whole slot id.name c.args.moment stepped nodes before after step (world_of left) over.table over.setup over.nodes_are over.counts open_there)

pub returns-clause-lack : goal.returns-clause-lack
returns-clause-lack c =
    let slot = c.args.id.now.slot in
    let old : KeptWorld = record { setup = record { head = c.self.inside.config; tenants = c.self.inside.tenants }; nodes = c.self.inside.nodes; table = c.self.inside.actors } in
    let id : ActorId = c.args.id.now in
    let lent = c.actor_mut-actor.ensures in
    let before = c.actor_mut-actor.result.now in
    let after = c.step.new.self in
    let there = lent.before in
    let mid : Table = record old.table { actors = set_value_at old.table.actors c.args.place after } in
    let back = lent.back after in
    let ensures = c.step.ensures in
    let stepped = stepped_to c.step.result after in
    let nodes = c.step.new.nodes in
    let open_there = subst (λ (k : KeptWorld). IsTrue (is_open_at k.setup slot)) (sym c.self.view_is) c.requires.slot in
    let step : HasSteppedAt (world_of old) slot id.name c.args.moment stepped nodes before after = record { there = there; steps = ensures.steps; once = ensures.once } in
    λ left is_left.
    let over = has_left old id after mid nodes left back is_left in
    subst (λ (k : KeptWorld). Leaves (λ config. StepStops config id.name c.args.moment) (world_of k) slot stepped.answered (world_of left)) c.self.view_is
    (steps_world_leaves (world_of old) c.self.invariant.whole slot id.name c.args.moment stepped nodes before after step (world_of left) over.table over.setup over.nodes_are over.counts open_there)

pub returns-clause-goes_on : goal.returns-clause-goes_on
returns-clause-goes_on c =
    let slot = c.args.id.now.slot in
    let old : KeptWorld = record { setup = record { head = c.self.inside.config; tenants = c.self.inside.tenants }; nodes = c.self.inside.nodes; table = c.self.inside.actors } in
    let id : ActorId = c.args.id.now in
    let lent = c.actor_mut-actor.ensures in
    let before = c.actor_mut-actor.result.now in
    let after = c.step.new.self in
    let there = lent.before in
    let mid : Table = record old.table { actors = set_value_at old.table.actors c.args.place after } in
    let back = lent.back after in
    let ensures = c.step.ensures in
    let stepped = stepped_to c.step.result after in
    let nodes = c.step.new.nodes in
    λ goes actor at.
    let same : after ≡ actor = same_value after actor (sym (put_back old.table mid id after back) ∙ at) in
    inr (subst (λ (a : Actor). actor_ended a ≡ false) same (stays (actor_ended after) (goes_on (told_act c.step.result)) goes ensures.last), refl)
  where
    stays : (over goes : Bool) → goes ≡ true → (over ≡ true → goes ≡ false) → over ≡ false
    stays true goes is last = absurd (true≢false (sym is ∙ last refl))
    stays false goes is last = refl

pub returns-clause-place : goal.returns-clause-place
returns-clause-place c = c.actor_mut-actor.ensures.place c.step.new.self

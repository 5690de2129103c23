use Rattle.std.proofs.Common.{◌≡◌, Bool, true, false, cond, List, refl, sym, subst, ap, ◌∙◌, true≢false}
use Rattle.std.specs.Prelude.{Ok, Some, is_some}
use Rattle.indexmap.specs.IndexMap.{set_value_at}
use Rattle.cops_types.proofs.WordLemmas.{same_value}
use Rattle.cops_types.specs.declared.faults.Fault.TheVariants.{UnknownName}
use Rattle.cops_node.specs.Clusters.{shape_of}
use Rattle.cops_model.specs.declared.replies.Reply.TheVariants.{Refused}
use Rattle.cops_world.specs.declared.actors.Actor.{Actor}
use Rattle.cops_world.specs.declared.actors.ActorId.{ActorId}
use Rattle.cops_world.specs.ActorsStand.{ActorStandsFor, RunsAt}
use Rattle.cops_world.specs.ActorTables.{Table, actor_at, count_at, same_actor}
use Rattle.cops_world.specs.Deeds.{DeedLacks, deed_step}
use Rattle.cops_model.specs.Setups.{config_in}
use Rattle.cops_world.specs.Worlds.{AnyReply, KeptWorld, Leaves, Moves, world_of}
use Rattle.cops_world.proofs.ActorTableLemmas.{counts_same, same_actor-is}
use Rattle.cops_world.proofs.WorldCalls.{none_there}
use Rattle.cops_world.proofs.WorldKeeps.{kept_placed}
use Rattle.cops_world.proofs.WorldLacks.{deed_leaves, on_err_then, on_lack, spared_leaves}
use Rattle.cops_world.proofs.WorldMoves.{deed_moves, deed_unrefused}
use Rattle.cops_world.proofs.world.World.ask.Goals as goal

pub returns-in_default-clause-moves : goal.returns-in_default-clause-moves
returns-in_default-clause-moves c =
    let id : ActorId = record { slot = c.args.slot; name = c.args.name.now } in
    let old : KeptWorld = record { setup = record { head = c.self.inside.config; tenants = c.self.inside.tenants }; nodes = c.self.inside.nodes; table = c.self.inside.actors } in
    let none = none_there (actor_at old.table id) (sym c.place_of.ensures.found ∙ ap is_some c.in_default.is) in
    subst (λ (kept : KeptWorld). Moves AnyReply (λ config. deed_step config c.args.name.now c.args.deed) (world_of kept) c.args.slot (Ok (Refused UnknownName)) (world_of kept)) c.self.view_is
    (deed_moves (world_of old) c.args.slot c.args.name.now (actor_at old.table) (count_at old.table) c.args.deed (Ok (Refused UnknownName)) (record {
      found = λ before e. absurd (true≢false (sym (ap is_some e) ∙ ap is_some none));
      absent = λ e. (refl, refl);
      counts = λ slot. refl;
    }))

pub returns-in_default-clause-lack : goal.returns-in_default-clause-lack
returns-in_default-clause-lack c = spared_leaves (DeedLacks c.args.name.now c.args.deed) (world_of c.args.self.now) c.args.slot (Ok (Refused UnknownName)) (world_of c.args.self.now) refl

pub actor_mut-actor-requires : goal.actor_mut-actor-requires
actor_mut-actor-requires c = c.in-Some.ensures.index

pub invariant_of-self : goal.invariant_of-self
invariant_of-self c =
    let slot = c.args.slot in
    let name = c.args.name.now in
    let id : ActorId = record { slot = slot; name = name } in
    let old : KeptWorld = record { setup = record { head = c.self.inside.config; tenants = c.self.inside.tenants }; nodes = c.self.inside.nodes; table = c.self.inside.actors } in
    let lent = c.actor_mut-actor.ensures in
    let before = c.actor_mut-actor.result.now in
    let after = c.act.new.self in
    let there = lent.before in
    let mid : Table = record old.table { actors = set_value_at old.table.actors c.in-Some.place after } in
    let back = lent.back after in
    kept_placed old c.self.invariant id (Some after) mid back.0
    (λ actor same. (subst (RunsAt (shape_of c.self.inside.config) slot) (same_value after actor same) (c.act.ensures.runs (shape_of c.self.inside.config) slot (c.self.invariant.whole.run id before there)), c.self.invariant.whole.hosted id before there))

pub returns-clause-moves : goal.returns-clause-moves
returns-clause-moves c =
    let slot = c.args.slot in
    let name = c.args.name.now in
    let id : ActorId = record { slot = slot; name = name } in
    let old : KeptWorld = record { setup = record { head = c.self.inside.config; tenants = c.self.inside.tenants }; nodes = c.self.inside.nodes; table = c.self.inside.actors } in
    let lent = c.actor_mut-actor.ensures in
    let before = c.actor_mut-actor.result.now in
    let after = c.act.new.self in
    let there = lent.before in
    let mid : Table = record old.table { actors = set_value_at old.table.actors c.in-Some.place after } in
    let back = lent.back after in
    subst (λ (kept : KeptWorld). Moves AnyReply (λ config. deed_step config name c.args.deed) (world_of kept) slot c.act.result (record (world_of old) { actors = actor_at mid; count = count_at mid })) c.self.view_is
    (deed_moves (world_of old) slot name (actor_at mid) (count_at mid) c.args.deed c.act.result (record {
      found = λ found e. (
        after,
        (back.0.at, λ config solo stands. c.act.ensures.own config solo (subst (λ (a : Actor). ActorStandsFor config a solo) (same_value found before (sym e ∙ there)) stands)),
      );
      absent = λ e. absurd (true≢false (sym (ap is_some there) ∙ ap is_some e));
      counts = counts_same old.table id after mid back;
    }))

pub returns-clause-lack : goal.returns-clause-lack
returns-clause-lack c =
    let slot = c.args.slot in
    let name = c.args.name.now in
    let id : ActorId = record { slot = slot; name = name } in
    let old : KeptWorld = record { setup = record { head = c.self.inside.config; tenants = c.self.inside.tenants }; nodes = c.self.inside.nodes; table = c.self.inside.actors } in
    let lent = c.actor_mut-actor.ensures in
    let before = c.actor_mut-actor.result.now in
    let after = c.act.new.self in
    let there = lent.before in
    let mid : Table = record old.table { actors = set_value_at old.table.actors c.in-Some.place after } in
    let back = lent.back after in
    let moved = deed_moves (world_of old) slot name (actor_at mid) (count_at mid) c.args.deed c.act.result (record {
      found = λ found e. (
        after,
        (back.0.at, λ config solo stands. c.act.ensures.own config solo (subst (λ (a : Actor). ActorStandsFor config a solo) (same_value found before (sym e ∙ there)) stands)),
      );
      absent = λ e. absurd (true≢false (sym (ap is_some there) ∙ ap is_some e));
      counts = counts_same old.table id after mid back;
    }) in
    subst (λ (kept : KeptWorld). Leaves (DeedLacks name c.args.deed) (world_of kept) slot c.act.result (record (world_of old) { actors = actor_at mid; count = count_at mid })) c.self.view_is
    (deed_leaves (world_of old) slot name c.args.deed c.act.result (actor_at mid) (count_at mid) moved c.act.ensures.needs
    (on_err_then c.act.result c.act.ensures.asks (λ unrefused cluster h.
    deed_unrefused (world_of old) slot name c.args.deed before there cluster h (λ solo stands. unrefused (config_in old.setup slot) solo stands)))
    (on_lack c.act.result (λ lack q. back.0.at q ∙ kept old.table id after before (c.act.ensures.lack lack) there q (same_actor id q) refl))
    (counts_same old.table id after mid back slot))
  where
    kept : (table : Table) (id : ActorId) (after before : Actor) → after ≡ before → actor_at table id ≡ Some before → (q : ActorId) (t : Bool) → same_actor id q ≡ t → cond t (Some after) (actor_at table q) ≡ actor_at table q
    kept table id after before same there q false e = refl
    kept table id after before same there q true e = ap Some same ∙ sym there ∙ ap (actor_at table) (same_actor-is id q e)

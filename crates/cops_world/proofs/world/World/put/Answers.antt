use Rattle.std.proofs.Common.{◌≡◌, ◌⊎◌, refl, sym, subst, ap, ◌∙◌}
use Rattle.std.specs.Prelude.{None, Ok, Some}
use Rattle.cops_types.specs.declared.faults.Fault.TheVariants.{ValueTooLong, OutOfMemory}
use Rattle.cops_types.specs.Refusal.{refused_if}
use Rattle.cops_types.specs.Value.{is_too_long}
use Rattle.cops_model.specs.declared.acts.Act.TheVariants as acts
use Rattle.cops_model.specs.declared.replies.Reply.TheVariants.{Refused}
use Rattle.cops_model.specs.Cluster.{cluster_step}
use Rattle.cops_model.specs.Events.{is_out_of_memory}
use Rattle.cops_model.specs.Lacks.{Lacks}
use Rattle.cops_model.specs.Setups.{config_in}
use Rattle.cops_world.specs.declared.actors.Deed.TheVariants as deeds
use Rattle.cops_world.specs.Deeds.{DeedLacks, IsRefusalOf, deed_step}
use Rattle.cops_world.specs.Worlds.{AnyReply, Moves, world_of}
use Rattle.cops_world.proofs.PutsAndGets.{bad_key, bad_key_moves, good_key, key_or_fault, no_value_moves, put_moves, short_value}
use Rattle.cops_world.proofs.RefusedActs.{put_stays, refusal_moves}
use Rattle.cops_world.proofs.WorldLacks.{leaves_too, spared_leaves, stayed_leaves}
use Rattle.cops_world.proofs.world.World.put.Goals as goal

pub returns-in-Err-clause-moves : goal.returns-in-Err-clause-moves
returns-in-Err-clause-moves c =
    let old = world_of c.args.self.now in
    let bad = bad_key c.args.key.now c.in-Err.fault (sym c.in-Err.is ∙ c.new.ensures ∙ ap key_or_fault c.as_slice.ensures) in
    subst (λ f. Moves AnyReply (λ config. cluster_step config (acts.Put c.args.name.now c.args.number c.args.key.now c.args.value.now)) old c.args.slot (Ok (Refused f)) old) (sym bad.0)
    (bad_key_moves old c.args.slot c.args.name.now c.args.number c.args.key.now c.args.value.now bad.1)

pub returns-in-Some-clause-moves : goal.returns-in-Some-clause-moves
returns-in-Some-clause-moves c =
    let key = good_key c.args.key.now c.in-Ok.key (sym c.in-Ok.is ∙ c.new.ensures ∙ ap key_or_fault c.as_slice.ensures) in
    refusal_moves (world_of c.args.self.now) c.args.slot (acts.Put c.args.name.now c.args.number c.args.key.now c.args.value.now) c.in-Some.refusal
    (λ cluster stands. subst (λ k. IsRefusalOf (config_in (world_of c.args.self.now).setup c.args.slot) (acts.Put c.args.name.now c.args.number k c.args.value.now) cluster (Some c.in-Some.refusal)) key.0 (c.in-Some.ensures cluster stands))

pub returns-in-Ok-new-clause-moves : goal.returns-in-Ok-new-clause-moves
returns-in-Ok-new-clause-moves c =
    let old = world_of c.args.self.now in
    let new = world_of c.ask.new.self in
    let slot = c.args.slot in
    let name = c.args.name.now in
    let number = c.args.number in
    let reply = c.ask.result in
    let key = good_key c.args.key.now c.in-Ok.key (sym c.in-Ok.is ∙ c.new.ensures ∙ ap key_or_fault c.as_slice.ensures) in
    let value : c.in-Ok-new.value ≡ c.args.value.now = c.in-Ok-new.ensures.ok ∙ c.as_slice-2.ensures in
    let short = short_value c.args.value.now (subst (λ v. refused_if (is_too_long v) ValueTooLong ≡ None) c.as_slice-2.ensures c.in-Ok-new.ensures.refused) in
    put_moves old slot name number c.args.key.now c.args.value.now key.1 short reply new
    (subst (λ k. Moves AnyReply (λ config. deed_step config name (deeds.Put number k c.args.value.now)) old slot reply new) key.0
    (subst (λ v. Moves AnyReply (λ config. deed_step config name (deeds.Put number c.in-Ok.key v)) old slot reply new) value c.ask.ensures.moves))

pub returns-in-Err-clause-lack : goal.returns-in-Err-clause-lack
returns-in-Err-clause-lack c =
    let bad = bad_key c.args.key.now c.in-Err.fault (sym c.in-Err.is ∙ c.new.ensures ∙ ap key_or_fault c.as_slice.ensures) in
    spared_leaves (λ config. Lacks config (acts.Put c.args.name.now c.args.number c.args.key.now c.args.value.now)) (world_of c.args.self.now) c.args.slot (Ok (Refused c.in-Err.fault)) (world_of c.args.self.now) (ap (λ f. is_out_of_memory (Refused f)) bad.0)

pub returns-in-Ok-new-clause-lack : goal.returns-in-Ok-new-clause-lack
returns-in-Ok-new-clause-lack c =
    let name = c.args.name.now in
    let number = c.args.number in
    let key = good_key c.args.key.now c.in-Ok.key (sym c.in-Ok.is ∙ c.new.ensures ∙ ap key_or_fault c.as_slice.ensures) in
    let value : c.in-Ok-new.value ≡ c.args.value.now = c.in-Ok-new.ensures.ok ∙ c.as_slice-2.ensures in
    let short = short_value c.args.value.now (subst (λ v. refused_if (is_too_long v) ValueTooLong ≡ None) c.as_slice-2.ensures c.in-Ok-new.ensures.refused) in
    leaves_too (DeedLacks name (deeds.Put number c.in-Ok.key c.in-Ok-new.value)) (λ config. Lacks config (acts.Put name number c.args.key.now c.args.value.now)) (world_of c.args.self.now) c.args.slot c.ask.result (world_of c.ask.new.self)
    (λ config before after is. put_stays config name number c.args.key.now c.args.value.now before after key.1 short
    (subst (λ v. DeedLacks name (deeds.Put number c.args.key.now v) config before after) value
    (subst (λ k. DeedLacks name (deeds.Put number k c.in-Ok-new.value) config before after) key.0 is))) c.ask.ensures.lack

use Rattle.std.proofs.Common.{◌<◌, ◌≤◌, refl, sym, subst, ap, ◌∙◌}
use Rattle.std.specs.Prelude.{Ok, Err, nat_lt}
use Rattle.std.proofs.lemmas.Bool.{lt-ltb, le-ltb}
use Rattle.cops_types.specs.declared.faults.Fault.TheVariants.{NoSuchPlace}
use Rattle.cops_types.specs.OpenSlots.{open_at}
use Rattle.cops_model.specs.Session.{new_session}
use Rattle.cops_model.specs.declared.replies.Reply.TheVariants.{Opened, Refused}
use Rattle.cops_model.specs.Cluster.{OfSession}
use Rattle.cops_model.specs.Setups.{config_in, config_of}
use Rattle.cops_world.specs.ActorsStand.{ActorStandsFor}
use Rattle.cops_model.specs.declared.acts.Act.TheVariants as acts
use Rattle.cops_model.specs.Lacks.{Lacks}
use Rattle.cops_world.specs.Worlds.{AnyReply, KeptWorld, world_of}
use Rattle.cops_world.proofs.WorldCalls.{joins_there, no_place_moves}
use Rattle.cops_world.proofs.WorldJoins.{join_leaves, lack_moves}
use Rattle.cops_world.proofs.WorldKeeps.{sizes_in}
use Rattle.cops_world.proofs.WorldLacks.{fault_spared, spared_leaves, stayed_leaves}
use Rattle.cops_world.proofs.world.World.open.Goals as goal

pub returns-then-dc-self-clause-moves : goal.returns-then-dc-self-clause-moves
returns-then-dc-self-clause-moves c =
    let setup = c.args.self.now.setup in
    let sizes = sizes_in setup c.args.slot c.requires in
    let beyond = subst (λ n. n ≤ c.args.dc) (ap (λ (k : KeptWorld). k.setup.head.data_centres) c.self.view_is ∙ sym sizes.data_centres) c.if-dc-self.true in
    no_place_moves (world_of c.args.self.now) c.args.slot c.args.name.now (λ config. nat_lt c.args.dc config.data_centres) (OfSession (new_session c.args.dc 1)) Opened
    (le-ltb c.args.dc (config_in setup c.args.slot).data_centres beyond)

pub returns-in-Some-clause-moves : goal.returns-in-Some-clause-moves
returns-in-Some-clause-moves c =
    let setup = c.args.self.now.setup in
    let sizes = sizes_in setup c.args.slot c.requires in
    let solo = OfSession (new_session c.args.dc 1) in
    let there = subst (λ n. c.args.dc < n) (ap (λ (k : KeptWorld). k.setup.head.data_centres) c.self.view_is ∙ sym sizes.data_centres) c.if-dc-self.false in
    joins_there (world_of c.args.self.now) c.args.slot c.args.name.now (λ config. nat_lt c.args.dc config.data_centres) solo Opened
    (lt-ltb c.args.dc (config_in setup c.args.slot).data_centres there) (Ok (Refused c.in-Some.fault)) (world_of c.args.self.now) (c.in-Some.ensures.refused solo Opened)

pub returns-in-Ok-None-clause-moves : goal.returns-in-Ok-None-clause-moves
returns-in-Ok-None-clause-moves c =
    let setup = c.args.self.now.setup in
    let sizes = sizes_in setup c.args.slot c.requires in
    let solo = OfSession (new_session c.args.dc 1) in
    let there = subst (λ n. c.args.dc < n) (ap (λ (k : KeptWorld). k.setup.head.data_centres) c.self.view_is ∙ sym sizes.data_centres) c.if-dc-self.false in
    joins_there (world_of c.args.self.now) c.args.slot c.args.name.now (λ config. nat_lt c.args.dc config.data_centres) solo Opened
    (lt-ltb c.args.dc (config_in setup c.args.slot).data_centres there) (Ok Opened) (world_of c.join.new.self)
    ((rw c.in-Ok-None.field-0-is at c.in-Ok-None.ensures.joined) solo Opened
    (subst (λ (k : KeptWorld). ActorStandsFor (config_in k.setup c.args.slot) c.in_ok-session.session solo) c.self.view_is
    (subst (λ o. ActorStandsFor (config_of c.self.inside.config o) c.in_ok-session.session solo) (sym (ap (λ (k : KeptWorld). open_at c.args.slot k.setup.tenants) c.self.view_is ∙ c.tenant-tenant.ensures.there)) c.in_ok-session.ensures.stands)))

pub returns-then-dc-self-clause-lack : goal.returns-then-dc-self-clause-lack
returns-then-dc-self-clause-lack c = spared_leaves (λ config. Lacks config (acts.Open c.args.name.now c.args.dc)) (world_of c.args.self.now) c.args.slot (Ok (Refused NoSuchPlace)) (world_of c.args.self.now) refl

pub returns-in-Some-clause-lack : goal.returns-in-Some-clause-lack
returns-in-Some-clause-lack c =
    spared_leaves (λ config. Lacks config (acts.Open c.args.name.now c.args.dc)) (world_of c.args.self.now) c.args.slot (Ok (Refused c.in-Some.fault)) (world_of c.args.self.now) (fault_spared c.in-Some.fault c.in-Some.ensures.spared)

pub returns-in-Ok-None-clause-lack : goal.returns-in-Ok-None-clause-lack
returns-in-Ok-None-clause-lack c = spared_leaves (λ config. Lacks config (acts.Open c.args.name.now c.args.dc)) (world_of c.args.self.now) c.args.slot (Ok Opened) (world_of c.join.new.self) refl

pub returns-in-Err-clause-lack : goal.returns-in-Err-clause-lack
returns-in-Err-clause-lack c =
    let setup = c.args.self.now.setup in
    let sizes = sizes_in setup c.args.slot c.requires in
    let there = subst (λ n. c.args.dc < n) (ap (λ (k : KeptWorld). k.setup.head.data_centres) c.self.view_is ∙ sym sizes.data_centres) c.if-dc-self.false in
    stayed_leaves (λ config. Lacks config (acts.Open c.args.name.now c.args.dc)) (world_of c.args.self.now) c.args.slot (Err c.in-Err.error) (world_of c.join.new.self) c.in-Err.ensures.err
    (λ cluster stands. (
      join_leaves (world_of c.args.self.now) c.args.slot c.args.name.now (λ config. nat_lt c.args.dc config.data_centres) (OfSession (new_session c.args.dc 1)) Opened refl
          (lt-ltb c.args.dc (config_in setup c.args.slot).data_centres there) c.in_default.ensures.free c.in_default.ensures.room cluster stands,
      refl,
    ))

pub returns-in-Err-clause-moves : goal.returns-in-Err-clause-moves
returns-in-Err-clause-moves c = lack_moves AnyReply _ (world_of c.args.self.now) c.args.slot c.in-Err.error (world_of c.join.new.self) c.in-Err.ensures.err

pub returns-in-Ok-Some-clause-moves : goal.returns-in-Ok-Some-clause-moves
returns-in-Ok-Some-clause-moves c =
    let setup = c.args.self.now.setup in
    let sizes = sizes_in setup c.args.slot c.requires in
    let solo = OfSession (new_session c.args.dc 1) in
    let there = subst (λ n. c.args.dc < n) (ap (λ (k : KeptWorld). k.setup.head.data_centres) c.self.view_is ∙ sym sizes.data_centres) c.if-dc-self.false in
    joins_there (world_of c.args.self.now) c.args.slot c.args.name.now (λ config. nat_lt c.args.dc config.data_centres) solo Opened
    (lt-ltb c.args.dc (config_in setup c.args.slot).data_centres there) (Ok (Refused c.in-Ok-Some.taken)) (world_of c.join.new.self) ((rw c.in-Ok-Some.field-0-is at c.in-Ok-Some.ensures.refused) solo Opened)

pub returns-in-Ok-Some-clause-lack : goal.returns-in-Ok-Some-clause-lack
returns-in-Ok-Some-clause-lack c =
    spared_leaves (λ config. Lacks config (acts.Open c.args.name.now c.args.dc)) (world_of c.args.self.now) c.args.slot (Ok (Refused c.in-Ok-Some.taken)) (world_of c.join.new.self) (fault_spared c.in-Ok-Some.taken (rw c.in-Ok-Some.field-0-is at c.in-Ok-Some.ensures.spared))

use Rattle.std.specs.Prelude.{IsTrue, Ok, Err}
use Rattle.std.proofs.Common.{◌≡◌, refl, sym, subst, ap, ◌∙◌}
use Rattle.cops_types.specs.declared.faults.Fault.TheVariants.{NoSuchPlace}
use Rattle.cops_node.specs.Clusters.{shape_of}
use Rattle.cops_model.specs.Carrier.{new_carrier}
use Rattle.cops_model.specs.declared.replies.Reply.TheVariants.{Started, Refused}
use Rattle.cops_model.specs.Cluster.{OfCarrier, has_stream}
use Rattle.cops_model.specs.Setups.{Setup, config_in, is_open_at}
use Rattle.cops_world.specs.ActorsStand.{RunsAt}
use Rattle.cops_model.specs.declared.acts.Act.TheVariants as acts
use Rattle.cops_model.specs.Lacks.{Lacks}
use Rattle.cops_world.specs.Worlds.{AnyReply, KeptWorld, world_of}
use Rattle.cops_world.proofs.WorldCalls.{joins_there, no_place_moves, stream_runs}
use Rattle.cops_world.proofs.WorldJoins.{join_leaves, lack_moves}
use Rattle.cops_world.proofs.WorldKeeps.{sizes_in}
use Rattle.cops_world.proofs.WorldLacks.{fault_spared, spared_leaves, stayed_leaves}
use Rattle.cops_world.proofs.world.World.carry.Goals as goal

pub returns-then-not-has_stream-clause-moves : goal.returns-then-not-has_stream-clause-moves
returns-then-not-has_stream-clause-moves c =
    let setup = c.args.self.now.setup in
    let config = config_in setup c.args.slot in
    let solo = OfCarrier (new_carrier (record { origin = c.args.origin; to_dc = c.args.to_dc })) in
    no_place_moves (world_of c.args.self.now) c.args.slot c.args.name.now (λ config. has_stream config c.args.origin.dc c.args.origin.shard c.args.to_dc) solo Started
    (sym (c.has_stream.ensures config (sizes_in setup c.args.slot c.requires)) ∙ c.if-not-has_stream.true)

pub returns-in-Some-clause-moves : goal.returns-in-Some-clause-moves
returns-in-Some-clause-moves c =
    let setup = c.args.self.now.setup in
    let config = config_in setup c.args.slot in
    let solo = OfCarrier (new_carrier (record { origin = c.args.origin; to_dc = c.args.to_dc })) in
    joins_there (world_of c.args.self.now) c.args.slot c.args.name.now (λ config. has_stream config c.args.origin.dc c.args.origin.shard c.args.to_dc) solo Started
    (sym (c.has_stream.ensures config (sizes_in setup c.args.slot c.requires)) ∙ c.if-not-has_stream.false) (Ok (Refused c.in-Some.fault)) (world_of c.args.self.now) (c.in-Some.ensures.refused solo Started)

pub new_carrier-carrier-requires : goal.new_carrier-carrier-requires
new_carrier-carrier-requires c =
    let slot = c.args.slot in
    let setup = c.args.self.now.setup in
    let inside : Setup = record { head = c.self.inside.config; tenants = c.self.inside.tenants } in
    let there = sym (c.has_stream.ensures (config_in setup slot) (sizes_in setup slot c.requires)) ∙ c.if-not-has_stream.false in
    stream_runs c.self.inside.config (config_in inside slot) c.args.origin c.args.to_dc
    (sizes_in inside slot (subst (λ (k : KeptWorld). IsTrue (is_open_at k.setup slot)) (sym c.self.view_is) c.requires))
    (subst (λ (k : KeptWorld). has_stream (config_in k.setup slot) c.args.origin.dc c.args.origin.shard c.args.to_dc ≡ _) (sym c.self.view_is) there)

pub join-requires-clause-runs : goal.join-requires-clause-runs
join-requires-clause-runs c = subst (λ (k : KeptWorld). RunsAt (shape_of k.setup.head) c.args.slot c.new_carrier-carrier.result) c.self.view_is (c.new_carrier-carrier.ensures.runs c.args.slot)

pub returns-in-Ok-None-clause-moves : goal.returns-in-Ok-None-clause-moves
returns-in-Ok-None-clause-moves c =
    let slot = c.args.slot in
    let setup = c.args.self.now.setup in
    let config = config_in setup slot in
    let sizes = sizes_in setup slot c.requires in
    let solo = OfCarrier (new_carrier (record { origin = c.args.origin; to_dc = c.args.to_dc })) in
    joins_there (world_of c.args.self.now) slot c.args.name.now (λ config. has_stream config c.args.origin.dc c.args.origin.shard c.args.to_dc) solo Started
    (sym (c.has_stream.ensures config sizes) ∙ c.if-not-has_stream.false) (Ok Started) (world_of c.join.new.self)
    ((rw c.in-Ok-None.field-0-is at c.in-Ok-None.ensures.joined) solo Started (c.new_carrier-carrier.ensures.stands config (sizes.shards ∙ sym (ap (λ (k : KeptWorld). k.setup.head.shards) c.self.view_is))))

pub returns-then-not-has_stream-clause-lack : goal.returns-then-not-has_stream-clause-lack
returns-then-not-has_stream-clause-lack c = spared_leaves (λ config. Lacks config (acts.Carry c.args.name.now c.args.origin.dc c.args.origin.shard c.args.to_dc)) (world_of c.args.self.now) c.args.slot (Ok (Refused NoSuchPlace)) (world_of c.args.self.now) refl

pub returns-in-Some-clause-lack : goal.returns-in-Some-clause-lack
returns-in-Some-clause-lack c =
    spared_leaves (λ config. Lacks config (acts.Carry c.args.name.now c.args.origin.dc c.args.origin.shard c.args.to_dc)) (world_of c.args.self.now) c.args.slot (Ok (Refused c.in-Some.fault)) (world_of c.args.self.now) (fault_spared c.in-Some.fault c.in-Some.ensures.spared)

pub returns-in-Ok-None-clause-lack : goal.returns-in-Ok-None-clause-lack
returns-in-Ok-None-clause-lack c = spared_leaves (λ config. Lacks config (acts.Carry c.args.name.now c.args.origin.dc c.args.origin.shard c.args.to_dc)) (world_of c.args.self.now) c.args.slot (Ok Started) (world_of c.join.new.self) refl

pub returns-in-Err-clause-lack : goal.returns-in-Err-clause-lack
returns-in-Err-clause-lack c =
    let setup = c.args.self.now.setup in
    let solo = OfCarrier (new_carrier (record { origin = c.args.origin; to_dc = c.args.to_dc })) in
    stayed_leaves (λ config. Lacks config (acts.Carry c.args.name.now c.args.origin.dc c.args.origin.shard c.args.to_dc)) (world_of c.args.self.now) c.args.slot (Err c.in-Err.error) (world_of c.join.new.self) c.in-Err.ensures.err
    (λ cluster stands. (
      join_leaves (world_of c.args.self.now) c.args.slot c.args.name.now (λ config. has_stream config c.args.origin.dc c.args.origin.shard c.args.to_dc) solo Started refl
          (sym (c.has_stream.ensures (config_in setup c.args.slot) (sizes_in setup c.args.slot c.requires)) ∙ c.if-not-has_stream.false) c.in-Err.ensures.free c.in_default.ensures.room cluster stands,
      refl,
    ))

pub returns-in-Err-clause-moves : goal.returns-in-Err-clause-moves
returns-in-Err-clause-moves c = lack_moves AnyReply _ (world_of c.args.self.now) c.args.slot c.in-Err.error (world_of c.join.new.self) c.in-Err.ensures.err

pub returns-in-Ok-Some-clause-moves : goal.returns-in-Ok-Some-clause-moves
returns-in-Ok-Some-clause-moves c =
    let setup = c.args.self.now.setup in
    let config = config_in setup c.args.slot in
    let solo = OfCarrier (new_carrier (record { origin = c.args.origin; to_dc = c.args.to_dc })) in
    joins_there (world_of c.args.self.now) c.args.slot c.args.name.now (λ config. has_stream config c.args.origin.dc c.args.origin.shard c.args.to_dc) solo Started
    (sym (c.has_stream.ensures config (sizes_in setup c.args.slot c.requires)) ∙ c.if-not-has_stream.false) (Ok (Refused c.in-Ok-Some.taken)) (world_of c.join.new.self) ((rw c.in-Ok-Some.field-0-is at c.in-Ok-Some.ensures.refused) solo Started)

pub returns-in-Ok-Some-clause-lack : goal.returns-in-Ok-Some-clause-lack
returns-in-Ok-Some-clause-lack c =
    spared_leaves (λ config. Lacks config (acts.Carry c.args.name.now c.args.origin.dc c.args.origin.shard c.args.to_dc)) (world_of c.args.self.now) c.args.slot (Ok (Refused c.in-Ok-Some.taken)) (world_of c.join.new.self) (fault_spared c.in-Ok-Some.taken (rw c.in-Ok-Some.field-0-is at c.in-Ok-Some.ensures.spared))

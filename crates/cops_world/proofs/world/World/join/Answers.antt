use Rattle.std.proofs.Common.{◌≡◌, false, sym, subst}
use Rattle.std.specs.Prelude.{IsTrue, None, Ok, nat_le}
use Rattle.cops_types.specs.declared.faults.Fault.TheVariants.{NameTaken}
use Rattle.cops_node.specs.Clusters.{shape_of}
use Rattle.cops_model.specs.Setups.{config_in, is_open_at}
use Rattle.cops_model.specs.declared.replies.Reply.TheVariants.{Refused}
use Rattle.cops_world.specs.ActorsStand.{ActorStandsFor, RunsAt}
use Rattle.cops_world.specs.ActorTables.{Table, actor_at, count_at}
use Rattle.cops_world.specs.Worlds.{AnyReply, KeptWorld, Moves, join_step, world_of}
use Rattle.cops_world.proofs.ActorTableLemmas.{on_err_any}
use Rattle.cops_world.proofs.WorldCalls.{name_taken}
use Rattle.cops_world.proofs.WorldJoins.{join_moves}
use Rattle.cops_world.proofs.WorldKeeps.{below_tables, kept_joined}
use Rattle.cops_world.proofs.world.World.join.Goals as goal

pub put_new-requires : goal.put_new-requires
put_new-requires c =
    let old : KeptWorld = record { setup = record { head = c.self.inside.config; tenants = c.self.inside.tenants }; nodes = c.self.inside.nodes; table = c.self.inside.actors } in
    record { slot = below_tables old c.self.invariant c.args.id.slot (subst (λ (k : KeptWorld). IsTrue (is_open_at k.setup c.args.id.slot)) (sym c.self.view_is) c.requires.slot) }

pub returns-then-joined-clause-joined : goal.returns-then-joined-clause-joined
returns-then-joined-clause-joined c = λ solo reply stands.
    let slot = c.args.id.slot in
    let name = c.args.id.name in
    let old : KeptWorld = record { setup = record { head = c.self.inside.config; tenants = c.self.inside.tenants }; nodes = c.self.inside.nodes; table = c.self.inside.actors } in
    let new = c.put_new.new.self in
    let put = c.in_ok-joined.ensures.ok c.if-joined.true in
    subst (λ (kept : KeptWorld). Moves AnyReply (join_step name solo reply) (world_of kept) slot (Ok reply) (world_of (record old { table = new }))) c.self.view_is
    (join_moves (world_of old) slot name solo reply c.args.actor (actor_at new) (count_at new)
    (subst (λ (k : KeptWorld). ActorStandsFor (config_in k.setup slot) c.args.actor solo) (sym c.self.view_is) stands)
    (c.in_ok-joined.ensures.free c.if-joined.true)
    (subst (λ (k : KeptWorld). nat_le (config_in k.setup slot).quota.actors ((world_of k).count slot) ≡ false) (sym c.self.view_is) c.requires.room)
    (c.in_ok-joined.ensures.count c.if-joined.true) put.others put.at)

pub returns-clause-refused : goal.returns-clause-refused
returns-clause-refused c = λ solo reply.
    let slot = c.args.id.slot in
    let name = c.args.id.name in
    let old : KeptWorld = record { setup = record { head = c.self.inside.config; tenants = c.self.inside.tenants }; nodes = c.self.inside.nodes; table = c.self.inside.actors } in
    let new = c.put_new.new.self in
    subst (λ (kept : KeptWorld). Moves AnyReply (join_step name solo reply) (world_of kept) slot (Ok (Refused NameTaken)) (world_of (record old { table = new }))) c.self.view_is
    (subst (λ (t : Table). Moves AnyReply (join_step name solo reply) (world_of old) slot (Ok (Refused NameTaken)) (world_of (record old { table = t }))) (sym (c.in_ok-joined.ensures.same c.if-joined.false))
    (name_taken (world_of old) c.args.id (c.in_ok-joined.ensures.taken c.if-joined.false) solo reply))

pub returns-in_err-joined-clause-free : goal.returns-in_err-joined-clause-free
returns-in_err-joined-clause-free c = on_err_any _ (subst (λ (k : KeptWorld). (world_of k).actors c.args.id ≡ None) c.self.view_is c.in_err-joined.ensures.lacks)

pub invariant_of-self : goal.invariant_of-self
invariant_of-self c =
    let slot = c.args.id.slot in
    let old : KeptWorld = record { setup = record { head = c.self.inside.config; tenants = c.self.inside.tenants }; nodes = c.self.inside.nodes; table = c.self.inside.actors } in
    kept_joined old c.self.invariant c.args.id c.args.actor c.put_new.new.self c.put_new.result c.put_new.ensures.ok c.put_new.ensures.same c.put_new.ensures.err
    (subst (λ (k : KeptWorld). RunsAt (shape_of k.setup.head) slot c.args.actor) (sym c.self.view_is) c.requires.runs)
    (subst (λ (k : KeptWorld). IsTrue (is_open_at k.setup slot)) (sym c.self.view_is) c.requires.slot)

pub invariant_of-self-then-joined : goal.invariant_of-self-then-joined
invariant_of-self-then-joined c =
    let slot = c.args.id.slot in
    let old : KeptWorld = record { setup = record { head = c.self.inside.config; tenants = c.self.inside.tenants }; nodes = c.self.inside.nodes; table = c.self.inside.actors } in
    kept_joined old c.self.invariant c.args.id c.args.actor c.put_new.new.self c.put_new.result c.put_new.ensures.ok c.put_new.ensures.same c.put_new.ensures.err
    (subst (λ (k : KeptWorld). RunsAt (shape_of k.setup.head) slot c.args.actor) (sym c.self.view_is) c.requires.runs)
    (subst (λ (k : KeptWorld). IsTrue (is_open_at k.setup slot)) (sym c.self.view_is) c.requires.slot)

pub invariant_of-self-2 : goal.invariant_of-self-2
invariant_of-self-2 c =
    let slot = c.args.id.slot in
    let old : KeptWorld = record { setup = record { head = c.self.inside.config; tenants = c.self.inside.tenants }; nodes = c.self.inside.nodes; table = c.self.inside.actors } in
    kept_joined old c.self.invariant c.args.id c.args.actor c.put_new.new.self c.put_new.result c.put_new.ensures.ok c.put_new.ensures.same c.put_new.ensures.err
    (subst (λ (k : KeptWorld). RunsAt (shape_of k.setup.head) slot c.args.actor) (sym c.self.view_is) c.requires.runs)
    (subst (λ (k : KeptWorld). IsTrue (is_open_at k.setup slot)) (sym c.self.view_is) c.requires.slot)

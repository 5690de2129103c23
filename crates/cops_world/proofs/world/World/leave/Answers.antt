use Rattle.std.proofs.Common.{◌≡◌, inl, inr, refl, sym, subst, ap, ◌∙◌}
use Rattle.std.specs.Prelude.{None, Some}
use Rattle.cops_world.specs.ActorTables.{actor_at, actor_place}
use Rattle.cops_world.specs.Worlds.{IsLeft, KeptWorld}
use Rattle.cops_world.proofs.WorldKeeps.{kept_placed}
use Rattle.cops_world.proofs.world.World.leave.Goals as goal

pub has_ended-requires : goal.has_ended-requires
has_ended-requires c = subst (λ (k : KeptWorld). Some c.args.place ≡ actor_place c.args.id.now k.table) (sym c.self.view_is) c.requires.place

pub take_out-requires : goal.take_out-requires
take_out-requires c = subst (λ (k : KeptWorld). Some c.args.place ≡ actor_place c.args.id.now k.table) (sym c.self.view_is) c.requires.place

pub invariant_of-self : goal.invariant_of-self
invariant_of-self c =
    let old : KeptWorld = record { setup = record { head = c.self.inside.config; tenants = c.self.inside.tenants }; nodes = c.self.inside.nodes; table = c.self.inside.actors } in
    kept_placed old c.self.invariant c.args.id.now None c.take_out.new.self c.take_out.ensures.out (λ actor none. cc)

pub returns-then-has_ended : goal.returns-then-has_ended
returns-then-has_ended c =
    let old : KeptWorld = record { setup = record { head = c.self.inside.config; tenants = c.self.inside.tenants }; nodes = c.self.inside.nodes; table = c.self.inside.actors } in
    let new : KeptWorld = record old { table = c.take_out.new.self } in
    subst (λ (k : KeptWorld). IsLeft c.args.id.now k new) c.self.view_is
    (λ actor at. inl (sym (c.has_ended.ensures actor at) ∙ c.if-has_ended.true, record { rest = refl; out = c.take_out.ensures.out; count = c.take_out.ensures.count }))

pub returns-else-has_ended : goal.returns-else-has_ended
returns-else-has_ended c = λ actor at.
    let there = ap (λ (k : KeptWorld). actor_at k.table c.args.id.now) c.self.view_is ∙ at in
    inr (sym (c.has_ended.ensures actor there) ∙ c.if-has_ended.false, refl)

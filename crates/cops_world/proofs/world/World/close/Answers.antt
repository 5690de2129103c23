use Rattle.std.proofs.Common.{sym, subst}
use Rattle.std.specs.Prelude.{List, Option}
use Rattle.cops_types.specs.declared.configs.Tenant.{Tenant}
use Rattle.cops_types.specs.declared.faults.Fault.TheVariants.{UnknownTenant}
use Rattle.cops_types.specs.OpenSlots.{open_at}
use Rattle.cops_world.specs.Worlds.{Closes, IsKeptWorld, KeptWorld}
use Rattle.cops_world.proofs.WorldLives.{closes, kept_left, opened}
use Rattle.cops_world.proofs.world.World.close.Goals as goal

pub invariant_of-self-2 : goal.invariant_of-self-2
invariant_of-self-2 c =
    let slot = c.args.slot in
    let inside = c.self.inside in
    let nodes = c.close-2.new.self in
    let old : KeptWorld = record { setup = record { head = inside.config; tenants = inside.tenants }; nodes = inside.nodes; table = inside.actors } in
    let there = opened (open_at slot inside.tenants) c.in_ok-close.field-0 UnknownTenant c.in_ok-close.ensures.absent in
    subst (λ (ts : List (Option Tenant)). IsKeptWorld (record { setup = record { head = inside.config; tenants = ts }; nodes = nodes; table = c.clear.new.self })) (sym c.in_ok-close.ensures.closed)
    (kept_left old c.self.invariant slot there nodes c.close-2.ensures.closed c.clear.new.self c.clear.ensures c.close-2.ensures.shape)

pub returns-clause-closed : goal.returns-clause-closed
returns-clause-closed c =
    let slot = c.args.slot in
    let inside = c.self.inside in
    let nodes = c.close-2.new.self in
    let old : KeptWorld = record { setup = record { head = inside.config; tenants = inside.tenants }; nodes = inside.nodes; table = inside.actors } in
    let there = opened (open_at slot inside.tenants) c.in_ok-close.field-0 UnknownTenant c.in_ok-close.ensures.absent in
    subst (λ (k : KeptWorld). Closes slot k (record { setup = record { head = inside.config; tenants = c.close.new.self }; nodes = nodes; table = c.clear.new.self })) c.self.view_is
    (subst (λ (ts : List (Option Tenant)). Closes slot old (record { setup = record { head = inside.config; tenants = ts }; nodes = nodes; table = c.clear.new.self })) (sym c.in_ok-close.ensures.closed)
    (closes old c.self.invariant slot there nodes c.close-2.ensures.closed c.clear.new.self c.clear.ensures))

use Rattle.std.proofs.Common.{◌≡◌, refl, ap, ◌∙◌}
use Rattle.std.specs.Prelude.{length}
use Rattle.cops_model.specs.Setups.{Setup, new_setup}
use Rattle.cops_script.proofs.TenantConfigs.{clocks_of_good}
use Rattle.cops_world.proofs.WorldKeeps.{kept_at_first, new_stands, no_actors}
use Rattle.cops_world.proofs.world.World.new.Goals as goal

pub new-requires-clause-clocks : goal.new-requires-clause-clocks
new-requires-clause-clocks c = clocks_of_good c.args.config c.requires

pub returns : goal.returns
returns c =
    let setup : Setup = record { head = c.args.config; tenants = c.in_ok-tenants.tenants } in
    let begun : setup ≡ new_setup c.args.config = ap (λ ts. record { head = c.args.config; tenants = ts }) c.in_ok-tenants.ensures in
    record {
      setup_is = begun;
      empty = new_stands c.args.config c.in_ok-nodes.nodes (record { setup = setup; nodes = c.in_ok-nodes.nodes; table = c.in_ok-actors.actors })
          begun refl (length c.in_ok-tenants.tenants) (c.in_ok-actors.ensures ∙ ap no_actors (ap length c.as_slice-2.ensures.value))
          c.in_ok-nodes.ensures.tenants c.in_ok-nodes.ensures.fresh;
    }

pub invariant_of-result : goal.invariant_of-result
invariant_of-result c =
    kept_at_first c.args.config c.in_ok-tenants.tenants c.in_ok-nodes.nodes c.in_ok-actors.actors c.requires c.in_ok-tenants.ensures c.in_ok-nodes.ensures.nodes
    (c.in_ok-actors.ensures ∙ ap no_actors (ap length c.as_slice-2.ensures.value))

use Rattle.std.proofs.Common.{IsTrue, refl}
use Rattle.std.specs.List.{list_all}
use Rattle.cops_types.specs.HeadLines.{are_sizes, is_tenant}
use Rattle.cops_types.proofs.WordLemmas.{both}
use Rattle.cops_script.proofs.TenantConfigs.{clocks_of_good}
use Rattle.cops_cli.proofs.LivingFacts.{lives_conclude, lives_end_early, open_left}
use Rattle.cops_cli.proofs.ServingFacts.{head_is}
use Rattle.cops_cli.proofs.serve_lives.serve_lives.Goals as goal

pub serve_tenants-requires-clause-clocks : goal.serve_tenants-requires-clause-clocks
serve_tenants-requires-clause-clocks g c = λ κs outlives. clocks_of_good c.in-Ok.config c.in-Ok.ensures.good

pub returns-in-Err-serve_tenants : goal.returns-in-Err-serve_tenants
returns-in-Err-serve_tenants g c =
    lives_end_early _ _ c.in-Err-serve_tenants.fault refl (head_is _ c.in-Ok.config c.in-Ok.ensures.config) c.in-Err-serve_tenants.ensures.stopped

pub conclude-requires-clause-nodes : goal.conclude-requires-clause-nodes
conclude-requires-clause-nodes g c =
    let config = c.in-Ok.config in
    let served = c.in-Ok-serve_tenants.served in
    let sizes : IsTrue (are_sizes config) = (both (are_sizes config) (list_all is_tenant config.tenants) c.in-Ok.ensures.good).0 in
    open_left config served.roster.tenants served.nodes.items sizes c.in-Ok-serve_tenants.ensures.left c.in-Ok-serve_tenants.ensures.tenants

pub returns : goal.returns
returns g c =
    let served = c.in-Ok-serve_tenants.served in
    lives_conclude _ _ c.conclude.result c.in-Ok.config served.roster.tenants served.nodes.items
    (record {
      head = c.in-Ok.ensures.config;
      left = c.in-Ok-serve_tenants.ensures.left;
      have = c.in-Ok-serve_tenants.ensures.tenants;
      replays = c.conclude.ensures.replays;
      says_same = c.conclude.ensures.says_same;
    })
    c.conclude.ensures.ok c.conclude.ensures.front c.conclude.ensures.stopped c.conclude.ensures.lost c.conclude.ensures.write_fault

use Rattle.std.proofs.Common.{IsTrue, refl}
use Rattle.std.specs.List.{list_all}
use Rattle.cops_types.specs.HeadLines.{are_sizes, is_tenant}
use Rattle.cops_types.proofs.WordLemmas.{both}
use Rattle.cops_script.proofs.TenantConfigs.{clocks_of_good}
use Rattle.cops_cli.proofs.ServingFacts.{concludes, ends_early, head_is, left_nodes, served_from}
use Rattle.cops_cli.proofs.serve.serve.Goals as goal

pub serve_clients-requires-clause-clocks : goal.serve_clients-requires-clause-clocks
serve_clients-requires-clause-clocks g c = λ κs outlives. clocks_of_good c.in-Ok.config c.in-Ok.ensures.good

pub returns-in-Err-serve_clients : goal.returns-in-Err-serve_clients
returns-in-Err-serve_clients g c =
    ends_early _ _ c.in-Err-serve_clients.fault refl (head_is _ c.in-Ok.config c.in-Ok.ensures.config) c.in-Err-serve_clients.ensures.stopped

pub conclude-requires-clause-nodes : goal.conclude-requires-clause-nodes
conclude-requires-clause-nodes g c =
    let config = c.in-Ok.config in
    let sizes : IsTrue (are_sizes config) = (both (are_sizes config) (list_all is_tenant config.tenants) c.in-Ok.ensures.good).0 in
    left_nodes config c.in-Ok-serve_clients.served.nodes.items sizes c.in-Ok-serve_clients.ensures.left

pub returns : goal.returns
returns g c =
    concludes _ _ c.conclude.result c.in-Ok.config c.in-Ok-serve_clients.served.nodes.items
    (served_from _ c.in-Ok.config c.in-Ok-serve_clients.served.nodes.items c.in-Ok.ensures.config c.in-Ok-serve_clients.ensures.left
    c.conclude.ensures.replays c.conclude.ensures.says_same)
    c.conclude.ensures.ok c.conclude.ensures.front c.conclude.ensures.stopped c.conclude.ensures.lost c.conclude.ensures.write_fault

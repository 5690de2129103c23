use Rattle.std.proofs.Common.{◌∙◌, ap, map}
use Rattle.cops_service.specs.HostedDesks.{hosted_node, nodes_in}
use Rattle.cops_service.proofs.Desks.{new_are_nodes}
use Rattle.cops_service.proofs.HostedDesks.{counted_hosted, new_hosted_shape}
use Rattle.cops_service.proofs.opening.Cluster+HostedNode.host.Goals as goal

pub of_many-requires-clause-some : goal.of_many-requires-clause-some
of_many-requires-clause-some c =
    (counted_hosted c.args.config.now c.in_ok-hosted.hosted.items c.requires.sizes (c.in_ok-hosted.ensures.nodes ∙ c.in_ok-nodes.ensures)).0

pub of_many-requires-clause-most : goal.of_many-requires-clause-most
of_many-requires-clause-most c =
    (counted_hosted c.args.config.now c.in_ok-hosted.hosted.items c.requires.sizes (c.in_ok-hosted.ensures.nodes ∙ c.in_ok-nodes.ensures)).1

pub returns-clause-nodes : goal.returns-clause-nodes
returns-clause-nodes c =
    new_are_nodes c.args.config.now (nodes_in c.in_ok-opened.opened.0) c.requires.sizes c.in_ok-opened.ensures.shards
    (ap (map hosted_node) c.in_ok-opened.ensures.openings ∙ c.in_ok-hosted.ensures.nodes ∙ c.in_ok-nodes.ensures)

pub returns-clause-shape : goal.returns-clause-shape
returns-clause-shape c =
    new_hosted_shape c.args.config.now c.in_ok-opened.opened.0 c.requires.sizes
    (ap (map hosted_node) c.in_ok-opened.ensures.openings ∙ c.in_ok-hosted.ensures.nodes ∙ c.in_ok-nodes.ensures)

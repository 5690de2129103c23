use Rattle.cops_node.proofs.LifeLemmas.{holds_closed}
use Rattle.cops_node.proofs.cluster.Cluster0.close.Goals as goal

pub invariant_of-self : goal.invariant_of-self
invariant_of-self c =
    holds_closed (record { data_centres = c.self.inside.data_centres; shards = c.self.inside.shards }) c.args.slot c.self.inside.nodes.items c.close_at_all.new.nodes.items c.close_at_all.ensures c.self.invariant

use Rattle.std.proofs.Common.{◌∙◌, sym, ap}
use Rattle.std.specs.List.{list_any}
use Rattle.cops_node.specs.Parts.{is_taken}
use Rattle.cops_node.proofs.LifeLemmas.{holds_after, none_taken}
use Rattle.cops_node.proofs.cluster.Cluster0.admit.Goals as goal

pub admit_at_all-requires-clause-vacant : goal.admit_at_all-requires-clause-vacant
admit_at_all-requires-clause-vacant c =
    none_taken c.args.slot c.self.inside.nodes.items (ap (list_any (is_taken c.args.slot)) (sym c.as_slice.ensures.value) ∙ sym c.is_taken_at_any.ensures ∙ c.if-is_taken_at_any.false)

pub invariant_of-self : goal.invariant_of-self
invariant_of-self c =
    holds_after (record { data_centres = c.self.inside.data_centres; shards = c.self.inside.shards }) c.args.slot c.args.first_clock c.args.quota c.self.inside.nodes.items c.admit_at_all.new.nodes.items c.admit_at_all.result
    c.admit_at_all.ensures.ok c.admit_at_all.ensures.err c.self.invariant

pub invariant_of-self-2 : goal.invariant_of-self-2
invariant_of-self-2 c =
    holds_after (record { data_centres = c.self.inside.data_centres; shards = c.self.inside.shards }) c.args.slot c.args.first_clock c.args.quota c.self.inside.nodes.items c.admit_at_all.new.nodes.items c.admit_at_all.result
    c.admit_at_all.ensures.ok c.admit_at_all.ensures.err c.self.invariant

use Rattle.std.proofs.Common.{◌∙◌, ap}
use Rattle.cops_gate.specs.Rule.{start}
use Rattle.cops_gate.proofs.Keeps.{opens_with}
use Rattle.cops_gate.proofs.cluster_gate.ClusterGate.open_at.Goals as goal

pub new-requires : goal.new-requires
new-requires g c = opens_with g.M.Machine.turns g.M.Machine.place (start c.of-opening.result.value) c.args.ticket c.len-count.result _ _
    (c.as_slice.ensures.value ∙ c.in-Ok-words_of.ensures) (c.len-count.ensures ∙ c.args.machines.ok.0) (ap (λ b. b.states.items) c.of-opening.ensures) (ap (λ b. b.ticket) c.of-opening.ensures) c.requires.ticket

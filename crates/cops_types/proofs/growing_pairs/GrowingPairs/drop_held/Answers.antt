use Rattle.std.proofs.Common.{◌∙◌, sym}
use Rattle.cops_types.proofs.PairPlaces.{IsNear-without_held, without_held-none}
use Rattle.cops_types.proofs.growing_pairs.GrowingPairs.drop_held.Goals as goal

pub returns-else-has_held-clause-pairs : goal.returns-else-has_held-clause-pairs
returns-else-has_held-clause-pairs c = without_held-none c.args.deps.now c.args.self.now.pairs (sym c.has_held.ensures ∙ c.if-has_held.false)

pub returns-then-has_held-clause-in_order : goal.returns-then-has_held-clause-in_order
returns-then-has_held-clause-in_order c = rw c.take_out_held.ensures (IsNear-without_held c.args.deps.now c.args.self.now.pairs c.requires)

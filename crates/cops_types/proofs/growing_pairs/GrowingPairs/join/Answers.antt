use Rattle.cops_types.proofs.GreatestLists.{IsDeps-joined}
use Rattle.cops_types.proofs.growing_pairs.GrowingPairs.join.Goals as goal

pub returns-clause-in_order : goal.returns-clause-in_order
returns-clause-in_order c = IsDeps-joined c.in_ok-list.list.pairs c.args.self.now.pairs c.args.more.now c.in_ok-list.ensures

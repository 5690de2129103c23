use Rattle.cops_types.specs.Same.{same_pairs, test_of_same}
use Rattle.cops_types.proofs.near.OwnedNearPartialEq.eq.Goals as goal

pub returns-clause-value : goal.returns-clause-value
returns-clause-value c = rw (← c.self.view_is, ← c.other.view_is) (test_of_same same_pairs c.self.inside.pairs c.other.inside.pairs c.is_same.result c.is_same.ensures)

use Rattle.cops_types.specs.Same.{same_pairs, told_same}
use Rattle.cops_types.proofs.packed.are_same_full.Goals as goal

pub returns : goal.returns
returns c = told_same same_pairs c.args.pairs.now c.args.others.now c.eq.result c.eq.ensures

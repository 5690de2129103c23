use Rattle.cops_types.specs.Same.{test_of_same}
use Rattle.cops_model.specs.Same.{same_calls}
use Rattle.cops_model.proofs.comparing.NodeCallPartialEq.eq.Goals as goal

pub returns-clause-value : goal.returns-clause-value
returns-clause-value c = test_of_same same_calls c.args.self.now c.args.other.now c.is_same_call.result c.is_same_call.ensures

use Rattle.cops_types.specs.Same.{test_of_same}
use Rattle.cops_model.specs.Same.{same_replies}
use Rattle.cops_model.proofs.comparing.NodeReplyPartialEq.eq.Goals as goal

pub returns-clause-value : goal.returns-clause-value
returns-clause-value c = test_of_same same_replies c.args.self.now c.args.other.now c.is_same_reply.result c.is_same_reply.ensures

use Rattle.cops_causal.proofs.AuditLists.{audits_few_left}
use Rattle.cops_causal.proofs.laws.audited_lists_are_within_the_limit.Goals as goal

pub returns : goal.returns
returns c = λ config acts told left some goes. audits_few_left config some acts told left goes

use Rattle.cops_causal.proofs.Interleavings.{replies_alone, replies_agree}
use Rattle.cops_causal.proofs.laws.each_tenant_is_alone.Goals as goal

pub returns-clause-alone : goal.returns-clause-alone
returns-clause-alone c = replies_alone

pub returns-clause-agree : goal.returns-clause-agree
returns-clause-agree c = replies_agree

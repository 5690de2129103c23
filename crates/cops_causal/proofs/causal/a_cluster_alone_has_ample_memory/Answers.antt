use Rattle.cops_causal.proofs.Never.{solo_spared}
use Rattle.cops_causal.proofs.causal.a_cluster_alone_has_ample_memory.Goals as goal

pub returns : goal.returns
returns c = λ config acts some. solo_spared config some acts

use Rattle.cops_whole.proofs.SmallCluster.{small_cluster}
use Rattle.cops_whole.proofs.laws.small_cluster_is_served.Goals as goal

pub returns : goal.returns
returns c = small_cluster

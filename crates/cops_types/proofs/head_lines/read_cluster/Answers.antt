use Rattle.cops_types.proofs.HeadReading.{cluster_found}
use Rattle.cops_types.proofs.head_lines.read_cluster.Goals as goal

pub returns : goal.returns
returns c = cluster_found c.args.line.now c.cluster_of.result c.cluster_of.ensures.some c.cluster_of.ensures.none

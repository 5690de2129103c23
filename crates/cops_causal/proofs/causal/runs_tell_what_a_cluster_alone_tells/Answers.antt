use Rattle.cops_model.specs.Cluster.{new_cluster}
use Rattle.cops_causal.proofs.Runs.{goes_front, goes_spared}
use Rattle.cops_causal.proofs.causal.runs_tell_what_a_cluster_alone_tells.Goals as goal

pub returns-clause-whole : goal.returns-clause-whole
returns-clause-whole c = λ config acts told left goes spared. goes_spared config acts told (new_cluster config) left goes spared

pub returns-clause-at_first : goal.returns-clause-at_first
returns-clause-at_first c = λ config acts told left goes. goes_front config acts told (new_cluster config) left goes

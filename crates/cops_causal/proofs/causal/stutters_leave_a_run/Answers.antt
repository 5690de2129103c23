use Rattle.cops_model.specs.Cluster.{new_cluster}
use Rattle.cops_causal.proofs.Runs.{goes_without}
use Rattle.cops_causal.proofs.causal.stutters_leave_a_run.Goals as goal

pub returns : goal.returns
returns c = λ config acts later told more act left same none goes. goes_without config acts later told more act (new_cluster config) left same none goes

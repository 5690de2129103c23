use Rattle.cops_model.specs.Cluster.{new_cluster}
use Rattle.cops_model.specs.Events.{cluster_of, solo_replies}
use Rattle.cops_causal.proofs.Runs.{goes_alone}
use Rattle.cops_causal.proofs.TurnCausality.{all_are_causal}
use Rattle.cops_causal.proofs.causal.ample_memory_is_a_run.Goals as goal

pub returns-clause-goes : goal.returns-clause-goes
returns-clause-goes c = λ config acts. goes_alone config acts (new_cluster config)

pub returns-clause-causal : goal.returns-clause-causal
returns-clause-causal c = λ config acts some. all_are_causal config some acts (solo_replies config acts) (cluster_of config acts) (goes_alone config acts (new_cluster config))

-- Runs of a tenant alone in which requests for memory may be refused.
use Rattle.std.specs.Prelude.{◌≡◌, ◌⊎◌, List, [], ◌∷◌}
use Rattle.cops_types.specs.declared.faults.Fault.TheVariants.{OutOfMemory}
use Rattle.cops_types.specs.TenantConfig.{TenantConfig}
use Rattle.cops_model.specs.declared.acts.Act.{Act}
use Rattle.cops_model.specs.declared.replies.Reply.{Reply}
use Rattle.cops_model.specs.declared.replies.Reply.TheVariants.{Refused}
use Rattle.cops_model.specs.Cluster.{SoloCluster, cluster_step}
use Rattle.cops_model.specs.Lacks.{Lacks}

-- the reply to the act and the cluster that it leaves are the definition's; or the reply is that memory ran out, and what remains is as `Lacks` says
abbrev pub Turns : TenantConfig → Act → SoloCluster → Reply → SoloCluster → Type 0
Turns config act before reply after =
    let turn = cluster_step config act before in ((reply ≡ turn.reply) × (after ≡ turn.after)) ⊎ ((reply ≡ Refused OutOfMemory) × Lacks config act before after)

-- the acts take such turns, one after another, with these replies
abbrev pub Goes : TenantConfig → List Act → List Reply → SoloCluster → SoloCluster → Type 0
Goes config [] [] before after = after ≡ before
Goes config [] (reply ∷ told) before after = ⊥
Goes config (act ∷ acts) [] before after = ⊥
Goes config (act ∷ acts) (reply ∷ told) before after = (between : SoloCluster) × Turns config act before reply between × Goes config acts told between after

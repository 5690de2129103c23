-- How a run of a tenant alone grows, in which memory may be refused.
use Rattle.std.proofs.Common.{◌≡◌, true, List, [], ◌∷◌, ◌++◌, refl, subst}
use Rattle.cops_types.specs.declared.faults.Fault.TheVariants.{OutOfMemory}
use Rattle.cops_types.specs.TenantConfig.{TenantConfig}
use Rattle.cops_model.specs.declared.acts.Act.{Act}
use Rattle.cops_model.specs.declared.replies.Reply.{Reply}
use Rattle.cops_model.specs.declared.replies.Reply.TheVariants.{Refused}
use Rattle.cops_model.specs.Cluster.{SoloCluster}
use Rattle.cops_model.specs.Events.{is_out_of_memory}
use Rattle.cops_model.specs.Goes.{Goes, Turns}

-- the one reply that says so
pub lack_is : (r : Reply) → is_out_of_memory r ≡ true → r ≡ Refused OutOfMemory
lack_is (Refused OutOfMemory) e = refl
lack_is r e = cc

-- one more turn
pub goes_push : (config : TenantConfig) (acts : List Act) (told : List Reply) (act : Act) (r : Reply) (c d e : SoloCluster) → Goes config acts told c d → Turns config act d r e → Goes config (acts ++ act ∷ []) (told ++ r ∷ []) c e
goes_push config [] [] act r c d e same turns = (e, subst (λ x. Turns config act x r e) same turns, refl)
goes_push config [] (s ∷ told) act r c d e goes turns = absurd goes
goes_push config (first ∷ acts) [] act r c d e goes turns = absurd goes
goes_push config (first ∷ acts) (s ∷ told) act r c d e (between, one, goes) turns = (between, one, goes_push config acts told act r between d e goes turns)

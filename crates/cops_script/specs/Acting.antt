-- The behaviour of a world of many tenants, in any representation.
use Rattle.std.specs.Prelude.{◌≡◌, ◌≢◌, ℕ, ◌<◌, IfOk, IsFalse, IsTrue, length, Some, None, Result, Ok, Err}
use Rattle.std.specs.declared.alloc.AllocError.{AllocError}
use Rattle.cops_types.specs.declared.configs.Config.{Config}
use Rattle.cops_types.specs.declared.configs.Tenant.{Tenant}
use Rattle.cops_types.specs.declared.faults.Fault.TheVariants.{OutOfMemory}
use Rattle.cops_types.specs.declared.request_errors.RequestError.{RequestError}
use Rattle.cops_types.specs.OpenSlots.{admission_refusal}
use Rattle.cops_types.specs.RequestErrors.{refusal_in}
use Rattle.cops_types.specs.TenantConfig.{tenant_config}
use Rattle.cops_model.specs.declared.acts.Act.{Act}
use Rattle.cops_model.specs.declared.acts.Act.TheVariants.{Done, Step}
use Rattle.cops_model.specs.declared.acts.Event.{Event}
use Rattle.cops_model.specs.declared.replies.Reply.{Reply}
use Rattle.cops_model.specs.declared.replies.Reply.TheVariants.{Refused}
use Rattle.cops_model.specs.Cluster.{SoloCluster, cluster_step, new_cluster}
use Rattle.cops_model.specs.Events.{config_at, is_out_of_memory}
use Rattle.cops_model.specs.Setups.{Setup, config_in, new_setup, next_slot, with_slot}
use Rattle.cops_model.specs.Lacks.{Lacks}

-- the reply to an act, or out of memory
abbrev pub told_act : Result Reply AllocError → Reply
told_act (Ok reply) = reply
told_act (Err error) = Refused OutOfMemory

-- a reply other than out of memory
abbrev pub IsSparedReply : Reply → Type 0
IsSparedReply reply = IsFalse (is_out_of_memory reply)

-- the reply to the act is the definition's: always, except that a step shows a node's reply, whatever it was
abbrev pub TellsExactly : Act → Reply → Type 0
TellsExactly (Step name moment) reply = IsSparedReply reply
TellsExactly (Done name moment) reply = IsSparedReply reply
TellsExactly act reply = Unit {0}

module _ {W : Type 0} (setup : W → Setup) (StandsFor : W → ℕ → SoloCluster → Type 0) where
  -- a new world of the configuration
  pub record IsNew (config : Config) (world : W) : Type 0 where
    pub setup_is : setup world ≡ new_setup config
    pub empty : (slot : ℕ) → slot < length config.tenants → StandsFor world slot (new_cluster (config_at config slot))

  -- the tenants of other slots have the same clusters as before
  abbrev pub OthersStay : ℕ → W → W → Type 0
  OthersStay slot old new = (other : ℕ) → slot ≢ other → (cluster : SoloCluster) → StandsFor old other cluster → StandsFor new other cluster

  -- an event acted on its own tenant's cluster; or memory ran out, which is the error, and the cluster changed only as such an act may change it.
  -- It acted on no other cluster
  pub record HasActed (old : W) (event : Event) (answered : Result Reply AllocError) (new : W) : Type 0 where
    pub same : setup new ≡ setup old
    pub own : IfOk answered (λ reply. TellsExactly event.act reply → (cluster : SoloCluster) → StandsFor old event.slot cluster →
        let turn = cluster_step (config_in (setup old) event.slot) event.act cluster in (reply ≡ turn.reply) × StandsFor new event.slot turn.after)
    pub lack : IsTrue (is_out_of_memory (told_act answered)) → (cluster : SoloCluster) → StandsFor old event.slot cluster →
        (after : SoloCluster) × Lacks (config_in (setup old) event.slot) event.act cluster after × StandsFor new event.slot after
    pub others : OthersStay event.slot old new

  -- the same tenants are open, each with the same cluster
  pub record HasStayed (old new : W) : Type 0 where
    pub same : setup new ≡ setup old
    pub clusters : (slot : ℕ) (cluster : SoloCluster) → StandsFor old slot cluster → StandsFor new slot cluster

  -- the slot belongs to this tenant, which has a new cluster
  pub record HasAdmitted (slot : ℕ) (tenant : Tenant) (old new : W) : Type 0 where
    pub setup_is : setup new ≡ with_slot slot (Some tenant) (setup old)
    pub begins : StandsFor new slot (new_cluster (tenant_config (setup old).head tenant))
    pub others : OthersStay slot old new

  -- the slot has no tenant
  pub record HasClosed (slot : ℕ) (old new : W) : Type 0 where
    pub setup_is : setup new ≡ with_slot slot None (setup old)
    pub others : OthersStay slot old new

  -- the tenant is admitted to the least free slot; or it may not be admitted, or memory ran out
  abbrev pub IsAdmission : W → Tenant → Result ℕ RequestError → W → Type 0
  IsAdmission old tenant (Ok slot) new =
      (slot ≡ next_slot (setup old).tenants) × (admission_refusal (setup old).tenants slot tenant ≡ None) × HasAdmitted slot tenant old new
  IsAdmission old tenant (Err error) new =
      (admission_refusal (setup old).tenants (next_slot (setup old).tenants) tenant ≡ refusal_in error) × HasStayed old new

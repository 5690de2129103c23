-- What is done by a line whose reply is not written keeps to the rules.
use Rattle.std.proofs.Common.{◌≡◌, ℕ, Bool, List, refl, sym, subst, ◌∙◌}
use Rattle.std.specs.Prelude.{Option, Some, None, Result}
use Rattle.std.specs.declared.alloc.AllocError.{AllocError}
use Rattle.cops_types.specs.declared.configs.Tenant.{Tenant}
use Rattle.cops_types.specs.declared.faults.Fault.TheVariants.{Syntax, UnknownTenant}
use Rattle.cops_types.specs.OpenSlots.{open_slot_of_name}
use Rattle.cops_types.specs.Words.{first_word}
use Rattle.cops_model.specs.declared.replies.HostReply.{HostReply}
use Rattle.cops_model.specs.declared.replies.HostReply.TheVariants.{Denied}
use Rattle.cops_model.specs.declared.acts.Act.{Act}
use Rattle.cops_model.specs.declared.replies.Reply.{Reply}
use Rattle.cops_model.specs.declared.replies.Reply.TheVariants.{Refused}
use Rattle.cops_script.specs.ActLines.{act_in}
use Rattle.cops_model.specs.Cluster.{SoloCluster}
use Rattle.cops_model.specs.Events.{is_out_of_memory}
use Rattle.cops_script.specs.Said.{Said, said_found, said_by}
use Rattle.cops_model.specs.Setups.{Setup}
use Rattle.cops_script.specs.Acting.{HasActed, told_act}
use Rattle.cops_script.specs.Answers.{ToHost, ToTenant, is_lack}
use Rattle.cops_script.specs.Doing.{IsDone}
use Rattle.cops_script.specs.SilentRules.{IsDoneSo, IsDoneWhole}
use Rattle.cops_script.proofs.MachineLemmas.{stays_as_it_is}

module _ {W : Type 0} (setup : W → Setup) (StandsFor : W → ℕ → SoloCluster → Type 0) where
  -- no tenant has the name
  pub done_by_nobody : (old : W) (line word : List ℕ) (tenants : List (Option Tenant)) (searched : Option ℕ) → tenants ≡ (setup old).tenants → word ≡ first_word line → searched ≡ open_slot_of_name tenants word → searched ≡ None →
      IsDoneWhole setup StandsFor old (said_found line (open_slot_of_name (setup old).tenants (first_word line))) old
  done_by_nobody old line word tenants searched is_of is_first is_found e =
      let found : open_slot_of_name (setup old).tenants (first_word line) ≡ None = (λ i. open_slot_of_name (sym is_of i) (sym is_first i)) ∙ sym is_found ∙ e in
      subst (λ o. IsDoneWhole setup StandsFor old (said_found line o) old) (sym found) (ToHost (Denied UnknownTenant), (refl, stays_as_it_is setup StandsFor old), refl)

  -- the slot was looked up by the line's first word
  pub done_by : (old new : W) (line word : List ℕ) (tenants : List (Option Tenant)) (searched : Option ℕ) (slot : ℕ) (lacks : Bool) → tenants ≡ (setup old).tenants → word ≡ first_word line → searched ≡ open_slot_of_name tenants word → searched ≡ Some slot →
      IsDoneSo setup StandsFor lacks old (said_by slot (act_in (first_word line) line)) new → IsDoneSo setup StandsFor lacks old (said_found line (open_slot_of_name (setup old).tenants (first_word line))) new
  done_by old new line word tenants searched slot lacks is_of is_first is_found e done =
      let found : open_slot_of_name (setup old).tenants (first_word line) ≡ Some slot = (λ i. open_slot_of_name (sym is_of i) (sym is_first i)) ∙ sym is_found ∙ e in
      subst (λ o. IsDoneSo setup StandsFor lacks old (said_found line o) new) (sym found) done

  -- the line has no form
  pub done_unformed : (old : W) (slot : ℕ) (line : List ℕ) → act_in (first_word line) line ≡ None → IsDoneWhole setup StandsFor old (said_by slot (act_in (first_word line) line)) old
  done_unformed old slot line e = subst (λ o. IsDoneWhole setup StandsFor old (said_by slot o) old) (sym e) (ToTenant slot (Refused Syntax), (refl, stays_as_it_is setup StandsFor old), refl)

  -- the tenant acted, or memory was refused
  pub done_act : (old new : W) (slot : ℕ) (line : List ℕ) (act : Act) (answered : Result Reply AllocError) (lacking : Bool) → act_in (first_word line) line ≡ Some act → HasActed setup StandsFor old (record { slot = slot; act = act }) answered new →
      lacking ≡ is_out_of_memory (told_act answered) → IsDoneSo setup StandsFor lacking old (said_by slot (act_in (first_word line) line)) new
  done_act old new slot line act answered lacking e acted is_lacking =
      subst (λ o. IsDoneSo setup StandsFor lacking old (said_by slot o) new) (sym e) (ToTenant slot (told_act answered), (answered, refl, acted), sym is_lacking)

  -- the host's line was done, or memory was refused
  pub done_for_host : (old new : W) (one said : Said) (reply : HostReply) (lacking : Bool) → said ≡ one → IsDone setup StandsFor old one (ToHost reply) new → lacking ≡ is_lack (ToHost reply) →
      IsDoneSo setup StandsFor lacking old said new
  done_for_host old new one said reply lacking says done is_lacking =
      subst (λ s. IsDoneSo setup StandsFor lacking old s new) (sym says) (ToHost reply, done, sym is_lacking)

-- An act, by the reply to its tenant.
use Rattle.std.proofs.Common.{◌≡◌, ℕ, Bool, true, false, inl, inr, refl, true≢false}
use Rattle.std.specs.Prelude.{IfOk, IsFalse, IsTrue, Result, Ok, Err}
use Rattle.std.specs.declared.alloc.AllocError.{AllocError}
use Rattle.cops_model.specs.declared.acts.Act.{Act}
use Rattle.cops_model.specs.declared.acts.Act.TheVariants.{Open, Create, Delete, Put, Get, Show, Carry, Step, Done, Collect}
use Rattle.cops_model.specs.declared.acts.Event.{Event}
use Rattle.cops_model.specs.declared.replies.Reply.{Reply}
use Rattle.cops_model.specs.Cluster.{SoloCluster, cluster_step}
use Rattle.cops_model.specs.Events.{is_out_of_memory}
use Rattle.cops_model.specs.Setups.{Setup, config_in}
use Rattle.cops_script.specs.Acting.{HasActed, IsSparedReply, OthersStay, TellsExactly, told_act}
use Rattle.cops_model.specs.Goes.{Turns}
use Rattle.cops_model.specs.Lacks.{Lacks}
use Rattle.cops_script.proofs.Turning.{lack_is}

-- a reply that doesn't say that memory was refused is the definition's, whatever the act
pub spared_exactly : (act : Act) (reply : Reply) → IsSparedReply reply → TellsExactly act reply
spared_exactly (Step name moment) reply spared = spared
spared_exactly (Done name moment) reply spared = spared
spared_exactly (Open name dc) reply spared = tt
spared_exactly (Create name) reply spared = tt
spared_exactly (Delete name number) reply spared = tt
spared_exactly (Put name number key value) reply spared = tt
spared_exactly (Get name number keys) reply spared = tt
spared_exactly (Show name number) reply spared = tt
spared_exactly (Carry name dc shard to_dc) reply spared = tt
spared_exactly (Collect dc shard moment) reply spared = tt

-- what holds of an answer with this reply
pub of_told : (Says P : Reply → Type 0) (answered : Result Reply AllocError) → ((reply : Reply) → IsSparedReply reply → Says reply) → IfOk answered (λ reply. Says reply → P reply) →
    IsFalse (is_out_of_memory (told_act answered)) → P (told_act answered)
of_told Says P (Ok reply) says holds spared = holds (says reply spared)
of_told Says P (Err error) says holds spared = absurd (true≢false spared)

-- and of the reply, of the answer
pub if_told : (P : Reply → Type 0) (answered : Result Reply AllocError) → (IsFalse (is_out_of_memory (told_act answered)) → P (told_act answered)) → IfOk answered (λ reply. IsSparedReply reply → P reply)
if_told P (Ok reply) holds = holds
if_told P (Err error) holds = tt

-- what holds of each answer that there may be
pub if_answered : (P : Reply → Type 0) (answered : Result Reply AllocError) → ((reply : Reply) → answered ≡ Ok reply → P reply) → IfOk answered P
if_answered P (Ok reply) holds = holds reply refl
if_answered P (Err error) holds = tt

module _ {W : Type 0} (setup : W → Setup) (StandsFor : W → ℕ → SoloCluster → Type 0) where
  -- the reply is the definition's, unless it says that memory was refused
  pub record ActsAsTold (old : W) (event : Event) (reply : Reply) (new : W) : Type 0 where
    pub same : setup new ≡ setup old
    pub own : IsFalse (is_out_of_memory reply) → (cluster : SoloCluster) → StandsFor old event.slot cluster →
        let turn = cluster_step (config_in (setup old) event.slot) event.act cluster in (reply ≡ turn.reply) × StandsFor new event.slot turn.after
    pub lack : IsTrue (is_out_of_memory reply) → (cluster : SoloCluster) → StandsFor old event.slot cluster →
        (after : SoloCluster) × Lacks (config_in (setup old) event.slot) event.act cluster after × StandsFor new event.slot after
    pub others : OthersStay setup StandsFor event.slot old new

  pub as_told_act : (old : W) (event : Event) (answered : Result Reply AllocError) (new : W) → HasActed setup StandsFor old event answered new → ActsAsTold old event (told_act answered) new
  as_told_act old event answered new acted = record {
    same = acted.same;
    own = of_told (TellsExactly event.act)
        (λ reply. (cluster : SoloCluster) → StandsFor old event.slot cluster → let turn = cluster_step (config_in (setup old) event.slot) event.act cluster in (reply ≡ turn.reply) × StandsFor new event.slot turn.after)
        answered (spared_exactly event.act) acted.own;
    lack = acted.lack;
    others = acted.others;
  }

  -- so it is a turn of its own cluster
  pub as_turn : (old : W) (event : Event) (reply : Reply) (new : W) → ActsAsTold old event reply new → (cluster : SoloCluster) → StandsFor old event.slot cluster →
      (after : SoloCluster) × Turns (config_in (setup old) event.slot) event.act cluster reply after × StandsFor new event.slot after
  as_turn old event reply new acted cluster stood = by_test (is_out_of_memory reply) refl
    where
      by_test : (b : Bool) → is_out_of_memory reply ≡ b → (after : SoloCluster) × Turns (config_in (setup old) event.slot) event.act cluster reply after × StandsFor new event.slot after
      by_test true lack = let left = acted.lack lack cluster stood in (left.0, inr (lack_is reply lack, left.1), left.2)
      by_test false spared = let turn = acted.own spared cluster stood in ((cluster_step (config_in (setup old) event.slot) event.act cluster).after, inl (turn.0, refl), turn.1)

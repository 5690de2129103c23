-- Conversations of a worker, one after another.
use Rattle.std.proofs.Common.{◌≡◌, ◌⊎◌, IfOk, OnErr, ℕ, suc, inl, inr, None, Result, Ok, Err}
use Rattle.cops_types.specs.declared.configs.Config.{Config}
use Rattle.cops_types.specs.declared.request_errors.RequestError.{RequestError}
use Rattle.cops_model.specs.declared.calls.NodeCall.{NodeCall}
use Rattle.cops_model.specs.declared.calls.NodeId.{NodeId}
use Rattle.cops_model.specs.declared.calls.NodeReply.{NodeReply}
use Rattle.cops_wire.specs.Conversation.{HasConversed, HasConversedInPart}
use Rattle.cops_wire.specs.declared.serving.Ended.{Ended}
use Rattle.cops_service.specs.Conversing.{Converses, ConverseAll}

module _ {N M : Type 0} (Calls : N → NodeId → ℕ → ℕ → NodeCall → NodeReply → N → Type 0) (Gives : M → ℕ → M → Type 0) (config : Config) where
  pub converses : (nodes new_nodes : N) (moments new_moments : M) (result : Result Ended RequestError)
      → IfOk result (HasConversed Calls Gives config None None None None nodes new_nodes moments new_moments)
      → OnErr result (HasConversedInPart Calls Gives config None None None nodes new_nodes moments new_moments)
      → Converses Calls Gives config nodes new_nodes moments new_moments
  converses nodes new_nodes moments new_moments (Ok ended) whole part = inl (ended, whole)
  converses nodes new_nodes moments new_moments (Err fault) whole part = inr part

  pub one_more : (nodes between new_nodes : N) (moments middle new_moments : M) → ((count : ℕ) × ConverseAll Calls Gives config count nodes between moments middle)
      → Converses Calls Gives config between new_nodes middle new_moments → (count : ℕ) × ConverseAll Calls Gives config count nodes new_nodes moments new_moments
  one_more nodes between new_nodes moments middle new_moments all next = (suc all.0, (between, middle, all.1, next))

-- A worker's conversations with its clients, at nodes.
use Rattle.std.specs.Prelude.{◌≡◌, ◌⊎◌, ℕ, zero, suc, None}
use Rattle.cops_types.specs.declared.configs.Config.{Config}
use Rattle.cops_model.specs.declared.calls.NodeCall.{NodeCall}
use Rattle.cops_model.specs.declared.calls.NodeId.{NodeId}
use Rattle.cops_model.specs.declared.calls.NodeReply.{NodeReply}
use Rattle.cops_wire.specs.Conversation.{HasConversed, HasConversedInPart}
use Rattle.cops_wire.specs.declared.serving.Ended.{Ended}

module _ {N M : Type 0} (Calls : N → NodeId → ℕ → ℕ → NodeCall → NodeReply → N → Type 0) (Gives : M → ℕ → M → Type 0) (config : Config) where
  -- A client was greeted as the tenant of a slot and served with a session of it, to the end or in part; or no call was made.
  -- The bytes of a socket aren't known
  abbrev pub Converses : N → N → M → M → Type 0
  Converses nodes new_nodes moments new_moments =
      ((ended : Ended) × HasConversed Calls Gives config None None None None nodes new_nodes moments new_moments ended)
      ⊎ HasConversedInPart Calls Gives config None None None nodes new_nodes moments new_moments

  -- this many clients, one after another
  abbrev pub ConverseAll : ℕ → N → N → M → M → Type 0
  ConverseAll zero nodes new_nodes moments new_moments = (new_nodes ≡ nodes) × (new_moments ≡ moments)
  ConverseAll (suc count) nodes new_nodes moments new_moments =
      (between : N) × (middle : M) × ConverseAll count nodes between moments middle × Converses between new_nodes middle new_moments

-- A client that is refused from the end of its tenant's life on.
use Rattle.std.specs.Prelude.{◌⊎◌, ℕ, List, [], Option}
use Rattle.cops_types.specs.declared.configs.Config.{Config}
use Rattle.cops_types.specs.declared.faults.Fault.{Fault}
use Rattle.cops_model.specs.declared.calls.NodeCall.{NodeCall}
use Rattle.cops_model.specs.declared.calls.NodeId.{NodeId}
use Rattle.cops_model.specs.declared.calls.NodeReply.{NodeReply}
use Rattle.cops_wire.specs.Conversation.{HasConversed, HasConversedInPart}
use Rattle.cops_wire.specs.Serving.{RefusesWith, ServesAll}
use Rattle.cops_wire.specs.declared.serving.Ended.{Ended}

module _ {N M : Type 0} (Calls : N → NodeId → ℕ → ℕ → NodeCall → NodeReply → N → Type 0) (Gives : M → ℕ → M → Type 0) (config : Config) (fault : Fault)
    (remaining new_remaining contents new_contents : Option (List ℕ)) (nodes new_nodes : N) (moments new_moments : M) (ended : Ended) where
  -- The client was greeted and served up to a place, where these bytes were read and not answered. From there on each request was
  -- refused, and no node was called.
  pub record RefusesAfter : Type 0 where
    pub left : Option (List ℕ)
    pub replied : Option (List ℕ)
    pub conversed : HasConversedInPart Calls Gives config remaining contents replied nodes new_nodes moments new_moments
    pub kept : List ℕ
    pub refused : ServesAll (RefusesWith fault) kept [] left new_remaining replied new_contents tt tt ended

  -- the client was served to the end, or served and then refused
  abbrev pub ConversesOn : Type 0
  ConversesOn = HasConversed Calls Gives config remaining new_remaining contents new_contents nodes new_nodes moments new_moments ended ⊎ RefusesAfter

-- The turns that are recorded.
use Rattle.std.proofs.Common.{◌≡◌, ℕ, Bool, List, [], ◌∷◌, ◌++◌, sym, ap, ◌∙◌, append_assoc, append-nil}
use Rattle.cops_model.specs.declared.calls.NodeCall.{NodeCall}
use Rattle.cops_model.specs.declared.calls.NodeId.{NodeId}
use Rattle.cops_model.specs.declared.calls.NodeReply.{NodeReply}
use Rattle.cops_history.specs.Turns.{Turn}
use Rattle.cops_served.specs.Conversations.{AreRecorded, MakesTurns, Records}

module _ {N : Type 0} (Calls : N → NodeId → ℕ → ℕ → NodeCall → NodeReply → N → Type 0) (lost : NodeReply → Bool) (slot : ℕ) (Holds : N → Type 0) (made : N → List Turn) (records : Records lost Calls slot Holds made) where
  pub recorded : (turns : List Turn) (old new : N) → Holds old → AreRecorded lost turns → MakesTurns Calls slot old turns new → made new ≡ made old ++ turns
  recorded [] old new holds all same = ap made same ∙ sym (append-nil (made old))
  recorded (t ∷ turns) old new holds all (mid, called, later) =
      let one = records old mid t.node t.moment t.call t.reply holds called in
      recorded turns mid new one.0 all.1 later ∙ ap (λ ts. ts ++ turns) (one.1 all.0) ∙ append_assoc (made old) (t ∷ []) turns

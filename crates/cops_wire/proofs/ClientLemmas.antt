-- A client holds the same references through each call.
use Rattle.std.proofs.Common.{◌≡◌, ℕ, List, Option, Result, OnErr, refl, ◌∙◌}
use Rattle.std.specs.Prelude.{IfOk}
use Rattle.cops_model.specs.declared.calls.NodeCall.{NodeCall}
use Rattle.cops_model.specs.declared.calls.NodeId.{NodeId}
use Rattle.cops_model.specs.declared.calls.NodeReply.{NodeReply}
use Rattle.cops_node.specs.declared.Shape.{Shape}
use Rattle.cops_types.specs.declared.request_errors.RequestError.{RequestError}
use Rattle.cops_wire.specs.declared.messages.Message.{Message}
use Rattle.cops_wire.specs.declared.requests.Client.{Client}
use Rattle.cops_wire.specs.declared.serving.Ended.{Ended}
use Rattle.cops_wire.specs.Clients.{ClientAnswers, IsSameClient, client_backend}
use Rattle.cops_wire.specs.Requests.{HasAnswered, KeepsShape}
use Rattle.cops_wire.specs.Serving.{ServesAll, ServesInPart}
use Rattle.cops_wire.proofs.SeenAnswers.{all_seen, part_seen, served_kept}

same_itself : {N M : Type 0} (client : Client N M) → IsSameClient client client
same_itself client = record { session = refl; nodes = refl; moments = refl }

same_then : {N M : Type 0} (old mid new : Client N M) → IsSameClient old mid → IsSameClient mid new → IsSameClient old new
same_then old mid new p q = record { session = q.session ∙ p.session; nodes = q.nodes ∙ p.nodes; moments = q.moments ∙ p.moments }

-- what no answer changes
pub record IsClientKept {N M : Type 0} (shape : N → Shape) (old new : Client N M) : Type 0 where
  pub same : IsSameClient old new
  pub setting : new.session.now.setting ≡ old.session.now.setting
  pub shape_is : shape new.nodes.now ≡ shape old.nodes.now

module _ {N M : Type 0} (shape : N → Shape) (Calls : N → NodeId → ℕ → ℕ → NodeCall → NodeReply → N → Type 0) (Gives : M → ℕ → M → Type 0) where
  kept_on : (first old : Client N M) (request reply : Message) (new : Client N M) → IsClientKept shape first old → ClientAnswers shape Calls Gives old request reply new → IsClientKept shape first new
  kept_on first old request reply new p h = record {
    same = same_then first old new p.same h.same;
    setting = h.answered.setting ∙ p.setting;
    shape_is = h.shape_is ∙ p.shape_is;
  }

  pub client_kept : (stream : List ℕ) (answered : List Message) (remaining new_remaining contents new_contents : Option (List ℕ)) (old new : Client N M) (result : Result Ended RequestError)
      → IfOk result (ServesAll (ClientAnswers shape Calls Gives) stream answered remaining new_remaining contents new_contents old new)
      → OnErr result (ServesInPart (ClientAnswers shape Calls Gives) stream answered remaining contents new_contents old new) → IsClientKept shape old new
  client_kept stream answered remaining new_remaining contents new_contents old new result all part =
      served_kept (IsClientKept shape old) (ClientAnswers shape Calls Gives) (kept_on old) stream answered remaining new_remaining contents new_contents old new result
      (record { same = same_itself old; setting = refl; shape_is = refl }) all part

  pub client_served : (stream : List ℕ) (answered : List Message) (remaining new_remaining contents new_contents : Option (List ℕ)) (old new : Client N M) (ended : Ended)
      → ServesAll (ClientAnswers shape Calls Gives) stream answered remaining new_remaining contents new_contents old new ended
      → ServesAll (HasAnswered (KeepsShape shape Calls) Gives) stream answered remaining new_remaining contents new_contents (client_backend old) (client_backend new) ended
  client_served stream answered remaining new_remaining contents new_contents old new ended h =
      all_seen (λ client. Unit {0}) client_backend (ClientAnswers shape Calls Gives) (HasAnswered (KeepsShape shape Calls) Gives) (λ o q r n p a. tt) (λ o q r n p a. a.answered)
      stream answered remaining new_remaining contents new_contents old new ended tt h

  pub client_served_in_part : (stream : List ℕ) (answered : List Message) (remaining contents new_contents : Option (List ℕ)) (old new : Client N M)
      → ServesInPart (ClientAnswers shape Calls Gives) stream answered remaining contents new_contents old new
      → ServesInPart (HasAnswered (KeepsShape shape Calls) Gives) stream answered remaining contents new_contents (client_backend old) (client_backend new)
  client_served_in_part stream answered remaining contents new_contents old new h =
      part_seen (λ client. Unit {0}) client_backend (ClientAnswers shape Calls Gives) (HasAnswered (KeepsShape shape Calls) Gives) (λ o q r n p a. tt) (λ o q r n p a. a.answered)
      stream answered remaining contents new_contents old new tt h

-- What a contract sees of a `Client`.
use Rattle.std.specs.Prelude.{◌≡◌, ℕ}
use Rattle.cops_model.specs.declared.calls.NodeCall.{NodeCall}
use Rattle.cops_model.specs.declared.calls.NodeId.{NodeId}
use Rattle.cops_model.specs.declared.calls.NodeReply.{NodeReply}
use Rattle.cops_node.specs.declared.Shape.{Shape}
use Rattle.cops_session.specs.Kept.{KeptSession}
use Rattle.cops_wire.specs.declared.messages.Message.{Message}
use Rattle.cops_wire.specs.declared.requests.Client.{Client}
use Rattle.cops_wire.specs.Requests.{Backend, HasAnswered, KeepsShape, backend}

abbrev pub client_backend : {N M : Type 0} → Client N M → Backend KeptSession N M
client_backend client = backend client.session.now client.nodes.now client.moments.now

-- its references are the same
pub record IsSameClient {N M : Type 0} (old new : Client N M) : Type 0 where
  pub session : new.session.ghost_name ≡ old.session.ghost_name
  pub nodes : new.nodes.ghost_name ≡ old.nodes.ghost_name
  pub moments : new.moments.ghost_name ≡ old.moments.ghost_name

-- it answered a request, kept its references, and left the sizes of the nodes
pub record ClientAnswers {N M : Type 0} (shape : N → Shape) (Calls : N → NodeId → ℕ → ℕ → NodeCall → NodeReply → N → Type 0) (Gives : M → ℕ → M → Type 0)
    (old : Client N M) (request reply : Message) (new : Client N M) : Type 0 where
  pub answered : HasAnswered (KeepsShape shape Calls) Gives (client_backend old) request reply (client_backend new)
  pub same : IsSameClient old new
  pub shape_is : shape new.nodes.now ≡ shape old.nodes.now

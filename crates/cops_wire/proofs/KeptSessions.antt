-- What is answered from a session that is kept is answered from each session of the definition that it stands for.
use Rattle.std.proofs.Common.{ℕ, List, [], ◌∷◌, sym, ap, subst}
use Rattle.std.specs.Prelude.{Option}
use Rattle.cops_types.specs.TenantConfig.{TenantConfig}
use Rattle.cops_model.specs.declared.calls.NodeCall.{NodeCall}
use Rattle.cops_model.specs.declared.calls.NodeId.{NodeId}
use Rattle.cops_model.specs.declared.calls.NodeReply.{NodeReply}
use Rattle.cops_session.specs.Kept.{KeptSession}
use Rattle.cops_model.specs.Session.{Session}
use Rattle.cops_session.specs.SessionStands.{SessionStandsFor}
use Rattle.cops_wire.specs.declared.messages.Message.{Message}
use Rattle.cops_wire.specs.declared.serving.Ended.{Ended}
use Rattle.cops_wire.specs.Requests.{Answers, Backend, HasAnswered, HasFewRestarts, backend}
use Rattle.cops_wire.specs.Serving.{HasServed, HasServedInPart, Serves, ServesAll, ServesInPart}

module _ {N M : Type 0} (Calls : N → NodeId → ℕ → ℕ → NodeCall → NodeReply → N → Type 0) (Gives : M → ℕ → M → Type 0) where
  serves_each : (config : TenantConfig) → HasFewRestarts config → (old new : Backend KeptSession N M) (requests replies : List Message) (session : Session)
      → Serves (HasAnswered Calls Gives) old requests replies new → SessionStandsFor config old.session session
      → (after : Session) × SessionStandsFor config new.session after × Serves (Answers Calls Gives config old.session.setting.slot) (backend session old.nodes old.moments) requests replies (backend after new.nodes new.moments)
  serves_each config few old new [] replies session h stands = (
    session,
    subst (λ (b : Backend KeptSession N M). SessionStandsFor config b.session session) (sym h.1) stands,
    (h.0, ap (λ (b : Backend KeptSession N M). backend session b.nodes b.moments) h.1),
  )
  serves_each config few old new (request ∷ requests) replies session h stands =
      let mid = h.1 in
      let one = h.3.answers config session few stands in
      let others = serves_each config few mid new requests h.2 one.0 h.4 one.1 in (
        others.0,
        others.1,
        (
          h.0,
          backend one.0 mid.nodes mid.moments,
          h.2,
          one.2,
          subst (λ slot. Serves (Answers Calls Gives config slot) (backend one.0 mid.nodes mid.moments) requests h.2 (backend others.0 new.nodes new.moments)) (ap (λ s. s.slot) h.3.setting) others.2,
          h.5,
        ),
      )

  pub serves_kept : (stream : List ℕ) (answered : List Message) (remaining new_remaining contents new_contents : Option (List ℕ)) (old new : Backend KeptSession N M) (ended : Ended)
      → ServesAll (HasAnswered Calls Gives) stream answered remaining new_remaining contents new_contents old new ended → HasServed Calls Gives stream answered remaining contents new_contents old new new_remaining ended
  serves_kept stream answered remaining new_remaining contents new_contents old new ended h config session few stands =
      let each = serves_each config few old new h.requests h.replies session h.served stands in (
        each.0,
        each.1,
        record {
          input = h.input;
          read = h.read;
          messages = h.messages;
          are = h.are;
          all = h.all;
          requests = h.requests;
          replies = h.replies;
          front = h.front;
          asked = h.asked;
          served = each.2;
          ends = h.ends;
          written = h.written;
        },
      )

  pub serves_kept_in_part : (stream : List ℕ) (answered : List Message) (remaining contents new_contents : Option (List ℕ)) (old new : Backend KeptSession N M)
      → ServesInPart (HasAnswered Calls Gives) stream answered remaining contents new_contents old new → HasServedInPart Calls Gives stream answered remaining contents new_contents old new
  serves_kept_in_part stream answered remaining contents new_contents old new h config session few stands =
      let each = serves_each config few old new h.requests h.replies session h.served stands in (
        each.0,
        each.1,
        record {
          input = h.input;
          new_remaining = h.new_remaining;
          read = h.read;
          messages = h.messages;
          are = h.are;
          requests = h.requests;
          later = h.later;
          whole = h.whole;
          asked = h.asked;
          replies = h.replies;
          served = each.2;
          torn = h.torn;
          cause = h.cause;
          written = h.written;
        },
      )

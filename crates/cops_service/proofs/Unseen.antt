-- A conversation is one over bytes that nobody knows. Or it ends with its life.
use Rattle.std.proofs.Common.{◌≡◌, ◌⊎◌, ℕ, Bool, List, [], ◌∷◌, ◌++◌, inl, inr, Option, None, Result, Ok, Err, IfOk, OnErr, refl}
use Rattle.std.specs.Io.KnownBytes.{IsAtEnd}
use Rattle.cops_types.specs.declared.configs.Config.{Config}
use Rattle.cops_types.specs.declared.configs.Tenant.{Tenant}
use Rattle.cops_types.specs.declared.faults.Fault.{Fault}
use Rattle.cops_types.specs.declared.request_errors.RequestError.{RequestError}
use Rattle.cops_types.specs.Sink.{AppendsFront}
use Rattle.cops_model.specs.declared.calls.NodeCall.{NodeCall}
use Rattle.cops_model.specs.declared.calls.NodeId.{NodeId}
use Rattle.cops_model.specs.declared.calls.NodeReply.{NodeReply}
use Rattle.cops_wire.specs.declared.messages.Message.{Message}
use Rattle.cops_wire.specs.declared.serving.Ended.{Ended}
use Rattle.cops_wire.specs.declared.serving.Ended.TheVariants.{Clean, Torn}
use Rattle.cops_wire.specs.Conversation.{HasConversed, HasConversedInPart}
use Rattle.cops_wire.specs.Decoding.{KeptBytes}
use Rattle.cops_wire.specs.Greeting.{CameFirst, Greets}
use Rattle.cops_wire.specs.Serving.{EndsSo, RefusesWith, ServesAll, ServesInPart}
use Rattle.cops_wire.specs.Streams.{SplitStream, split_of}
use Rattle.cops_service.specs.Conversing.{Converses}
use Rattle.cops_service.specs.LifeServed.{ConversesOn}

unseen_front : (old new : Option (List ℕ)) (bytes : List ℕ) → AppendsFront old new bytes → AppendsFront None None bytes
unseen_front old new bytes (rest, h) = (rest, record { written = h.written; whole = h.whole; appended = tt })

unseen_ends : (ended : Ended) (all : Bool) (split : SplitStream) (remaining : Option (List ℕ)) → EndsSo ended all split remaining → EndsSo ended all split None
unseen_ends Clean all split remaining h = (h.0, h.1, h.2, tt)
unseen_ends Torn all split remaining (inl other) = inl other
unseen_ends Torn all split remaining (inr (inl broken)) = inr (inl broken)
unseen_ends Torn all split remaining (inr (inr inside)) = inr (inr (inside.0, tt))

unseen_none : {A : Type 0} (remaining : Option (List ℕ)) → A ⊎ IsAtEnd remaining → A ⊎ IsAtEnd None
unseen_none remaining (inl a) = inl a
unseen_none remaining (inr e) = inr tt

abbrev unseen_first : (old new : Option (List ℕ)) (kept : KeptBytes) (messages : List Message) → CameFirst old new kept messages → CameFirst None None kept messages
unseen_first old new kept messages h =
    record { input = h.input; read = tt; kept_is = h.kept_is; messages_are = h.messages_are; or_none = λ none. unseen_none new (h.or_none none) }

abbrev unseen_greeting : (tenants : List Tenant) (dcs : ℕ) (old new contents new_contents : Option (List ℕ)) (kept : KeptBytes) (waiting : List Message) (answer : Result (ℕ × ℕ) RequestError)
    → Greets tenants dcs old new contents new_contents kept waiting answer → Greets tenants dcs None None None None kept waiting answer
unseen_greeting tenants dcs old new contents new_contents kept waiting answer h = record {
  messages = h.messages;
  came = unseen_first old new kept h.messages h.came;
  answer_is = h.answer_is;
  written = tt;
  waiting_are = h.waiting_are;
}

module _ {S : Type 0} (answers : S → Message → Message → S → Type 0) (stream : List ℕ) (answered : List Message) where
  unseen_all : (remaining new_remaining contents new_contents : Option (List ℕ)) (old new : S) (ended : Ended)
      → ServesAll answers stream answered remaining new_remaining contents new_contents old new ended → ServesAll answers stream answered None None None None old new ended
  unseen_all remaining new_remaining contents new_contents old new ended h = record {
    input = h.input;
    read = tt;
    messages = h.messages;
    are = h.are;
    all = h.all;
    requests = h.requests;
    replies = h.replies;
    front = h.front;
    asked = h.asked;
    served = h.served;
    ends = unseen_ends ended h.all (split_of (stream ++ h.input)) new_remaining h.ends;
    written = tt;
  }

  unseen_part : (remaining contents new_contents : Option (List ℕ)) (old new : S) → ServesInPart answers stream answered remaining contents new_contents old new
      → ServesInPart answers stream answered None None None old new
  unseen_part remaining contents new_contents old new h = record {
    input = h.input;
    new_remaining = None;
    read = tt;
    messages = h.messages;
    are = h.are;
    requests = h.requests;
    later = h.later;
    whole = h.whole;
    asked = h.asked;
    replies = h.replies;
    served = h.served;
    torn = h.torn;
    cause = λ e. (let c = h.cause e in (c.0, c.1, unseen_ends Torn c.0 (split_of (stream ++ h.input)) h.new_remaining c.2));
    written = unseen_front contents new_contents _ h.written;
  }

module _ {N M : Type 0} (Calls : N → NodeId → ℕ → ℕ → NodeCall → NodeReply → N → Type 0) (Gives : M → ℕ → M → Type 0) (config : Config) where
  unseen_conversed : (remaining new_remaining contents new_contents : Option (List ℕ)) (nodes new_nodes : N) (moments new_moments : M) (ended : Ended)
      → HasConversed Calls Gives config remaining new_remaining contents new_contents nodes new_nodes moments new_moments ended
      → HasConversed Calls Gives config None None None None nodes new_nodes moments new_moments ended
  unseen_conversed remaining new_remaining contents new_contents nodes new_nodes moments new_moments ended h = record {
    slot = h.slot;
    dc = h.dc;
    tenant = h.tenant;
    tenant_is = h.tenant_is;
    greeted_remaining = None;
    greeted_contents = None;
    kept = h.kept;
    waiting = h.waiting;
    greets = unseen_greeting config.tenants config.data_centres remaining h.greeted_remaining contents h.greeted_contents h.kept h.waiting (Ok (h.slot, h.dc)) h.greets;
    hello = h.hello;
    first = h.first;
    after = h.after;
    serves = unseen_all _ h.greets.came.input (h.hello ∷ []) h.greeted_remaining new_remaining h.greeted_contents new_contents _ _ ended h.serves;
  }

  pub unseen_conversed_in_part : (remaining contents new_contents : Option (List ℕ)) (nodes new_nodes : N) (moments new_moments : M)
      → HasConversedInPart Calls Gives config remaining contents new_contents nodes new_nodes moments new_moments
      → HasConversedInPart Calls Gives config None None None nodes new_nodes moments new_moments
  unseen_conversed_in_part remaining contents new_contents nodes new_nodes moments new_moments (inl early) = inl (inl refl, early.1, early.2)
  unseen_conversed_in_part remaining contents new_contents nodes new_nodes moments new_moments (inr h) = inr (record {
    slot = h.slot;
    dc = h.dc;
    tenant = h.tenant;
    tenant_is = h.tenant_is;
    greeted_remaining = None;
    greeted_contents = None;
    kept = h.kept;
    waiting = h.waiting;
    greets = unseen_greeting config.tenants config.data_centres remaining h.greeted_remaining contents h.greeted_contents h.kept h.waiting (Ok (h.slot, h.dc)) h.greets;
    hello = h.hello;
    first = h.first;
    after = h.after;
    serves = unseen_part _ h.greets.came.input (h.hello ∷ []) h.greeted_remaining h.greeted_contents new_contents _ _ h.serves;
  })

  pub converses_unseen : (remaining new_remaining contents new_contents : Option (List ℕ)) (nodes new_nodes : N) (moments new_moments : M) (result : Result Ended RequestError)
      → IfOk result (HasConversed Calls Gives config remaining new_remaining contents new_contents nodes new_nodes moments new_moments)
      → OnErr result (HasConversedInPart Calls Gives config remaining contents new_contents nodes new_nodes moments new_moments)
      → Converses Calls Gives config nodes new_nodes moments new_moments
  converses_unseen remaining new_remaining contents new_contents nodes new_nodes moments new_moments (Ok ended) whole part =
      inl (ended, unseen_conversed remaining new_remaining contents new_contents nodes new_nodes moments new_moments ended whole)
  converses_unseen remaining new_remaining contents new_contents nodes new_nodes moments new_moments (Err fault) whole part =
      inr (unseen_conversed_in_part remaining contents new_contents nodes new_nodes moments new_moments part)

-- the client was served, and then refused
pub served_then_refused : {N M : Type 0} (Calls : N → NodeId → ℕ → ℕ → NodeCall → NodeReply → N → Type 0) (Gives : M → ℕ → M → Type 0) (config : Config) (fault : Fault)
    (remaining left new_remaining contents replied new_contents : Option (List ℕ)) (nodes new_nodes : N) (moments new_moments : M) (kept : List ℕ) (refused : Result Ended RequestError)
    → HasConversedInPart Calls Gives config remaining contents replied nodes new_nodes moments new_moments
    → IfOk refused (ServesAll (RefusesWith fault) kept [] left new_remaining replied new_contents tt tt)
    → IfOk refused (ConversesOn Calls Gives config fault remaining new_remaining contents new_contents nodes new_nodes moments new_moments)
served_then_refused Calls Gives config fault remaining left new_remaining contents replied new_contents nodes new_nodes moments new_moments kept (Ok ended) part h =
    inr (record { left = left; replied = replied; conversed = part; kept = kept; refused = h })
served_then_refused Calls Gives config fault remaining left new_remaining contents replied new_contents nodes new_nodes moments new_moments kept (Err error) part h = tt

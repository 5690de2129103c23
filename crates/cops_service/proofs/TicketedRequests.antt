-- A request for which a node's tickets were exhausted is told so. So if no reply says it, each call had its turn.
use Rattle.std.proofs.Common.{◌≡◌, ◌⊎◌, ℕ, zero, suc, Bool, true, false, cond, true≢false, List, [], ◌∷◌, inl, inr, refl, sym, ap, subst, ◌∙◌}
use Rattle.std.specs.Prelude.{Option, Some, None}
use Rattle.cops_types.specs.declared.contexts.ReadParts.{ReadParts as Read}
use Rattle.cops_types.specs.declared.faults.Fault.{Fault}
use Rattle.cops_types.specs.declared.faults.Fault.TheVariants.{DependenciesFull, GateSpent, OutOfMemory}
use Rattle.cops_types.specs.TenantConfig.{TenantConfig}
use Rattle.cops_handles.specs.Wire.{wire_of}
use Rattle.cops_model.specs.declared.calls.NodeCall.{NodeCall}
use Rattle.cops_model.specs.declared.calls.NodeId.{NodeId}
use Rattle.cops_model.specs.declared.calls.NodeReply.{NodeReply}
use Rattle.cops_model.specs.declared.calls.NodeReply.TheVariants as node_reply
use Rattle.cops_model.specs.declared.requests.Answer.{Answer}
use Rattle.cops_model.specs.declared.requests.Answer.TheVariants as answer
use Rattle.cops_model.specs.declared.requests.Progress.{Progress}
use Rattle.cops_model.specs.declared.requests.Progress.TheVariants.{Working, Done}
use Rattle.cops_model.specs.Log.{Call, Directed, Ended, LogStep, Next, Replied, Restart}
use Rattle.cops_model.specs.Request.{Action, Fetch, Request, Write, next}
use Rattle.cops_model.specs.Session.{Running, Session, context_created, context_deleted, create_refusal, moment_at, progress, request_of}
use Rattle.cops_session.specs.Tags.{context_tag}
use Rattle.cops_session.specs.Wants.{WantsMemory}
use Rattle.cops_session.proofs.RefusedRequests.{request_refused}
use Rattle.cops_service.specs.Connections.{is_ticket_refusal}
use Rattle.cops_wire.specs.Alone.{TellNone, tells}
use Rattle.cops_wire.specs.declared.messages.Message.{Message}
use Rattle.cops_wire.specs.declared.messages.Message.TheVariants.{CreateContext, Created, DeleteContext, Deleted, Put, GetTrans}
use Rattle.cops_wire.specs.Requests.{Answers, AnswersSo, Backend, Becomes, DoesNext, EndsAfter, HasShown, RequestGoesOn, Runs, UnlessRefused, deletion_refusal, message_of_answer, number_in, reading_refusal, writing_refusal}
use Rattle.cops_wire.specs.Serving.{Serves}

-- what a step shows whose call found no ticket
abbrev unticketed : Progress
unticketed = Done (answer.Refused GateSpent)

abbrev refused_at : ℕ → LogStep
refused_at moment = record { moment = moment; outcome = Replied (node_reply.Refused GateSpent) }

no_values : (fit : Bool) (reads : List Read) → Done (cond fit (answer.Values reads) (answer.Refused DependenciesFull)) ≡ unticketed → ⊥
no_values true reads is = cc
no_values false reads is = cc

-- such a step needs no memory
wants_none : (config : TenantConfig) (request : Request) (log : List LogStep) (moment : ℕ) (action : Action) →
    progress config request log (refused_at moment) ≡ unticketed → WantsMemory config request log (refused_at moment) action → ⊥
wants_none config request log moment (Write key value) shows wants = let clash : Replied (node_reply.Refused GateSpent) ≡ Replied (node_reply.Refused OutOfMemory) = wants in cc
wants_none config request log moment (Fetch keys) shows (inl wants) = let clash : Replied (node_reply.Refused GateSpent) ≡ Replied (node_reply.Refused OutOfMemory) = wants in cc
wants_none config request log moment (Fetch keys) shows (inr round) = elim round.is_read [
  | inl works ↦ let clash : Working ≡ unticketed = sym works.0 ∙ shows in cc
  | inr done ↦ no_values _ done.0 (sym done.1 ∙ shows)
]

-- the second relation has the calls of the first that had their turn
module _ {N M : Type 0} (Calls Turns : N → NodeId → ℕ → ℕ → NodeCall → NodeReply → N → Type 0) (Gives : M → ℕ → M → Type 0) (config : TenantConfig) (slot : ℕ)
    (either : (old new : N) (id : NodeId) (moment : ℕ) (call : NodeCall) (reply : NodeReply) → Calls old id slot moment call reply new →
    Turns old id slot moment call reply new ⊎ (reply ≡ node_reply.Refused GateSpent)) where
  abbrev At : Type 0
  At = Backend Session N M

  shows_so : (session : Session) (running : Running) (moment : ℕ) (directed : Directed) (reply : NodeReply) (shown : Progress) (after : Session) →
      next config (request_of session running) running.log moment ≡ Call directed → reply ≡ node_reply.Refused GateSpent →
      HasShown config session running (record { moment = moment; outcome = Replied reply }) shown after → shown ≡ unticketed
  shows_so session running moment directed reply shown after calls is has =
      let ends = request_refused config (request_of session running) running.log moment moment directed GateSpent calls in
      elim has.shown_is [
        | inl as_defined ↦ as_defined ∙ ap (λ r. progress config (request_of session running) running.log (record { moment = moment; outcome = Replied r })) is ∙ ends
        | inr lack ↦ absurd (wants_none config (request_of session running) running.log moment running.action ends
            (subst (λ r. WantsMemory config (request_of session running) running.log (record { moment = moment; outcome = Replied r }) running.action) is (has.wants lack)))
      ]

  step_so : (session : Session) (running : Running) (moment : ℕ) (old new : N) (shown : Progress) (after : Session) (n : Next Answer) → next config (request_of session running) running.log moment ≡ n →
      DoesNext Calls Gives config slot session running moment old n shown after new → DoesNext Turns Gives config slot session running moment old n shown after new ⊎ (shown ≡ unticketed)
  step_so session running moment old new shown after (Call directed) is (reply, called, has) = elim (either old new directed.node moment directed.call reply called) [
    | inl turned ↦ inl (reply, turned, has)
    | inr spent ↦ inr (shows_so session running moment directed reply shown after is spent has)
  ]
  step_so session running moment old new shown after Restart is does = inl does
  step_so session running moment old new shown after (Ended ended) is does = absurd does

  done_is : (a b : Answer) → Done a ≡ Done b → a ≡ b
  done_is a b e = cc

  ends_so : (steps : ℕ) (old : At) (ended : Answer) (new : At) → EndsAfter Calls Gives config slot steps old ended new →
      EndsAfter Turns Gives config slot steps old ended new ⊎ (ended ≡ answer.Refused GateSpent)
  ends_so zero old ended new s = elim (step_so old.session s.running (moment_at s.given old.session) old.nodes new.nodes (Done ended) new.session _ refl s.does) [
    | inl does ↦ inl (record { running = s.running; runs = s.runs; given = s.given; gives = s.gives; does = does })
    | inr spent ↦ inr (done_is ended (answer.Refused GateSpent) spent)
  ]
  ends_so (suc steps) old ended new (shown, mid, s, goes, rest) = elim (step_so old.session s.running (moment_at s.given old.session) old.nodes mid.nodes shown mid.session _ refl s.does) [
    | inl does ↦ elim (ends_so steps mid ended new rest) [
      | inl later ↦ inl (shown, mid, record { running = s.running; runs = s.runs; given = s.given; gives = s.gives; does = does }, goes, later)
      | inr spent ↦ inr spent
    ]
    | inr spent ↦ absurd (subst RequestGoesOn spent goes)
  ]

  abbrev IsTold : Message → Type 0
  IsTold reply = tells is_ticket_refusal reply ≡ true

  runs_so : (old : At) (context : ℕ) (action : Action) (reply : Message) (new : At) → Runs Calls Gives config slot old context action reply new →
      Runs Turns Gives config slot old context action reply new ⊎ IsTold reply
  runs_so old context action reply new (ended, reply_is, (steps, runs)) = elim (ends_so steps _ ended new runs) [
    | inl turned ↦ inl (ended, reply_is, (steps, turned))
    | inr spent ↦ inr (ap (tells is_ticket_refusal) (reply_is.gives ∙ ap message_of_answer spent))
  ]

  unless_so : {A B : Type 0} (refusal : Option Fault) (old : At) (reply : Message) (new : At) → (A → B ⊎ IsTold reply) →
      UnlessRefused Calls Gives config slot refusal old reply new A → UnlessRefused Turns Gives config slot refusal old reply new B ⊎ IsTold reply
  unless_so (Some fault) old reply new so h = inl h
  unless_so None old reply new so h = so h

  answers_so : (request : Message) (old : At) (reply : Message) (new : At) → AnswersSo Calls Gives config slot old request reply new →
      AnswersSo Turns Gives config slot old request reply new ⊎ IsTold reply
  answers_so CreateContext old reply new h =
      unless_so {A = Becomes Calls Gives config slot old (context_created old.session) (Created (wire_of context_tag old.session.next_context)) reply new} (create_refusal config old.session) old reply new (λ same. inl same) h
  answers_so (DeleteContext handle) old reply new h =
      unless_so {A = Becomes Calls Gives config slot old (context_deleted (number_in handle) old.session) Deleted reply new} (deletion_refusal handle old.session) old reply new (λ same. inl same) h
  answers_so (Put handle key value) old reply new h =
      unless_so (writing_refusal config handle key value old.session) old reply new (runs_so old (number_in handle) (Write key value) reply new) h
  answers_so (GetTrans handle keys) old reply new h =
      unless_so (reading_refusal config handle keys old.session) old reply new (runs_so old (number_in handle) (Fetch keys) reply new) h
  answers_so others old reply new h = absurd h

  pub serves_so : (requests replies : List Message) (old new : At) → Serves (Answers Calls Gives config slot) old requests replies new → TellNone is_ticket_refusal replies →
      Serves (Answers Turns Gives config slot) old requests replies new
  serves_so [] replies old new h spared = h
  serves_so (request ∷ requests) replies old new (first, mid, rest, answers, serves, are) spared =
      let all : TellNone is_ticket_refusal (first ∷ rest) = subst (TellNone is_ticket_refusal) are spared in
      let later = serves_so requests rest mid new serves all.1 in
      elim answers [
        | inl lack ↦ (first, mid, rest, inl lack, later, are)
        | inr so ↦ elim (answers_so request old first mid so) [
          | inl turned ↦ (first, mid, rest, inr turned, later, are)
          | inr told ↦ absurd (true≢false (sym told ∙ all.0))
        ]
      ]

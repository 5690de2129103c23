-- The replies to a tenant's requests are those of nodes that it has to itself, if each call at the nodes is one of those.
use Rattle.std.proofs.Common.{◌≡◌, ◌⊎◌, ℕ, zero, suc, true, ◌<◌, List, [], ◌∷◌, ◌++◌, inl, inr, refl, sym, ap, subst, ◌∙◌, append_assoc, append-nil, true≢false}
use Rattle.std.specs.Prelude.{Bool, Option, Some, None}
use Rattle.std.specs.List.{AllByRecursion}
use Rattle.cops_types.specs.declared.faults.Fault.{Fault}
use Rattle.cops_types.specs.declared.faults.Fault.TheVariants.{OutOfMemory}
use Rattle.cops_types.specs.TenantConfig.{TenantConfig}
use Rattle.cops_model.specs.declared.calls.NodeCall.{NodeCall}
use Rattle.cops_model.specs.declared.calls.NodeId.{NodeId}
use Rattle.cops_model.specs.declared.calls.NodeReply.{NodeReply}
use Rattle.cops_model.specs.declared.calls.NodeReply.TheVariants as node_reply
use Rattle.cops_model.specs.Log.{LogStep, Late, Replied, Next, Call, Restart, Ended}
use Rattle.cops_model.specs.SoloNode.{SoloNode}
use Rattle.cops_model.specs.declared.requests.Answer.{Answer}
use Rattle.cops_model.specs.declared.requests.Answer.TheVariants as answer
use Rattle.cops_model.specs.declared.requests.Progress.{Progress}
use Rattle.cops_model.specs.declared.requests.Progress.TheVariants.{Working, Restarted, Done}
use Rattle.cops_model.specs.Request.{Action, next}
use Rattle.cops_model.specs.Session.{Running, Session, moment_at, progress, request_begun, request_of, session_after}
use Rattle.cops_wire.specs.declared.messages.Message.{Message}
use Rattle.cops_wire.specs.declared.messages.Message.TheVariants.{CreateContext, DeleteContext, Put, GetTrans}
use Rattle.cops_wire.specs.declared.messages.Message.TheVariants as message
use Rattle.cops_wire.specs.Alone.{Alone, AreGiven, TellNone, Given, IsConnectionToldAlone, OwnCall, ReplyAlone, StepAlone, after_call, after_calls, answer_alone, call_alone, does_alone, further, left_after, left_alone, replied, replies_after, replies_alone, runs_on, stepped, steps_alone, tells, unless_told}
use Rattle.cops_wire.specs.Requests.{Answers, AnswersSo, Backend, Becomes, DoesNext, EndsAfter, HasShown, RequestGoesOn, Runs, UnlessRefused, backend, message_of_answer}
use Rattle.cops_wire.specs.Serving.{Serves}
use Rattle.cops_wire.proofs.NextCalls.{next_has}
use Rattle.cops_session.proofs.RefusedRequests.{request_refused}

-- ---- what is given

module _ {M : Type 0} (Gives : M → ℕ → M → Type 0) where
  pub given_after : (a b c : M) (xs ys : List Given) → AreGiven Gives a xs b → AreGiven Gives b ys c → AreGiven Gives a (xs ++ ys) c
  given_after a b c [] ys p q = subst (λ m. AreGiven Gives m ys c) p q
  given_after a b c (x ∷ xs) ys p q = (p.0, p.1, given_after p.0 b c xs ys p.2 q)

pub all_after : (P : Given → Type 0) (xs ys : List Given) → AllByRecursion P xs → AllByRecursion P ys → AllByRecursion P (xs ++ ys)
all_after P [] ys p q = q
all_after P (x ∷ xs) ys p q = (p.0, all_after P xs ys p.1 q)

-- ---- one call

-- The reply is that of the tenant's own node, behind calls between of this kind; or one of the refusals that are left out.
pub record IsOwnTurn {N : Type 0} (config : TenantConfig) (nodes_at : N → List SoloNode) (IsThere : N → Type 0) (Between : List OwnCall → Type 0) (lost : Fault → Bool)
    (id : NodeId) (moment : ℕ) (call : NodeCall) (reply : NodeReply) (old new : N) : Type 0 where
  pub turn : ((fault : Fault) × (lost fault ≡ true) × (reply ≡ node_reply.Refused fault))
      ⊎ ((between : List OwnCall) × Between between × (reply ≡ (call_alone config id moment call (after_calls config between (nodes_at old))).reply)
      × (nodes_at new ≡ after_call config id moment call (after_calls config between (nodes_at old))))
  pub there : IsThere new

-- ---- steps

module _ {N M : Type 0} (Calls : N → NodeId → ℕ → ℕ → NodeCall → NodeReply → N → Type 0) (Gives : M → ℕ → M → Type 0) (config : TenantConfig) (slot : ℕ)
    (nodes_at : N → List SoloNode) (IsThere : N → Type 0) (Between : List OwnCall → Type 0) (none : Between []) (lost : Fault → Bool) (lost_memory : lost OutOfMemory ≡ true)
    (own : (id : NodeId) (moment : ℕ) (call : NodeCall) (reply : NodeReply) (old new : N) → (0 < config.shards → id.shard < config.shards) → IsThere old → Calls old id slot moment call reply new
    → IsOwnTurn config nodes_at IsThere Between lost id moment call reply old new) where
  abbrev At : Type 0
  At = Backend Session N M

  abbrev AreBetween : List Given → Type 0
  AreBetween = AllByRecursion (λ (g : Given). Between g.before)

  -- a refusal that is left out
  abbrev IsLost : Progress → Type 0
  IsLost shown = (fault : Fault) × (lost fault ≡ true) × (shown ≡ Done (answer.Refused fault))

  abbrev as_taken : Progress → Session → N → StepAlone
  as_taken shown after new = record { shown = shown; session = after; nodes = nodes_at new }

  -- the step is the one that is taken alone, unless it is lost
  pub record IsStepAlone (session : Session) (running : Running) (moment : ℕ) (old : N) (n : Next Answer) (shown : Progress) (after : Session) (new : N) : Type 0 where
    pub alone : IsLost shown
        ⊎ ((between : List OwnCall) × Between between × (does_alone config session running moment (after_calls config between (nodes_at old)) n ≡ as_taken shown after new))
    pub there : IsThere new

  shown_alone : (session : Session) (running : Running) (step : LogStep) (shown : Progress) (after : Session) (nodes : List SoloNode) → HasShown config session running step shown after
      → (shown ≡ Done (answer.Refused OutOfMemory)) ⊎ (stepped config session running step nodes ≡ record { shown = shown; session = after; nodes = nodes })
  shown_alone session running step shown after nodes h = by_cause h.shown_is
    where
      by_cause : (shown ≡ progress config (request_of session running) running.log step) ⊎ (shown ≡ Done (answer.Refused OutOfMemory))
          → (shown ≡ Done (answer.Refused OutOfMemory)) ⊎ (stepped config session running step nodes ≡ record { shown = shown; session = after; nodes = nodes })
      by_cause (inl is) =
          inr (ap (λ (p : Progress). let s : StepAlone = record { shown = p; session = session_after session running step p; nodes = nodes } in s) (sym is)
          ∙ ap (λ (a : Session). let s : StepAlone = record { shown = shown; session = a; nodes = nodes } in s) (sym h.after_is))
      by_cause (inr lack) = inl lack

  step_is : (session : Session) (running : Running) (moment : ℕ) (old new : N) (shown : Progress) (after : Session) (n : Next Answer) → next config (request_of session running) running.log moment ≡ n
      → IsThere old → DoesNext Calls Gives config slot session running moment old n shown after new → IsStepAlone session running moment old n shown after new
  step_is session running moment old new shown after (Call directed) is there d =
      let turn = own directed.node moment directed.call d.0 old new (next_has config (request_of session running) running.log moment directed is) there d.1 in
      record { alone = by_turn turn.turn; there = turn.there }
    where
      step : NodeReply → LogStep
      step reply = record { moment = moment; outcome = Replied reply }

      by_turn : ((fault : Fault) × (lost fault ≡ true) × (d.0 ≡ node_reply.Refused fault))
          ⊎ ((between : List OwnCall) × Between between × (d.0 ≡ (call_alone config directed.node moment directed.call (after_calls config between (nodes_at old))).reply)
          × (nodes_at new ≡ after_call config directed.node moment directed.call (after_calls config between (nodes_at old))))
          → IsLost shown ⊎ ((between : List OwnCall) × Between between × (does_alone config session running moment (after_calls config between (nodes_at old)) (Call directed) ≡ as_taken shown after new))
      by_turn (inl lack) = inl (elim d.2.shown_is [
        | inl as_defined ↦ (
          lack.0,
          lack.1,
          as_defined ∙ ap (λ reply. progress config (request_of session running) running.log (step reply)) lack.2
              ∙ request_refused config (request_of session running) running.log moment moment directed lack.0 is,
        )
        | inr refused ↦ (OutOfMemory, lost_memory, refused)
      ])
      by_turn (inr turn) =
          let before : List SoloNode = after_calls config turn.0 (nodes_at old) in
          let shows = shown_alone session running (step d.0) shown after (nodes_at new) d.2 in
          elim shows [
            | inl lack ↦ inl (OutOfMemory, lost_memory, lack)
            | inr same ↦ inr (
              turn.0,
              turn.1,
              ap (λ reply. stepped config session running (step reply) (after_call config directed.node moment directed.call before)) (sym turn.2)
                  ∙ ap (λ nodes. stepped config session running (step d.0) nodes) (sym turn.3) ∙ same,
            )
          ]
  step_is session running moment old new shown after Restart is there d =
      let same : IsThere new = subst IsThere (sym d.0) there in
      let shows = shown_alone session running (record { moment = moment; outcome = Late }) shown after (nodes_at new) d.1 in
      record {
        alone = elim shows [
          | inl lack ↦ inl (OutOfMemory, lost_memory, lack)
          | inr alone ↦ inr ([], none, ap (λ nodes. stepped config session running (record { moment = moment; outcome = Late }) nodes) (sym (ap nodes_at d.0)) ∙ alone)
        ];
        there = same;
      }
  step_is session running moment old new shown after (Ended ended) is there d = absurd d

  -- ---- requests that run

  -- with these the request ends alone as it did, whatever is given later; unless it is lost
  pub record IsEndAlone (old : At) (ended : Answer) (new : At) : Type 0 where
    pub given : List Given
    pub are : AreGiven Gives old.moments given new.moments
    pub between : AreBetween given
    pub alone : ((fault : Fault) × (lost fault ≡ true) × (ended ≡ answer.Refused fault))
        ⊎ ((tail : List Given) → steps_alone config (given ++ tail) old.session (nodes_at old.nodes) ≡ Some (record { answer = ended; after = backend new.session (nodes_at new.nodes) tail }))
    pub there : IsThere new.nodes

  abbrev given_so : ℕ → List OwnCall → Given
  given_so moment before = record { moment = moment; before = before }

  done_is : (a b : Answer) → Done a ≡ Done b → a ≡ b
  done_is a b e = cc

  ends_alone : (steps : ℕ) (old : At) (ended : Answer) (new : At) → IsThere old.nodes → EndsAfter Calls Gives config slot steps old ended new → IsEndAlone old ended new
  ends_alone zero old ended new there s =
      let is = step_is old.session s.running (moment_at s.given old.session) old.nodes new.nodes (Done ended) new.session (next config (request_of old.session s.running) s.running.log (moment_at s.given old.session)) refl there s.does in
      elim is.alone [
        | inl lack ↦ record {
          given = given_so s.given [] ∷ [];
          are = (new.moments, s.gives, refl);
          between = (none, tt);
          alone = inl (lack.0, lack.1, done_is ended (answer.Refused lack.0) lack.2);
          there = is.there;
        }
        | inr alone ↦ record {
          given = given_so s.given alone.0 ∷ [];
          are = (new.moments, s.gives, refl);
          between = (alone.1, tt);
          alone = inr λ tail.
              ap (runs_on config (given_so s.given alone.0) tail old.session (nodes_at old.nodes) (steps_alone config tail)) s.runs
              ∙ ap (λ (step : StepAlone). further step step.shown tail (steps_alone config tail)) alone.2;
          there = is.there;
        }
      ]
  ends_alone (suc steps) old ended new there h =
      let s = h.2 in
      let mid = h.1 in
      let is = step_is old.session s.running (moment_at s.given old.session) old.nodes mid.nodes h.0 mid.session (next config (request_of old.session s.running) s.running.log (moment_at s.given old.session)) refl there s.does in
      let later = ends_alone steps mid ended new is.there h.4 in
      elim is.alone [
        | inl lack ↦ absurd (subst RequestGoesOn lack.2 h.3)
        | inr alone ↦ record {
          given = given_so s.given alone.0 ∷ later.given;
          are = (mid.moments, s.gives, later.are);
          between = (alone.1, later.between);
          alone = elim later.alone [
            | inl lack ↦ inl lack
            | inr rest ↦
                inr λ tail.
                ap (runs_on config (given_so s.given alone.0) (later.given ++ tail) old.session (nodes_at old.nodes) (steps_alone config (later.given ++ tail))) s.runs
                ∙ ap (λ (step : StepAlone). further step step.shown (later.given ++ tail) (steps_alone config (later.given ++ tail))) alone.2
                ∙ goes_further h.0 h.3 mid.session (nodes_at mid.nodes) (later.given ++ tail) ∙ rest tail
          ];
          there = later.there;
        }
      ]
    where
      goes_further : (shown : Progress) → RequestGoesOn shown → (session : Session) (nodes : List SoloNode) (given : List Given)
          → further (record { shown = shown; session = session; nodes = nodes }) shown given (steps_alone config given) ≡ steps_alone config given session nodes
      goes_further Working goes session nodes given = refl
      goes_further (Restarted times) goes session nodes given = refl
      goes_further (Done answer) goes session nodes given = absurd goes

  -- ---- requests

  pub record IsReplyAlone (old : At) (request reply : Message) (new : At) : Type 0 where
    pub given : List Given
    pub are : AreGiven Gives old.moments given new.moments
    pub between : AreBetween given
    pub alone : (tells lost reply ≡ true)
        ⊎ ((tail : List Given) → answer_alone config (backend old.session (nodes_at old.nodes) (given ++ tail)) request ≡ Some (record { reply = reply; after = backend new.session (nodes_at new.nodes) tail }))
    pub there : IsThere new.nodes

  abbrev told_as : Message → At → List Given → Option ReplyAlone
  told_as reply new tail = Some (record { reply = reply; after = backend new.session (nodes_at new.nodes) tail })

  -- a refusal, which changes nothing
  refused_at_once : (request : Message) (fault : Fault) (old : At) (reply : Message) (new : At)
      → ((tail : List Given) → answer_alone config (backend old.session (nodes_at old.nodes) tail) request ≡ Some (record { reply = message.Refused fault; after = backend old.session (nodes_at old.nodes) tail }))
      → IsThere old.nodes → reply ≡ message.Refused fault → new ≡ old → IsReplyAlone old request reply new
  refused_at_once request fault old reply new is there r n = record {
    given = [];
    are = ap (λ (b : At). b.moments) n;
    between = tt;
    alone = inr λ tail.
        is tail ∙ ap (λ r. let a : ReplyAlone = record { reply = r; after = backend old.session (nodes_at old.nodes) tail } in Some a) (sym r)
        ∙ ap (λ (b : At). told_as reply b tail) (sym n);
    there = subst (λ (b : At). IsThere b.nodes) (sym n) there;
  }

  -- a refusal, or an effect at once
  at_once : (request : Message) (refusal : Option Fault) (old : At) (after : Session) (told reply : Message) (new : At)
      → ((tail : List Given) → answer_alone config (backend old.session (nodes_at old.nodes) tail) request
      ≡ unless_told refusal (backend old.session (nodes_at old.nodes) tail) (Some (record { reply = told; after = backend after (nodes_at old.nodes) tail })))
      → IsThere old.nodes → UnlessRefused Calls Gives config slot refusal old reply new (Becomes Calls Gives config slot old after told reply new) → IsReplyAlone old request reply new
  at_once request (Some fault) old after told reply new is there h = refused_at_once request fault old reply new is there h.0 h.1
  at_once request None old after told reply new is there h = record {
    given = [];
    are = ap (λ (b : At). b.moments) h.1;
    between = tt;
    alone = inr λ tail.
        is tail ∙ ap (λ r. let a : ReplyAlone = record { reply = r; after = backend after (nodes_at old.nodes) tail } in Some a) (sym h.0)
        ∙ ap (λ (b : At). told_as reply b tail) (sym h.1);
    there = subst (λ (b : At). IsThere b.nodes) (sym h.1) there;
  }

  -- a refusal, or a request that runs
  by_steps : (request : Message) (refusal : Option Fault) (old : At) (context : ℕ) (action : Action) (reply : Message) (new : At)
      → ((given : List Given) → answer_alone config (backend old.session (nodes_at old.nodes) given) request
      ≡ unless_told refusal (backend old.session (nodes_at old.nodes) given) (replied (steps_alone config given (request_begun context action old.session) (nodes_at old.nodes))))
      → IsThere old.nodes → UnlessRefused Calls Gives config slot refusal old reply new (Runs Calls Gives config slot old context action reply new) → IsReplyAlone old request reply new
  by_steps request (Some fault) old context action reply new is there h = refused_at_once request fault old reply new is there h.0 h.1
  by_steps request None old context action reply new is there h =
      let end = ends_alone h.2.0 (backend (request_begun context action old.session) old.nodes old.moments) h.0 new there h.2.1 in
      record {
        given = end.given;
        are = end.are;
        between = end.between;
        alone = elim end.alone [
          | inl lack ↦ inl (ap (tells lost) (h.1.gives ∙ ap message_of_answer lack.2) ∙ lack.1)
          | inr alone ↦
              inr λ tail.
              is (end.given ++ tail) ∙ ap replied (alone tail)
              ∙ ap (λ r. let a : ReplyAlone = record { reply = r; after = backend new.session (nodes_at new.nodes) tail } in Some a) (sym h.1.gives)
        ];
        there = end.there;
      }

  reply_is : (request : Message) (old : At) (reply : Message) (new : At) → IsThere old.nodes → AnswersSo Calls Gives config slot old request reply new → IsReplyAlone old request reply new
  reply_is CreateContext old reply new there h = at_once CreateContext _ old _ _ reply new (λ tail. refl) there h
  reply_is (DeleteContext handle) old reply new there h = at_once (DeleteContext handle) _ old _ _ reply new (λ tail. refl) there h
  reply_is (Put handle key value) old reply new there h = by_steps (Put handle key value) _ old _ _ reply new (λ tail. refl) there h
  reply_is (GetTrans handle keys) old reply new there h = by_steps (GetTrans handle keys) _ old _ _ reply new (λ tail. refl) there h
  reply_is others old reply new there h = absurd h

  -- ---- connections

  -- whatever is given later
  pub record AreRepliesAlone (requests replies : List Message) (old new : At) : Type 0 where
    pub given : List Given
    pub are : AreGiven Gives old.moments given new.moments
    pub between : AreBetween given
    pub told : (tail : List Given) → replies ≡ replies_alone config requests (backend old.session (nodes_at old.nodes) (given ++ tail))
    pub left : (tail : List Given) → left_alone config requests (backend old.session (nodes_at old.nodes) (given ++ tail)) ≡ Some (backend new.session (nodes_at new.nodes) tail)

  replies_are : (requests replies : List Message) (old new : At) → IsThere old.nodes → Serves (Answers Calls Gives config slot) old requests replies new → TellNone lost replies → AreRepliesAlone requests replies old new
  replies_are [] replies old new there h spared = record {
    given = [];
    are = ap (λ (b : At). b.moments) h.1;
    between = tt;
    told = λ tail. h.0;
    left = λ tail. ap (λ (b : At). let a : Alone = backend b.session (nodes_at b.nodes) tail in Some a) (sym h.1);
  }
  replies_are (request ∷ requests) replies old new there h spared =
      let mid = h.1 in
      let all : TellNone lost (h.0 ∷ h.2) = subst (TellNone lost) h.5 spared in
      let kept : tells lost h.0 ≡ true → ⊥ = λ e. true≢false (sym e ∙ all.0) in
      elim h.3 [
        | inl lack ↦ absurd (kept (ap (tells lost) lack.0 ∙ lost_memory))
        | inr so ↦
            let one = reply_is request old h.0 mid there so in
            let later = replies_are requests h.2 mid new one.there h.4 all.1 in
            let first : (tail : List Given) → answer_alone config (backend old.session (nodes_at old.nodes) ((one.given ++ later.given) ++ tail)) request ≡ told_as h.0 mid (later.given ++ tail) =
            λ tail. ap (λ given. answer_alone config (backend old.session (nodes_at old.nodes) given) request) (append_assoc one.given later.given tail)
            ∙ elim one.alone [ inl lack ↦ absurd (kept lack) | inr alone ↦ alone (later.given ++ tail) ] in
            record {
              given = one.given ++ later.given;
              are = given_after Gives old.moments mid.moments new.moments one.given later.given one.are later.are;
              between = all_after (λ (g : Given). Between g.before) one.given later.given one.between later.between;
              told = λ tail. h.5 ∙ ap (λ l. h.0 ∷ l) (later.told tail) ∙ sym (ap (λ a. replies_after a (replies_alone config requests)) (first tail));
              left = λ tail. ap (λ a. left_after a (left_alone config requests)) (first tail) ∙ later.left tail;
            }
      ]

  -- the replies are those alone, and each call between is of this kind
  pub told_alone : (requests replies : List Message) (old new : At) → IsThere old.nodes → Serves (Answers Calls Gives config slot) old requests replies new → TellNone lost replies
      → (alone : IsConnectionToldAlone Gives config nodes_at old requests replies new) × AreBetween alone.given
  told_alone requests replies old new there served spared =
      let all = replies_are requests replies old new there served spared in (
        record {
          given = all.given;
          are = all.are;
          told = all.told [] ∙ ap (λ l. replies_alone config requests (backend old.session (nodes_at old.nodes) l)) (append-nil all.given);
          left = ap (λ l. left_alone config requests (backend old.session (nodes_at old.nodes) l)) (sym (append-nil all.given)) ∙ all.left [];
        },
        all.between,
      )

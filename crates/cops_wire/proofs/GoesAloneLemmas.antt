-- The replies to a tenant's requests are those at nodes that it has to itself, at which memory may be refused.
use Rattle.std.proofs.Common.{◌≡◌, ◌⊎◌, ℕ, zero, suc, false, ◌<◌, List, [], ◌∷◌, ◌++◌, inl, inr, refl, sym, ap, subst, ◌∙◌, append_assoc, append-nil}
use Rattle.std.specs.Prelude.{IsTrue, Option, Some, None, nat_lt, length, slice_index_or}
use Rattle.std.specs.List.{AllByRecursion}
use Rattle.cops_types.specs.declared.faults.Fault.{Fault}
use Rattle.cops_types.specs.declared.faults.Fault.TheVariants.{OutOfMemory}
use Rattle.cops_types.specs.TenantConfig.{TenantConfig}
use Rattle.cops_model.specs.declared.calls.NodeCall.{NodeCall}
use Rattle.cops_model.specs.declared.calls.NodeId.{NodeId}
use Rattle.cops_model.specs.declared.calls.NodeReply.{NodeReply}
use Rattle.cops_model.specs.declared.calls.NodeReply.TheVariants as node_reply
use Rattle.cops_model.specs.Lacks.{IsLastRead, request_dropped}
use Rattle.cops_model.specs.Log.{LogStep, Late, Replied, Next, Call, Directed, Restart, Ended}
use Rattle.cops_model.specs.Place.{node_number, place_of}
use Rattle.cops_model.specs.SoloNode.{SoloNode, new_node}
use Rattle.cops_model.specs.declared.requests.Answer.{Answer}
use Rattle.cops_model.specs.declared.requests.Answer.TheVariants as answer
use Rattle.cops_model.specs.declared.requests.Progress.{Progress}
use Rattle.cops_model.specs.declared.requests.Progress.TheVariants.{Working, Restarted, Done}
use Rattle.cops_model.specs.Request.{Action, next}
use Rattle.cops_model.specs.Session.{Running, Session, moment_at, progress, request_begun, request_of, session_after}
use Rattle.cops_session.proofs.SparedNodes.{lacks, node_spared}
use Rattle.cops_session.proofs.RefusedRequests.{request_refused}
use Rattle.cops_session.proofs.StoppedRequests.{ended_is, last_read, late_stops, unmoved, unraised}
use Rattle.cops_wire.specs.declared.messages.Message.{Message}
use Rattle.cops_wire.specs.declared.messages.Message.TheVariants.{CreateContext, DeleteContext, Put, GetTrans}
use Rattle.cops_wire.specs.declared.messages.Message.TheVariants as message
use Rattle.cops_wire.specs.Alone.{Alone, AreGiven, Given, OwnCall, ReplyAlone, StepAlone, after_call, after_calls, answer_alone, call_alone, does_alone, further, replied, runs_on, stepped, steps_alone, unless_told}
use Rattle.cops_wire.specs.GoesAlone.{GoesAlone, LacksAlone, RequestStops, StopsAlone, TurnsAlone, cluster_with}
use Rattle.cops_wire.specs.Requests.{Answers, AnswersSo, Backend, Becomes, DoesNext, EndsAfter, HasShown, RequestGoesOn, Runs, UnlessRefused, backend, message_of_answer}
use Rattle.cops_wire.specs.Serving.{Serves}
use Rattle.cops_wire.proofs.AloneLemmas.{all_after, given_after}
use Rattle.cops_wire.proofs.NextCalls.{next_has}

-- ---- one call

-- the audit of the tenant's node has room
abbrev pub has_room_in : TenantConfig → NodeId → List SoloNode → Type 0
has_room_in config id nodes = IsTrue (nat_lt (length (slice_index_or nodes (node_number config.shards id) (new_node config.data_centres)).trail) config.quota.audit)

-- Behind calls between of this kind, the reply is that of the tenant's own node; or memory was refused, for a call that the audit has room
-- for, and nothing changed.
pub record IsOwnCall {N : Type 0} (config : TenantConfig) (nodes_at : N → List SoloNode) (IsThere : N → Type 0) (Between : List OwnCall → Type 0)
    (id : NodeId) (moment : ℕ) (call : NodeCall) (reply : NodeReply) (old new : N) : Type 0 where
  pub between : List OwnCall
  pub kind : Between between
  pub turn : let nodes = after_calls config between (nodes_at old) in
      ((reply ≡ node_reply.Refused OutOfMemory) × has_room_in config id nodes × (nodes_at new ≡ nodes))
      ⊎ ((reply ≡ (call_alone config id moment call nodes).reply) × (nodes_at new ≡ after_call config id moment call nodes))
  pub there : IsThere new

-- nothing changes if a request isn't begun
unchanged : (config : TenantConfig) (request : Message) (old : Alone) → LacksAlone config old request old
unchanged config (Put handle key value) old = inl refl
unchanged config (GetTrans handle keys) old = inl refl
unchanged config others old = refl

module _ {N M : Type 0} (Calls : N → NodeId → ℕ → ℕ → NodeCall → NodeReply → N → Type 0) (Gives : M → ℕ → M → Type 0) (config : TenantConfig) (slot : ℕ)
    (nodes_at : N → List SoloNode) (IsThere : N → Type 0) (Between : List OwnCall → Type 0) (none : Between [])
    (own : (id : NodeId) (moment : ℕ) (call : NodeCall) (reply : NodeReply) (old new : N) → (0 < config.shards → id.shard < config.shards) → IsThere old → Calls old id slot moment call reply new
    → IsOwnCall config nodes_at IsThere Between id moment call reply old new) where
  abbrev At : Type 0
  At = Backend Session N M

  abbrev AreBetween : List Given → Type 0
  AreBetween = AllByRecursion (λ (g : Given). Between g.before)

  abbrev given_so : ℕ → List OwnCall → Given
  given_so moment before = record { moment = moment; before = before }

  abbrev as_taken : Progress → Session → N → StepAlone
  as_taken shown after new = record { shown = shown; session = after; nodes = nodes_at new }

  -- ---- steps

  -- the step is the one that is taken alone, or it stopped
  record IsStep (session : Session) (running : Running) (given : ℕ) (old : N) (n : Next Answer) (shown : Progress) (after : Session) (new : N) : Type 0 where
    between : List OwnCall
    kind : Between between
    alone : (does_alone config session running (moment_at given session) (after_calls config between (nodes_at old)) n ≡ as_taken shown after new)
        ⊎ ((shown ≡ Done (answer.Refused OutOfMemory)) × StopsAlone config (given_so given between) session (nodes_at old) after (nodes_at new))
    there : IsThere new

  stepped_is : (session : Session) (running : Running) (step : LogStep) (shown : Progress) (after : Session) (nodes : List SoloNode) → shown ≡ progress config (request_of session running) running.log step →
      after ≡ session_after session running step shown → stepped config session running step nodes ≡ record { shown = shown; session = after; nodes = nodes }
  stepped_is session running step shown after nodes is after_is =
      ap (λ (p : Progress). let s : StepAlone = record { shown = p; session = session_after session running step p; nodes = nodes } in s) (sym is)
      ∙ ap (λ (a : Session). let s : StepAlone = record { shown = shown; session = a; nodes = nodes } in s) (sym after_is)

  module _ (session : Session) (running : Running) (given : ℕ) (runs : session.running ≡ Some running) (old new : N) (shown : Progress) (after : Session) where
    abbrev at : ℕ
    at = moment_at given session

    abbrev step : NodeReply → LogStep
    step reply = record { moment = at; outcome = Replied reply }

    called : (d : Directed) (reply : NodeReply) → next config (request_of session running) running.log at ≡ Call d → HasShown config session running (step reply) shown after →
        IsOwnCall config nodes_at IsThere Between d.node at d.call reply old new → IsStep session running given old (Call d) shown after new
    called d reply calls has turn = record { between = turn.between; kind = turn.kind; alone = by_turn turn.turn; there = turn.there }
      where
        nodes : List SoloNode
        nodes = after_calls config turn.between (nodes_at old)

        Stopped : Type 0
        Stopped = (shown ≡ Done (answer.Refused OutOfMemory)) × StopsAlone config (given_so given turn.between) session (nodes_at old) after (nodes_at new)

        Alone_or_stopped : Type 0
        Alone_or_stopped = (does_alone config session running at nodes (Call d) ≡ as_taken shown after new) ⊎ Stopped

        left_is : shown ≡ Done (answer.Refused OutOfMemory) → session_after session running (step reply) (Done (answer.Refused OutOfMemory)) ≡ request_dropped at session → after ≡ request_dropped at session
        left_is lack is = has.after_is ∙ ap (session_after session running (step reply)) lack ∙ is

        refused : reply ≡ node_reply.Refused OutOfMemory → has_room_in config d.node nodes → nodes_at new ≡ nodes → Stopped
        refused is room stays = (
          lack,
          record {
            running = running;
            directed = d;
            runs = runs;
            calls = calls;
            left = inl (room, λ i. cluster_with (left_is lack (ended_is config session running at (step reply) (unmoved config session running at reply is)) i) (stays i));
          },
        )
          where
            lack : shown ≡ Done (answer.Refused OutOfMemory)
            lack = elim has.shown_is [
              | inl as_defined ↦
                  as_defined ∙ ap (λ r. progress config (request_of session running) running.log (step r)) is
                  ∙ request_refused config (request_of session running) running.log at at d OutOfMemory calls
              | inr lacking ↦ lacking
            ]

        dropped : shown ≡ Done (answer.Refused OutOfMemory) → reply ≡ (call_alone config d.node at d.call nodes).reply → nodes_at new ≡ after_call config d.node at d.call nodes → Stopped
        dropped lack turned changed =
            let spared : lacks reply ≡ false = ap lacks turned ∙ node_spared (place_of config d.node) at d.call (slice_index_or nodes (node_number config.shards d.node) (new_node config.data_centres)) in
            let read = last_read config session running at running.action reply refl spared (has.wants lack) in (
              lack,
              record {
                running = running;
                directed = d;
                runs = runs;
                calls = calls;
                left = inr (
                  subst (λ r. IsLastRead config session running (step r)) turned read,
                  λ i. cluster_with (left_is lack (ended_is config session running at (step reply) (unraised config session running at read.0 reply read.1 read.2)) i) (changed i),
                );
              },
            )

        by_turn : ((reply ≡ node_reply.Refused OutOfMemory) × has_room_in config d.node nodes × (nodes_at new ≡ nodes))
            ⊎ ((reply ≡ (call_alone config d.node at d.call nodes).reply) × (nodes_at new ≡ after_call config d.node at d.call nodes)) → Alone_or_stopped
        by_turn (inl (is, room, stays)) = inr (refused is room stays)
        by_turn (inr (turned, changed)) = elim has.shown_is [
          | inl as_defined ↦ inl (
              ap (λ r. stepped config session running (step r) (after_call config d.node at d.call nodes)) (sym turned)
              ∙ ap (λ ns. stepped config session running (step reply) ns) (sym changed) ∙ stepped_is session running (step reply) shown after (nodes_at new) as_defined has.after_is
              )
          | inr lack ↦ inr (dropped lack turned changed)
        ]

    late : new ≡ old → HasShown config session running (record { moment = at; outcome = Late }) shown after → IsThere old → IsStep session running given old Restart shown after new
    late stays has there = record {
      between = [];
      kind = none;
      alone = elim has.shown_is [
        | inl as_defined ↦ inl (
            ap (λ ns. stepped config session running (record { moment = at; outcome = Late }) ns) (sym (ap nodes_at stays))
            ∙ stepped_is session running (record { moment = at; outcome = Late }) shown after (nodes_at new) as_defined has.after_is
            )
        | inr lack ↦ absurd (late_stops config session running at running.action (has.wants lack))
      ];
      there = subst IsThere (sym stays) there;
    }

    step_is : (n : Next Answer) → next config (request_of session running) running.log at ≡ n → IsThere old → DoesNext Calls Gives config slot session running at old n shown after new → IsStep session running given old n shown after new
    step_is (Call d) is there does =
        called d does.0 is does.2 (own d.node at d.call does.0 old new (next_has config (request_of session running) running.log at d is) there does.1)
    step_is Restart is there does = late does.0 does.1 there
    step_is (Ended ended) is there does = absurd does

  -- ---- requests that run

  record IsEnd (old : At) (ended : Answer) (new : At) : Type 0 where
    given : List Given
    are : AreGiven Gives old.moments given new.moments
    between : AreBetween given
    alone : ((tail : List Given) → steps_alone config (given ++ tail) old.session (nodes_at old.nodes) ≡ Some (record { answer = ended; after = backend new.session (nodes_at new.nodes) tail }))
        ⊎ ((ended ≡ answer.Refused OutOfMemory) × ((tail : List Given) → RequestStops config (given ++ tail) old.session (nodes_at old.nodes) (backend new.session (nodes_at new.nodes) tail)))
    there : IsThere new.nodes

  done_is : (a b : Answer) → Done a ≡ Done b → a ≡ b
  done_is a b e = cc

  goes_further : (shown : Progress) → RequestGoesOn shown → (session : Session) (nodes : List SoloNode) (given : List Given)
      → further (record { shown = shown; session = session; nodes = nodes }) shown given (steps_alone config given) ≡ steps_alone config given session nodes
  goes_further Working goes session nodes given = refl
  goes_further (Restarted times) goes session nodes given = refl
  goes_further (Done answer) goes session nodes given = absurd goes

  ends : (steps : ℕ) (old : At) (ended : Answer) (new : At) → IsThere old.nodes → EndsAfter Calls Gives config slot steps old ended new → IsEnd old ended new
  ends zero old ended new there s =
      let is = step_is old.session s.running s.given s.runs old.nodes new.nodes (Done ended) new.session (next config (request_of old.session s.running) s.running.log (moment_at s.given old.session)) refl there s.does in
      record {
        given = given_so s.given is.between ∷ [];
        are = (new.moments, s.gives, refl);
        between = (is.kind, tt);
        alone = elim is.alone [
          | inl alone ↦ inl λ tail.
              ap (runs_on config (given_so s.given is.between) tail old.session (nodes_at old.nodes) (steps_alone config tail)) s.runs
              ∙ ap (λ (step : StepAlone). further step step.shown tail (steps_alone config tail)) alone
          | inr (lack, stops) ↦ inr (done_is ended (answer.Refused OutOfMemory) lack, λ tail. inl (stops, refl))
        ];
        there = is.there;
      }
  ends (suc steps) old ended new there (shown, mid, s, goes, rest) =
      let is = step_is old.session s.running s.given s.runs old.nodes mid.nodes shown mid.session (next config (request_of old.session s.running) s.running.log (moment_at s.given old.session)) refl there s.does in
      let later = ends steps mid ended new is.there rest in
      record {
        given = given_so s.given is.between ∷ later.given;
        are = (mid.moments, s.gives, later.are);
        between = (is.kind, later.between);
        alone = elim is.alone [
          | inl alone ↦ elim later.alone [
            | inl ending ↦ inl λ tail.
                ap (runs_on config (given_so s.given is.between) (later.given ++ tail) old.session (nodes_at old.nodes) (steps_alone config (later.given ++ tail))) s.runs
                ∙ ap (λ (step : StepAlone). further step step.shown (later.given ++ tail) (steps_alone config (later.given ++ tail))) alone
                ∙ goes_further shown goes mid.session (nodes_at mid.nodes) (later.given ++ tail) ∙ ending tail
            | inr (lack, stops) ↦ inr (
              lack,
              λ tail. inr (
                s.running,
                s.runs,
                subst (λ (step : StepAlone). RequestGoesOn step.shown × RequestStops config (later.given ++ tail) step.session step.nodes (backend new.session (nodes_at new.nodes) tail)) (sym alone) (goes, stops tail),
              ),
            )
          ]
          | inr (lack, stops) ↦ absurd (subst RequestGoesOn lack goes)
        ];
        there = later.there;
      }

  -- ---- requests

  record IsReply (old : At) (request reply : Message) (new : At) : Type 0 where
    given : List Given
    are : AreGiven Gives old.moments given new.moments
    between : AreBetween given
    alone : (tail : List Given) → TurnsAlone config (backend old.session (nodes_at old.nodes) (given ++ tail)) request reply (backend new.session (nodes_at new.nodes) tail)
    there : IsThere new.nodes

  abbrev alone_at : At → List Given → Alone
  alone_at b tail = backend b.session (nodes_at b.nodes) tail

  abbrev told_as : Message → At → List Given → Option ReplyAlone
  told_as reply new tail = Some (record { reply = reply; after = alone_at new tail })

  -- at once: no step was taken
  settled : (request : Message) (old : At) (reply : Message) (new after : At) → ((tail : List Given) → TurnsAlone config (alone_at old tail) request reply (alone_at after tail)) → IsThere old.nodes →
      after.nodes ≡ old.nodes → after.moments ≡ old.moments → new ≡ after → IsReply old request reply new
  settled request old reply new after turns there nodes moments is = record {
    given = [];
    are = ap (λ (b : At). b.moments) is ∙ moments;
    between = tt;
    alone = λ tail. subst (λ (b : At). TurnsAlone config (alone_at old tail) request reply (alone_at b tail)) (sym is) (turns tail);
    there = subst (λ (b : At). IsThere b.nodes) (sym is) (subst IsThere (sym nodes) there);
  }

  told_so : (request : Message) (told reply : Message) (old : Alone) (after : Alone) → answer_alone config old request ≡ Some (record { reply = told; after = after }) → reply ≡ told → TurnsAlone config old request reply after
  told_so request told reply old after is same = inl (is ∙ ap (λ r. let a : ReplyAlone = record { reply = r; after = after } in Some a) (sym same))

  -- a refusal, or an effect at once
  at_once : (request : Message) (refusal : Option Fault) (old : At) (after : Session) (told reply : Message) (new : At)
      → ((tail : List Given) → answer_alone config (alone_at old tail) request ≡ unless_told refusal (alone_at old tail) (Some (record { reply = told; after = backend after (nodes_at old.nodes) tail })))
      → IsThere old.nodes → UnlessRefused Calls Gives config slot refusal old reply new (Becomes Calls Gives config slot old after told reply new) → IsReply old request reply new
  at_once request (Some fault) old after told reply new is there h = settled request old reply new old (λ tail. told_so request (message.Refused fault) reply (alone_at old tail) (alone_at old tail) (is tail) h.0) there refl refl h.1
  at_once request None old after told reply new is there h =
      settled request old reply new (backend after old.nodes old.moments) (λ tail. told_so request told reply (alone_at old tail) (backend after (nodes_at old.nodes) tail) (is tail) h.0) there refl refl h.1

  -- a refusal, or a request that runs
  by_steps : (request : Message) (refusal : Option Fault) (old : At) (context : ℕ) (action : Action) (reply : Message) (new : At)
      → ((given : List Given) → answer_alone config (alone_at old given) request
      ≡ unless_told refusal (alone_at old given) (replied (steps_alone config given (request_begun context action old.session) (nodes_at old.nodes))))
      → ((given : List Given) (after : Alone) → RequestStops config given (request_begun context action old.session) (nodes_at old.nodes) after → LacksAlone config (alone_at old given) request after)
      → IsThere old.nodes → UnlessRefused Calls Gives config slot refusal old reply new (Runs Calls Gives config slot old context action reply new) → IsReply old request reply new
  by_steps request (Some fault) old context action reply new is stopped there h =
      settled request old reply new old (λ tail. told_so request (message.Refused fault) reply (alone_at old tail) (alone_at old tail) (is tail) h.0) there refl refl h.1
  by_steps request None old context action reply new is stopped there (ended, reply_is, (steps, goes)) =
      let end = ends steps (backend (request_begun context action old.session) old.nodes old.moments) ended new there goes in
      record {
        given = end.given;
        are = end.are;
        between = end.between;
        alone = elim end.alone [
          | inl alone ↦ λ tail. told_so request (message_of_answer ended) reply (alone_at old (end.given ++ tail)) (alone_at new tail) (is (end.given ++ tail) ∙ ap replied (alone tail)) reply_is.gives
          | inr (lack, stops) ↦ λ tail. inr (reply_is.gives ∙ ap message_of_answer lack, stopped (end.given ++ tail) (alone_at new tail) (stops tail))
        ];
        there = end.there;
      }

  reply_so : (request : Message) (old : At) (reply : Message) (new : At) → IsThere old.nodes → AnswersSo Calls Gives config slot old request reply new → IsReply old request reply new
  reply_so CreateContext old reply new there h = at_once CreateContext _ old _ _ reply new (λ tail. refl) there h
  reply_so (DeleteContext handle) old reply new there h = at_once (DeleteContext handle) _ old _ _ reply new (λ tail. refl) there h
  reply_so (Put handle key value) old reply new there h = by_steps (Put handle key value) _ old _ _ reply new (λ tail. refl) (λ given after stops. inr stops) there h
  reply_so (GetTrans handle keys) old reply new there h = by_steps (GetTrans handle keys) _ old _ _ reply new (λ tail. refl) (λ given after stops. inr stops) there h
  reply_so others old reply new there h = absurd h

  reply_is : (request : Message) (old : At) (reply : Message) (new : At) → IsThere old.nodes → Answers Calls Gives config slot old request reply new → IsReply old request reply new
  reply_is request old reply new there (inl (lack, stays)) = settled request old reply new old (λ tail. inr (lack, unchanged config request (alone_at old tail))) there refl refl stays
  reply_is request old reply new there (inr so) = reply_so request old reply new there so

  -- ---- connections

  record AreReplies (requests replies : List Message) (old new : At) : Type 0 where
    given : List Given
    are : AreGiven Gives old.moments given new.moments
    between : AreBetween given
    goes : (tail : List Given) → Serves (TurnsAlone config) (alone_at old (given ++ tail)) requests replies (alone_at new tail)

  replies_are : (requests replies : List Message) (old new : At) → IsThere old.nodes → Serves (Answers Calls Gives config slot) old requests replies new → AreReplies requests replies old new
  replies_are [] replies old new there (no_reply, stays) = record {
    given = [];
    are = ap (λ (b : At). b.moments) stays;
    between = tt;
    goes = λ tail. (no_reply, ap (λ (b : At). alone_at b tail) stays);
  }
  replies_are (request ∷ requests) replies old new there (first, mid, rest, answers, serves, are) =
      let one = reply_is request old first mid there answers in
      let later = replies_are requests rest mid new one.there serves in
      record {
        given = one.given ++ later.given;
        are = given_after Gives old.moments mid.moments new.moments one.given later.given one.are later.are;
        between = all_after (λ (g : Given). Between g.before) one.given later.given one.between later.between;
        goes = λ tail. (
          first,
          alone_at mid (later.given ++ tail),
          rest,
          subst (λ given. TurnsAlone config (alone_at old given) request first (alone_at mid (later.given ++ tail))) (sym (append_assoc one.given later.given tail)) (one.alone (later.given ++ tail)),
          later.goes tail,
          are,
        );
      }

  -- the replies are those alone, and each call between is of this kind
  pub goes_alone : (requests replies : List Message) (old new : At) → IsThere old.nodes → Serves (Answers Calls Gives config slot) old requests replies new
      → (alone : GoesAlone Gives config nodes_at old requests replies new) × AreBetween alone.given
  goes_alone requests replies old new there served =
      let all = replies_are requests replies old new there served in (
        record {
          given = all.given;
          are = all.are;
          goes = subst (λ given. Serves (TurnsAlone config) (alone_at old given) requests replies (alone_at new [])) (append-nil all.given) (all.goes []);
        },
        all.between,
      )

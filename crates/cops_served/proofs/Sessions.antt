-- A connection that was served, as the commands of its session.
use Rattle.std.proofs.Common.{◌≡◌, ◌⊎◌, ℕ, zero, suc, Bool, true, false, cond, not, List, [], ◌∷◌, ◌++◌, length, inl, inr, refl, sym, ap, subst, ◌∙◌, append-nil, true≢false}
use Rattle.std.specs.Prelude.{Option, Some, None, Result, Ok, Err, nat_le, nat_lt}
use Rattle.std.specs.List.{AllByRecursion, list_all}
use Rattle.std.specs.Option.{option_or}
use Rattle.std.proofs.lemmas.Bool.{leb-false, lt-ltb}
use Rattle.std.proofs.lemmas.Grind.{flat_map-append}
use Rattle.cops_types.proofs.Elements.{Every-append}
use Rattle.cops_types.specs.declared.faults.Fault.{Fault}
use Rattle.cops_types.specs.declared.request_errors.RequestError.{RequestError}
use Rattle.cops_types.specs.declared.faults.Fault.TheVariants.{OutOfMemory, Syntax, BadKey, ValueTooLong}
use Rattle.cops_types.specs.Key.{is_key}
use Rattle.cops_types.specs.Search.{first_refusal}
use Rattle.cops_types.specs.TenantConfig.{TenantConfig}
use Rattle.cops_types.specs.Value.{is_too_long, is_value}
use Rattle.cops_model.specs.declared.calls.NodeCall.{NodeCall}
use Rattle.cops_model.specs.declared.calls.NodeId.{NodeId}
use Rattle.cops_model.specs.declared.calls.NodeReply.{NodeReply}
use Rattle.cops_model.specs.declared.calls.NodeReply.TheVariants as node_reply
use Rattle.cops_model.specs.Lacks.{EndsRound, request_dropped}
use Rattle.cops_model.specs.Log.{LogStep, Late, Replied, Next, Call, Restart, Ended}
use Rattle.cops_model.specs.Cluster.{Actor, OfSession, reply_of_answer, reply_of_progress}
use Rattle.cops_model.specs.declared.replies.Reply.{Reply}
use Rattle.cops_model.specs.declared.replies.Reply.TheVariants as reply
use Rattle.cops_model.specs.declared.requests.Answer.{Answer}
use Rattle.cops_model.specs.declared.requests.Answer.TheVariants as answer
use Rattle.cops_model.specs.declared.requests.Progress.{Progress}
use Rattle.cops_model.specs.declared.requests.Progress.TheVariants.{Working, Restarted, Done}
use Rattle.cops_model.specs.Request.{Action, Write, Fetch, Request, next}
use Rattle.cops_model.specs.Session.{Running, Session, context_created, context_deleted, context_refusal, create_refusal, get_refusal, has_restarted, moment_after, moment_at, new_session, progress, raised, request_begun, request_of, session_after, session_put_refusal}
use Rattle.cops_causal.proofs.Moves.{flipped, head_passes}
use Rattle.cops_session.proofs.ContextRows.{context_extended-nothing}
use Rattle.cops_session.proofs.RefusedRequests.{request_refused}
use Rattle.cops_session.specs.Wants.{WantsMemory}
use Rattle.cops_wire.specs.declared.messages.Message.{Message}
use Rattle.cops_wire.specs.Greeting.{greeted, greeted_place}
use Rattle.cops_types.specs.Slots.{slot_of_token}
use Rattle.cops_types.specs.declared.configs.Tenant.{Tenant}
use Rattle.cops_wire.specs.declared.messages.Message.TheVariants.{Hello, CreateContext, DeleteContext, Put, GetTrans, Created, Deleted, Refused}
use Rattle.cops_handles.specs.Wire.{wire_of}
use Rattle.cops_session.specs.Tags.{context_tag}
use Rattle.cops_wire.specs.Requests.{Answers, AnswersSo, Backend, Becomes, DoesNext, EndsAfter, HasShown, RequestGoesOn, Runs, Steps, UnlessRefused, backend, deletion_refusal, message_of_answer, naming_refusal, number_in, reading_refusal, writing_refusal}
use Rattle.cops_wire.specs.Serving.{Serves}
use Rattle.cops_history.specs.Turns.{Turn}
use Rattle.cops_history.specs.Commands as commands
use Rattle.cops_history.specs.Commands.{Command, Does, turn_made_by}
use Rattle.cops_history.specs.History.{Told, Behaves}
use Rattle.cops_served.specs.Conversations.{AnswersEach, AnswersOne, IsConversationOf, MakesTurns, command_asked, is_step, message_of_reply, messages_told, turns_of_told}

-- ---- greetings

place_there : (found : Option ℕ) (place : ℕ) (exists : Bool) (slot dc : ℕ) → Ok (slot, dc) ≡ greeted_place found place exists → (dc ≡ place) × (exists ≡ true)
place_there None place exists slot dc e = cc
place_there (Some s) place true slot dc e = (let same : dc ≡ place = ap (λ r. place_in r place) e in same, refl)
  where
    place_in : Result (ℕ × ℕ) RequestError → ℕ → ℕ
    place_in (Ok p) other = p.1
    place_in (Err error) other = other
place_there (Some s) place false slot dc e = cc

-- a client that was greeted is at a data centre that exists
pub greeted_there : (tenants : List Tenant) (dcs : ℕ) (message : Option Message) (slot dc : ℕ) → Ok (slot, dc) ≡ greeted tenants dcs message → nat_lt dc dcs ≡ true
greeted_there tenants dcs (Some (Hello token place)) slot dc e =
    let there = place_there (slot_of_token tenants token) place (nat_lt place dcs) slot dc e in
    ap (λ n. nat_lt n dcs) there.0 ∙ there.1
greeted_there tenants dcs others slot dc e = cc

-- ---- the commands of one actor

abbrev Chain : TenantConfig → Option Actor → List Told → Option Actor → Type 0
Chain config old [] new = new ≡ old
Chain config old (t ∷ did) new = (mid : Option Actor) × Does config old t.command t.reply mid × Chain config mid did new

chain_behaves : (config : TenantConfig) (old new : Option Actor) (did : List Told) → Chain config old did new → Behaves config old did
chain_behaves config old new [] chain = tt
chain_behaves config old new (t ∷ did) chain = (chain.0, chain.1, chain_behaves config chain.0 new did chain.2)

chains : (config : TenantConfig) (old mid new : Option Actor) (did later : List Told) → Chain config old did mid → Chain config mid later new → Chain config old (did ++ later) new
chains config old mid new [] later first second = subst (λ o. Chain config o later new) first second
chains config old mid new (t ∷ did) later first second = (first.0, first.1, chains config first.0 mid new did later first.2 second)

turns_both : {N : Type 0} (Calls : N → NodeId → ℕ → ℕ → NodeCall → NodeReply → N → Type 0) (slot : ℕ) (turns later : List Turn) (old mid new : N) → MakesTurns Calls slot old turns mid → MakesTurns Calls slot mid later new → MakesTurns Calls slot old (turns ++ later) new
turns_both Calls slot [] later old mid new first second = subst (λ n. MakesTurns Calls slot n later new) first second
turns_both Calls slot (t ∷ turns) later old mid new first second = (first.0, first.1, turns_both Calls slot turns later first.0 mid new first.2 second)

-- what two lists of commands made
made_both : {N : Type 0} (Calls : N → NodeId → ℕ → ℕ → NodeCall → NodeReply → N → Type 0) (slot : ℕ) (did later : List Told) (old mid new : N) → MakesTurns Calls slot old (turns_of_told did) mid → MakesTurns Calls slot mid (turns_of_told later) new → MakesTurns Calls slot old (turns_of_told (did ++ later)) new
made_both Calls slot did later old mid new first second =
    subst (λ ts. MakesTurns Calls slot old ts new) (sym (flat_map-append (λ (t : Told). turn_made_by t.command) did later)) (turns_both Calls slot (turns_of_told did) (turns_of_told later) old mid new first second)

-- ---- refusals

or_first : {A : Type 0} (a b : Option A) → option_or a b ≡ None → (a ≡ None) × (b ≡ None)
or_first None b e = (refl, e)
or_first (Some x) b e = cc

short : (value : List ℕ) → is_too_long value ≡ false → is_value value ≡ true
short value e = elim (nat_le (length value) 4096) as (λ b. nat_le (length value) 4096 ≡ b → b ≡ true) [
  | true ↦ λ is. refl
  | false ↦ λ is. let t : is_too_long value ≡ true = lt-ltb 4096 (length value) (leb-false (length value) 4096 is) in cc
] refl

-- the message of an answer
message_of_ended : (ended : Answer) → message_of_reply (reply_of_answer ended) ≡ message_of_answer ended ∷ []
message_of_ended (answer.Stored pair) = refl
message_of_ended (answer.Values reads) = refl
message_of_ended (answer.Refused fault) = refl

no_message : (shown : Progress) → RequestGoesOn shown → message_of_reply (reply_of_progress shown) ≡ []
no_message Working on = refl
no_message (Restarted times) on = refl
no_message (Done ended) on = absurd on

-- ---- memory that was refused

replied_is : (one other : NodeReply) → Replied one ≡ Replied other → one ≡ other
replied_is one other e = cc

-- a late step needs no memory
late_wants : (config : TenantConfig) (request : Request) (log : List LogStep) (moment : ℕ) (action : Action) → WantsMemory config request log (record { moment = moment; outcome = Late }) action → ⊥
late_wants config request log moment (Write key value) wanted = let never : Late ≡ Replied (node_reply.Refused OutOfMemory) = wanted in cc
late_wants config request log moment (Fetch keys) (inl wanted) = let never : Late ≡ Replied (node_reply.Refused OutOfMemory) = wanted in cc
late_wants config request log moment (Fetch keys) (inr ends) = true≢false ends.same_attempt

-- why a step that a node replied to ended so
wanted_by : (config : TenantConfig) (request : Request) (log : List LogStep) (moment : ℕ) (node : NodeReply) (action : Action) → WantsMemory config request log (record { moment = moment; outcome = Replied node }) action →
    (node ≡ node_reply.Refused OutOfMemory) ⊎ ((keys : List (List ℕ)) × (action ≡ Fetch keys) × EndsRound config request keys log (record { moment = moment; outcome = Replied node }))
wanted_by config request log moment node (Write key value) wanted = inl (replied_is node (node_reply.Refused OutOfMemory) wanted)
wanted_by config request log moment node (Fetch keys) (inl wanted) = inl (replied_is node (node_reply.Refused OutOfMemory) wanted)
wanted_by config request log moment node (Fetch keys) (inr ends) = inr (keys, refl, ends)

-- a session whose request ended so at the last read of a round
dropped : (config : TenantConfig) (s : Session) (running : Running) (moment : ℕ) (node : NodeReply) (keys : List (List ℕ)) → running.action ≡ Fetch keys →
    EndsRound config (request_of s running) keys running.log (record { moment = moment; outcome = Replied node }) →
    session_after s running (record { moment = moment; outcome = Replied node }) (Done (answer.Refused OutOfMemory)) ≡ request_dropped moment s
dropped config s running moment node keys is ends = λ i. record s { moment = same i; contexts = context_extended-nothing running.context s.contexts i; running = None }
  where
    step : LogStep
    step = record { moment = moment; outcome = Replied node }

    same : moment_after running step ≡ moment
    same = ap (λ a. cond (has_restarted a running.log step) (raised moment (Replied node)) moment) is ∙ ap (λ b. cond b (raised moment (Replied node)) moment) ends.same_attempt

module _ {N M : Type 0} (Calls : N → NodeId → ℕ → ℕ → NodeCall → NodeReply → N → Type 0) (Gives : M → ℕ → M → Type 0) (config : TenantConfig) (slot : ℕ) where
  abbrev At : Type 0
  At = Backend Session N M

  -- the commands that led from one session to another, and the calls that they made
  record Led (old new : At) : Type 0 where
    pub did : List Told
    pub chain : Chain config (Some (OfSession old.session)) did (Some (OfSession new.session))
    pub made : MakesTurns Calls slot old.nodes (turns_of_told did) new.nodes

  abbrev stays : (at : At) → Led at at
  stays at = record { did = []; chain = refl; made = refl }

  abbrev both : (old mid new : At) → Led old mid → Led mid new → Led old new
  both old mid new first second = record {
    did = first.did ++ second.did;
    chain = chains config (Some (OfSession old.session)) (Some (OfSession mid.session)) (Some (OfSession new.session)) first.did second.did first.chain second.chain;
    made = made_both Calls slot first.did second.did old.nodes mid.nodes new.nodes first.made second.made;
  }

  messages_both : (did later : List Told) → messages_told (did ++ later) ≡ messages_told did ++ messages_told later
  messages_both did later = flat_map-append (λ (t : Told). message_of_reply t.reply) did later

  -- ---- a step

  abbrev AreSteps : List Told → Type 0
  AreSteps did = AllByRecursion (λ (t : Told). is_step t.command ≡ true) did

  -- one command led there, which is a step, and its reply is what the step showed
  abbrev IsStep : At → Progress → At → Type 0
  IsStep old shown new = (led : Led old new) × (messages_told led.did ≡ message_of_reply (reply_of_progress shown)) × AreSteps led.did

  one_command : (old new : At) (command : Command) (shown : Progress) → is_step command ≡ true → Does config (Some (OfSession old.session)) command (reply_of_progress shown) (Some (OfSession new.session))
      → MakesTurns Calls slot old.nodes (turn_made_by command) new.nodes → IsStep old shown new
  one_command old new command shown is does made = (
    record {
      did = record { command = command; reply = reply_of_progress shown } ∷ [];
      chain = (Some (OfSession new.session), does, refl);
      made = subst (λ ts. MakesTurns Calls slot old.nodes ts new.nodes) (sym (append-nil (turn_made_by command))) made;
    },
    append-nil (message_of_reply (reply_of_progress shown)),
    (is, tt),
  )

  -- a step that shows what the definition's does
  as_defined : (old new : At) (command : Command) (shown told : Progress) (running : Running) (step : LogStep) → is_step command ≡ true → shown ≡ progress config (request_of old.session running) running.log step
      → new.session ≡ session_after old.session running step shown → told ≡ progress config (request_of old.session running) running.log step
      → Does config (Some (OfSession old.session)) command (reply_of_progress told) (Some (OfSession (session_after old.session running step told)))
      → MakesTurns Calls slot old.nodes (turn_made_by command) new.nodes → IsStep old shown new
  as_defined old new command shown told running step is shown_is after_is told_is does made =
      let same : told ≡ shown = told_is ∙ sym shown_is in
      let after : session_after old.session running step told ≡ new.session = ap (session_after old.session running step) same ∙ sym after_is in
      one_command old new command shown is
      (subst (λ a. Does config (Some (OfSession old.session)) command (reply_of_progress shown) (Some (OfSession a))) after
      (subst (λ p. Does config (Some (OfSession old.session)) command (reply_of_progress p) (Some (OfSession (session_after old.session running step told)))) same does)) made

  -- a step with a call
  step_calls : (old new : At) (running : Running) (given : ℕ) (shown : Progress) (node : NodeReply) (id : NodeId) (call : NodeCall) → old.session.running ≡ Some running →
      next config (request_of old.session running) running.log (moment_at given old.session) ≡ Call (record { node = id; call = call }) →
      HasShown config old.session running (record { moment = moment_at given old.session; outcome = Replied node }) shown new.session →
      Calls old.nodes id slot (moment_at given old.session) call node new.nodes → IsStep old shown new
  step_calls old new running given shown node id call runs is has called = by has.shown_is
    where
      at : ℕ
      at = moment_at given old.session

      t : Turn
      t = record { node = id; moment = moment_at given old.session; call = call; reply = node }

      step : LogStep
      step = record { moment = moment_at given old.session; outcome = Replied node }

      made : MakesTurns Calls slot old.nodes (record { node = id; moment = moment_at given old.session; call = call; reply = node } ∷ []) new.nodes
      made = (new.nodes, called, refl)

      defined : shown ≡ progress config (request_of old.session running) running.log (record { moment = moment_at given old.session; outcome = Replied node }) → IsStep old shown new
      defined shown_is =
          as_defined old new (commands.Steps given t) shown (progress config (request_of old.session running) running.log step) running step refl shown_is has.after_is refl
          (old.session, running, refl, runs, is, refl, (refl, refl)) made

      by_want : shown ≡ Done (answer.Refused OutOfMemory) →
          (node ≡ node_reply.Refused OutOfMemory) ⊎ ((keys : List (List ℕ)) × (running.action ≡ Fetch keys) × EndsRound config (request_of old.session running) keys running.log (record { moment = moment_at given old.session; outcome = Replied node })) → IsStep old shown new
      by_want lack (inl refused) =
          defined (lack ∙ sym (ap (λ r. progress config (request_of old.session running) running.log (record { moment = moment_at given old.session; outcome = Replied r })) refused
          ∙ request_refused config (request_of old.session running) running.log at at (record { node = id; call = call }) OutOfMemory is))
      by_want lack (inr (keys, fetches, ends)) =
          let after : new.session ≡ request_dropped at old.session =
          has.after_is ∙ ap (session_after old.session running step) lack ∙ dropped config old.session running at node keys fetches ends in
          one_command old new (commands.StepsUnread given t) shown refl
          (old.session, running, refl, runs, is, refl, (keys, fetches, ends), ap reply_of_progress lack, ap (λ (s : Session). Some (OfSession s)) after) made

      by : (shown ≡ progress config (request_of old.session running) running.log (record { moment = moment_at given old.session; outcome = Replied node })) ⊎ (shown ≡ Done (answer.Refused OutOfMemory)) → IsStep old shown new
      by (inl defined_so) = defined defined_so
      by (inr lack) = by_want lack (wanted_by config (request_of old.session running) running.log at node running.action (has.wants lack))

  next_step : (old new : At) (running : Running) (given : ℕ) (shown : Progress) (n : Next Answer) → old.session.running ≡ Some running →
      next config (request_of old.session running) running.log (moment_at given old.session) ≡ n →
      DoesNext Calls Gives config slot old.session running (moment_at given old.session) old.nodes n shown new.session new.nodes → IsStep old shown new
  next_step old new running given shown (Ended ended) runs is d = absurd d
  next_step old new running given shown Restart runs is d = by d.1.shown_is
    where
      step : LogStep
      step = record { moment = moment_at given old.session; outcome = Late }

      by : (shown ≡ progress config (request_of old.session running) running.log (record { moment = moment_at given old.session; outcome = Late })) ⊎ (shown ≡ Done (answer.Refused OutOfMemory)) → IsStep old shown new
      by (inl defined_so) =
          as_defined old new (commands.StepsLate given) shown (progress config (request_of old.session running) running.log step) running step refl defined_so d.1.after_is refl
          (old.session, running, refl, runs, is, (refl, refl)) d.0
      by (inr lack) = absurd (late_wants config (request_of old.session running) running.log (moment_at given old.session) running.action (d.1.wants lack))
  next_step old new running given shown (Call directed) runs is d = step_calls old new running given shown d.0 directed.node directed.call runs is d.2 d.1

  one_step : (old new : At) (shown : Progress) → Steps Calls Gives config slot old shown new → IsStep old shown new
  one_step old new shown s =
      next_step old new s.running s.given shown (next config (request_of old.session s.running) s.running.log (moment_at s.given old.session)) s.runs refl s.does

  -- ---- a request that runs

  abbrev IsEnd : At → Answer → At → Type 0
  IsEnd old ended new = (led : Led old new) × (messages_told led.did ≡ message_of_answer ended ∷ []) × AreSteps led.did

  ends : (steps : ℕ) (old new : At) (ended : Answer) → EndsAfter Calls Gives config slot steps old ended new → IsEnd old ended new
  ends zero old new ended s = let step = one_step old new (Done ended) s in (step.0, step.1 ∙ message_of_ended ended, step.2)
  ends (suc steps) old new ended h =
      let step = one_step old h.1 h.0 h.2 in
      let rest = ends steps h.1 new ended h.4 in
      (both old h.1 new step.0 rest.0, messages_both step.0.did rest.0.did ∙ ap (λ ms. ms ++ messages_told rest.0.did) (step.1 ∙ no_message h.0 h.3) ∙ rest.1, Every-append (λ (t : Told). is_step t.command ≡ true) step.0.did rest.0.did step.2 rest.2)

  -- ---- requests

  -- the request was answered by these commands
  abbrev IsReply : At → Message → Message → At → Type 0
  IsReply old request message new = (led : Led old new) × AnswersOne request message led.did

  -- it was refused at once
  refused : (old new : At) (fault : Fault) (request message : Message) → message ≡ Refused fault → new ≡ old → IsReply old request message new
  refused old new fault request message is same = subst (IsReply old request message) (sym same) (stays old, inl (refl, (fault, is)))

  -- it had its effect at once
  became : (old new : At) (command : Command) (told : Reply) (request message : Message) (after : Session) → command_asked request ≡ Some command → message_of_reply told ≡ message ∷ [] → turn_made_by command ≡ []
      → Does config (Some (OfSession old.session)) command told (Some (OfSession after)) → new ≡ backend after old.nodes old.moments → IsReply old request message new
  became old new command told request message after asks says silent does is = (
    record {
      did = record { command = command; reply = told } ∷ [];
      chain = (Some (OfSession after), does, ap (λ (b : At). Some (OfSession b.session)) is);
      made = subst (λ ts. MakesTurns Calls slot old.nodes ts new.nodes) (sym (append-nil (turn_made_by command) ∙ silent)) (ap (λ (b : At). b.nodes) is);
    },
    inr (record { command = command; reply = told }, [], refl, asks, tt, append-nil (message_of_reply told) ∙ says),
  )

  -- it began, and ran
  ran : (old new : At) (command : Command) (context : ℕ) (action : Action) (request message : Message) → command_asked request ≡ Some command → turn_made_by command ≡ []
      → Does config (Some (OfSession old.session)) command reply.Started (Some (OfSession (request_begun context action old.session))) → Runs Calls Gives config slot old context action message new → IsReply old request message new
  ran old new command context action request message asks silent does h =
      let begun : At = backend (request_begun context action old.session) old.nodes old.moments in
      let first : Led old begun = record {
        did = record { command = command; reply = reply.Started } ∷ [];
        chain = (Some (OfSession (request_begun context action old.session)), does, refl);
        made = subst (λ ts. MakesTurns Calls slot old.nodes ts old.nodes) (sym (append-nil (turn_made_by command) ∙ silent)) refl;
      } in
      let rest = ends h.2.0 begun new h.0 h.2.1 in
      (both old begun new first rest.0, inr (record { command = command; reply = reply.Started }, rest.0.did, refl, asks, rest.2, messages_both first.did rest.0.did ∙ rest.1 ∙ ap (λ m. m ∷ []) (sym h.1.gives)))

  by_request : (old new : At) (request message : Message) → AnswersSo Calls Gives config slot old request message new → IsReply old request message new
  by_request old new CreateContext message h = by (create_refusal config old.session) refl h
    where
      by : (o : Option Fault) → create_refusal config old.session ≡ o → UnlessRefused Calls Gives config slot o old message new (Becomes Calls Gives config slot old (context_created old.session) (Created (wire_of context_tag old.session.next_context)) message new) → IsReply old CreateContext message new
      by (Some fault) is h = refused old new fault CreateContext message h.0 h.1
      by None is h = became old new commands.Creates (reply.Created old.session.next_context) CreateContext message (context_created old.session) refl (ap (λ m. m ∷ []) (sym h.0)) refl (old.session, refl, is, refl, refl) h.1
  by_request old new (DeleteContext handle) message h = by (deletion_refusal handle old.session) refl h
    where
      by : (o : Option Fault) → deletion_refusal handle old.session ≡ o → UnlessRefused Calls Gives config slot o old message new (Becomes Calls Gives config slot old (context_deleted (number_in handle) old.session) Deleted message new) → IsReply old (DeleteContext handle) message new
      by (Some fault) is h = refused old new fault (DeleteContext handle) message h.0 h.1
      by None is h =
          let allowed : context_refusal (number_in handle) old.session ≡ None = (or_first (naming_refusal handle old.session) (context_refusal (number_in handle) old.session) is).1 in
          became old new (commands.Deletes (number_in handle)) reply.Deleted (DeleteContext handle) message (context_deleted (number_in handle) old.session) refl (ap (λ m. m ∷ []) (sym h.0)) refl (old.session, refl, allowed, refl, refl) h.1
  by_request old new (Put handle key value) message h = by (writing_refusal config handle key value old.session) refl h
    where
      by : (o : Option Fault) → writing_refusal config handle key value old.session ≡ o → UnlessRefused Calls Gives config slot o old message new (Runs Calls Gives config slot old (number_in handle) (Write key value) message new) → IsReply old (Put handle key value) message new
      by (Some fault) is h = refused old new fault (Put handle key value) message h.0 h.1
      by None is h =
          let first = or_first (first_refusal ((not (is_key key), BadKey) ∷ (is_too_long value, ValueTooLong) ∷ [])) (option_or (naming_refusal handle old.session) (session_put_refusal config (number_in handle) key old.session)) is in
          let allowed : session_put_refusal config (number_in handle) key old.session ≡ None = (or_first (naming_refusal handle old.session) (session_put_refusal config (number_in handle) key old.session) first.1).1 in
          let of_key = head_passes (not (is_key key)) BadKey ((is_too_long value, ValueTooLong) ∷ []) first.0 in
          let of_value = head_passes (is_too_long value) ValueTooLong [] of_key.1 in
          ran old new (commands.Puts (number_in handle) key value) (number_in handle) (Write key value) (Put handle key value) message refl refl
          (flipped (is_key key) of_key.0, short value of_value.0, (old.session, refl, allowed, refl, refl)) h
  by_request old new (GetTrans handle keys) message h = by (reading_refusal config handle keys old.session) refl h
    where
      by : (o : Option Fault) → reading_refusal config handle keys old.session ≡ o → UnlessRefused Calls Gives config slot o old message new (Runs Calls Gives config slot old (number_in handle) (Fetch keys) message new) → IsReply old (GetTrans handle keys) message new
      by (Some fault) is h = refused old new fault (GetTrans handle keys) message h.0 h.1
      by None is h =
          let first = or_first (first_refusal ((nat_lt (length keys) 1, Syntax) ∷ (not (list_all is_key keys), BadKey) ∷ [])) (option_or (naming_refusal handle old.session) (get_refusal config (number_in handle) keys old.session)) is in
          let allowed : get_refusal config (number_in handle) keys old.session ≡ None = (or_first (naming_refusal handle old.session) (get_refusal config (number_in handle) keys old.session) first.1).1 in
          let some = head_passes (nat_lt (length keys) 1) Syntax ((not (list_all is_key keys), BadKey) ∷ []) first.0 in
          let are = head_passes (not (list_all is_key keys)) BadKey [] some.1 in
          ran old new (commands.Gets (number_in handle) keys) (number_in handle) (Fetch keys) (GetTrans handle keys) message refl refl
          (some.0, flipped (list_all is_key keys) are.0, (old.session, refl, allowed, refl, refl)) h
  by_request old new others message h = absurd h

  -- ---- connections

  all_requests : (requests messages : List Message) (old new : At) → Serves (Answers Calls Gives config slot) old requests messages new → (led : Led old new) × AnswersEach requests messages led.did
  all_requests [] messages old new h =
      subst (λ ms. (led : Led old new) × AnswersEach [] ms led.did) (sym h.0) (subst (λ at. (led : Led old at) × AnswersEach [] [] led.did) (sym h.1) (stays old, refl))
  all_requests (request ∷ requests) messages old new h =
      let told : IsReply old request h.0 h.1 = elim h.3 [ inl lack ↦ refused old h.1 OutOfMemory request h.0 lack.0 lack.1 | inr so ↦ by_request old h.1 request h.0 so ] in
      let later = all_requests requests h.2 h.1 new h.4 in
      subst (λ ms. (led : Led old new) × AnswersEach (request ∷ requests) ms led.did) (sym h.5)
      (both old h.1 new told.0 later.0, (told.0.did, later.0.did, refl, told.1, later.1))

  pub conversation : (dc : ℕ) (requests messages : List Message) (nodes new_nodes : N) (moments new_moments : M) (after : Session) → nat_lt dc config.data_centres ≡ true
      → Serves (Answers Calls Gives config slot) (backend (new_session dc 1) nodes moments) requests messages (backend after new_nodes new_moments)
      → IsConversationOf Calls config slot dc nodes new_nodes requests messages
  conversation dc requests messages nodes new_nodes moments new_moments after there h =
      let all = all_requests requests messages (backend (new_session dc 1) nodes moments) (backend after new_nodes new_moments) h in
      record {
        did = all.0.did;
        behaves = (Some (OfSession (new_session dc 1)), (refl, there, refl, refl), chain_behaves config (Some (OfSession (new_session dc 1))) (Some (OfSession after)) all.0.did all.0.chain);
        made = all.0.made;
        answers = all.1;
      }

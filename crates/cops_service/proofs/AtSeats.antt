-- What is done at nodes that are a desk is done with its seat.
use Rattle.std.proofs.Common.{◌≡◌, ◌∙◌, ℕ, zero, suc, List, [], ◌∷◌, inl, inr, max, ap, refl, subst}
use Rattle.std.specs.Prelude.{Option, Some, None}
use Rattle.cops_types.specs.declared.configs.Config.{Config}
use Rattle.cops_types.specs.declared.faults.Fault.{Fault}
use Rattle.cops_types.specs.TenantConfig.{TenantConfig, tenant_config}
use Rattle.cops_gate.specs.declared.board.Account.{Account}
use Rattle.cops_model.specs.Carrier.{Carrier, new_carrier}
use Rattle.cops_model.specs.Log.{Next, Call, Restart, Ended}
use Rattle.cops_model.specs.declared.calls.NodeCall.{NodeCall}
use Rattle.cops_model.specs.declared.calls.NodeId.{NodeId}
use Rattle.cops_model.specs.declared.calls.NodeReply.{NodeReply}
use Rattle.cops_model.specs.declared.requests.Answer.{Answer}
use Rattle.cops_model.specs.declared.requests.Progress.{Progress}
use Rattle.cops_model.specs.declared.requests.Progress.TheVariants.{Done}
use Rattle.cops_model.specs.Request.{Action, Write, Fetch, next}
use Rattle.cops_model.specs.Session.{Running, Session, moment_at, new_session, request_begun, request_of}
use Rattle.cops_node.specs.Parts.{Shared}
use Rattle.cops_wire.specs.Conversation.{ConversesInPart, HasConversed}
use Rattle.cops_wire.specs.declared.messages.Message.{Message}
use Rattle.cops_wire.specs.declared.messages.Message.TheVariants.{CreateContext, DeleteContext, Put, GetTrans}
use Rattle.cops_wire.specs.Requests.{Answers, AnswersSo, Backend, Becomes, DoesNext, EndsAfter, KeepsShape, Runs, Steps, UnlessRefused, backend, number_in}
use Rattle.cops_wire.specs.Serving.{Serves}
use Rattle.cops_service.specs.Calling.{CollectAll}
use Rattle.cops_service.specs.Carried.{DeliverAll, DeliversSome, DeliversStream, TakesSteps, carried_stream}
use Rattle.cops_service.specs.Conversing.{ConverseAll, Converses}
use Rattle.cops_service.specs.Crews.{CarriesStreams, CollectsPlaces, ServesClients}
use Rattle.cops_service.specs.Desks.{IsDeskCall, NodeSeat, shape_in}
use Rattle.cops_service.specs.Gates.{Gates}
use Rattle.cops_service.specs.Repeated.{Repeats}
use Rattle.cops_service.specs.declared.notes.Stream.{Stream as Noted}

-- Each call at the nodes is one with their seat, where the key stays. `Tells` says what a call with a seat may be answered.
module _ {N K S : Type 0} (Calls : N → NodeId → ℕ → ℕ → NodeCall → NodeReply → N → Type 0) (Tells : K → S → NodeId → ℕ → ℕ → NodeCall → NodeReply → S → Type 0) (key : N → K) (seat : N → S)
    (stays : (old new : N) (id : NodeId) (slot moment : ℕ) (call : NodeCall) (reply : NodeReply) → Calls old id slot moment call reply new → key new ≡ key old)
    (tells : (old new : N) (id : NodeId) (slot moment : ℕ) (call : NodeCall) (reply : NodeReply) → Calls old id slot moment call reply new → Tells (key old) (seat old) id slot moment call reply (seat new))
    (here : K) where
  pub call_there : (old new : N) (id : NodeId) (slot moment : ℕ) (call : NodeCall) (reply : NodeReply) → key old ≡ here → Calls old id slot moment call reply new → (key new ≡ here) × Tells here (seat old) id slot moment call reply (seat new)
  call_there old new id slot moment call reply is called =
      (stays old new id slot moment call reply called ∙ is, subst (λ k. Tells k (seat old) id slot moment call reply (seat new)) is (tells old new id slot moment call reply called))

  -- ---- collections

  pub collected_there : (config : Config) (count : ℕ) (old new : N) → key old ≡ here → CollectAll Calls config count old new → (key new ≡ here) × CollectAll (Tells here) config count (seat old) (seat new)
  collected_there config zero old new is h = (ap key h ∙ is, ap seat h)
  collected_there config (suc count) old new is (between, place, earlier, there, (moment, reply, called)) =
      let first = collected_there config count old between is earlier in
      let last = call_there between new place.id place.slot moment _ reply first.0 called in
      (last.0, (seat between, place, first.1, there, (moment, reply, last.1)))

  -- ---- carriers

  steps_there : (shards slot count : ℕ) (old new : N) (before after : Carrier) → key old ≡ here → TakesSteps Calls shards slot count old before new after → (key new ≡ here) × TakesSteps (Tells here) shards slot count (seat old) before (seat new) after
  steps_there shards slot zero old new before after is h = (ap key h.0 ∙ is, (ap seat h.0, h.1))
  steps_there shards slot (suc count) old new before after is (between, middle, earlier, (directed, moment, reply, asked, called, after_is)) =
      let first = steps_there shards slot count old between before middle is earlier in
      let last = call_there between new directed.node slot (max middle.moment moment) directed.call reply first.0 called in
      (last.0, (seat between, middle, first.1, (directed, moment, reply, asked, last.1, after_is)))

  pub stream_delivered_there : (shards : ℕ) (stream : Noted) (old new : N) → key old ≡ here → DeliversStream Calls shards stream old new → (key new ≡ here) × DeliversStream (Tells here) shards stream (seat old) (seat new)
  stream_delivered_there shards stream old new is (ending, (count, last, steps, ends)) =
      let all = steps_there shards stream.from.slot count old new (new_carrier (carried_stream stream)) last is steps in
      (all.0, (ending, (count, last, all.1, ends)))

  -- steps of any kind
  pub repeated_there : (Step : N → N → Type 0) (StepThere : S → S → Type 0) → ((old new : N) → key old ≡ here → Step old new → (key new ≡ here) × StepThere (seat old) (seat new)) → (count : ℕ) (old new : N) → key old ≡ here
      → Repeats Step count old new → (key new ≡ here) × Repeats StepThere count (seat old) (seat new)
  repeated_there Step StepThere one zero old new is h = (ap key h ∙ is, ap seat h)
  repeated_there Step StepThere one (suc count) old new is (between, earlier, last) =
      let first = repeated_there Step StepThere one count old between is earlier in
      let next = one between new first.0 last in
      (next.0, (seat between, first.1, next.1))

  delivered_there : (config : Config) (old new : N) → key old ≡ here → DeliversSome Calls config old new → (key new ≡ here) × DeliversSome (Tells here) config (seat old) (seat new)
  delivered_there config old new is (stream, ending, there, (count, last, steps, ends)) =
      let all = steps_there config.shards stream.from.slot count old new (new_carrier (carried_stream stream)) last is steps in
      (all.0, (stream, ending, there, (count, last, all.1, ends)))

  pub all_delivered_there : (config : Config) (count : ℕ) (old new : N) → key old ≡ here → DeliverAll Calls config count old new → (key new ≡ here) × DeliverAll (Tells here) config count (seat old) (seat new)
  all_delivered_there config zero old new is h = (ap key h ∙ is, ap seat h)
  all_delivered_there config (suc count) old new is (between, earlier, one) =
      let first = all_delivered_there config count old between is earlier in
      let last = delivered_there config between new first.0 one in
      (last.0, (seat between, first.1, last.1))

  -- ---- conversations

  module _ {M : Type 0} (Gives : M → ℕ → M → Type 0) where
    abbrev Old : Type 0
    Old = Backend Session N M

    abbrev there : Old → Backend Session S M
    there b = backend b.session (seat b.nodes) b.moments

    abbrev stays_there : Old → Type 0
    stays_there new = key new.nodes ≡ here

    module _ (config : TenantConfig) (slot : ℕ) where
      next_there : (session : Session) (running : Running) (moment : ℕ) (old : N) (n : Next Answer) (shown : Progress) (after : Session) (new : N) → key old ≡ here
          → DoesNext Calls Gives config slot session running moment old n shown after new → (key new ≡ here) × DoesNext (Tells here) Gives config slot session running moment (seat old) n shown after (seat new)
      next_there session running moment old (Call directed) shown after new is (reply, called, shows) =
          let last = call_there old new directed.node slot moment directed.call reply is called in
          (last.0, (reply, last.1, shows))
      next_there session running moment old Restart shown after new is h = (ap key h.0 ∙ is, (ap seat h.0, h.1))
      next_there session running moment old (Ended ended) shown after new is h = absurd h

      step_there : (old new : Old) (shown : Progress) → stays_there old → Steps Calls Gives config slot old shown new → stays_there new × Steps (Tells here) Gives config slot (there old) shown (there new)
      step_there old new shown is s =
          let moment = moment_at s.given old.session in
          let does = next_there old.session s.running moment old.nodes (next config (request_of old.session s.running) s.running.log moment) shown new.session new.nodes is s.does in
          (does.0, record { running = s.running; runs = s.runs; given = s.given; gives = s.gives; does = does.1 })

      ends_there : (steps : ℕ) (old new : Old) (ended : Answer) → stays_there old → EndsAfter Calls Gives config slot steps old ended new → stays_there new × EndsAfter (Tells here) Gives config slot steps (there old) ended (there new)
      ends_there zero old new ended is h = step_there old new (Done ended) is h
      ends_there (suc steps) old new ended is (shown, mid, step, goes, later) =
          let first = step_there old mid shown is step in
          let rest = ends_there steps mid new ended first.0 later in
          (rest.0, (shown, there mid, first.1, goes, rest.1))

      same_there : (old new : Old) → stays_there old → new ≡ old → stays_there new × (there new ≡ there old)
      same_there old new is same = (ap (λ (b : Old). key b.nodes) same ∙ is, ap there same)

      becomes_there : (refusal : Option Fault) (old new : Old) (after : Session) (told reply : Message) → stays_there old
          → UnlessRefused Calls Gives config slot refusal old reply new (Becomes Calls Gives config slot old after told reply new)
          → stays_there new × UnlessRefused (Tells here) Gives config slot refusal (there old) reply (there new) (Becomes (Tells here) Gives config slot (there old) after told reply (there new))
      becomes_there (Some fault) old new after told reply is h = let same = same_there old new is h.1 in (same.0, (h.0, same.1))
      becomes_there None old new after told reply is h = (ap (λ (b : Old). key b.nodes) h.1 ∙ is, (h.0, ap there h.1))

      runs_there : (refusal : Option Fault) (old new : Old) (context : ℕ) (action : Action) (reply : Message) → stays_there old
          → UnlessRefused Calls Gives config slot refusal old reply new (Runs Calls Gives config slot old context action reply new)
          → stays_there new × UnlessRefused (Tells here) Gives config slot refusal (there old) reply (there new) (Runs (Tells here) Gives config slot (there old) context action reply (there new))
      runs_there (Some fault) old new context action reply is h = let same = same_there old new is h.1 in (same.0, (h.0, same.1))
      runs_there None old new context action reply is (ended, reply_is, (steps, ends)) =
          let all = ends_there steps (backend (request_begun context action old.session) old.nodes old.moments) new ended is ends in
          (all.0, (ended, reply_is, (steps, all.1)))

      answered_there : (old new : Old) (request reply : Message) → stays_there old → AnswersSo Calls Gives config slot old request reply new → stays_there new × AnswersSo (Tells here) Gives config slot (there old) request reply (there new)
      answered_there old new CreateContext reply is h = becomes_there _ old new _ _ reply is h
      answered_there old new (DeleteContext handle) reply is h = becomes_there _ old new _ _ reply is h
      answered_there old new (Put handle key value) reply is h = runs_there _ old new (number_in handle) (Write key value) reply is h
      answered_there old new (GetTrans handle keys) reply is h = runs_there _ old new (number_in handle) (Fetch keys) reply is h
      answered_there old new others reply is h = absurd h

      any_there : (old new : Old) (request reply : Message) → stays_there old → Answers Calls Gives config slot old request reply new → stays_there new × Answers (Tells here) Gives config slot (there old) request reply (there new)
      any_there old new request reply is (inl lack) = let same = same_there old new is lack.1 in (same.0, inl (lack.0, same.1))
      any_there old new request reply is (inr so) = let all = answered_there old new request reply is so in (all.0, inr all.1)

      served_there : (requests replies : List Message) (old new : Old) → stays_there old → Serves (Answers Calls Gives config slot) old requests replies new
          → stays_there new × Serves (Answers (Tells here) Gives config slot) (there old) requests replies (there new)
      served_there [] replies old new is h = let same = same_there old new is h.1 in (same.0, (h.0, same.1))
      served_there (request ∷ requests) replies old new is (first, mid, later, answered, rest, replies_are) =
          let one = any_there old mid request first is answered in
          let all = served_there requests later mid new one.0 rest in
          (all.0, (first, there mid, later, one.1, all.1, replies_are))

    module _ (config : Config) (remaining new_remaining contents new_contents : Option (List ℕ)) (nodes new_nodes : N) (moments new_moments : M) where
      conversed_there : (ended : _) → key nodes ≡ here → HasConversed Calls Gives config remaining new_remaining contents new_contents nodes new_nodes moments new_moments ended
          → (key new_nodes ≡ here) × HasConversed (Tells here) Gives config remaining new_remaining contents new_contents (seat nodes) (seat new_nodes) moments new_moments ended
      conversed_there ended is h =
          let s = h.serves in
          let all = served_there (tenant_config config h.tenant) h.slot s.requests s.replies (backend (new_session h.dc 1) nodes moments) (backend h.after new_nodes new_moments) is s.served in (
            all.0,
            record {
              slot = h.slot;
              dc = h.dc;
              tenant = h.tenant;
              tenant_is = h.tenant_is;
              greeted_remaining = h.greeted_remaining;
              greeted_contents = h.greeted_contents;
              kept = h.kept;
              waiting = h.waiting;
              greets = h.greets;
              hello = h.hello;
              first = h.first;
              after = h.after;
              serves = record {
                input = s.input;
                read = s.read;
                messages = s.messages;
                are = s.are;
                all = s.all;
                requests = s.requests;
                replies = s.replies;
                front = s.front;
                asked = s.asked;
                served = all.1;
                ends = s.ends;
                written = s.written;
              };
            },
          )

      in_part_there : key nodes ≡ here → ConversesInPart Calls Gives config remaining contents new_contents nodes new_nodes moments new_moments
          → (key new_nodes ≡ here) × ConversesInPart (Tells here) Gives config remaining contents new_contents (seat nodes) (seat new_nodes) moments new_moments
      in_part_there is h =
          let s = h.serves in
          let all = served_there (tenant_config config h.tenant) h.slot s.requests s.replies (backend (new_session h.dc 1) nodes moments) (backend h.after new_nodes new_moments) is s.served in (
            all.0,
            record {
              slot = h.slot;
              dc = h.dc;
              tenant = h.tenant;
              tenant_is = h.tenant_is;
              greeted_remaining = h.greeted_remaining;
              greeted_contents = h.greeted_contents;
              kept = h.kept;
              waiting = h.waiting;
              greets = h.greets;
              hello = h.hello;
              first = h.first;
              after = h.after;
              serves = record {
                input = s.input;
                new_remaining = s.new_remaining;
                read = s.read;
                messages = s.messages;
                are = s.are;
                requests = s.requests;
                later = s.later;
                whole = s.whole;
                asked = s.asked;
                replies = s.replies;
                served = all.1;
                torn = s.torn;
                cause = s.cause;
                written = s.written;
              };
            },
          )

    module _ (config : Config) where
      pub converses_there : (nodes new_nodes : N) (moments new_moments : M) → key nodes ≡ here → Converses Calls Gives config nodes new_nodes moments new_moments
          → (key new_nodes ≡ here) × Converses (Tells here) Gives config (seat nodes) (seat new_nodes) moments new_moments
      converses_there nodes new_nodes moments new_moments is (inl (ended, h)) =
          let all = conversed_there config None None None None nodes new_nodes moments new_moments ended is h in (all.0, inl (ended, all.1))
      converses_there nodes new_nodes moments new_moments is (inr (inl (greeted, same, same_moments))) = (ap key same ∙ is, inr (inl (greeted, ap seat same, same_moments)))
      converses_there nodes new_nodes moments new_moments is (inr (inr h)) =
          let all = in_part_there config None None None None nodes new_nodes moments new_moments is h in (all.0, inr (inr all.1))

      pub all_conversed_there : (count : ℕ) (nodes new_nodes : N) (moments new_moments : M) → key nodes ≡ here → ConverseAll Calls Gives config count nodes new_nodes moments new_moments
          → (key new_nodes ≡ here) × ConverseAll (Tells here) Gives config count (seat nodes) (seat new_nodes) moments new_moments
      all_conversed_there zero nodes new_nodes moments new_moments is h = (ap key h.0 ∙ is, (ap seat h.0, h.1))
      all_conversed_there (suc count) nodes new_nodes moments new_moments is (between, middle, earlier, one) =
          let first = all_conversed_there count nodes between moments middle is earlier in
          let last = converses_there between new_nodes middle new_moments first.0 one in
          (last.0, (seat between, middle, first.1, last.1))

-- ---- desks

module _ {N Name : Type 0} (cluster : N → Gates Shared) (name : N → Name) (seat : N → NodeSeat) where
  -- a call at this cluster with this seat, which the desk keeps; its account stays
  abbrev DeskCalls : N → NodeId → ℕ → ℕ → NodeCall → NodeReply → N → Type 0
  DeskCalls old id slot moment call reply new = (cluster new ≡ cluster old) × (name new ≡ name old) × IsDeskCall (cluster old) (seat old) id slot moment call reply (seat new)

  abbrev At : Type 0
  At = Gates Shared × Name × Account

  abbrev key : N → At
  key n = (cluster n, name n, (seat n).account)

  abbrev Tells : At → NodeSeat → NodeId → ℕ → ℕ → NodeCall → NodeReply → NodeSeat → Type 0
  Tells here = IsDeskCall here.0

  abbrev Stays : N → N → Type 0
  Stays old new = (cluster new ≡ cluster old) × (name new ≡ name old) × ((seat new).account ≡ (seat old).account)

  kept : (old new : N) → key new ≡ key old → Stays old new
  kept old new same = (ap (λ (k : At). k.0) same, ap (λ (k : At). k.1) same, ap (λ (k : At). k.2) same)

  pub desk_serves : {M : Type 0} (Gives : M → ℕ → M → Type 0) (config : Config) (old new : N) (moments new_moments : M) → ((count : ℕ) × ConverseAll (KeepsShape (λ n. shape_in (cluster n)) DeskCalls) Gives config count old new moments new_moments)
      → Stays old new × ServesClients config (cluster old) Gives moments (seat old) (seat new)
  desk_serves Gives config old new moments new_moments (count, all) =
      let done = all_conversed_there (KeepsShape (λ n. shape_in (cluster n)) DeskCalls) Tells key seat (λ a b id slot moment call reply h i. (h.0.0 i, h.0.1 i, h.0.2.account i)) (λ a b id slot moment call reply h. h.0.2) (key old) Gives config count old new moments new_moments refl all in
      (kept old new done.0, (count, new_moments, done.1))

  pub desk_carries : (config : Config) (old new : N) → ((count : ℕ) × DeliverAll DeskCalls config count old new) → Stays old new × CarriesStreams config (cluster old) (seat old) (seat new)
  desk_carries config old new (count, all) =
      let done = all_delivered_there DeskCalls Tells key seat (λ a b id slot moment call reply h i. (h.0 i, h.1 i, h.2.account i)) (λ a b id slot moment call reply h. h.2) (key old) config count old new refl all in
      (kept old new done.0, (count, done.1))

  pub desk_collects : (config : Config) (old new : N) → ((count : ℕ) × CollectAll DeskCalls config count old new) → Stays old new × CollectsPlaces config (cluster old) (seat old) (seat new)
  desk_collects config old new (count, all) =
      let done = collected_there DeskCalls Tells key seat (λ a b id slot moment call reply h i. (h.0 i, h.1 i, h.2.account i)) (λ a b id slot moment call reply h. h.2) (key old) config count old new refl all in
      (kept old new done.0, (count, done.1))

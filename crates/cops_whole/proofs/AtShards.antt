-- Calls of sessions, carriers and collections are at shards that exist.
use Rattle.std.proofs.Common.{◌≡◌, ℕ, zero, suc, ◌<◌, ◌∙◌, List, [], ◌∷◌, ◌++◌, map, length, inl, inr, refl, sym, ap, subst}
use Rattle.std.specs.Prelude.{Option, Some, None, slice_get, sum}
use Rattle.std.specs.List.{AllByRecursion}
use Rattle.std.proofs.Math.Nat.{mod-lt}
use Rattle.cops_types.specs.declared.configs.Config.{Config}
use Rattle.cops_types.specs.declared.faults.Fault.{Fault}
use Rattle.cops_types.specs.declared.pairs.Pair.{Pair}
use Rattle.cops_types.specs.TenantConfig.{TenantConfig, tenant_config}
use Rattle.cops_model.specs.declared.calls.NodeCall.{NodeCall}
use Rattle.cops_model.specs.declared.calls.NodeId.{NodeId}
use Rattle.cops_model.specs.declared.calls.NodeReply.{NodeReply}
use Rattle.cops_model.specs.declared.calls.NodeReply.TheVariants.{Pulled}
use Rattle.cops_model.specs.declared.deliveries.Delivery.{Delivery}
use Rattle.cops_model.specs.declared.requests.Answer.{Answer}
use Rattle.cops_model.specs.declared.requests.Progress.{Progress}
use Rattle.cops_model.specs.declared.requests.Progress.TheVariants.{Done}
use Rattle.cops_model.specs.Carrier.{Carrier, Stream, carrier_next, check, finished_delivery, first_end, new_carrier, stream_calls, unless_end}
use Rattle.cops_model.specs.Log.{Call, Directed, Ended, LogStep, Next, Restart, call_or, replies_of}
use Rattle.cops_model.specs.Request.{Action, Fetch, Write, next}
use Rattle.cops_model.specs.Session.{Running, Session, moment_at, new_session, request_begun, request_of}
use Rattle.cops_service.specs.Carried.{Delivers, TakesSteps}
use Rattle.cops_service.specs.Conversing.{ConverseAll, Converses}
use Rattle.cops_wire.specs.Conversation.{ConversesInPart, HasConversed}
use Rattle.cops_wire.specs.declared.messages.Message.{Message}
use Rattle.cops_wire.specs.declared.messages.Message.TheVariants.{CreateContext, DeleteContext, GetTrans, Put}
use Rattle.cops_wire.specs.declared.serving.Ended.{Ended as WasEnded}
use Rattle.cops_wire.specs.Requests.{Answers, AnswersSo, Backend, Becomes, DoesNext, EndsAfter, Runs, Steps, UnlessRefused, backend, number_in}
use Rattle.cops_wire.specs.Serving.{Serves}
use Rattle.cops_wire.proofs.NextCalls.{next_has}
use Rattle.cops_history.specs.Turns.{Turn}
use Rattle.cops_served.specs.Conversations.{MakesTurns, turns_of_told}
use Rattle.cops_whole.specs.Seats.{IsAtShards, MakesAll, SlotActor}
use Rattle.cops_whole.specs.Clients.{conversation_in, conversations_in}

-- the call, at a shard that exists
abbrev pub Within : {N : Type 0} → (N → NodeId → ℕ → ℕ → NodeCall → NodeReply → N → Type 0) → ℕ → N → NodeId → ℕ → ℕ → NodeCall → NodeReply → N → Type 0
Within Calls shards old id slot moment call reply new = (id.shard < shards) × Calls old id slot moment call reply new

-- ---- what actors made

module _ {N : Type 0} (Calls : N → NodeId → ℕ → ℕ → NodeCall → NodeReply → N → Type 0) (config : Config) where
  turns_within : (slot : ℕ) (turns : List Turn) (old new : N) → MakesTurns (Within Calls config.shards) slot old turns new → AllByRecursion (λ (t : Turn). t.node.shard < config.shards) turns × MakesTurns Calls slot old turns new
  turns_within slot [] old new same = (tt, same)
  turns_within slot (t ∷ turns) old new (mid, (below, call), later) = let rest = turns_within slot turns mid new later in ((below, rest.0), (mid, call, rest.1))

  pub actors_within : (actors : List SlotActor) (old new : N) → MakesAll (Within Calls config.shards) old actors new → AllByRecursion (IsAtShards config) actors × MakesAll Calls old actors new
  actors_within [] old new same = (tt, same)
  actors_within (a ∷ actors) old new (mid, made, later) =
      let first = turns_within a.slot (turns_of_told a.did) old mid made in
      let rest = actors_within actors mid new later in
      ((first.0, rest.0), (mid, first.1, rest.1))

-- ---- conversations

module _ {N M : Type 0} (Calls : N → NodeId → ℕ → ℕ → NodeCall → NodeReply → N → Type 0) (Gives : M → ℕ → M → Type 0) where
  module _ (config : TenantConfig) (slot : ℕ) (some : 0 < config.shards) where
    abbrev There : N → NodeId → ℕ → ℕ → NodeCall → NodeReply → N → Type 0
    There = Within Calls config.shards

    abbrev State : Type 0
    State = Backend Session N M

    next_there : (session : Session) (running : Running) (moment : ℕ) (old : N) (n : Next Answer) (shown : Progress) (after : Session) (new : N) → next config (request_of session running) running.log moment ≡ n →
        DoesNext Calls Gives config slot session running moment old n shown after new → DoesNext There Gives config slot session running moment old n shown after new
    next_there session running moment old (Call directed) shown after new is (reply, called, shows) = (reply, (next_has config (request_of session running) running.log moment directed is some, called), shows)
    next_there session running moment old Restart shown after new is h = h
    next_there session running moment old (Ended ended) shown after new is h = h

    step_there : (old new : State) (shown : Progress) → Steps Calls Gives config slot old shown new → Steps There Gives config slot old shown new
    step_there old new shown s =
        let moment = moment_at s.given old.session in
        record {
          running = s.running;
          runs = s.runs;
          given = s.given;
          gives = s.gives;
          does = next_there old.session s.running moment old.nodes (next config (request_of old.session s.running) s.running.log moment) shown new.session new.nodes refl s.does;
        }

    ends_there : (steps : ℕ) (old new : State) (ended : Answer) → EndsAfter Calls Gives config slot steps old ended new → EndsAfter There Gives config slot steps old ended new
    ends_there zero old new ended h = step_there old new (Done ended) h
    ends_there (suc steps) old new ended (shown, mid, step, goes, later) = (shown, mid, step_there old mid shown step, goes, ends_there steps mid new ended later)

    becomes_there : (refusal : Option Fault) (old new : State) (after : Session) (told reply : Message) → UnlessRefused Calls Gives config slot refusal old reply new (Becomes Calls Gives config slot old after told reply new) →
        UnlessRefused There Gives config slot refusal old reply new (Becomes There Gives config slot old after told reply new)
    becomes_there (Some fault) old new after told reply h = h
    becomes_there None old new after told reply h = h

    runs_there : (refusal : Option Fault) (old new : State) (context : ℕ) (action : Action) (reply : Message) → UnlessRefused Calls Gives config slot refusal old reply new (Runs Calls Gives config slot old context action reply new) →
        UnlessRefused There Gives config slot refusal old reply new (Runs There Gives config slot old context action reply new)
    runs_there (Some fault) old new context action reply h = h
    runs_there None old new context action reply (ended, reply_is, (steps, ends)) = (ended, reply_is, (steps, ends_there steps (backend (request_begun context action old.session) old.nodes old.moments) new ended ends))

    answered_there : (old new : State) (request reply : Message) → AnswersSo Calls Gives config slot old request reply new → AnswersSo There Gives config slot old request reply new
    answered_there old new CreateContext reply h = becomes_there _ old new _ _ reply h
    answered_there old new (DeleteContext handle) reply h = becomes_there _ old new _ _ reply h
    answered_there old new (Put handle key value) reply h = runs_there _ old new (number_in handle) (Write key value) reply h
    answered_there old new (GetTrans handle keys) reply h = runs_there _ old new (number_in handle) (Fetch keys) reply h
    answered_there old new others reply h = absurd h

    any_there : (old new : State) (request reply : Message) → Answers Calls Gives config slot old request reply new → Answers There Gives config slot old request reply new
    any_there old new request reply (inl lack) = inl lack
    any_there old new request reply (inr so) = inr (answered_there old new request reply so)

    served_there : (requests replies : List Message) (old new : State) → Serves (Answers Calls Gives config slot) old requests replies new → Serves (Answers There Gives config slot) old requests replies new
    served_there [] replies old new h = h
    served_there (request ∷ requests) replies old new (first, mid, later, answered, rest, replies_are) =
        (first, mid, later, any_there old mid request first answered, served_there requests later mid new rest, replies_are)

  module _ (config : Config) (some : 0 < config.shards) where
    conversed_there : (nodes new_nodes : N) (moments new_moments : M) (ended : WasEnded) → HasConversed Calls Gives config None None None None nodes new_nodes moments new_moments ended →
        HasConversed (Within Calls config.shards) Gives config None None None None nodes new_nodes moments new_moments ended
    conversed_there nodes new_nodes moments new_moments ended h =
        let s = h.serves in
        record {
          slot = h.slot;
          dc = h.dc;
          tenant = h.tenant;
          tenant_is = h.tenant_is;
          greeted_remaining = h.greeted_remaining;
          greeted_contents = h.greeted_contents;
          kept = h.kept;
          waiting = h.waiting;
          greets = h.greets;
          hello = h.hello;
          first = h.first;
          after = h.after;
          serves = record {
            input = s.input;
            read = s.read;
            messages = s.messages;
            are = s.are;
            all = s.all;
            requests = s.requests;
            replies = s.replies;
            front = s.front;
            asked = s.asked;
            served = served_there (tenant_config config h.tenant) h.slot some s.requests s.replies (backend (new_session h.dc 1) nodes moments) (backend h.after new_nodes new_moments) s.served;
            ends = s.ends;
            written = s.written;
          };
        }

    in_part_there : (nodes new_nodes : N) (moments new_moments : M) → ConversesInPart Calls Gives config None None None nodes new_nodes moments new_moments → ConversesInPart (Within Calls config.shards) Gives config None None None nodes new_nodes moments new_moments
    in_part_there nodes new_nodes moments new_moments h =
        let s = h.serves in
        record {
          slot = h.slot;
          dc = h.dc;
          tenant = h.tenant;
          tenant_is = h.tenant_is;
          greeted_remaining = h.greeted_remaining;
          greeted_contents = h.greeted_contents;
          kept = h.kept;
          waiting = h.waiting;
          greets = h.greets;
          hello = h.hello;
          first = h.first;
          after = h.after;
          serves = record {
            input = s.input;
            new_remaining = s.new_remaining;
            read = s.read;
            messages = s.messages;
            are = s.are;
            requests = s.requests;
            later = s.later;
            whole = s.whole;
            asked = s.asked;
            replies = s.replies;
            served = served_there (tenant_config config h.tenant) h.slot some s.requests s.replies (backend (new_session h.dc 1) nodes moments) (backend h.after new_nodes new_moments) s.served;
            torn = s.torn;
            cause = s.cause;
            written = s.written;
          };
        }

    converses_there : (nodes new_nodes : N) (moments new_moments : M) → Converses Calls Gives config nodes new_nodes moments new_moments → Converses (Within Calls config.shards) Gives config nodes new_nodes moments new_moments
    converses_there nodes new_nodes moments new_moments (inl (ended, h)) = inl (ended, conversed_there nodes new_nodes moments new_moments ended h)
    converses_there nodes new_nodes moments new_moments (inr (inl none)) = inr (inl none)
    converses_there nodes new_nodes moments new_moments (inr (inr h)) = inr (inr (in_part_there nodes new_nodes moments new_moments h))

    pub all_converse_there : (count : ℕ) (nodes new_nodes : N) (moments new_moments : M) → ConverseAll Calls Gives config count nodes new_nodes moments new_moments →
        ConverseAll (Within Calls config.shards) Gives config count nodes new_nodes moments new_moments
    all_converse_there zero nodes new_nodes moments new_moments h = h
    all_converse_there (suc count) nodes new_nodes moments new_moments (between, middle, earlier, last) =
        (between, middle, all_converse_there count nodes between moments middle earlier, converses_there between new_nodes middle new_moments last)

    -- the conversations are the same
    same_here : (nodes new_nodes : N) (moments new_moments : M) (h : Converses Calls Gives config nodes new_nodes moments new_moments) →
        conversation_in (Within Calls config.shards) Gives config nodes new_nodes moments new_moments (converses_there nodes new_nodes moments new_moments h) ≡ conversation_in Calls Gives config nodes new_nodes moments new_moments h
    unfolding converses_there conversed_there in_part_there
    same_here nodes new_nodes moments new_moments (inl (ended, h)) = refl
    same_here nodes new_nodes moments new_moments (inr (inl none)) = refl
    same_here nodes new_nodes moments new_moments (inr (inr h)) = refl

    pub same_conversations : (count : ℕ) (nodes new_nodes : N) (moments new_moments : M) (h : ConverseAll Calls Gives config count nodes new_nodes moments new_moments) →
        conversations_in (Within Calls config.shards) Gives config count nodes new_nodes moments new_moments (all_converse_there count nodes new_nodes moments new_moments h) ≡ conversations_in Calls Gives config count nodes new_nodes moments new_moments h
    unfolding all_converse_there
    same_conversations zero nodes new_nodes moments new_moments h = refl
    same_conversations (suc count) nodes new_nodes moments new_moments (between, middle, earlier, last) =
        ap (λ cs. cs ++ conversation_in (Within Calls config.shards) Gives config between new_nodes middle new_moments (converses_there between new_nodes middle new_moments last)) (same_conversations count nodes between moments middle earlier)
        ∙ ap (λ cs. conversations_in Calls Gives config count nodes between moments middle earlier ++ cs) (same_here between new_nodes middle new_moments last)

-- ---- carriers

module _ (shards : ℕ) (some : 0 < shards) (stream : Stream) (origin : stream.origin.shard < shards) where
  abbrev IsIn : Directed → Type 0
  IsIn d = d.node.shard < shards

  checks_in : (near : List Pair) (later : List Directed) → AllByRecursion IsIn later → AllByRecursion IsIn (map (check shards stream) near ++ later)
  checks_in [] later all = all
  checks_in (pair ∷ near) later all = (mod-lt (sum pair.key) some, checks_in near later all)

  calls_in : (replies : List NodeReply) → AllByRecursion IsIn (stream_calls shards stream replies)
  calls_in (Pulled entry ∷ replies) = (origin, checks_in entry.near _ (origin, (origin, tt)))
  calls_in replies = (origin, tt)

  listed_in : (calls : List Directed) (n : ℕ) (d : Directed) → AllByRecursion IsIn calls → slice_get calls n ≡ Some d → IsIn d
  listed_in [] n d all is = cc
  listed_in (c ∷ calls) zero d all is = let same : c ≡ d = cc in subst IsIn same all.0
  listed_in (c ∷ calls) (suc n) d all is = listed_in calls n d all.1 is

  asks : (ending : Option Delivery) (o : Option Directed) (last : Delivery) (d : Directed) → unless_end ending (call_or o last) ≡ Call d → o ≡ Some d
  asks None None last d is = cc
  asks None (Some c) last d is = let same : c ≡ d = cc in ap Some same
  asks (Some x) o last d is = cc

  next_in : (log : List LogStep) (d : Directed) → carrier_next shards stream log ≡ Call d → IsIn d
  next_in log d is =
      let replies = replies_of log in
      let calls = stream_calls shards stream replies in
      listed_in calls (length replies) d (calls_in replies) (asks (first_end shards stream calls replies) (slice_get calls (length replies)) (finished_delivery replies) d is)

module _ {N : Type 0} (Calls : N → NodeId → ℕ → ℕ → NodeCall → NodeReply → N → Type 0) (shards slot : ℕ) (some : 0 < shards) (stream : Stream) (origin : stream.origin.shard < shards) where
  steps_there : (count : ℕ) (old new : N) (before after : Carrier) → before.stream ≡ stream → TakesSteps Calls shards slot count old before new after → (after.stream ≡ stream) × TakesSteps (Within Calls shards) shards slot count old before new after
  steps_there zero old new before after is (same, same_carrier) = (ap (λ (k : Carrier). k.stream) same_carrier ∙ is, (same, same_carrier))
  steps_there (suc count) old new before after is (between, middle, earlier, (directed, moment, reply, asked, called, after_is)) =
      let first = steps_there count old between before middle is earlier in
      let below : directed.node.shard < shards = next_in shards some stream origin middle.log directed (ap (λ s. carrier_next shards s middle.log) (sym first.0) ∙ asked) in
      (ap (λ (k : Carrier). k.stream) after_is ∙ first.0, (between, middle, first.1, (directed, moment, reply, asked, (below, called), after_is)))

  pub delivers_there : (old new : N) (ending : Delivery) → Delivers Calls shards slot stream old new ending → Delivers (Within Calls shards) shards slot stream old new ending
  delivers_there old new ending (count, last, steps, ends) = (count, last, (steps_there count old new (new_carrier stream) last refl steps).1, ends)

-- How a request of a client is answered: by its session, at the nodes, at the moments that come.
use Rattle.std.specs.Prelude.{◌≡◌, ◌⊎◌, ℕ, ◌<◌, ◌≤◌, ◌^◌, Bool, not, ◌&&◌, ◌==◌, zero, suc, nat_lt, nat_le, List, [], ◌∷◌, map, drop, length, slice_index, Option, Some, None, if◌then◌else◌}
use Rattle.std.specs.Int.{w64, from_be_bytes}
use Rattle.std.specs.List.{list_all, AllByRecursion}
use Rattle.std.specs.Option.{option_map, option_map_or, option_or}
use Rattle.cops_types.specs.declared.contexts.ReadParts.{ReadParts as Read}
use Rattle.cops_types.specs.declared.faults.Fault.{Fault}
use Rattle.cops_types.specs.declared.faults.Fault.TheVariants.{BadKey, Busy, DependenciesFull, NoContext, OutOfMemory, Syntax, ValueTooLong}
use Rattle.cops_types.specs.declared.pairs.Pair.{Pair}
use Rattle.cops_types.specs.Key.{is_key}
use Rattle.cops_types.specs.Search.{first_refusal}
use Rattle.cops_types.specs.TenantConfig.{TenantConfig}
use Rattle.cops_types.specs.Value.{is_too_long}
use Rattle.cops_handles.specs.Wire.{wire_of}
use Rattle.cops_model.specs.declared.calls.NodeCall.{NodeCall}
use Rattle.cops_model.specs.declared.calls.NodeId.{NodeId}
use Rattle.cops_model.specs.declared.calls.NodeReply.{NodeReply}
use Rattle.cops_model.specs.Log.{LogStep, Late, Replied, Next, Call, Restart, Ended}
use Rattle.cops_node.specs.declared.Shape.{Shape}
use Rattle.cops_model.specs.declared.requests.Answer.{Answer}
use Rattle.cops_model.specs.declared.requests.Answer.TheVariants as answer
use Rattle.cops_model.specs.declared.requests.Progress.{Progress}
use Rattle.cops_model.specs.declared.requests.Progress.TheVariants.{Working, Restarted, Done}
use Rattle.cops_session.specs.Kept.{KeptSession}
use Rattle.cops_model.specs.Request.{Action, Write, Fetch, next}
use Rattle.cops_model.specs.Session.{Running, Session, context_created, context_deleted, context_refusal, create_refusal, get_refusal, is_busy, moment_at, progress, request_begun, request_of, session_after, session_put_refusal}
use Rattle.cops_session.specs.SessionStands.{SessionStandsFor}
use Rattle.cops_session.specs.Wants.{WantsMemory}
use Rattle.cops_wire.specs.declared.messages.Link.{Link}
use Rattle.cops_wire.specs.declared.messages.Message.{Message}
use Rattle.cops_wire.specs.declared.messages.Message.TheVariants.{CreateContext, DeleteContext, Put, GetTrans, Created, Deleted, Stored, Values, Refused}
use Rattle.cops_wire.specs.declared.messages.Outcome.{Outcome}
use Rattle.cops_wire.specs.Fitting.{longest_body}
use Rattle.cops_wire.specs.Spelling.{body_of}
use Rattle.cops_session.specs.Tags.{context_tag}

-- ---- handles

-- the handle is one of a context
abbrev pub is_context : List ℕ → Bool
is_context handle = slice_index handle 0 == context_tag

-- the number behind the tag
abbrev pub number_in : List ℕ → ℕ
number_in handle = from_be_bytes w64 (drop 1 handle)

-- ---- refusals, in their order

-- what every request that names a context is refused with
abbrev pub naming_refusal : List ℕ → Session → Option Fault
naming_refusal handle session = first_refusal ((is_busy session, Busy) ∷ (not (is_context handle), NoContext) ∷ [])

abbrev pub deletion_refusal : List ℕ → Session → Option Fault
deletion_refusal handle session = option_or (naming_refusal handle session) (context_refusal (number_in handle) session)

abbrev pub writing_refusal : TenantConfig → List ℕ → List ℕ → List ℕ → Session → Option Fault
writing_refusal config handle key value session =
    option_or (first_refusal ((not (is_key key), BadKey) ∷ (is_too_long value, ValueTooLong) ∷ []))
    (option_or (naming_refusal handle session) (session_put_refusal config (number_in handle) key session))

abbrev pub reading_refusal : TenantConfig → List ℕ → List (List ℕ) → Session → Option Fault
reading_refusal config handle keys session =
    option_or (first_refusal ((nat_lt (length keys) 1, Syntax) ∷ (not (list_all is_key keys), BadKey) ∷ []))
    (option_or (naming_refusal handle session) (get_refusal config (number_in handle) keys session))

-- ---- replies

abbrev pub link_to : Pair → Link
link_to pair = record { key = pair.key; version = pair.version }

-- what a key had: nothing if it was absent
abbrev pub outcome_of_read : Read → Outcome
outcome_of_read read = record { key = read.key; held = option_map (λ value. record { value = value; version = read.version; deps = map link_to read.deps }) read.value }

-- two bytes can count its value and its dependencies
abbrev pub is_counted : Read → Bool
is_counted read = nat_le (option_map_or length read.value 0) 65535 && nat_le (length read.deps) 65535

-- one byte can count the reads
abbrev pub are_counted : List Read → Bool
are_counted reads = nat_le (length reads) 255 && list_all is_counted reads

abbrev pub values_of : List Read → Message
values_of reads = Values (map outcome_of_read reads)

-- one frame can hold the reads
abbrev pub is_one_frame : List Read → Bool
is_one_frame reads = are_counted reads && nat_le (length (body_of (values_of reads))) longest_body

-- What a read is within the limits of a head: its key, its value and the keys that it depends on aren't too long, and it depends on few.
abbrev pub IsLimited : Read → Type 0
IsLimited read =
    (length read.key ≤ 64) × (option_map_or length read.value 0 ≤ 4096) × (length read.deps ≤ 1024) × AllByRecursion (λ pair. length pair.key ≤ 64) read.deps

-- a transaction reads few keys, and each read is within those limits
abbrev pub AreLimited : List Read → Type 0
AreLimited reads = (length reads ≤ 32) × AllByRecursion IsLimited reads

-- the message that gives all of an answer
abbrev pub whole_message : Answer → Message
whole_message (answer.Stored pair) = Stored pair.key pair.version
whole_message (answer.Values reads) = values_of reads
whole_message (answer.Refused fault) = Refused fault

-- the message that gives the answer of a request; what no frame can hold counts as too many dependencies
abbrev pub message_of_answer : Answer → Message
message_of_answer (answer.Values reads) = if is_one_frame reads then values_of reads else Refused DependenciesFull
message_of_answer others = whole_message others

-- The reply gives the answer. It gives all of it if the tenant's lists have at most 1,024 pairs, as in each head.
pub record GivesAnswer (config : TenantConfig) (ended : Answer) (reply : Message) : Type 0 where
  pub gives : reply ≡ message_of_answer ended
  pub whole : config.quota.deps ≤ 1024 → reply ≡ whole_message ended

-- ---- steps

-- the call may be answered so, and leaves the sizes of the nodes
abbrev pub KeepsShape : {N : Type 0} → (N → Shape) → (N → NodeId → ℕ → ℕ → NodeCall → NodeReply → N → Type 0) → N → NodeId → ℕ → ℕ → NodeCall → NodeReply → N → Type 0
KeepsShape shape Calls old id slot moment call reply new = Calls old id slot moment call reply new × (shape new ≡ shape old)

-- what requests are answered from: a session, the nodes, and the moments to come
pub record Backend (S N M : Type 0) : Type 0 where
  pub session : S
  pub nodes : N
  pub moments : M

abbrev pub backend : {S N M : Type 0} → S → N → M → Backend S N M
backend session nodes moments = record { session = session; nodes = nodes; moments = moments }

-- what the step shows, and the session after it; that memory was refused may come in place of what it shows, only if memory was needed
pub record HasShown (config : TenantConfig) (session : Session) (running : Running) (step : LogStep) (shown : Progress) (after : Session) : Type 0 where
  pub shown_is : (shown ≡ progress config (request_of session running) running.log step) ⊎ (shown ≡ Done (answer.Refused OutOfMemory))
  pub wants : shown ≡ Done (answer.Refused OutOfMemory) → WantsMemory config (request_of session running) running.log step running.action
  pub after_is : after ≡ session_after session running step shown

-- the request goes on
abbrev pub RequestGoesOn : Progress → Type 0
RequestGoesOn Working = Unit {0}
RequestGoesOn (Restarted times) = Unit {0}
RequestGoesOn (Done ended) = ⊥

-- `Calls` says what a node call may answer and leave, and `Gives` which moment may come next.
module _ {N M : Type 0} (Calls : N → NodeId → ℕ → ℕ → NodeCall → NodeReply → N → Type 0) (Gives : M → ℕ → M → Type 0) (config : TenantConfig) (slot : ℕ) where
  -- the running request does what comes next, at this moment
  abbrev pub DoesNext : Session → Running → ℕ → N → Next Answer → Progress → Session → N → Type 0
  DoesNext session running moment old (Call directed) shown after new =
      (reply : NodeReply) × Calls old directed.node slot moment directed.call reply new × HasShown config session running (record { moment = moment; outcome = Replied reply }) shown after
  DoesNext session running moment old Restart shown after new = (new ≡ old) × HasShown config session running (record { moment = moment; outcome = Late }) shown after
  DoesNext session running moment old (Ended ended) shown after new = ⊥

  -- the session takes one step of its request, at the moment that comes next
  pub record Steps (old : Backend Session N M) (shown : Progress) (new : Backend Session N M) : Type 0 where
    pub running : Running
    pub runs : old.session.running ≡ Some running
    pub given : ℕ
    pub gives : Gives old.moments given new.moments
    pub does : let moment = moment_at given old.session in
        DoesNext old.session running moment old.nodes (next config (request_of old.session running) running.log moment) shown new.session new.nodes

  -- after so many steps with which the request goes on, the next one ends it
  abbrev pub EndsAfter : ℕ → Backend Session N M → Answer → Backend Session N M → Type 0
  EndsAfter zero old ended new = Steps old (Done ended) new
  EndsAfter (suc steps) old ended new = (shown : Progress) × (mid : Backend Session N M) × Steps old shown mid × RequestGoesOn shown × EndsAfter steps mid ended new

  abbrev pub Ends : Backend Session N M → Answer → Backend Session N M → Type 0
  Ends old ended new = (steps : ℕ) × EndsAfter steps old ended new

  -- ---- answers

  -- a refused request changes nothing
  abbrev pub UnlessRefused : Option Fault → Backend Session N M → Message → Backend Session N M → Type 0 → Type 0
  UnlessRefused (Some fault) old reply new answered = (reply ≡ Refused fault) × (new ≡ old)
  UnlessRefused None old reply new answered = answered

  -- the session changes at once, and this is the reply
  abbrev pub Becomes : Backend Session N M → Session → Message → Message → Backend Session N M → Type 0
  Becomes old after told reply new = (reply ≡ told) × (new ≡ backend after old.nodes old.moments)

  -- the request runs until it has its answer
  abbrev pub Runs : Backend Session N M → ℕ → Action → Message → Backend Session N M → Type 0
  Runs old context action reply new = (ended : Answer) × GivesAnswer config ended reply × Ends (backend (request_begun context action old.session) old.nodes old.moments) ended new

  -- the request is answered as the session's definition says
  abbrev pub AnswersSo : Backend Session N M → Message → Message → Backend Session N M → Type 0
  AnswersSo old CreateContext reply new =
      UnlessRefused (create_refusal config old.session) old reply new
      (Becomes old (context_created old.session) (Created (wire_of context_tag old.session.next_context)) reply new)
  AnswersSo old (DeleteContext handle) reply new =
      UnlessRefused (deletion_refusal handle old.session) old reply new
      (Becomes old (context_deleted (number_in handle) old.session) Deleted reply new)
  AnswersSo old (Put handle key value) reply new =
      UnlessRefused (writing_refusal config handle key value old.session) old reply new
      (Runs old (number_in handle) (Write key value) reply new)
  AnswersSo old (GetTrans handle keys) reply new =
      UnlessRefused (reading_refusal config handle keys old.session) old reply new
      (Runs old (number_in handle) (Fetch keys) reply new)
  AnswersSo old others reply new = ⊥

  -- that memory was refused may come in place of any other answer, and then nothing changes
  abbrev pub Answers : Backend Session N M → Message → Message → Backend Session N M → Type 0
  Answers old request reply new = ((reply ≡ Refused OutOfMemory) × (new ≡ old)) ⊎ AnswersSo old request reply new

-- ---- sessions as they are kept

-- no head allows as many restarts
abbrev pub HasFewRestarts : TenantConfig → Type 0
HasFewRestarts config = config.restarts < 2 ^ 32

-- Whatever session of the definition the kept one stands for, the request is answered from it as the definition says, and the kept
-- one then stands for the session after that. Nothing that a session never changes has changed.
pub record HasAnswered {N M : Type 0} (Calls : N → NodeId → ℕ → ℕ → NodeCall → NodeReply → N → Type 0) (Gives : M → ℕ → M → Type 0)
    (old : Backend KeptSession N M) (request reply : Message) (new : Backend KeptSession N M) : Type 0 where
  pub setting : new.session.setting ≡ old.session.setting
  pub answers : (config : TenantConfig) (session : Session) → HasFewRestarts config → SessionStandsFor config old.session session →
      (after : Session) × SessionStandsFor config new.session after
      × Answers Calls Gives config old.session.setting.slot (backend session old.nodes old.moments) request reply (backend after new.nodes new.moments)

-- The steps of a session that is kept, for each session of the definition that it stands for.
use Rattle.std.specs.Prelude.{◌≡◌, ◌≤◌, ◌++◌, ℕ, true, false, nat_lt, not, length, List, [], ◌∷◌, Option, Some, None, Result, Ok, Err, OnOk, OnErr, IfSome, ⊤}
use Rattle.std.specs.List.{list_all}
use Rattle.std.specs.declared.alloc.AllocError.{AllocError}
use Rattle.cops_types.specs.declared.faults.Fault.{Fault}
use Rattle.cops_types.specs.declared.faults.Fault.TheVariants.{BadKey, Syntax}
use Rattle.cops_types.specs.declared.request_errors.RequestError.{RequestError}
use Rattle.cops_types.specs.declared.request_errors.RequestError.TheVariants.{OutOfMemory, Refused as RefusedWith}
use Rattle.cops_types.specs.Key.{is_key}
use Rattle.cops_types.specs.RequestErrors.{AnswersUnless, fault_told}
use Rattle.cops_types.specs.Search.{first_refusal}
use Rattle.cops_types.specs.TenantConfig.{TenantConfig}
use Rattle.cops_model.specs.declared.calls.NodeCall.{NodeCall}
use Rattle.cops_model.specs.declared.calls.NodeId.{NodeId}
use Rattle.cops_model.specs.declared.calls.NodeReply.{NodeReply}
use Rattle.cops_model.specs.declared.requests.Answer.{Answer}
use Rattle.cops_model.specs.declared.requests.Progress.TheVariants.{Done}
use Rattle.cops_model.specs.declared.requests.Progress.{Progress}
use Rattle.cops_session.specs.Kept.{KeptSession}
use Rattle.cops_model.specs.Request.{Action, Write, Fetch}
use Rattle.cops_model.specs.Session.{Running, Session}
use Rattle.cops_session.specs.SessionStands.{SessionStandsFor}
use Rattle.cops_wire.specs.declared.messages.Message.{Message}
use Rattle.cops_wire.specs.declared.messages.Message.TheVariants.{CreateContext, DeleteContext, GetTrans, Refused}
use Rattle.cops_wire.specs.declared.faults.Unread.{Unread}
use Rattle.cops_wire.specs.declared.faults.Unread.TheVariants.{Memory, Malformed}
use Rattle.cops_wire.specs.declared.reading.Request.{Request}
use Rattle.cops_wire.specs.declared.reading.Request.TheVariants as asked
use Rattle.cops_wire.specs.Limits.{IsHeldOrTyped}
use Rattle.cops_wire.specs.Requests.{Backend, Ends, HasFewRestarts, RequestGoesOn, Steps, backend, message_of_answer}
use Rattle.cops_wire.specs.Reading.{Fails, put_message_of}
use Rattle.cops_wire.specs.Serving.{is_request}
use Rattle.cops_wire.specs.Spelling.{spelling}

-- a transaction over at most 32 keys, or a put
abbrev pub HasFewKeys : Action → Type 0
HasFewKeys (Write key value) = Unit {0}
HasFewKeys (Fetch keys) = length keys ≤ 32

-- the answer is there exactly if the step ends the request
abbrev pub ShowsAnswer : Progress → Option Answer → Type 0
ShowsAnswer shown (Some ended) = shown ≡ Done ended
ShowsAnswer shown None = RequestGoesOn shown

module _ {N M : Type 0} (Calls : N → NodeId → ℕ → ℕ → NodeCall → NodeReply → N → Type 0) (GivesMoment : M → ℕ → M → Type 0) (config : TenantConfig) (slot : ℕ) where
  -- one step was taken, and the kept session stands for the one after it
  pub record HasStepped (old : Backend Session N M) (kept : KeptSession) (nodes : N) (moments : M) (answer : Option Answer) : Type 0 where
    pub after : Session
    pub stands : SessionStandsFor config kept after
    pub shown : Progress
    pub steps : Steps Calls GivesMoment config slot old shown (backend after nodes moments)
    pub gives : ShowsAnswer shown answer

  -- the request ended with this answer, and the kept session stands for the one after it
  pub record HasEnded (old : Backend Session N M) (kept : KeptSession) (nodes : N) (moments : M) (answer : Answer) : Type 0 where
    pub after : Session
    pub stands : SessionStandsFor config kept after
    pub ends : Ends Calls GivesMoment config slot old answer (backend after nodes moments)

-- ---- requests

-- the request was refused and changed nothing, or had its effect at once
abbrev pub IsTold : Option Fault → Session → Session → Message → Session → Message → Type 0
IsTold (Some fault) old then_be told after reply = (reply ≡ Refused fault) × (after ≡ old)
IsTold None old then_be told after reply = (reply ≡ told) × (after ≡ then_be)

pub record IsRequestDone (config : TenantConfig) (refusal : Option Fault) (old then_be : Session) (told : Message) (kept : KeptSession) (reply : Message) : Type 0 where
  pub after : Session
  pub stands : SessionStandsFor config kept after
  pub told_is : IsTold refusal old then_be told after reply

-- the keys were made of these lists, unless there are none or one is no key; or memory ran out
pub record AreKeysOf (lists : List (List ℕ)) (made : Result Unit RequestError) (keys : List (List ℕ)) : Type 0 where
  pub same : OnOk made (keys ≡ lists)
  pub told_is : AnswersUnless (first_refusal ((nat_lt (length lists) 1, Syntax) ∷ (not (list_all is_key lists), BadKey) ∷ [])) made

-- the keys were made of these lists so far; or one is no key, or memory ran out
abbrev pub AreMadeOf : List (List ℕ) → Result Unit RequestError → List (List ℕ) → Type 0
AreMadeOf lists (Ok made) keys = (keys ≡ lists) × (list_all is_key lists ≡ true)
AreMadeOf lists (Err OutOfMemory) keys = ⊤
AreMadeOf lists (Err (RefusedWith fault)) keys = (fault ≡ BadKey) × (list_all is_key lists ≡ false)

-- lists were read, and keys made of them
abbrev pub AreKeysRead : Result (Result Unit RequestError) Unread → List (List ℕ) → List ℕ → Option (List (List ℕ) × List ℕ) → Type 0
AreKeysRead (Ok made) keys rest read = (lists : List (List ℕ)) × (read ≡ Some (lists, rest)) × AreKeysOf lists made keys
AreKeysRead (Err e) keys rest read = Fails e read

-- the request asks what the message asks; the keys are those of a get transaction
abbrev pub Asks : Request → List (List ℕ) → Message → Type 0
Asks asked.Create keys message = message ≡ CreateContext
Asks (asked.Delete handle) keys message = message ≡ DeleteContext handle
Asks (asked.Put put) keys message = message ≡ put_message_of put
Asks (asked.Get handle made) keys message = (lists : List (List ℕ)) × (message ≡ GetTrans handle lists) × AreKeysOf lists made keys

-- the parts of a request were read, or those of no request
abbrev pub IsPartsAsked : Result Request Unread → List (List ℕ) → List ℕ → Option (Message × List ℕ) → Type 0
IsPartsAsked (Ok request) keys rest read = (message : Message) × (read ≡ Some (message, rest)) × Asks request keys message
IsPartsAsked (Err Memory) keys rest read = ⊤
IsPartsAsked (Err Malformed) keys rest read = IfSome read (λ parts. is_request parts.0 ≡ false)

-- a request was read, or what is none
abbrev pub IsRequestRead : Result Request Unread → List (List ℕ) → Option Message → Type 0
IsRequestRead (Ok request) keys read = (message : Message) × (read ≡ Some message) × Asks request keys message
IsRequestRead (Err Memory) keys read = ⊤
IsRequestRead (Err Malformed) keys read = IfSome read (λ message. is_request message ≡ false)

-- the frame of a reply was put at the end, or nothing if memory ran out
abbrev pub PutsFrame : Result Unit AllocError → List ℕ → List ℕ → Message → Type 0
PutsFrame result old new reply = OnOk result (new ≡ old ++ spelling reply) × OnErr result (new ≡ old)

-- What was begun ran to its answer, from whatever the kept session stood for; what failed changed nothing.
abbrev pub HasRun : {N M : Type 0} → (N → NodeId → ℕ → ℕ → NodeCall → NodeReply → N → Type 0) → (M → ℕ → M → Type 0) → Backend KeptSession N M → Result Unit RequestError → Backend KeptSession N M → (Message → Type 0) → Type 0
HasRun Calls GivesMoment old (Ok begun) new IsPut =
    (answer : Answer) × IsPut (message_of_answer answer) × IsHeldOrTyped answer
    × ((config : TenantConfig) (session : Session) (running : Running) → HasFewRestarts config → SessionStandsFor config old.session session → session.running ≡ Some running → running.log ≡ [] → HasFewKeys running.action →
    HasEnded Calls GivesMoment config old.session.setting.slot (backend session old.nodes old.moments) new.session new.nodes new.moments answer)
HasRun Calls GivesMoment old (Err error) new IsPut = IsPut (Refused (fault_told error)) × (new ≡ old)

-- the reply that gives the answer was put at the end if there is one; otherwise nothing was
abbrev pub PutsAnswer : Option (Result Unit AllocError) → List ℕ → List ℕ → Option Answer → Type 0
PutsAnswer (Some put) old new (Some answer) = PutsFrame put old new (message_of_answer answer) × IsHeldOrTyped answer
PutsAnswer (Some put) old new None = ⊥
PutsAnswer None old new (Some answer) = ⊥
PutsAnswer None old new None = new ≡ old

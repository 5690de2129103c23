-- The commands of one actor and what the definition says of each: a session with its requests, a carrier of a stream, or a collection.
use Rattle.std.specs.Prelude.{◌≡◌, ℕ, true, false, max, nat_lt, List, [], ◌∷◌, length, Option, Some, None}
use Rattle.std.specs.List.{list_all}
use Rattle.cops_types.specs.Key.{is_key}
use Rattle.cops_types.specs.TenantConfig.{TenantConfig}
use Rattle.cops_types.specs.Value.{is_value}
use Rattle.cops_types.specs.declared.faults.Fault.{Fault}
use Rattle.cops_types.specs.declared.faults.Fault.TheVariants.{OutOfMemory}
use Rattle.cops_model.specs.declared.calls.NodeCall.TheVariants as node_call
use Rattle.cops_model.specs.Log.{LogStep, Late, Replied, Call, Restart}
use Rattle.cops_model.specs.Lacks.{IsLastRead, request_dropped}
use Rattle.cops_model.specs.Request.{next, Fetch, Write}
use Rattle.cops_model.specs.Session.{Running, Session, context_created, context_deleted, context_refusal, create_refusal, get_refusal, moment_at, new_session, progress, request_begun, request_of, session_after, session_put_refusal}
use Rattle.cops_model.specs.Carrier.{Carrier, Stream, carrier_after, carrier_next, delivery_progress, new_carrier}
use Rattle.cops_model.specs.declared.acts.Act.{Act}
use Rattle.cops_model.specs.declared.acts.Act.TheVariants.{Open, Create, Delete, Put, Get, Carry, Step, Collect}
use Rattle.cops_model.specs.declared.deliveries.Progress.{Progress as CarrierProgress}
use Rattle.cops_model.specs.declared.deliveries.Progress.TheVariants as carrier_progress
use Rattle.cops_model.specs.declared.replies.Reply.{Reply}
use Rattle.cops_model.specs.declared.replies.Reply.TheVariants.{Opened, Created, Deleted, Started, Working, Refused}
use Rattle.cops_model.specs.Cluster.{Actor, OfCarrier, OfSession, has_stream, reply_of_collect, reply_of_delivery, reply_of_progress}
use Rattle.cops_history.specs.Turns.{Turn}

-- An act without the name of its actor. `Steps`, `StepsUnread`, `Carries` and `Collects` make one turn at a node, the others none. A number before a turn is the timestamp that was passed.
-- In `StepsUnread` the node replied, and then memory ran out for the values that a round had read.
pub data Command : Type 0 where
  Opens : ℕ → Command
  Creates : Command
  Deletes : ℕ → Command
  Puts : ℕ → List ℕ → List ℕ → Command
  Gets : ℕ → List (List ℕ) → Command
  Begins : Stream → Command
  StepsLate : ℕ → Command
  Steps : ℕ → Turn → Command
  StepsUnread : ℕ → Turn → Command
  Carries : ℕ → Turn → Command
  Collects : Turn → Command

-- the turn that a command makes
abbrev pub turn_made_by : Command → List Turn
turn_made_by (Steps given t) = t ∷ []
turn_made_by (StepsUnread given t) = t ∷ []
turn_made_by (Carries given t) = t ∷ []
turn_made_by (Collects t) = t ∷ []
turn_made_by command = []

-- the act, with the actor's name
abbrev pub act_of : List ℕ → Command → Act
act_of name (Opens dc) = Open name dc
act_of name Creates = Create name
act_of name (Deletes number) = Delete name number
act_of name (Puts number key value) = Put name number key value
act_of name (Gets number keys) = Get name number keys
act_of name (Begins stream) = Carry name stream.origin.dc stream.origin.shard stream.to_dc
act_of name (StepsLate given) = Step name given
act_of name (Steps given t) = Step name given
act_of name (StepsUnread given t) = Step name given
act_of name (Carries given t) = Step name given
act_of name (Collects t) = Collect t.node.dc t.node.shard t.moment

-- ---- what the definition of the actor says

-- the session accepts the command
abbrev pub IsAsked : (Session → Option Fault) → (Session → Reply) → (Session → Session) → Option Actor → Reply → Option Actor → Type 0
IsAsked refusal answer after old reply new = (s : Session) × (old ≡ Some (OfSession s)) × (refusal s ≡ None) × (reply ≡ answer s) × (new ≡ Some (OfSession (after s)))

-- the session takes this step of its running request
abbrev pub IsStepped : TenantConfig → Session → Running → LogStep → Reply → Option Actor → Type 0
IsStepped config s running step reply new =
    let shown = progress config (request_of s running) running.log step in
    (reply ≡ reply_of_progress shown) × (new ≡ Some (OfSession (session_after s running step shown)))

-- the carrier after a step; a carrier that has ended is gone
abbrev pub carrier_left : Carrier → CarrierProgress → Option Actor
carrier_left after carrier_progress.Working = Some (OfCarrier after)
carrier_left after (carrier_progress.Done ending) = None

abbrev pub reply_of_carrier : CarrierProgress → Reply
reply_of_carrier carrier_progress.Working = Working
reply_of_carrier (carrier_progress.Done ending) = reply_of_delivery ending

-- The state of an actor (none before its first command), a command, its reply, and the state after it.
abbrev pub Does : TenantConfig → Option Actor → Command → Reply → Option Actor → Type 0
Does config old (Opens dc) reply new = (old ≡ None) × (nat_lt dc config.data_centres ≡ true) × (reply ≡ Opened) × (new ≡ Some (OfSession (new_session dc 1)))
Does config old Creates reply new = IsAsked (create_refusal config) (λ s. Created s.next_context) context_created old reply new
Does config old (Deletes number) reply new = IsAsked (context_refusal number) (λ s. Deleted) (context_deleted number) old reply new
Does config old (Puts number key value) reply new =
    (is_key key ≡ true) × (is_value value ≡ true) × IsAsked (session_put_refusal config number key) (λ s. Started) (request_begun number (Write key value)) old reply new
Does config old (Gets number keys) reply new =
    (nat_lt (length keys) 1 ≡ false) × (list_all is_key keys ≡ true) × IsAsked (get_refusal config number keys) (λ s. Started) (request_begun number (Fetch keys)) old reply new
Does config old (Begins stream) reply new =
    (old ≡ None) × (has_stream config stream.origin.dc stream.origin.shard stream.to_dc ≡ true) × (reply ≡ Started) × (new ≡ Some (OfCarrier (new_carrier stream)))
Does config old (StepsLate given) reply new =
    (s : Session) × (running : Running) × (old ≡ Some (OfSession s)) × (s.running ≡ Some running)
    × (next config (request_of s running) running.log (moment_at given s) ≡ Restart)
    × IsStepped config s running (record { moment = moment_at given s; outcome = Late }) reply new
Does config old (Steps given t) reply new =
    (s : Session) × (running : Running) × (old ≡ Some (OfSession s)) × (s.running ≡ Some running)
    × (next config (request_of s running) running.log (moment_at given s) ≡ Call (record { node = t.node; call = t.call }))
    × (t.moment ≡ moment_at given s)
    × IsStepped config s running (record { moment = moment_at given s; outcome = Replied t.reply }) reply new
Does config old (StepsUnread given t) reply new =
    (s : Session) × (running : Running) × (old ≡ Some (OfSession s)) × (s.running ≡ Some running)
    × (next config (request_of s running) running.log (moment_at given s) ≡ Call (record { node = t.node; call = t.call }))
    × (t.moment ≡ moment_at given s)
    × IsLastRead config s running (record { moment = moment_at given s; outcome = Replied t.reply })
    × (reply ≡ Refused OutOfMemory) × (new ≡ Some (OfSession (request_dropped (moment_at given s) s)))
Does config old (Carries given t) reply new =
    (k : Carrier) × (old ≡ Some (OfCarrier k))
    × (carrier_next config.shards k.stream k.log ≡ Call (record { node = t.node; call = t.call }))
    × (t.moment ≡ max k.moment given)
    × (let step : LogStep = record { moment = max k.moment given; outcome = Replied t.reply } in
    let shown = delivery_progress config.shards k step in
    (reply ≡ reply_of_carrier shown) × (new ≡ carrier_left (carrier_after k step) shown))
Does config old (Collects t) reply new = (t.call ≡ node_call.Collect) × (reply ≡ reply_of_collect t.reply) × (new ≡ old)

-- What holds after every list of acts, if it holds at first and each move of the cluster keeps it.
use Rattle.std.proofs.Common.{◌≡◌, ℕ, Bool, true, false, not, ◌&&◌, ◌==◌, List, [], ◌∷◌, ◌++◌, refl, sym, subst}
use Rattle.std.specs.Prelude.{Option, Some, None, max, nat_lt, nat_le, length, is_some}
use Rattle.std.specs.List.{list_all}
use Rattle.std.specs.Option.{option_and_then}
use Rattle.cops_types.specs.declared.faults.Fault.{Fault}
use Rattle.cops_types.specs.declared.faults.Fault.TheVariants.{UnknownName, NameTaken, ActorsFull, NoSuchPlace}
use Rattle.cops_types.specs.Key.{is_key}
use Rattle.cops_types.specs.Search.{first_refusal}
use Rattle.cops_types.specs.TenantConfig.{TenantConfig}
use Rattle.cops_model.specs.declared.calls.NodeCall.TheVariants as node_call
use Rattle.cops_model.specs.declared.calls.NodeId.{NodeId}
use Rattle.cops_model.specs.declared.calls.NodeReply.{NodeReply}
use Rattle.cops_model.specs.declared.calls.NodeReply.TheVariants as node_reply
use Rattle.cops_model.specs.Log.{LogStep, Late, Replied, Call, Restart, Ended, Directed}
use Rattle.cops_model.specs.declared.requests.Answer.{Answer}
use Rattle.cops_model.specs.Request.{Write, Fetch}
use Rattle.cops_model.specs.Request as request
use Rattle.cops_model.specs.Session.{Running, Session, context_created, context_deleted, get_refusal, moment_at, new_session, request_begun, request_of, session_put_refusal}
use Rattle.cops_model.specs.declared.deliveries.Delivery.{Delivery}
use Rattle.cops_model.specs.declared.deliveries.Delivery.TheVariants as delivery
use Rattle.cops_model.specs.declared.deliveries.Progress.{Progress as CarrierProgress}
use Rattle.cops_model.specs.declared.deliveries.Progress.TheVariants as carrier_progress
use Rattle.cops_model.specs.Carrier.{Carrier, Stream, new_carrier, carrier_after}
use Rattle.cops_model.specs.Carrier as carrier
use Rattle.cops_model.specs.declared.acts.Act.{Act}
use Rattle.cops_model.specs.declared.acts.Act.TheVariants.{Step}
use Rattle.cops_model.specs.declared.replies.Reply.{Reply}
use Rattle.cops_model.specs.declared.replies.Reply.TheVariants.{Refused}
use Rattle.cops_model.specs.Causal.{Traced, Operation, effect_of, stepped_actor, past_after}
use Rattle.cops_model.specs.Cluster.{ActEffect, Actor, OfCarrier, OfSession, SoloCluster, actor_refusal, actor_step, call_node, carrier_stepped, find_actor, find_session, has_node, on_session, reply_of_answer, reply_of_collect, reply_of_delivery, reply_with, session_stepped, unless_refused, with_actor, with_new_actor, without_actor}
use Rattle.cops_model.specs.Lacks.{request_dropped}
use Rattle.cops_causal.proofs.ActorSteps.{as_session, by_step}
use Rattle.cops_causal.proofs.EndedOperations.{operation_by, operation_ended}

-- the history with one more operation, if there is one
abbrev pub with_operation : List Traced → Option Operation → List Traced
with_operation ts None = ts
with_operation ts (Some o) = ts ++ record { operation = o; past = past_after ts o } ∷ []

-- the history after the actor of this name was stepped with this reply
abbrev pub history_after : List Traced → SoloCluster → List ℕ → Reply → List Traced
history_after ts cluster name reply = with_operation ts (option_and_then (λ effect. operation_by cluster effect name) (effect_of reply))

-- the stream goes from a node of the cluster to another data centre
pub record IsStream (config : TenantConfig) (stream : Stream) : Type 0 where
  pub origin_is : has_node config stream.origin.dc stream.origin.shard ≡ true
  pub to_is : nat_lt stream.to_dc config.data_centres ≡ true
  pub other : (stream.origin.dc == stream.to_dc) ≡ false

-- each move from a cluster and history with B leads to ones with P
pub record Leads (config : TenantConfig) (B P : SoloCluster → List Traced → Type 0) : Type 0 where
  pub opened : (c : SoloCluster) (ts : List Traced) (name : List ℕ) (dc : ℕ) → find_actor name c ≡ None → nat_lt dc config.data_centres ≡ true →
      B c ts → P (with_new_actor name (OfSession (new_session dc 1)) c) ts
  pub carrier_begun : (c : SoloCluster) (ts : List Traced) (name : List ℕ) (stream : Stream) → find_actor name c ≡ None → IsStream config stream →
      B c ts → P (with_new_actor name (OfCarrier (new_carrier stream)) c) ts
  pub context_created : (c : SoloCluster) (ts : List Traced) (name : List ℕ) (s : Session) → find_session name c ≡ Some s → s.running ≡ None →
      B c ts → P (with_actor name (OfSession (context_created s)) c) ts
  pub context_deleted : (c : SoloCluster) (ts : List Traced) (name : List ℕ) (s : Session) (number : ℕ) → find_session name c ≡ Some s → s.running ≡ None →
      B c ts → P (with_actor name (OfSession (context_deleted number s)) c) ts
  pub put_begun : (c : SoloCluster) (ts : List Traced) (name : List ℕ) (s : Session) (number : ℕ) (key value : List ℕ) →
      find_session name c ≡ Some s → session_put_refusal config number key s ≡ None → is_key key ≡ true →
      B c ts → P (with_actor name (OfSession (request_begun number (Write key value) s)) c) ts
  pub get_begun : (c : SoloCluster) (ts : List Traced) (name : List ℕ) (s : Session) (number : ℕ) (keys : List (List ℕ)) →
      find_session name c ≡ Some s → get_refusal config number keys s ≡ None → list_all is_key keys ≡ true →
      B c ts → P (with_actor name (OfSession (request_begun number (Fetch keys) s)) c) ts
  pub called : (c : SoloCluster) (ts : List Traced) (name : List ℕ) (s : Session) (running : Running) (moment : ℕ) (directed : Directed) →
      find_session name c ≡ Some s → s.running ≡ Some running → request.next config (request_of s running) running.log moment ≡ Call directed →
      B c ts →
      let call = call_node config directed.node moment directed.call c in
      let turn = session_stepped config name s running (record { moment = moment; outcome = Replied call.reply }) call.after in
      P turn.after (history_after ts c name turn.reply)
  pub late : (c : SoloCluster) (ts : List Traced) (name : List ℕ) (s : Session) (running : Running) (moment : ℕ) →
      find_session name c ≡ Some s → s.running ≡ Some running → request.next config (request_of s running) running.log moment ≡ Restart →
      B c ts →
      let turn = session_stepped config name s running (record { moment = moment; outcome = Late }) c in
      P turn.after (history_after ts c name turn.reply)
  pub ended : (c : SoloCluster) (ts : List Traced) (name : List ℕ) (s : Session) (running : Running) (moment : ℕ) (answer : Answer) →
      find_session name c ≡ Some s → s.running ≡ Some running → request.next config (request_of s running) running.log moment ≡ Ended answer →
      B c ts → P c (history_after ts c name (reply_of_answer answer))
  pub carrier_called : (c : SoloCluster) (ts : List Traced) (name : List ℕ) (k : Carrier) (moment : ℕ) (directed : Directed) →
      find_actor name c ≡ Some (OfCarrier k) → carrier.carrier_next config.shards k.stream k.log ≡ Call directed →
      B c ts →
      let call = call_node config directed.node moment directed.call c in
      let step : LogStep = record { moment = moment; outcome = Replied call.reply } in
      P (carrier_stepped name (carrier_after k step) (carrier.delivery_progress config.shards k step) call.after).after ts
  pub collected : (c : SoloCluster) (ts : List Traced) (id : NodeId) (moment : ℕ) → has_node config id.dc id.shard ≡ true →
      B c ts → P (call_node config id moment node_call.Collect c).after ts
  -- memory was refused: the request of a session is over before its step made a call, or after a read, or a carrier is gone
  pub dropped : (c : SoloCluster) (ts : List Traced) (name : List ℕ) (s : Session) (running : Running) (moment : ℕ) → find_session name c ≡ Some s → s.running ≡ Some running →
      B c ts → P (with_actor name (OfSession (request_dropped moment s)) c) ts
  pub read_dropped : (c : SoloCluster) (ts : List Traced) (name : List ℕ) (s : Session) (running : Running) (moment : ℕ) (directed : Directed) (keys : List (List ℕ)) →
      find_session name c ≡ Some s → s.running ≡ Some running → running.action ≡ Fetch keys → request.next config (request_of s running) running.log moment ≡ Call directed →
      B c ts → P (with_actor name (OfSession (request_dropped moment s)) (call_node config directed.node moment directed.call c).after) ts
  pub carrier_dropped : (c : SoloCluster) (ts : List Traced) (name : List ℕ) (k : Carrier) → find_actor name c ≡ Some (OfCarrier k) →
      B c ts → P (without_actor name c) ts

-- a property that each move keeps
abbrev pub IsKept : (config : TenantConfig) (P : SoloCluster → List Traced → Type 0) → Type 0
IsKept config P = Leads config P P

-- ---- the branches of an act

-- a check that refused nothing
pub passes : (checked : Option Fault) (cluster : SoloCluster) (turn : ActEffect) (G : ActEffect → Type 0) → ((fault : Fault) → G (reply_with (Refused fault) cluster)) → (checked ≡ None → G turn) →
    G (unless_refused checked cluster turn)
passes (Some fault) cluster turn G refused passed = refused fault
passes None cluster turn G refused passed = passed refl

-- the first check did not hold
pub head_passes : {F : Type 0} (b : Bool) (fault : F) (checks : List (Bool × F)) → first_refusal ((b, fault) ∷ checks) ≡ None → (b ≡ false) × (first_refusal checks ≡ None)
head_passes true fault checks e = cc
head_passes false fault checks e = (refl, e)

session_found : (found : Option Session) (cluster : SoloCluster) (act : Session → ActEffect) (G : ActEffect → Type 0) → G (reply_with (Refused UnknownName) cluster) → ((s : Session) → found ≡ Some s → G (act s)) →
    G (on_session found cluster act)
session_found (Some s) cluster act G none some = some s refl
session_found None cluster act G none some = none

-- ---- facts of the checks

pub flipped : (b : Bool) → not b ≡ false → b ≡ true
flipped true e = refl
flipped false e = cc

pub none_there : {A : Type 0} (o : Option A) → is_some o ≡ false → o ≡ None
none_there None e = refl
none_there (Some x) e = cc

pub and_both : (a b : Bool) → (a && b) ≡ true → (a ≡ true) × (b ≡ true)
and_both true true e = (refl, refl)
and_both true false e = cc
and_both false b e = cc

-- an actor may be new
pub may_join : (exists taken full : Bool) (f g h : Fault) → first_refusal ((not exists, f) ∷ (taken, g) ∷ (full, h) ∷ []) ≡ None → (exists ≡ true) × (taken ≡ false)
may_join true false full f g h e = (refl, refl)
may_join true true full f g h e = cc
may_join false taken full f g h e = cc

-- a session is not busy
pub not_busy : (s : Session) (f : Fault) (checks : List (Bool × Fault)) → first_refusal ((is_some s.running, f) ∷ checks) ≡ None → s.running ≡ None
not_busy s f checks e = none_there s.running (head_passes (is_some s.running) f checks e).0

-- a stream of the cluster
pub stream_of : (config : TenantConfig) (stream : Stream) →
    (has_node config stream.origin.dc stream.origin.shard && nat_lt stream.to_dc config.data_centres && not (stream.origin.dc == stream.to_dc)) ≡ true → IsStream config stream
stream_of config stream e =
    let first = and_both (has_node config stream.origin.dc stream.origin.shard && nat_lt stream.to_dc config.data_centres) (not (stream.origin.dc == stream.to_dc)) e in
    let second = and_both (has_node config stream.origin.dc stream.origin.shard) (nat_lt stream.to_dc config.data_centres) first.0 in
    record { origin_is = second.0; to_is = second.1; other = turned (stream.origin.dc == stream.to_dc) first.1 }
  where
    turned : (b : Bool) → not b ≡ true → b ≡ false
    turned true e = cc
    turned false e = refl

pub plain_answer : (d : Delivery) → effect_of (reply_of_delivery d) ≡ None
plain_answer delivery.Nothing = refl
plain_answer (delivery.Waits pair) = refl
plain_answer (delivery.Carried pair fresh acked) = refl
plain_answer (delivery.OutOfOrder mark) = refl
plain_answer (delivery.Refused fault) = refl

pub plain_carrier : (name : List ℕ) (after : Carrier) (shown : CarrierProgress) (c : SoloCluster) → effect_of (carrier_stepped name after shown c).reply ≡ None
plain_carrier name after carrier_progress.Working c = refl
plain_carrier name after (carrier_progress.Done ending) c = plain_answer ending

pub plain_collect : (reply : NodeReply) → effect_of (reply_of_collect reply) ≡ None
plain_collect (node_reply.Removed count) = refl
plain_collect (node_reply.Refused fault) = refl
plain_collect reply = refl

module _ {config : TenantConfig} {P : SoloCluster → List Traced → Type 0} (kept : IsKept config P) where
  -- what is to be shown of a turn of the act
  abbrev pub Holds : SoloCluster → List Traced → Act → ActEffect → Type 0
  Holds c ts act turn = P turn.after (with_operation ts (operation_ended c act turn.reply))

  -- a turn whose reply is no operation's leaves the history
  pub plainly : (c : SoloCluster) (ts : List Traced) (act : Act) (turn : ActEffect) → effect_of turn.reply ≡ None → P turn.after ts → Holds c ts act turn
  plainly c ts act turn plain p = subst (λ e. P turn.after (with_operation ts (option_and_then (λ effect. option_and_then (operation_by c effect) (stepped_actor act)) e))) (sym plain) p

  pub new_actor : (act : Act) (exists : Bool) (name : List ℕ) (actor : Actor) (reply : Reply) (c : SoloCluster) (ts : List Traced) → effect_of reply ≡ None → P c ts →
      (exists ≡ true → find_actor name c ≡ None → P (with_new_actor name actor c) ts) →
      Holds c ts act (unless_refused (actor_refusal config exists name c) c (reply_with reply (with_new_actor name actor c)))
  new_actor act exists name actor reply c ts plain p joins =
      passes (actor_refusal config exists name c) c (reply_with reply (with_new_actor name actor c)) (Holds c ts act) (λ fault. p) (λ ok.
      let free = may_join exists (is_some (find_actor name c)) (nat_le config.quota.actors (length c.actors)) NoSuchPlace NameTaken ActorsFull ok in
      plainly c ts act (reply_with reply (with_new_actor name actor c)) plain (joins free.0 (none_there (find_actor name c) free.1)))

  pub session_act : (act : Act) (name : List ℕ) (c : SoloCluster) (ts : List Traced) (turn : Session → ActEffect) → P c ts →
      ((s : Session) → find_session name c ≡ Some s → Holds c ts act (turn s)) → Holds c ts act (on_session (find_session name c) c turn)
  session_act act name c ts turn p found = session_found (find_session name c) c turn (Holds c ts act) p found

  -- ---- steps

  pub actor_step_keeps : (c : SoloCluster) (ts : List Traced) (name : List ℕ) (moment : ℕ) → P c ts →
      P (actor_step config name moment c).after (history_after ts c name (actor_step config name moment c).reply)
  actor_step_keeps c ts name moment p = by_step config name moment c (λ turn. P turn.after (history_after ts c name turn.reply)) (record {
    unknown = p;
    idle = p;
    called = λ s running directed found runs is. kept.called c ts name s running (moment_at moment s) directed (as_session name c s found) runs is p;
    late = λ s running found runs is. kept.late c ts name s running (moment_at moment s) (as_session name c s found) runs is p;
    ended = λ s running a found runs is. kept.ended c ts name s running (moment_at moment s) a (as_session name c s found) runs is p;
    carrier_called = λ k directed found is.
        let call = call_node config directed.node (max k.moment moment) directed.call c in
        let step : LogStep = record { moment = max k.moment moment; outcome = Replied call.reply } in
        let shown = carrier.delivery_progress config.shards k step in
        plainly c ts (Step name moment) (carrier_stepped name (carrier_after k step) shown call.after) (plain_carrier name (carrier_after k step) shown call.after)
        (kept.carrier_called c ts name k (max k.moment moment) directed found is p);
    carrier_waits = λ k found is. p;
    carrier_ended = λ k ending found is. plainly c ts (Step name moment) (reply_with (reply_of_delivery ending) c) (plain_answer ending) p;
  })

-- ---- two properties, the second kept if the first holds

abbrev pub Both : (P Q : SoloCluster → List Traced → Type 0) → SoloCluster → List Traced → Type 0
Both P Q c ts = P c ts × Q c ts

pub kept_both : {config : TenantConfig} {P Q : SoloCluster → List Traced → Type 0} → IsKept config P → Leads config (Both P Q) Q → IsKept config (Both P Q)
kept_both p q =
    record {
      opened = λ c ts name dc a b both. (p.opened c ts name dc a b both.0, q.opened c ts name dc a b both);
      carrier_begun = λ c ts name stream a b both. (p.carrier_begun c ts name stream a b both.0, q.carrier_begun c ts name stream a b both);
      context_created = λ c ts name s a b both. (p.context_created c ts name s a b both.0, q.context_created c ts name s a b both);
      context_deleted = λ c ts name s number a b both. (p.context_deleted c ts name s number a b both.0, q.context_deleted c ts name s number a b both);
      put_begun = λ c ts name s number key value a b d both. (p.put_begun c ts name s number key value a b d both.0, q.put_begun c ts name s number key value a b d both);
      get_begun = λ c ts name s number keys a b d both. (p.get_begun c ts name s number keys a b d both.0, q.get_begun c ts name s number keys a b d both);
      called = λ c ts name s running moment directed a b d both. (p.called c ts name s running moment directed a b d both.0, q.called c ts name s running moment directed a b d both);
      late = λ c ts name s running moment a b d both. (p.late c ts name s running moment a b d both.0, q.late c ts name s running moment a b d both);
      ended = λ c ts name s running moment answer a b d both. (p.ended c ts name s running moment answer a b d both.0, q.ended c ts name s running moment answer a b d both);
      carrier_called = λ c ts name k moment directed a b both. (p.carrier_called c ts name k moment directed a b both.0, q.carrier_called c ts name k moment directed a b both);
      collected = λ c ts id moment a both. (p.collected c ts id moment a both.0, q.collected c ts id moment a both);
      dropped = λ c ts name s running moment a b both. (p.dropped c ts name s running moment a b both.0, q.dropped c ts name s running moment a b both);
      read_dropped = λ c ts name s running moment directed keys a b d e both. (p.read_dropped c ts name s running moment directed keys a b d e both.0, q.read_dropped c ts name s running moment directed keys a b d e both);
      carrier_dropped = λ c ts name k a both. (p.carrier_dropped c ts name k a both.0, q.carrier_dropped c ts name k a both);
    }

-- what leads from less to more leads from more to less
pub leads_through : (config : TenantConfig) (B C P Q : SoloCluster → List Traced → Type 0) → ((c : SoloCluster) (ts : List Traced) → C c ts → B c ts) → ((c : SoloCluster) (ts : List Traced) → P c ts → Q c ts) →
    Leads config B P → Leads config C Q
leads_through config B C P Q from to leads =
    record {
      opened = λ c ts name dc a b is. to _ _ (leads.opened c ts name dc a b (from c ts is));
      carrier_begun = λ c ts name stream a b is. to _ _ (leads.carrier_begun c ts name stream a b (from c ts is));
      context_created = λ c ts name s a b is. to _ _ (leads.context_created c ts name s a b (from c ts is));
      context_deleted = λ c ts name s number a b is. to _ _ (leads.context_deleted c ts name s number a b (from c ts is));
      put_begun = λ c ts name s number key value a b d is. to _ _ (leads.put_begun c ts name s number key value a b d (from c ts is));
      get_begun = λ c ts name s number keys a b d is. to _ _ (leads.get_begun c ts name s number keys a b d (from c ts is));
      called = λ c ts name s running moment directed a b d is. to _ _ (leads.called c ts name s running moment directed a b d (from c ts is));
      late = λ c ts name s running moment a b d is. to _ _ (leads.late c ts name s running moment a b d (from c ts is));
      ended = λ c ts name s running moment answer a b d is. to _ _ (leads.ended c ts name s running moment answer a b d (from c ts is));
      carrier_called = λ c ts name k moment directed a b is. to _ _ (leads.carrier_called c ts name k moment directed a b (from c ts is));
      collected = λ c ts id moment a is. to _ _ (leads.collected c ts id moment a (from c ts is));
      dropped = λ c ts name s running moment a b is. to _ _ (leads.dropped c ts name s running moment a b (from c ts is));
      read_dropped = λ c ts name s running moment directed keys a b d e is. to _ _ (leads.read_dropped c ts name s running moment directed keys a b d e (from c ts is));
      carrier_dropped = λ c ts name k a is. to _ _ (leads.carrier_dropped c ts name k a (from c ts is));
    }

-- What an attempt has read of a key was the latest since the attempt began, and what was removed was there for long.
use Rattle.std.proofs.Common.{◌≡◌, ℕ, ◌+◌, ◌*◌, ◌≤◌, ◌<◌, Bool, true, false, cond, List, [], ◌∷◌, ◌++◌, map, length, inl, inr, ◌⊎◌, refl, sym, ◌∙◌, ap, subst, arith, true≢false}
use Rattle.std.specs.Prelude.{Some, None, filter, nat_lt, slice_get}
use Rattle.std.specs.List.{AllByRecursion}
use Rattle.cops_types.specs.declared.pairs.Pair.{Pair}
use Rattle.cops_types.specs.declared.records.Record.{Record}
use Rattle.cops_types.specs.Key.{key_eq}
use Rattle.cops_types.specs.Records.{ever}
use Rattle.cops_types.specs.TenantConfig.{TenantConfig}
use Rattle.cops_types.specs.Version.{Timestamp, version_le, version_lt}
use Rattle.cops_types.proofs.VersionOrder.{version_lt-irrefl, version_lt-le_trans}
use Rattle.cops_types.proofs.Elements.{Among, Among-cases, Among-filter, filter-Among, Among-map, Every-at, fold-push}
use Rattle.cops_types.proofs.KeyTests.{key_eq-true, key_eq-refl}
use Rattle.cops_types.proofs.Zipped.{Zipped}
use Rattle.cops_model.specs.declared.calls.NodeCall.{NodeCall}
use Rattle.cops_model.specs.declared.calls.NodeCall.TheVariants as node_call
use Rattle.cops_model.specs.declared.calls.NodeId.{NodeId}
use Rattle.cops_model.specs.declared.calls.NodeReply.{NodeReply}
use Rattle.cops_model.specs.declared.calls.Wanted.{Wanted}
use Rattle.cops_model.specs.declared.calls.Wanted.TheVariants.{Latest, Exactly}
use Rattle.cops_model.specs.Log.{Ended, Late, LogStep, Replied, replies_of}
use Rattle.cops_model.specs.Place.{place_of}
use Rattle.cops_model.specs.SoloNode.{SoloNode, new_node}
use Rattle.cops_node.proofs.NodeTurns.{entries, Change, IsRefused, Answers, Joined, Taken, IsRefusal}
use Rattle.cops_model.specs.Request.{Action, Attempt, Fetch, Write, attempt_after, attempt_of, begins_again, key_home}
use Rattle.cops_model.specs.Session.{Session, Running}
use Rattle.cops_model.specs.Transaction.{ReadRequest, gets, read_of}
use Rattle.cops_session.proofs.ReplyCounts.{replies-push}
use Rattle.cops_session.proofs.ReplyRounds.{Zipped-gets}
use Rattle.cops_session.proofs.RequestReplies.{replies_in, get-begun, call_of}
use Rattle.cops_model.specs.declared.deliveries.Delivery.{Delivery}
use Rattle.cops_model.specs.Carrier.{pair_of_entry}
use Rattle.cops_model.specs.Carrier as carrier
use Rattle.cops_model.specs.Causal.{Traced}
use Rattle.cops_model.specs.Cluster.{SoloCluster, Actor, OfSession, OfCarrier, new_cluster, find_session, call_node}
use Rattle.cops_causal.proofs.ActorsKeep.{actor_found, session_actor, Stands, bare}
use Rattle.cops_causal.proofs.Answering.{reply_fresh}
use Rattle.cops_causal.proofs.Closure.{home_in, IsHere}
use Rattle.cops_causal.proofs.Moves.{Leads, Both}
use Rattle.cops_causal.proofs.NodeEffects.{node_of, call_changes}
use Rattle.cops_causal.proofs.NodeMoments.{IsOnward, onward-same, turn_onward, AreLongThere, turn_long_there, turn_moment, call_leaves, turned_at}
use Rattle.cops_causal.proofs.Past.{new_nodes}
use Rattle.cops_causal.proofs.Sound.{IsSound}
use Rattle.cops_causal.proofs.TracedCalls.{home-there}
use Rattle.cops_causal.proofs.TracedIdle.{session_of}
use Rattle.cops_causal.proofs.RequestSteps.{StepLeaves, by_call, none_runs, only_runs, run}
use Rattle.cops_causal.proofs.ActorMoves.{CallLeaves, Leaves, Moves, SessionMoves, moves_lead, plain_leaves}

-- ---- the words

-- since this start the node has committed each version of the key that is newer than this one
abbrev pub NewerRecordsAreSince : SoloNode → ℕ → List ℕ → Timestamp → Type 0
NewerRecordsAreSince solo start key version = (r : Record) → Among r (ever solo.recs) → r.entry.key ≡ key → version_lt version r.entry.version ≡ true → start ≤ r.at

abbrev pub IsReadAs : SoloNode → ℕ → List ℕ → Wanted → NodeReply → Type 0
IsReadAs solo start key Latest reply = (start ≤ solo.moment) × NewerRecordsAreSince solo start key (read_of key reply).version
IsReadAs solo start key (Exactly version) reply = Unit {0}

-- the call was refused, or what it read was the latest at this start or later
abbrev pub IsReadSince : TenantConfig → SoloCluster → ℕ → ℕ → ReadRequest → NodeReply → Type 0
IsReadSince config c dc start q reply = IsRefusal reply ⊎ IsReadAs (node_of config c (home_in config dc q.key)) start q.key q.wanted reply

-- so it is of an attempt none of whose steps came before the start
abbrev pub AttemptReads : TenantConfig → SoloCluster → ℕ → List (List ℕ) → Attempt → Type 0
AttemptReads config c dc keys attempt =
    (start : ℕ) → AllByRecursion (λ (s : LogStep). start ≤ s.moment) attempt.steps → Zipped (IsReadSince config c dc start) (gets keys (replies_of attempt.steps)) (replies_of attempt.steps)

abbrev pub RequestReads : TenantConfig → SoloCluster → ℕ → Action → List LogStep → Type 0
RequestReads config c dc (Write key value) log = Unit {0}
RequestReads config c dc (Fetch keys) log = AttemptReads config c dc keys (attempt_of (Fetch keys) log)

-- a carrier that ended is none
abbrev pub IsActorTimed : TenantConfig → List SoloNode → List Traced → List ℕ → Actor → Type 0
IsActorTimed config nodes ts name (OfSession s) = (running : Running) → s.running ≡ Some running → RequestReads config (bare nodes) s.dc running.action running.log
IsActorTimed config nodes ts name (OfCarrier k) = (ending : Delivery) → carrier.carrier_next config.shards k.stream k.log ≡ Ended ending → ⊥

-- what each node removed was there for long
abbrev pub AreNodesTimed : TenantConfig → List SoloNode → List Traced → Type 0
AreNodesTimed config nodes ts = (n : ℕ) → AreLongThere config.trans_time (node_of config (bare nodes) n).recs (node_of config (bare nodes) n).moment

abbrev pub IsTimed : TenantConfig → SoloCluster → List Traced → Type 0
IsTimed config = Stands (AreNodesTimed config) (IsActorTimed config)

-- ---- a call at a node

since_onward : (solo after : SoloNode) (start : ℕ) (key : List ℕ) (wanted : Wanted) (reply : NodeReply) → IsOnward solo after → IsReadAs solo start key wanted reply → IsReadAs after start key wanted reply
since_onward solo after start key (Exactly version) reply on is = tt
since_onward solo after start key Latest reply on is = (
  (let low = is.0 in let later = on.moment_is in omega arith),
  λ r at same newer.
      elim (Among-cases r (ever solo.recs) on.more (subst (Among r) on.grown at)) [
        | inl old ↦ is.1 r old same newer
        | inr new ↦ (let low = is.0 in let later = Every-at (λ (r : Record). solo.moment ≤ r.at) r on.more on.since new in omega arith)
      ],
)

Zipped-weaker : {A B : Type 0} (R S : A → B → Type 0) (qs : List A) (rs : List B) → ((q : A) (r : B) → R q r → S q r) → Zipped R qs rs → Zipped S qs rs
Zipped-weaker R S [] rs to z = tt
Zipped-weaker R S (q ∷ qs) [] to z = tt
Zipped-weaker R S (q ∷ qs) (r ∷ rs) to z = (to q r z.0, Zipped-weaker R S qs rs to z.1)

pub Every-front : {A : Type 0} (P : A → Type 0) (xs ys : List A) → AllByRecursion P (xs ++ ys) → AllByRecursion P xs × AllByRecursion P ys
Every-front P [] ys ps = (tt, ps)
Every-front P (x ∷ xs) ys ps = let rest = Every-front P xs ys ps.1 in ((ps.0, rest.0), rest.1)

module _ (config : TenantConfig) (c : SoloCluster) (id : NodeId) (moment : ℕ) (call : NodeCall) where
  abbrev after_call : SoloCluster
  after_call = (call_node config id moment call c).after

  onward : (n : ℕ) → IsOnward (node_of config c n) (node_of config after_call n)
  onward n =
      call_leaves config c id moment call IsOnward onward-same (λ solo. turn_onward (place_of config id) moment call solo) n

  read_stays : (dc start : ℕ) (q : ReadRequest) (reply : NodeReply) → IsReadSince config c dc start q reply → IsReadSince config after_call dc start q reply
  read_stays dc start q reply (inl refused) = inl refused
  read_stays dc start q reply (inr is) =
      inr (since_onward (node_of config c (home_in config dc q.key)) (node_of config after_call (home_in config dc q.key)) start q.key q.wanted reply (onward (home_in config dc q.key)) is)

  attempt_stays : (dc : ℕ) (keys : List (List ℕ)) (attempt : Attempt) → AttemptReads config c dc keys attempt → AttemptReads config after_call dc keys attempt
  attempt_stays dc keys attempt are start first =
      Zipped-weaker (IsReadSince config c dc start) (IsReadSince config after_call dc start) (gets keys (replies_of attempt.steps)) (replies_of attempt.steps) (read_stays dc start) (are start first)

  request_stays : (dc : ℕ) (action : Action) (log : List LogStep) → RequestReads config c dc action log → RequestReads config after_call dc action log
  request_stays dc (Write key value) log are = tt
  request_stays dc (Fetch keys) log are = attempt_stays dc keys (attempt_of (Fetch keys) log) are

  actor_stays : (ts : List Traced) (name : List ℕ) (a : Actor) → IsActorTimed config c.nodes ts name a → IsActorTimed config after_call.nodes ts name a
  actor_stays ts name (OfSession s) are = λ running runs. request_stays s.dc running.action running.log (are running runs)
  actor_stays ts name (OfCarrier k) open_still = open_still

  -- a call keeps what nodes removed and attempts have read
  call_timed : (ts : List Traced) → IsTimed config c ts → CallLeaves config (AreNodesTimed config) (IsActorTimed config) c ts moment (record { node = id; call = call })
  call_timed ts is =
      record {
        nodes_are = λ n. call_leaves config c id moment call
            (λ solo after. AreLongThere config.trans_time solo.recs solo.moment → AreLongThere config.trans_time after.recs after.moment) (λ solo are. are)
            (λ solo are. turn_long_there (place_of config id) moment call solo are) n (is.nodes n);
        stays = actor_stays ts;
      }

-- ---- what a get reads

module _ (config : TenantConfig) (some : 0 < config.shards) (c : SoloCluster) (ts : List Traced) (inv : IsSound config c ts) (dc moment : ℕ) (key : List ℕ) (placed : nat_lt dc config.data_centres ≡ true) where
  abbrev solo : SoloNode
  solo = node_of config c (home_in config dc key)

  -- what is in the node of the key
  abbrev there : List Pair
  there = filter (λ (p : Pair). key_eq p.key key) (map pair_of_entry (entries solo))

  in_there : (p : Pair) → Among p there → IsHere config c dc p
  in_there p at =
      let of = Among-filter (λ (p : Pair). key_eq p.key key) p (map pair_of_entry (entries solo)) at in
      subst (λ k. Among p (map pair_of_entry (entries (node_of config c (home_in config dc k))))) (sym (key_eq-true p.key key of.1)) of.0

  abbrev reply : Wanted → NodeReply
  reply wanted = (call_node config (key_home config dc key) moment (node_call.Get key wanted) c).reply

  abbrev after : Wanted → SoloCluster
  after wanted = (call_node config (key_home config dc key) moment (node_call.Get key wanted) c).after

  abbrev next_solo : Wanted → SoloNode
  next_solo wanted = node_of config (after wanted) (home_in config dc key)

  called : (wanted : Wanted) → Change (place_of config (key_home config dc key)) (node_call.Get key wanted) solo (reply wanted) (next_solo wanted)
  called wanted = (call_changes config c (key_home config dc key) moment (node_call.Get key wanted) (home-there config dc key some placed) inv.traced.sized).change

  -- a get stores nothing
  entries_same : (wanted : Wanted) → Change (place_of config (key_home config dc key)) (node_call.Get key wanted) solo (reply wanted) (next_solo wanted) → entries (next_solo wanted) ≡ entries solo
  entries_same wanted (IsRefused same acked is) = same
  entries_same wanted (Answers same acked is) = same
  entries_same wanted (Joined e more acked is) = absurd is
  entries_same wanted (Taken same is) = absurd is

  -- nothing is newer than the latest
  none_newer : ((p : Pair) → Among p there → p.key ≡ key → version_le p.version (read_of key (reply Latest)).version ≡ true) → (start : ℕ) → NewerRecordsAreSince (next_solo Latest) start key (read_of key (reply Latest)).version
  none_newer latest_is start r at same newer =
      let e = r.entry in
      let stored = subst (Among e) (entries_same Latest (called Latest)) (Among-map (λ (r : Record). r.entry) r (ever (next_solo Latest).recs) at) in
      let is_key : key_eq e.key key ≡ true = ap (λ k. key_eq k key) same ∙ key_eq-refl key in
      let old = latest_is (pair_of_entry e) (filter-Among (λ (p : Pair). key_eq p.key key) (pair_of_entry e) (map pair_of_entry (entries solo)) (Among-map pair_of_entry e (entries solo) stored) is_key) same in
      let v = (read_of key (reply Latest)).version in
      absurd (true≢false (sym (version_lt-le_trans v e.version v newer old) ∙ version_lt-irrefl v))

  pub get_since : (wanted : Wanted) (start : ℕ) → start ≤ moment → IsReadSince config (after wanted) dc start (record { key = key; wanted = wanted }) (reply wanted)
  get_since (Exactly version) start low = inr tt
  get_since Latest start low =
      let home = key_home config dc key in
      let turned = turned_at config c home moment (node_call.Get key Latest) (home-there config dc key some placed) inv.traced.sized in
      elim (turn_moment (place_of config home) moment (node_call.Get key Latest) solo).come [
        | inl refused ↦ inl refused
        | inr come ↦ elim (reply_fresh config some c ts inv dc there in_there key (place_of config home) Latest (reply Latest) (next_solo Latest) (called Latest) tt tt) [
          | inl refused ↦ inl refused
          | inr latest_is ↦ inr ((let now = ap (λ (n : SoloNode). n.moment) turned in omega (arith, come, now)), none_newer latest_is start)
        ]
      ]

-- ---- one more step of an attempt

module _ (config : TenantConfig) (c : SoloCluster) (dc : ℕ) (keys : List (List ℕ)) (log : List LogStep) where
  abbrev attempt : Attempt
  attempt = attempt_of (Fetch keys) log

  -- a new attempt has read nothing
  none_read : (times : ℕ) → AttemptReads config c dc keys (record { restarts = times; steps = [] })
  none_read times start first = get-begun (IsReadSince config c dc start) keys

  attempt_pushed : (moment : ℕ) (answered : NodeReply) (q : ReadRequest) → AttemptReads config c dc keys attempt → slice_get (gets keys (replies_in keys log)) (length (replies_in keys log)) ≡ Some q →
      ((start : ℕ) → start ≤ moment → IsReadSince config c dc start q answered) → AttemptReads config c dc keys (attempt_of (Fetch keys) (log ++ record { moment = moment; outcome = Replied answered } ∷ []))
  attempt_pushed moment answered q are at new =
      subst (AttemptReads config c dc keys) (sym (fold-push (attempt_after (Fetch keys)) (record { restarts = 0; steps = [] }) log step)) (by_again (begins_again (Fetch keys) (length attempt.steps) (Replied answered)))
    where
      step : LogStep
      step = record { moment = moment; outcome = Replied answered }

      by_again : (b : Bool) → AttemptReads config c dc keys (cond {A = Attempt} b (record { restarts = attempt.restarts + 1; steps = [] }) (record { restarts = attempt.restarts; steps = attempt.steps ++ step ∷ [] }))
      by_again true = none_read (attempt.restarts + 1)
      by_again false = λ start first.
          let old = Every-front (λ (s : LogStep). start ≤ s.moment) attempt.steps (step ∷ []) first in
          subst (λ rs. Zipped (IsReadSince config c dc start) (gets keys rs) rs) (sym (replies-push attempt.steps step))
          (Zipped-gets (IsReadSince config c dc start) keys (replies_of attempt.steps) q answered (are start old.0) at (new start old.1.0))

  attempt_late : (moment : ℕ) → AttemptReads config c dc keys (attempt_of (Fetch keys) (log ++ record { moment = moment; outcome = Late } ∷ []))
  attempt_late moment =
      let step : LogStep = record { moment = moment; outcome = Late } in
      subst (AttemptReads config c dc keys) (sym (fold-push (attempt_after (Fetch keys)) (record { restarts = 0; steps = [] }) log step)) (none_read (attempt.restarts + 1))

-- ---- the moves

module _ (config : TenantConfig) (some : 0 < config.shards) (c : SoloCluster) (ts : List Traced) (inv : IsSound config c ts) (timed : IsTimed config c ts) where
  module _ (name : List ℕ) (s : Session) (found : find_session name c ≡ Some s) where
    pub reads_before : (running : Running) → s.running ≡ Some running → RequestReads config c s.dc running.action running.log
    reads_before running runs = actor_found (IsActorTimed config c.nodes ts) c name (OfSession s) timed.actors (session_actor c name s found) running runs

    -- what a request has read at these nodes
    abbrev HasRead : List SoloNode → Running → Type 0
    HasRead nodes r = RequestReads config (bare nodes) s.dc r.action r.log

    -- what is to be shown of a step
    abbrev Leaving : List SoloNode → Running → LogStep → Type 0
    Leaving nodes = StepLeaves config ts name s (Leaves config (AreNodesTimed config) (IsActorTimed config) nodes ts name)

    -- a step leaves what the request has read then
    leaving : (nodes : List SoloNode) (running : Running) (step : LogStep) → RequestReads config (bare nodes) s.dc running.action (running.log ++ step ∷ []) → Leaving nodes running step
    leaving nodes running step are =
        plain_leaves config (λ nodes. AreNodesTimed config nodes []) (λ nodes. IsActorTimed config nodes []) nodes ts name s running step (λ open_still. only_runs (HasRead nodes) (record running { log = running.log ++ step ∷ [] }) are)
        (λ a ends. none_runs (HasRead nodes) None refl)

    reads_late : (action : Action) (log : List LogStep) (moment : ℕ) → RequestReads config c s.dc action (log ++ record { moment = moment; outcome = Late } ∷ [])
    reads_late (Write key value) log moment = tt
    reads_late (Fetch keys) log moment = attempt_late config c s.dc keys log moment

    -- the moves of a session
    session_timed : SessionMoves config (AreNodesTimed config) (IsActorTimed config) c ts name s
    session_timed =
        let this = session_of config c ts inv.traced name s found in
        record {
          created = λ idle. none_runs (HasRead c.nodes) s.running idle;
          deleted = λ number idle. none_runs (HasRead c.nodes) s.running idle;
          put_begun = λ number key value ok. only_runs (HasRead c.nodes) (run s.next_request number (Write key value) []) tt;
          get_begun = λ number keys ok. only_runs (HasRead c.nodes) (run s.next_request number (Fetch keys) []) (none_read config c s.dc keys [] 0);
          called = λ running moment directed runs e. call_timed config c directed.node moment directed.call ts timed;
          stepped = by_call config ts name s this
              (λ running moment directed. let call = call_node config directed.node moment directed.call c in Leaving call.after.nodes running (record { moment = moment; outcome = Replied call.reply }))
              (λ number context key value moment runs is. leaving _ (run number context (Write key value) []) _ tt)
              (λ number context keys log moment q runs is at e.
              let sent = call_of config s.dc q in
              let call = call_node config sent.node moment sent.call c in
              leaving call.after.nodes (run number context (Fetch keys) log) _
              (attempt_pushed config call.after s.dc keys log moment call.reply q (attempt_stays config c sent.node moment sent.call s.dc keys (attempt_of (Fetch keys) log) (reads_before (run number context (Fetch keys) log) runs)) at
              (λ start low. get_since config some c ts inv s.dc moment q.key this.placed q.wanted start low)));
          late = λ running moment runs e. leaving c.nodes running _ (reads_late running.action running.log moment);
          dropped = λ moment. none_runs (HasRead c.nodes) None refl;
        }

  -- all moves
  timed_moves : Moves config (AreNodesTimed config) (IsActorTimed config) c ts
  timed_moves =
      record {
        opened = λ name dc free exists. none_runs _ None refl;
        carrier_begun = λ name stream is. λ ending ends. cc;
        of_session = session_timed;
        of_carrier = λ name k found. record { called = λ moment directed e. call_timed config c directed.node moment directed.call ts timed; stepped = λ moment directed e open_still. open_still };
        collected = λ id moment there. call_timed config c id moment node_call.Collect ts timed;
      }

pub timed_kept : (config : TenantConfig) → 0 < config.shards → Leads config (Both (IsSound config) (IsTimed config)) (IsTimed config)
timed_kept config some =
    moves_lead config (AreNodesTimed config) (IsActorTimed config) (IsSound config) (λ c ts inv. inv.traced) (timed_moves config some)

pub timed_at_first : (config : TenantConfig) → IsTimed config (new_cluster config) []
timed_at_first config =
    record {
      nodes = λ n. subst (λ (solo : SoloNode). AreLongThere config.trans_time solo.recs solo.moment) (sym (new_nodes (config.data_centres * config.shards) n (new_node config.data_centres))) tt;
      actors = tt;
    }

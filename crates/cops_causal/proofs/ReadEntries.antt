-- What a transaction returned is an entry of the node that issued it: each move keeps that.
use Rattle.std.proofs.Common.{◌≡◌, ℕ, ◌<◌, Bool, true, false, List, [], ◌∷◌, ◌++◌, refl, sym, ◌∙◌, ap, subst}
use Rattle.std.specs.Prelude.{Option, Some, None, slice_get, ◌==◌}
use Rattle.std.specs.List.{AllByRecursion}
use Rattle.cops_types.specs.declared.contexts.ReadParts.{ReadParts as Read}
use Rattle.cops_types.specs.declared.pairs.Pair.{Pair}
use Rattle.cops_types.specs.declared.records.EntryParts.{EntryParts as Entry}
use Rattle.cops_types.specs.declared.records.Record.{Record}
use Rattle.cops_types.specs.Founds.{found_in}
use Rattle.cops_types.specs.Key.{key_eq}
use Rattle.cops_types.specs.Records.{exact, greatest_of, kept, latest}
use Rattle.cops_types.specs.TenantConfig.{TenantConfig}
use Rattle.cops_types.specs.Version.{Timestamp, no_version}
use Rattle.cops_types.proofs.Elements.{Among, Among-filter, Among-left, Every-append, Every-weaker}
use Rattle.cops_types.proofs.PairSets.{at}
use Rattle.cops_types.proofs.Zipped.{Zipped}
use Rattle.cops_model.specs.declared.calls.NodeCall.TheVariants as node_call
use Rattle.cops_model.specs.declared.calls.NodeReply.{NodeReply}
use Rattle.cops_model.specs.declared.calls.NodeReply.TheVariants.{Found}
use Rattle.cops_model.specs.declared.calls.Wanted.{Wanted}
use Rattle.cops_model.specs.declared.calls.Wanted.TheVariants.{Latest, Exactly}
use Rattle.cops_model.specs.Log.{LogStep, Late, Replied, Directed, Call, Restart}
use Rattle.cops_model.specs.Place.{Place, node_number, place_of}
use Rattle.cops_model.specs.SoloNode.{SoloNode}
use Rattle.cops_model.specs.Step.{reply_exact, reply_latest, was_committed}
use Rattle.cops_model.specs.Request.{Action, Fetch, Write, next}
use Rattle.cops_model.specs.Session.{Running, Session, request_of}
use Rattle.cops_model.specs.Transaction.{ReadRequest, gets, read_of}
use Rattle.cops_model.specs.Causal.{Effect, Returned, Traced, Wrote}
use Rattle.cops_model.specs.Carrier.{Carrier, carrier_next}
use Rattle.cops_model.specs.Cluster.{Actor, OfCarrier, OfSession, SoloCluster, call_node, find_actor, find_session, has_node, new_cluster}
use Rattle.cops_node.proofs.Chains.{chain-distinct, of_origin}
use Rattle.cops_node.proofs.NodeTurns.{Answers, Change, IsRefused, IsReply, Joined, Taken, entries}
use Rattle.cops_session.proofs.ReplyRounds.{Every-final_reads}
use Rattle.cops_session.proofs.RequestReplies.{call_of, get-begun, get-late, get-stepped, replies_in}
use Rattle.cops_causal.specs.ClientLaws.{reads_in}
use Rattle.cops_causal.proofs.ActorMoves.{CallLeaves, Leaves, Moves, as_before, moves_lead, nodes_lead}
use Rattle.cops_causal.proofs.ActorsKeep.{Stands, actor_found, bare, session_actor}
use Rattle.cops_causal.proofs.Convergence.{Among-place, in_held}
use Rattle.cops_causal.proofs.Moves.{Both, IsKept, Leads, kept_both}
use Rattle.cops_causal.proofs.NodeEffects.{call_changes, entry_stays, node_of}
use Rattle.cops_causal.proofs.Provenance.{IsSession}
use Rattle.cops_causal.proofs.Readiness.{carrier_served, session_ready}
use Rattle.cops_causal.proofs.RequestSteps.{StepLeaves, by_call, by_late, get_leaves, joining, none_runs, only_runs, put_leaves, put_sent, run}
use Rattle.cops_causal.proofs.Sound.{IsSound, sound_kept}
use Rattle.cops_causal.proofs.StreamMoves.{stage_now, stream_is}
use Rattle.cops_causal.proofs.StreamNodes.{IsStreamed}
use Rattle.cops_causal.proofs.TracedCalls.{exact-is, home-there}
use Rattle.cops_causal.proofs.TracedIdle.{session_of}

-- ---- the words

module _ (config : TenantConfig) where
  -- the entry is at the node that issued it
  abbrev pub IsIssued : List SoloNode → Entry → Type 0
  IsIssued nodes e = Among e (entries (node_of config (bare nodes) e.version.node))

  -- what was found of the key is such an entry
  abbrev pub IsFoundEntry : List SoloNode → ReadRequest → NodeReply → Type 0
  IsFoundEntry nodes q (Found f) = (e : Entry) × IsIssued nodes e × (e.key ≡ q.key) × (found_in e ≡ f)
  IsFoundEntry nodes q reply = Unit {0}

  abbrev pub RepliesAreEntries : List SoloNode → Action → List LogStep → Type 0
  RepliesAreEntries nodes (Write key value) log = Unit {0}
  RepliesAreEntries nodes (Fetch keys) log = Zipped (IsFoundEntry nodes) (gets keys (replies_in keys log)) (replies_in keys log)

  abbrev pub HasReadEntries : List SoloNode → List Traced → List ℕ → Actor → Type 0
  HasReadEntries nodes ts name (OfSession s) = (running : Running) → s.running ≡ Some running → RepliesAreEntries nodes running.action running.log
  HasReadEntries nodes ts name (OfCarrier k) = Unit {0}

  -- so is each value that was returned; without one the version is 0.0
  abbrev pub IsEntryRead : List SoloNode → List ℕ → Timestamp → List Pair → Option (List ℕ) → Type 0
  IsEntryRead nodes key version deps (Some value) = (e : Entry) × IsIssued nodes e × (e.key ≡ key) × (found_in e ≡ record { version = version; value = value; deps = deps })
  IsEntryRead nodes key version deps None = (version ≡ no_version) × (deps ≡ [])

  abbrev pub IsReadEntry : List SoloNode → Read → Type 0
  IsReadEntry nodes read = IsEntryRead nodes read.key read.version read.deps read.value

  abbrev pub IsReadBy : List SoloNode → Traced → Type 0
  IsReadBy nodes t = AllByRecursion (IsReadEntry nodes) (reads_in t.operation.effect)

  abbrev pub AreReadEntries : List SoloNode → List Traced → Type 0
  AreReadEntries nodes ts = AllByRecursion (IsReadBy nodes) ts

  abbrev pub IsReading : SoloCluster → List Traced → Type 0
  IsReading = Stands AreReadEntries HasReadEntries

  pub read_entry : (nodes : List SoloNode) (q : ReadRequest) (reply : NodeReply) → IsFoundEntry nodes q reply → IsReadEntry nodes (read_of q.key reply)
  read_entry nodes q (Found f) is = is
  read_entry nodes q reply is = (refl, refl)

-- ---- more entries take nothing back

module _ (config : TenantConfig) (nodes more : List SoloNode) (grows : (n : ℕ) (e : Entry) → Among e (entries (node_of config (bare nodes) n)) → Among e (entries (node_of config (bare more) n))) where
  found-grown : (q : ReadRequest) (reply : NodeReply) → IsFoundEntry config nodes q reply → IsFoundEntry config more q reply
  found-grown q (Found f) is = (is.0, grows is.0.version.node is.0 is.1, is.2, is.3)
  found-grown q reply is = tt

  zipped-grown : (qs : List ReadRequest) (rs : List NodeReply) → Zipped (IsFoundEntry config nodes) qs rs → Zipped (IsFoundEntry config more) qs rs
  zipped-grown [] rs z = tt
  zipped-grown (q ∷ qs) [] z = tt
  zipped-grown (q ∷ qs) (r ∷ rs) z = (found-grown q r z.0, zipped-grown qs rs z.1)

  replies-grown : (action : Action) (log : List LogStep) → RepliesAreEntries config nodes action log → RepliesAreEntries config more action log
  replies-grown (Write key value) log are = tt
  replies-grown (Fetch keys) log are = zipped-grown (gets keys (replies_in keys log)) (replies_in keys log) are

  actor-grown : (ts : List Traced) (name : List ℕ) (a : Actor) → HasReadEntries config nodes ts name a → HasReadEntries config more ts name a
  actor-grown ts name (OfSession s) is = λ running runs. replies-grown running.action running.log (is running runs)
  actor-grown ts name (OfCarrier k) is = tt

  value-grown : (key : List ℕ) (version : Timestamp) (deps : List Pair) (value : Option (List ℕ)) → IsEntryRead config nodes key version deps value → IsEntryRead config more key version deps value
  value-grown key version deps (Some value) is = (is.0, grows is.0.version.node is.0 is.1, is.2, is.3)
  value-grown key version deps None is = is

  history-grown : (ts : List Traced) → AreReadEntries config nodes ts → AreReadEntries config more ts
  history-grown ts = Every-weaker (IsReadBy config nodes) (IsReadBy config more) ts (λ t among.
      Every-weaker (IsReadEntry config nodes) (IsReadEntry config more) (reads_in t.operation.effect) (λ read there. value-grown read.key read.version read.deps read.value))

-- ---- what a node finds

module _ (config : TenantConfig) (c : SoloCluster) (streamed : IsStreamed config c) where
  -- each entry of a node is at the one that issued it
  pub issued : (n : ℕ) (e : Entry) → Among e (entries (node_of config c n)) → IsIssued config c.nodes e
  issued n e there =
      let m = e.version.node in
      let front = streamed.fronts n m in
      let whole = subst (Among e) (sym front.whole_is) (Among-left e (of_origin m (entries (node_of config c n))) front.rest (in_held (node_of config c n) e there)) in
      (Among-filter (λ (f : Entry). f.version.node == m) e (entries (node_of config c m)) whole).0

  -- entries of one version are one
  pub same_entry : (e f : Entry) → IsIssued config c.nodes e → IsIssued config c.nodes f → e.version ≡ f.version → e ≡ f
  same_entry e f at_e at_f same =
      let m = e.version.node in
      let es = of_origin m (entries (node_of config c m)) in
      let held : Among f es = subst (λ k. Among f (of_origin k (entries (node_of config c k)))) (ap (λ (v : Timestamp). v.node) (sym same)) (in_held (node_of config c f.version.node) f at_f) in
      let i = Among-place es e (in_held (node_of config c m) e at_e) in
      let j = Among-place es f held in
      let both : Some e ≡ Some f = sym i.1 ∙ ap (slice_get es) (chain-distinct no_version es i.0 j.0 e f (streamed.chained m) i.1 j.1 same) ∙ j.1 in
      cc

  module _ (key : List ℕ) (n : ℕ) where
    abbrev solo : SoloNode
    solo = node_of config c n

    record_found : (wanted : Wanted) (version : Timestamp) (r : Record) → exact key version solo.recs ≡ Some r → IsFoundEntry config c.nodes (record { key = key; wanted = wanted }) (Found (found_in r.entry))
    record_found wanted version r e = let is = exact-is key version solo r e in (r.entry, issued n r.entry is.0, is.1, refl)

    latest_found : (wanted : Wanted) (o : Option Record) → latest key solo.recs ≡ o → IsFoundEntry config c.nodes (record { key = key; wanted = wanted }) (reply_latest o)
    latest_found wanted (Some r) is = record_found wanted (greatest_of key (kept solo.recs)) r is
    latest_found wanted None is = tt

    exact_found : (wanted : Wanted) (version : Timestamp) (now : ℕ) (was : Bool) (o : Option Record) → exact key version solo.recs ≡ o → IsFoundEntry config c.nodes (record { key = key; wanted = wanted }) (reply_exact now was o)
    exact_found wanted version now was (Some r) is = record_found wanted version r is
    exact_found wanted version now true None is = tt
    exact_found wanted version now false None is = tt

    reply_found : (place : Place) (wanted : Wanted) (reply : NodeReply) → IsReply place (node_call.Get key wanted) solo reply → IsFoundEntry config c.nodes (record { key = key; wanted = wanted }) reply
    reply_found place Latest reply is = subst (IsFoundEntry config c.nodes (record { key = key; wanted = Latest })) (sym is) (latest_found Latest (latest key solo.recs) refl)
    reply_found place (Exactly version) reply is =
        subst (IsFoundEntry config c.nodes (record { key = key; wanted = Exactly version })) (sym is.1) (exact_found (Exactly version) version is.0 (was_committed version solo) (exact key version solo.recs) refl)

    -- what a read finds is an entry
    pub entry_found : (place : Place) (wanted : Wanted) (reply : NodeReply) (after : SoloNode) → Change place (node_call.Get key wanted) solo reply after → IsFoundEntry config c.nodes (record { key = key; wanted = wanted }) reply
    entry_found place wanted reply after (IsRefused same acked is) = subst (IsFoundEntry config c.nodes (record { key = key; wanted = wanted })) (sym is.1) tt
    entry_found place wanted reply after (Answers same acked is) = reply_found place wanted reply is
    entry_found place wanted reply after (Joined e more acked is) = absurd is
    entry_found place wanted reply after (Taken same is) = absurd is

-- ---- sessions

module _ (config : TenantConfig) (some : 0 < config.shards) (c : SoloCluster) (ts : List Traced) (inv : IsSound config c ts) (reading : IsReading config c ts) (name : List ℕ) (s : Session) (found : find_session name c ≡ Some s) where
  abbrev this : IsSession config ts name s
  this = session_of config c ts inv.traced name s found

  abbrev IsReadRun : List SoloNode → Running → Type 0
  IsReadRun nodes r = RepliesAreEntries config nodes r.action r.log

  read_before : (running : Running) → s.running ≡ Some running → IsReadRun c.nodes running
  read_before running runs = actor_found (HasReadEntries config c.nodes ts) c name (OfSession s) reading.actors (session_actor c name s found) running runs

  -- what is to be shown of a step at these nodes
  abbrev Leaving : List SoloNode → Session → List Traced → Type 0
  Leaving nodes = Leaves config (AreReadEntries config) (HasReadEntries config) nodes ts name

  -- an operation joins the history and ends the request of its session
  operation_read : (nodes : List SoloNode) (context : ℕ) (effect : Effect) (next : Session) → next.running ≡ None → AllByRecursion (IsReadEntry config nodes) (reads_in effect) → Leaving nodes next (ts ++ joining ts name context effect ∷ [])
  operation_read nodes context effect next idle are =
      record {
        nodes_are = λ old. Every-append (IsReadBy config nodes) ts (joining ts name context effect ∷ []) old (are, tt);
        others_are = others;
        session_is = none_runs (IsReadRun nodes) next.running idle;
      }
    where
      others : (other : List ℕ) (a : Actor) → key_eq other name ≡ false → HasReadEntries config nodes ts other a → HasReadEntries config nodes (ts ++ joining ts name context effect ∷ []) other a
      others other (OfSession r) apart p = p
      others other (OfCarrier k) apart p = tt

  get_reading : (nodes : List SoloNode) (number context : ℕ) (keys : List (List ℕ)) (log : List LogStep) (step : LogStep) → RepliesAreEntries config nodes (Fetch keys) (log ++ step ∷ []) →
      StepLeaves config ts name s (Leaving nodes) (run number context (Fetch keys) log) step
  get_reading nodes number context keys log step are =
      get_leaves config ts name s (Leaving nodes) number context keys log step
      (λ open_still. as_before config (AreReadEntries config) (HasReadEntries config) nodes ts name _ (only_runs (IsReadRun nodes) (run number context (Fetch keys) (log ++ step ∷ [])) are))
      (λ fault. as_before config (AreReadEntries config) (HasReadEntries config) nodes ts name _ (none_runs (IsReadRun nodes) None refl))
      (λ reads follows. operation_read nodes context (Returned reads) _ refl
      (subst (AllByRecursion (IsReadEntry config nodes)) (sym follows.0)
      (Every-final_reads (IsFoundEntry config nodes) (IsReadEntry config nodes) (read_entry config nodes) keys (replies_in keys (log ++ step ∷ [])) follows.1 are)))

  stepped_reading : (running : Running) (moment : ℕ) (directed : Directed) → s.running ≡ Some running → next config (request_of s running) running.log moment ≡ Call directed →
      let call = call_node config directed.node moment directed.call c in StepLeaves config ts name s (Leaving call.after.nodes) running (record { moment = moment; outcome = Replied call.reply })
  stepped_reading = by_call config ts name s this
      (λ running moment directed. let call = call_node config directed.node moment directed.call c in StepLeaves config ts name s (Leaving call.after.nodes) running (record { moment = moment; outcome = Replied call.reply }))
      (λ number context key value moment runs is.
      let sent = put_sent config s context key value in
      let call = call_node config sent.node moment sent.call c in
      put_leaves config ts name s (Leaving call.after.nodes) c call.after number context key value moment call.reply (call_changes config c sent.node moment sent.call (home-there config s.dc key some this.placed) inv.traced.sized)
      (λ fault refused. as_before config (AreReadEntries config) (HasReadEntries config) call.after.nodes ts name _ (none_runs (IsReadRun call.after.nodes) None refl))
      (λ e more stores. operation_read call.after.nodes context (Wrote (at key stores.0)) _ refl tt))
      (λ number context keys log moment q runs is place e.
      let sent = call_of config s.dc q in
      let call = call_node config sent.node moment sent.call c in
      let n = node_number config.shards sent.node in
      let called = call_changes config c sent.node moment sent.call (home-there config s.dc q.key some this.placed) inv.traced.sized in
      let grows : (m : ℕ) (f : Entry) → Among f (entries (node_of config c m)) → Among f (entries (node_of config call.after m)) = entry_stays called in
      let new = found-grown config c.nodes call.after.nodes grows q call.reply (entry_found config c inv.flowing.streamed q.key n (place_of config sent.node) q.wanted call.reply (node_of config call.after n) called.change) in
      let before = zipped-grown config c.nodes call.after.nodes grows (gets keys (replies_in keys log)) (replies_in keys log) (read_before (run number context (Fetch keys) log) runs) in
      get_reading call.after.nodes number context keys log (record { moment = moment; outcome = Replied call.reply }) (get-stepped (IsFoundEntry config call.after.nodes) keys log moment call.reply q before place new))

  late_reading : (running : Running) (moment : ℕ) → s.running ≡ Some running → next config (request_of s running) running.log moment ≡ Restart → StepLeaves config ts name s (Leaving c.nodes) running (record { moment = moment; outcome = Late })
  late_reading = by_late config ts name s this (λ running moment. StepLeaves config ts name s (Leaving c.nodes) running (record { moment = moment; outcome = Late }))
      (λ number context keys log moment runs is. get_reading c.nodes number context keys log (record { moment = moment; outcome = Late }) (get-late (IsFoundEntry config c.nodes) keys log moment))

-- ---- each move

module _ (config : TenantConfig) (some : 0 < config.shards) (c : SoloCluster) (ts : List Traced) (inv : IsSound config c ts) where
  pub carrier_there : (name : List ℕ) (k : Carrier) → (found : find_actor name c ≡ Some (OfCarrier k)) (moment : ℕ) (directed : Directed) → carrier_next config.shards k.stream k.log ≡ Call directed → has_node config directed.node.dc directed.node.shard ≡ true
  carrier_there name k found moment directed e =
      (carrier_served config some c ts inv k.stream (stream_is config some c ts inv.flowing inv.traced name k found) moment directed (stage_now config some c ts inv.flowing inv.traced name k found directed e)).calls.there

  call_reading : IsReading config c ts → (moment : ℕ) (directed : Directed) → has_node config directed.node.dc directed.node.shard ≡ true → CallLeaves config (AreReadEntries config) (HasReadEntries config) c ts moment directed
  call_reading reading moment directed there =
      let after = (call_node config directed.node moment directed.call c).after in
      let grows : (n : ℕ) (e : Entry) → Among e (entries (node_of config c n)) → Among e (entries (node_of config after n)) = entry_stays (call_changes config c directed.node moment directed.call there inv.traced.sized) in
      record { nodes_are = history-grown config c.nodes after.nodes grows ts reading.nodes; stays = actor-grown config c.nodes after.nodes grows ts }

  reading_moves : IsReading config c ts → Moves config (AreReadEntries config) (HasReadEntries config) c ts
  reading_moves reading =
      record {
        opened = λ name dc free exists. none_runs (λ (r : Running). RepliesAreEntries config c.nodes r.action r.log) None refl;
        carrier_begun = λ name stream is. tt;
        of_session = λ name s found. record {
          created = λ idle. none_runs (λ (r : Running). RepliesAreEntries config c.nodes r.action r.log) s.running idle;
          deleted = λ number idle. none_runs (λ (r : Running). RepliesAreEntries config c.nodes r.action r.log) s.running idle;
          put_begun = λ number key value ok. only_runs (λ (r : Running). RepliesAreEntries config c.nodes r.action r.log) (run s.next_request number (Write key value) []) tt;
          get_begun = λ number keys ok. only_runs (λ (r : Running). RepliesAreEntries config c.nodes r.action r.log) (run s.next_request number (Fetch keys) []) (get-begun (IsFoundEntry config c.nodes) keys);
          called = λ running moment directed runs e. call_reading reading moment directed (session_ready config some c ts inv name s found running moment directed runs e).there;
          stepped = stepped_reading config some c ts inv reading name s found;
          late = late_reading config some c ts inv reading name s found;
          dropped = λ moment. none_runs (λ (r : Running). RepliesAreEntries config c.nodes r.action r.log) None refl;
        };
        of_carrier = λ name k found. record { called = λ moment directed e. call_reading reading moment directed (carrier_there name k found moment directed e); stepped = λ moment directed e open_still. tt };
        collected = λ id moment there. call_reading reading moment (record { node = id; call = node_call.Collect }) there;
      }

pub reading_kept : (config : TenantConfig) → 0 < config.shards → Leads config (Both (IsSound config) (IsReading config)) (IsReading config)
reading_kept config some = moves_lead config (AreReadEntries config) (HasReadEntries config) (IsSound config) (λ c ts inv. inv.traced) (reading_moves config some)

pub reading_at_first : (config : TenantConfig) → IsReading config (new_cluster config) []
reading_at_first config = record { nodes = tt; actors = tt }

-- ---- an entry of a node stays

module _ (config : TenantConfig) (some : 0 < config.shards) (n : ℕ) (e : Entry) where
  abbrev Has : List SoloNode → Type 0
  Has nodes = Among e (entries (node_of config (bare nodes) n))

  abbrev pub IsStored : SoloCluster → List Traced → Type 0
  IsStored = Both (IsSound config) (λ c ts. Has c.nodes)

  pub stored_kept : IsKept config IsStored
  stored_kept = kept_both (sound_kept config some) (nodes_lead config Has IsStored (λ c ts inv. inv.1) (λ c ts inv. record {
    by_session = λ name s found running moment directed runs calls.
        entry_stays (call_changes config c directed.node moment directed.call (session_ready config some c ts inv.0 name s found running moment directed runs calls).there inv.0.traced.sized) n e inv.1;
    by_carrier = λ name k found moment directed calls. entry_stays (call_changes config c directed.node moment directed.call (carrier_there config some c ts inv.0 name k found moment directed calls) inv.0.traced.sized) n e inv.1;
    collected = λ id moment there. entry_stays (call_changes config c id moment node_call.Collect there inv.0.traced.sized) n e inv.1;
  }))

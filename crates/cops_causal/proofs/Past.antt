-- After every list of acts, what is stored was put, and its deps are exactly those of its put.
use Rattle.std.proofs.Common.{◌≡◌, ℕ, ◌+◌, ◌*◌, ◌<◌, true, List, [], ◌∷◌, map, inl, inr, refl, sym, subst, arith, replicate, length}
use Rattle.std.specs.Prelude.{Some, None, slice_index_or}
use Rattle.std.specs.List.{AllByRecursion, list_all, list_any}
use Rattle.std.proofs.lemmas.Bool.Decides.{leb_tells}
use Rattle.std.proofs.lemmas.List.{length-replicate, get_or-replicate, get_or_past}
use Rattle.cops_types.specs.declared.records.EntryParts.{EntryParts as Entry}
use Rattle.cops_types.specs.TenantConfig.{TenantConfig}
use Rattle.cops_model.specs.Log.{Late, Replied, Directed, Call, Restart}
use Rattle.cops_model.specs.Place.{node_number, place_of}
use Rattle.cops_model.specs.SoloNode.{SoloNode, new_node}
use Rattle.cops_model.specs.Carrier.{Carrier, pair_of_entry}
use Rattle.cops_model.specs.Request.{Fetch, next}
use Rattle.cops_model.specs.Session.{Session, Running, request_of}
use Rattle.cops_model.specs.Causal.{Traced, deps_of, put_by}
use Rattle.cops_model.specs.Cluster.{OfCarrier, OfSession, SoloCluster, new_cluster, find_actor, find_session, call_node, session_stepped, with_actor, without_actor}
use Rattle.cops_model.specs.Lacks.{request_dropped}
use Rattle.cops_causal.proofs.ActorsKeep.{known-without, left}
use Rattle.cops_types.specs.Pairs.{holds}
use Rattle.cops_causal.proofs.Histories.{flat_map-Among}
use Rattle.cops_types.proofs.Elements.{and_true, any_intro}
use Rattle.cops_types.proofs.PairSets.{Among-holds}
use Rattle.cops_model.specs.Laws.{committed_entries, AreExactDeps, AtEachNode}
use Rattle.cops_causal.proofs.Moves.{IsKept, history_after}
use Rattle.cops_node.proofs.NodeTurns.{entries}
use Rattle.cops_causal.proofs.NodeEffects.{node_of, call_changes}
use Rattle.cops_causal.proofs.Provenance.{HoldPuts, IsActorAt, IsPutEntry, IsFound, IsSession, IsTraced}
use Rattle.cops_session.proofs.RequestReplies.{call_of, get-stepped, get-late}
use Rattle.cops_causal.proofs.RequestSteps.{by_call, by_late, never_ended, none_runs, put_sent}
use Rattle.cops_causal.proofs.TracedCalls.{traced-call, get_found, home-there}
use Rattle.cops_causal.proofs.TracedCarriers.{traced-collected, traced-carrier_called}
use Rattle.cops_causal.proofs.TracedIdle.{session_changed, session_of, traced-opened, traced-carrier_begun, traced-context_created, traced-context_deleted, traced-put_begun, traced-get_begun}
use Rattle.cops_causal.proofs.TracedPuts.{put_stepped}
use Rattle.cops_causal.proofs.TracedSteps.{get_stepped}

module _ (config : TenantConfig) (some : 0 < config.shards) (c : SoloCluster) (ts : List Traced) (inv : IsTraced config c ts) (name : List ℕ) (s : Session) (found : find_session name c ≡ Some s) where
  abbrev this : IsSession config ts name s
  this = session_of config c ts inv name s found

  -- what is to be shown of a call of the request
  abbrev AfterCall : Running → ℕ → Directed → Type 0
  AfterCall running moment directed =
      let call = call_node config directed.node moment directed.call c in
      let turn = session_stepped config name s running (record { moment = moment; outcome = Replied call.reply }) call.after in
      IsTraced config turn.after (history_after ts c name turn.reply)

  -- a step that calls
  traced-called : (running : Running) (moment : ℕ) (directed : Directed) → s.running ≡ Some running → next config (request_of s running) running.log moment ≡ Call directed → AfterCall running moment directed
  traced-called = by_call config ts name s this AfterCall
      (λ number context key value moment runs is.
      let sent = put_sent config s context key value in
      let call = call_node config sent.node moment sent.call c in
      put_stepped config c call.after ts inv name s found found number context key value is.in_open moment call.reply runs
      (call_changes config c sent.node moment sent.call (home-there config s.dc key some this.placed) inv.sized))
      (λ number context keys log moment q runs is at e.
      let sent = call_of config s.dc q in
      let n = node_number config.shards sent.node in
      let call = call_node config sent.node moment sent.call c in
      let called = call_changes config c sent.node moment sent.call (home-there config s.dc q.key some this.placed) inv.sized in
      let reads : IsFound ts q call.reply = get_found ts q.key (node_of config c n) (inv.entries_are n) (place_of config sent.node) q.wanted call.reply (node_of config call.after n) called.change in
      get_stepped config call.after ts (traced-call called ts (λ e stores. absurd stores) inv) name s found number context keys log (record { moment = moment; outcome = Replied call.reply }) runs is.in_open
      (get-stepped (IsFound ts) keys log moment call.reply q is.replies_are at reads))

  -- a step that comes late
  traced-late : (running : Running) (moment : ℕ) → s.running ≡ Some running → next config (request_of s running) running.log moment ≡ Restart →
      let turn = session_stepped config name s running (record { moment = moment; outcome = Late }) c in IsTraced config turn.after (history_after ts c name turn.reply)
  traced-late = by_late config ts name s this
      (λ running moment. let turn = session_stepped config name s running (record { moment = moment; outcome = Late }) c in IsTraced config turn.after (history_after ts c name turn.reply))
      (λ number context keys log moment runs is.
      get_stepped config c ts inv name s found number context keys log (record { moment = moment; outcome = Late }) runs is.in_open (get-late (IsFound ts) keys log moment))

  -- a request is over, before its call or after a read
  dropped_is : (moment : ℕ) → IsSession config ts name (request_dropped moment s)
  dropped_is moment = record { placed = this.placed; contexts_are = this.contexts_are; numbered = this.numbered; running_is = none_runs _ None refl }

  traced-dropped : (moment : ℕ) → IsTraced config (with_actor name (OfSession (request_dropped moment s)) c) ts
  traced-dropped moment = session_changed config c ts inv name (request_dropped moment s) (dropped_is moment)

  traced-read_dropped : (running : Running) (moment : ℕ) (directed : Directed) → s.running ≡ Some running → next config (request_of s running) running.log moment ≡ Call directed →
      (keys : List (List ℕ)) → running.action ≡ Fetch keys → IsTraced config (with_actor name (OfSession (request_dropped moment s)) (call_node config directed.node moment directed.call c).after) ts
  traced-read_dropped = by_call config ts name s this
      (λ running moment directed. (keys : List (List ℕ)) → running.action ≡ Fetch keys → IsTraced config (with_actor name (OfSession (request_dropped moment s)) (call_node config directed.node moment directed.call c).after) ts)
      (λ number context key value moment runs is keys fetches. cc)
      (λ number context keys log moment q runs is at e others fetches.
      let sent = call_of config s.dc q in
      let call = call_node config sent.node moment sent.call c in
      let called = call_changes config c sent.node moment sent.call (home-there config s.dc q.key some this.placed) inv.sized in
      session_changed config call.after ts (traced-call called ts (λ e stores. absurd stores) inv) name (request_dropped moment s) (dropped_is moment))

-- a carrier is gone
traced-carrier_dropped : (config : TenantConfig) (c : SoloCluster) (ts : List Traced) → IsTraced config c ts → (name : List ℕ) (k : Carrier) → find_actor name c ≡ Some (OfCarrier k) → IsTraced config (without_actor name c) ts
traced-carrier_dropped config c ts inv name k found =
    record { stands = left (HoldPuts config) (IsActorAt config) c ts inv.stands name; known = λ t at. known-without c name t.operation.session k found (inv.known t at) }

-- each move keeps that all is traced to its put
pub traced_kept : (config : TenantConfig) → 0 < config.shards → IsKept config (IsTraced config)
traced_kept config some =
    record {
      opened = λ c ts name dc free exists inv. traced-opened config c ts inv name dc free exists;
      carrier_begun = λ c ts name stream free is inv. traced-carrier_begun config c ts inv name stream is;
      context_created = λ c ts name s found idle inv. traced-context_created config c ts inv name s found idle;
      context_deleted = λ c ts name s number found idle inv. traced-context_deleted config c ts inv name s number found idle;
      put_begun = λ c ts name s number key value found ok is inv. traced-put_begun config c ts inv name s number key value found ok;
      get_begun = λ c ts name s number keys found ok are inv. traced-get_begun config c ts inv name s number keys found ok;
      called = λ c ts name s running moment directed found runs e inv. traced-called config some c ts inv name s found running moment directed runs e;
      late = λ c ts name s running moment found runs e inv. traced-late config some c ts inv name s found running moment runs e;
      ended = λ c ts name s running moment a found runs e inv. absurd (never_ended config ts name s (session_of config c ts inv name s found) running moment a runs e);
      carrier_called = λ c ts name k moment directed found e inv. traced-carrier_called config c ts inv name k found some moment directed e;
      collected = λ c ts id moment there inv. traced-collected config c ts inv id moment there;
      dropped = λ c ts name s running moment found runs inv. traced-dropped config some c ts inv name s found moment;
      read_dropped = λ c ts name s running moment directed keys found runs fetches e inv. traced-read_dropped config some c ts inv name s found running moment directed runs e keys fetches;
      carrier_dropped = λ c ts name k found inv. traced-carrier_dropped config c ts inv name k found;
    }

-- a new cluster holds nothing
pub new_nodes : (n m : ℕ) (solo : SoloNode) → slice_index_or (replicate n solo) m solo ≡ solo
new_nodes n m solo =
    elim (leb_tells n m) [
      | inl past ↦ get_or_past (replicate n solo) m solo (let counted : length (replicate n solo) ≡ n = length-replicate n solo in omega (arith, past.1, counted))
      | inr within ↦ get_or-replicate n m solo solo within.1
    ]

pub traced_at_first : (config : TenantConfig) → IsTraced config (new_cluster config) []
traced_at_first config =
    record {
      stands = record {
        nodes = record {
          history = record { pasts_put = λ t at. absurd at; pasts_closed = λ t at. absurd at; put_once = λ t u at. absurd at; older = λ t at. absurd at };
          sized = length-replicate (config.data_centres * config.shards) (new_node config.data_centres);
          entries_are = λ n. subst (λ solo. AllByRecursion (IsPutEntry []) (entries solo)) (sym (new_nodes (config.data_centres * config.shards) n (new_node config.data_centres))) tt;
          puts_are = λ p at. absurd at;
        };
        actors = tt;
      };
      known = λ t at. absurd at;
    }

-- the deps of each stored record are exactly those of its put
exact_deps : (ts : List Traced) (es : List Entry) → AllByRecursion (IsPutEntry ts) es → map (λ (e : Entry). e.deps) es ≡ map (λ (e : Entry). deps_of ts (pair_of_entry e)) es
exact_deps ts [] are = refl
exact_deps ts (e ∷ es) are = λ i. are.0.put.deps_are i ∷ exact_deps ts es are.1 i

all_put : (ts : List Traced) (es : List Entry) → AllByRecursion (IsPutEntry ts) es → list_all (λ (e : Entry). list_any (λ (t : Traced). holds (put_by t.operation.effect) (pair_of_entry e)) ts) es ≡ true
all_put ts [] are = refl
all_put ts (e ∷ es) are =
    let by = flat_map-Among (λ (t : Traced). put_by t.operation.effect) ts (pair_of_entry e) are.0.put.was in
    and_true (list_any (λ (t : Traced). holds (put_by t.operation.effect) (pair_of_entry e)) ts) (list_all (λ (e : Entry). list_any (λ (t : Traced). holds (put_by t.operation.effect) (pair_of_entry e)) ts) es)
    (any_intro (λ (t : Traced). holds (put_by t.operation.effect) (pair_of_entry e)) by.0 ts by.1 (Among-holds (put_by by.0.operation.effect) (pair_of_entry e) by.2)) (all_put ts es are.1)

-- of a cluster in which all is traced
pub exact_deps_at : (config : TenantConfig) (c : SoloCluster) (ts : List Traced) → IsTraced config c ts → AtEachNode config (λ dc shard. AreExactDeps ts (committed_entries config c dc shard))
exact_deps_at config c ts inv dc shard within_dc within_shard =
    let are = inv.entries_are (dc * config.shards + shard) in
    (all_put ts (committed_entries config c dc shard) are, exact_deps ts (committed_entries config c dc shard) are)

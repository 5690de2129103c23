-- After every list of acts, if a record was committed all of its past was.
use Rattle.std.proofs.Common.{◌≡◌, ℕ, ◌+◌, ◌*◌, ◌<◌, true, List, [], ◌∷◌, map, inl, inr, refl, sym, ◌∙◌, ap, subst, arith}
use Rattle.std.specs.Prelude.{IsTrue, Some, None, nat_lt, not, ◌==◌}
use Rattle.std.specs.List.{list_all}
use Rattle.std.proofs.lemmas.Bool.Decides.{nat_tests}
use Rattle.cops_types.specs.declared.pairs.Pair.{Pair}
use Rattle.cops_types.specs.declared.records.EntryParts.{EntryParts as Entry}
use Rattle.cops_types.specs.Context.{all_of}
use Rattle.cops_types.specs.Key.{shard_of}
use Rattle.cops_types.specs.TenantConfig.{TenantConfig}
use Rattle.cops_model.specs.declared.calls.NodeCall.TheVariants as node_call
use Rattle.cops_model.specs.declared.calls.NodeId.{NodeId}
use Rattle.cops_model.specs.declared.calls.NodeReply.{NodeReply}
use Rattle.cops_model.specs.Log.{LogStep, Late, Replied, Directed, Call}
use Rattle.cops_model.specs.Place.{node_number, place_of}
use Rattle.cops_model.specs.SoloNode.{new_node, SoloNode}
use Rattle.cops_model.specs.Carrier.{Stream, ack_call, check, commit_call, pair_of_entry, pull}
use Rattle.cops_model.specs.Request.{Action, Fetch, Write, next}
use Rattle.cops_model.specs.Session.{Session, Running, OpenContext, obs_of, request_of, context_created, request_begun}
use Rattle.cops_model.specs.Causal.{Traced, put_by, past_of_put}
use Rattle.cops_model.specs.Cluster.{SoloCluster, OfSession, find_session, call_node, new_cluster, has_node}
use Rattle.cops_causal.proofs.Closure.{IsHere, IsFoundHere, RepliesAreHere, IsAtHome, IsActorAtHome, IsClosed, PastsAreHere}
use Rattle.cops_causal.proofs.ClosureMoves.{pasts_called, at_home-grown, found-grown, committing-closed}
use Rattle.cops_causal.proofs.ClosureSteps.{mine, get_here}
use Rattle.cops_causal.proofs.Histories.{past_in, puts_of, past_of_put-Among, Among-flat_map}
use Rattle.cops_types.proofs.Elements.{Among, Every-at, Among-cases, Among-filter, and_right, all_true}
use Rattle.cops_causal.proofs.Moves.{IsStream, Leads, Both}
use Rattle.cops_node.proofs.NodeTurns.{entries, Stores}
use Rattle.cops_causal.proofs.NodeEffects.{node_of, call_changes, entries_grow}
use Rattle.cops_types.proofs.PairSets.{Among-holds, holds-Among}
use Rattle.cops_causal.proofs.Provenance.{IsTraced, IsPutEntry, IsSession}
use Rattle.cops_model.specs.Laws.{committed_entries, is_committed_in, AtEachNode}
use Rattle.cops_repl.proofs.CarrierStages.{Stage}
use Rattle.cops_causal.proofs.ClosureSessions.{get_home, put_home}
use Rattle.cops_causal.proofs.Past.{new_nodes}
use Rattle.cops_session.proofs.RequestReplies.{put-next, get-stepped, get-late, get-begun, call_of}
use Rattle.cops_causal.proofs.StreamMoves.{stage_now, stream_is}
use Rattle.cops_causal.proofs.Streams.{IsFlowing, Delivered}
use Rattle.cops_causal.proofs.TracedCalls.{home-there, unput}
use Rattle.cops_causal.proofs.TracedIdle.{session_of, fresh_context}
use Rattle.cops_causal.proofs.RequestSteps.{StepLeaves, by_call, by_late, none_runs, only_runs, put_sent, run}
use Rattle.cops_causal.proofs.ActorMoves.{CallLeaves, Leaves, Moves, SessionMoves, moves_lead}
use Rattle.cops_causal.proofs.StreamCalls.{by_stage, offered_among}
use Rattle.cops_causal.proofs.ActorsKeep.{bare}

abbrev Before : TenantConfig → SoloCluster → List Traced → Type 0
Before config = Both (Both (IsTraced config) (IsFlowing config)) (IsClosed config)

module _ (config : TenantConfig) (some : 0 < config.shards) (c : SoloCluster) (ts : List Traced) (inv : Both (IsTraced config) (IsFlowing config) c ts) (closed : IsClosed config c ts) where
  shard-below : (id : NodeId) → has_node config id.dc id.shard ≡ true → id.shard < config.shards
  shard-below id there = let e : nat_lt id.shard config.shards ≡ true = and_right (nat_lt id.dc config.data_centres) (nat_lt id.shard config.shards) there in grind (arith, nat_tests)

  abbrev ClosedAfter : ℕ → Directed → Type 0
  ClosedAfter = CallLeaves config (PastsAreHere config) (IsActorAtHome config) c ts

  -- a call whose stored entry has its past in the data centre
  by_stored : (moment : ℕ) (directed : Directed) → has_node config directed.node.dc directed.node.shard ≡ true →
      ((reply : NodeReply) (e : Entry) → Stores (place_of config directed.node) directed.call (node_of config c (node_number config.shards directed.node)) reply e → (q : Pair) → Among q (past_of_put ts (pair_of_entry e)) → IsHere config c directed.node.dc q) → ClosedAfter moment directed
  by_stored moment directed there stored =
      let call = call_node config directed.node moment directed.call c in
      let called = call_changes config c directed.node moment directed.call there inv.0.sized in
      record { nodes_are = pasts_called called ts closed.nodes (shard-below directed.node there) (stored call.reply); stays = at_home-grown config c call.after (entries_grow called) ts }

  -- of the calls of a carrier, only a commit stores, and its checks were answered by yes
  by_carrier : (stream : Stream) → IsStream config stream → (moment : ℕ) (directed : Directed) → Stage (Delivered config c stream) config.shards stream directed → ClosedAfter moment directed
  by_carrier stream is moment = by_stage config some c stream is (ClosedAfter moment) (λ there. by_stored moment (pull stream) there (λ reply f stores. absurd stores)) (record {
    checks = λ e near offered among there. by_stored moment (check config.shards stream near) there (λ reply f stores. absurd stores);
    commits = λ e offered checks there.
        let origin = node_number config.shards stream.origin in
        let put : IsPutEntry ts e = Every-at (IsPutEntry ts) e (entries (node_of config c origin)) (inv.0.entries_are origin) (offered_among config c stream e offered) in
        by_stored moment (commit_call stream e) there (λ reply f stores q past.
        committing-closed config c ts inv.0 inv.1.streamed closed some stream e put checks q (subst (λ (g : Entry). Among q (past_of_put ts (pair_of_entry g))) stores.1 past));
    acks = λ e r offered brought kind there. by_stored moment (ack_call stream e) there (λ reply f stores. absurd stores);
  })

  -- ---- sessions

  module _ (name : List ℕ) (s : Session) (found : find_session name c ≡ Some s) where
    abbrev this : IsSession config ts name s
    this = session_of config c ts inv.0 name s found

    abbrev at_home : IsAtHome config (bare c.nodes) ts name s
    at_home = mine config c ts closed name s found

    -- what a session has stored has no past yet
    session_called : (running : Running) (moment : ℕ) (directed : Directed) → s.running ≡ Some running → next config (request_of s running) running.log moment ≡ Call directed → ClosedAfter moment directed
    session_called = by_call config ts name s this (λ running moment directed. ClosedAfter moment directed)
        (λ number context key value moment runs is.
        let sent = put_sent config s context key value in
        by_stored moment sent (home-there config s.dc key some this.placed) (λ reply e stores q past.
        let by = past_of_put-Among ts (pair_of_entry e) q past in
        let was = Among-flat_map (λ (t : Traced). put_by t.operation.effect) ts (pair_of_entry e) by.0 by.1 (holds-Among (put_by by.0.operation.effect) (pair_of_entry e) by.2) in
        absurd (unput config c ts inv.0 sent.node key (all_of (obs_of context s)) stores.0 stores.2 (subst (λ p. Among p (puts_of ts)) (ap pair_of_entry stores.3) was))))
        (λ number context keys log moment q runs is at e. by_stored moment (call_of config s.dc q) (home-there config s.dc q.key some this.placed) (λ reply e stores. absurd stores))

    -- what is to be shown of a step at these nodes
    abbrev Leaving : List SoloNode → Running → LogStep → Type 0
    Leaving nodes = StepLeaves config ts name s (Leaves config (PastsAreHere config) (IsActorAtHome config) nodes ts name)

    -- a step that calls leaves what the session has seen in its data centre
    session_stepped_home : (running : Running) (moment : ℕ) (directed : Directed) → s.running ≡ Some running → next config (request_of s running) running.log moment ≡ Call directed →
        let call = call_node config directed.node moment directed.call c in Leaving call.after.nodes running (record { moment = moment; outcome = Replied call.reply })
    session_stepped_home = by_call config ts name s this
        (λ running moment directed. let call = call_node config directed.node moment directed.call c in Leaving call.after.nodes running (record { moment = moment; outcome = Replied call.reply }))
        (λ number context key value moment runs is.
        let sent = put_sent config s context key value in
        let call = call_node config sent.node moment sent.call c in
        let leaves = session_called (run number context (Write key value) []) moment sent runs (put-next config s.dc (obs_of context s) key value moment) in
        put_home config some c call.after ts inv.0 name s leaves.nodes_are (leaves.stays name (OfSession s) at_home) number context key value is.in_open moment call.reply
        (call_changes config c sent.node moment sent.call (home-there config s.dc key some this.placed) inv.0.sized))
        (λ number context keys log moment q runs is at e.
        let sent = call_of config s.dc q in
        let n = node_number config.shards sent.node in
        let call = call_node config sent.node moment sent.call c in
        let called = call_changes config c sent.node moment sent.call (home-there config s.dc q.key some this.placed) inv.0.sized in
        let leaves = session_called (run number context (Fetch keys) log) moment sent runs e in
        let after_home : IsAtHome config (bare call.after.nodes) ts name s = leaves.stays name (OfSession s) at_home in
        let now : IsFoundHere config call.after s.dc q call.reply =
        found-grown config c call.after (entries_grow called) s.dc q call.reply (get_here config c s.dc q.key (node_of config c n) refl (place_of config sent.node) q.wanted call.reply (node_of config call.after n) called.change) in
        get_home config some call.after ts leaves.nodes_are name s after_home number context keys log (record { moment = moment; outcome = Replied call.reply }) is.in_open
        (get-stepped (IsFoundHere config call.after s.dc) keys log moment call.reply q (after_home.replies_here (run number context (Fetch keys) log) runs) at now))

    closed-created : s.running ≡ None → IsAtHome config (bare c.nodes) ts name (context_created s)
    closed-created idle =
        record {
          contexts_here = λ x among q past. elim (Among-cases x s.contexts (record { number = s.next_context; obs = [] } ∷ []) among) [
            | inl old ↦ at_home.contexts_here x old q past
            | inr now ↦ elim now [
              | inl same ↦ absurd (subst (Among q) (ap (λ (y : OpenContext). past_in ts name y.number) (sym same) ∙ fresh_context config c ts inv.0 name s.next_context this.numbered) past)
              | inr never ↦ absurd never
            ]
          ];
          replies_here = none_runs _ s.running idle;
        }

    closed-begun : (number : ℕ) (action : Action) → RepliesAreHere config c s.dc action [] → IsAtHome config (bare c.nodes) ts name (request_begun number action s)
    closed-begun number action are =
        record { contexts_here = at_home.contexts_here; replies_here = only_runs (λ (r : Running). RepliesAreHere config c s.dc r.action r.log) (run s.next_request number action []) are }

    -- the moves of a session
    session_closed : SessionMoves config (PastsAreHere config) (IsActorAtHome config) c ts name s
    session_closed =
        record {
          created = closed-created;
          deleted = λ number idle. record {
            contexts_here = λ x among q past. at_home.contexts_here x (Among-filter (λ (y : OpenContext). not (y.number == number)) x s.contexts among).0 q past;
            replies_here = none_runs _ s.running idle;
          };
          put_begun = λ number key value ok. closed-begun number (Write key value) tt;
          get_begun = λ number keys ok. closed-begun number (Fetch keys) (get-begun (IsFoundHere config c s.dc) keys);
          called = session_called;
          stepped = session_stepped_home;
          late = by_late config ts name s this (λ running moment. Leaving c.nodes running (record { moment = moment; outcome = Late })) (λ number context keys log moment runs is.
              get_home config some c ts closed.nodes name s at_home number context keys log (record { moment = moment; outcome = Late }) is.in_open (get-late (IsFoundHere config c s.dc) keys log moment));
          dropped = λ moment. record { contexts_here = at_home.contexts_here; replies_here = none_runs _ None refl };
        }

  -- all moves
  closed_moves : Moves config (PastsAreHere config) (IsActorAtHome config) c ts
  closed_moves =
      record {
        opened = λ name dc free exists. record { contexts_here = λ x among. absurd among; replies_here = none_runs _ None refl };
        carrier_begun = λ name stream is. tt;
        of_session = session_closed;
        of_carrier = λ name k found. record {
          called = λ moment directed e. by_carrier k.stream (stream_is config some c ts inv.1 inv.0 name k found) moment directed (stage_now config some c ts inv.1 inv.0 name k found directed e);
          stepped = λ moment directed e open_still. tt;
        };
        collected = λ id moment there. by_stored moment (record { node = id; call = node_call.Collect }) there (λ reply e stores. absurd stores);
      }

pub closed_kept : (config : TenantConfig) → 0 < config.shards → Leads config (Before config) (IsClosed config)
closed_kept config some = moves_lead config (PastsAreHere config) (IsActorAtHome config) (Both (IsTraced config) (IsFlowing config)) (λ c ts inv. inv.0) (closed_moves config some)

pub closed_at_first : (config : TenantConfig) → IsClosed config (new_cluster config) []
closed_at_first config =
    record {
      nodes = λ dc shard in_shards e at_e. absurd (subst (λ solo. Among e (entries solo)) (new_nodes (config.data_centres * config.shards) (dc * config.shards + shard) (new_node config.data_centres)) at_e);
      actors = tt;
    }

-- of a cluster with whose records their pasts are
pub committed_at : (config : TenantConfig) (c : SoloCluster) (ts : List Traced) → PastsAreHere config c.nodes ts →
    AtEachNode config (λ dc shard. IsTrue (list_all (λ (e : Entry). list_all (is_committed_in config c dc) (past_of_put ts (pair_of_entry e))) (committed_entries config c dc shard)))
committed_at config c ts pasts dc shard within_dc within_shard =
    all_true (λ e. list_all (is_committed_in config c dc) (past_of_put ts (pair_of_entry e))) (committed_entries config c dc shard) (λ e at_e.
    all_true (is_committed_in config c dc) (past_of_put ts (pair_of_entry e)) (λ q past.
    let here = pasts dc shard within_shard e at_e q past in
    Among-holds (map pair_of_entry (committed_entries config c dc (shard_of q.key config.shards))) q here))

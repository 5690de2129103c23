-- The lists in the audits of a tenant's cluster are within the limit of the tenant's lists: each move keeps that.
use Rattle.std.proofs.Common.{◌≡◌, ℕ, zero, suc, ◌*◌, ◌<◌, Bool, true, false, List, [], ◌∷◌, ◌++◌, length, inl, inr, refl, sym, ap, subst, arith, get_or-set_same}
use Rattle.std.specs.Prelude.{Option, Some, None, max, nat_lt, slice_index_or}
use Rattle.std.specs.List.{AllByRecursion}
use Rattle.std.proofs.lemmas.Bool.Decides.{eqb_tells}
use Rattle.cops_types.specs.declared.records.EntryParts.{EntryParts as Entry}
use Rattle.cops_types.specs.declared.records.Record.{Record}
use Rattle.cops_types.specs.Records.{exact, greatest_of, kept, latest}
use Rattle.cops_types.specs.TenantConfig.{TenantConfig}
use Rattle.cops_types.specs.Version.{Timestamp}
use Rattle.cops_types.proofs.Elements.{Every-append, Every-at}
use Rattle.cops_model.specs.declared.calls.AuditEntry.{AuditEntry}
use Rattle.cops_model.specs.declared.calls.NodeCall.{NodeCall}
use Rattle.cops_model.specs.declared.calls.NodeCall.TheVariants.{Get, Put, DepCheck, Pull, Commit, Ack, Collect}
use Rattle.cops_model.specs.declared.calls.NodeId.{NodeId}
use Rattle.cops_model.specs.declared.calls.NodeReply.{NodeReply}
use Rattle.cops_model.specs.declared.calls.Wanted.TheVariants.{Latest, Exactly}
use Rattle.cops_model.specs.Log.{Call, Directed}
use Rattle.cops_model.specs.Place.{Place, node_number, place_of}
use Rattle.cops_model.specs.SoloNode.{SoloNode, new_node, queue, front}
use Rattle.cops_model.specs.Step.{effect, node_step, reply_exact, reply_latest, reply_pull, was_committed}
use Rattle.cops_node.proofs.AuditLaws.{trail_of_effect}
use Rattle.cops_node.proofs.NodeTurns.{entries, Answers, Change, IsRefused, IsReply, Joined, Stores, Taken, Takes, turn_changes}
use Rattle.cops_model.specs.Carrier.{Stream, ack_call, check, commit_call, pull}
use Rattle.cops_repl.proofs.CarrierStages.{Stage}
use Rattle.cops_model.specs.Request.{next}
use Rattle.cops_model.specs.Session.{Running, Session, request_of}
use Rattle.cops_model.specs.declared.acts.Act.{Act}
use Rattle.cops_model.specs.Causal.{Traced}
use Rattle.cops_model.specs.Cluster.{SoloCluster, call_node, find_session, has_node, new_cluster}
use Rattle.cops_model.specs.declared.replies.Reply.{Reply}
use Rattle.cops_model.specs.Events.{cluster_of, solo_replies}
use Rattle.cops_model.specs.Goes.{Goes}
use Rattle.cops_model.specs.ListLimits.{HasFew, HasFewInAudit, HasFewInCall, HasFewInReply, HasFewPairs}
use Rattle.cops_causal.proofs.AfterTurns.{after_turns}
use Rattle.cops_causal.proofs.Runs.{goes_alone}
use Rattle.cops_causal.proofs.Limits.{IsWithinLimits, limits_at_first, limits_kept, offered_few, room, seen_roomy}
use Rattle.cops_causal.proofs.Moves.{Both, Leads, kept_both, IsStream}
use Rattle.cops_causal.proofs.NodeEffects.{call_changes, node_of, number_within}
use Rattle.cops_causal.proofs.Past.{new_nodes}
use Rattle.cops_causal.proofs.Readiness.{session_ready}
use Rattle.cops_causal.proofs.Sound.{IsSound, sound_at_first, sound_kept}
use Rattle.cops_causal.proofs.StreamMoves.{stage_now, stream_is}
use Rattle.cops_causal.proofs.Streams.{Delivered}
use Rattle.cops_causal.proofs.TracedCalls.{exact-is}
use Rattle.cops_causal.proofs.TracedCarriers.{queued}
use Rattle.cops_causal.proofs.TracedIdle.{session_of}
use Rattle.cops_causal.proofs.RequestSteps.{by_call}
use Rattle.cops_causal.proofs.ActorMoves.{nodes_lead}
use Rattle.cops_causal.proofs.StreamCalls.{by_stage}
use Rattle.cops_causal.proofs.ActorsKeep.{bare}

-- ---- the words

module _ (config : TenantConfig) where
  abbrev pub HasFewInAudits : SoloCluster → List Traced → Type 0
  HasFewInAudits c ts = (n : ℕ) → HasFewInAudit config (node_of config c n)

  -- ---- what a node tells

  module _ (solo : SoloNode) (few : AllByRecursion (HasFewPairs config) (entries solo)) where
    latest_few : (key : List ℕ) (o : Option Record) → latest key solo.recs ≡ o → HasFewInReply config (reply_latest o) (Get key Latest)
    latest_few key (Some r) is = (Every-at (HasFewPairs config) r.entry (entries solo) few (exact-is key (greatest_of key (kept solo.recs)) solo r is).0).1
    latest_few key None is = tt

    exact_few : (key : List ℕ) (version : Timestamp) (now : ℕ) (was : Bool) (o : Option Record) → exact key version solo.recs ≡ o → HasFewInReply config (reply_exact now was o) (Get key (Exactly version))
    exact_few key version now was (Some r) is = (Every-at (HasFewPairs config) r.entry (entries solo) few (exact-is key version solo r is).0).1
    exact_few key version now true None is = tt
    exact_few key version now false None is = tt

    pull_few : (place : Place) (dc : ℕ) (o : Option Entry) → front (queue place dc solo) ≡ o → HasFewInReply config (reply_pull o) (Pull dc)
    pull_few place dc (Some e) is = Every-at (HasFewPairs config) e (entries solo) few (queued place dc solo e is)
    pull_few place dc None is = tt

    answer_few : (place : Place) (call : NodeCall) (reply : NodeReply) → IsReply place call solo reply → HasFewInReply config reply call
    answer_few place (Get key Latest) reply is = subst (λ (r : NodeReply). HasFewInReply config r (Get key Latest)) (sym is) (latest_few key (latest key solo.recs) refl)
    answer_few place (Get key (Exactly version)) reply is = subst (λ (r : NodeReply). HasFewInReply config r (Get key (Exactly version))) (sym is.1) (exact_few key version is.0 (was_committed version solo) (exact key version solo.recs) refl)
    answer_few place (Put key value deps near) reply is = absurd is
    answer_few place (DepCheck key version) reply is = subst (λ (r : NodeReply). HasFewInReply config r (DepCheck key version)) (sym is) tt
    answer_few place (Pull dc) reply is = subst (λ (r : NodeReply). HasFewInReply config r (Pull dc)) (sym is) (pull_few place dc (front (queue place dc solo)) refl)
    answer_few place (Commit e) reply (inl is) = subst (λ (r : NodeReply). HasFewInReply config r (Commit e)) (sym is.0) tt
    answer_few place (Commit e) reply (inr is) = subst (λ (r : NodeReply). HasFewInReply config r (Commit e)) (sym is.0) tt
    answer_few place (Ack dc version) reply is = subst (λ (r : NodeReply). HasFewInReply config r (Ack dc version)) (sym is) tt
    answer_few place Collect reply is = subst (λ (r : NodeReply). HasFewInReply config r Collect) (sym is.1) tt

    stored_few : (place : Place) (call : NodeCall) (reply : NodeReply) (e : Entry) → Stores place call solo reply e → HasFewInReply config reply call
    stored_few place (Put key value deps near) reply e is = subst (λ (r : NodeReply). HasFewInReply config r (Put key value deps near)) (sym is.1) tt
    stored_few place (Commit entry) reply e is = subst (λ (r : NodeReply). HasFewInReply config r (Commit entry)) (sym is.0) tt
    stored_few place (Get key wanted) reply e is = absurd is
    stored_few place (DepCheck key version) reply e is = absurd is
    stored_few place (Pull dc) reply e is = absurd is
    stored_few place (Ack dc version) reply e is = absurd is
    stored_few place Collect reply e is = absurd is

    taken_few : (place : Place) (call : NodeCall) (reply : NodeReply) (acked : List ℕ) → Takes place call solo reply acked → HasFewInReply config reply call
    taken_few place (Ack dc version) reply acked is = subst (λ (r : NodeReply). HasFewInReply config r (Ack dc version)) (sym is.3) tt
    taken_few place (Get key wanted) reply acked is = absurd is
    taken_few place (Put key value deps near) reply acked is = absurd is
    taken_few place (DepCheck key version) reply acked is = absurd is
    taken_few place (Pull dc) reply acked is = absurd is
    taken_few place (Commit e) reply acked is = absurd is
    taken_few place Collect reply acked is = absurd is

    told_few : (place : Place) (call : NodeCall) (reply : NodeReply) (after : SoloNode) → Change place call solo reply after → HasFewInReply config reply call
    told_few place call reply after (IsRefused same acked is) = subst (λ (r : NodeReply). HasFewInReply config r call) (sym is.1) tt
    told_few place call reply after (Answers same acked is) = answer_few place call reply is
    told_few place call reply after (Joined e more acked is) = stored_few place call reply e is
    told_few place call reply after (Taken same is) = taken_few place call reply after.acked is

    -- a turn is noted, or the audit was full
    pub turn_few : (place : Place) (moment : ℕ) (call : NodeCall) → HasFewInCall config call → HasFewInAudit config solo → HasFewInAudit config (node_step place moment call solo).after
    turn_few place moment call asked all =
        elim (nat_lt (length solo.trail) place.quota.audit) as (λ b. nat_lt (length solo.trail) place.quota.audit ≡ b → HasFewInAudit config (node_step place moment call solo).after) [
          | true ↦ λ has.
              let raised : SoloNode = record solo { moment = max solo.moment moment } in
              let entry : AuditEntry = record { moment = moment; call = call; reply = (effect place call raised).reply } in
              let trail : (node_step place moment call solo).after.trail ≡ solo.trail ++ entry ∷ [] = rw has (ap (λ t. t ++ entry ∷ []) (trail_of_effect place call raised)) in
              let reply : (node_step place moment call solo).reply ≡ entry.reply = rw has refl in
              let told = subst (λ (r : NodeReply). HasFewInReply config r call) reply (told_few place call (node_step place moment call solo).reply (node_step place moment call solo).after (turn_changes place moment call solo)) in
              subst (AllByRecursion (HasFew config)) (sym trail) (Every-append (HasFew config) solo.trail (entry ∷ []) all (record { asked = asked; told = told }, tt))
          | false ↦ λ full. let same : (node_step place moment call solo).after.trail ≡ solo.trail = rw full refl in subst (AllByRecursion (HasFew config)) (sym same) all
        ] refl

  -- ---- moves

  module _ (some : 0 < config.shards) (c : SoloCluster) (ts : List Traced) (inv : IsSound config c ts) (limits : IsWithinLimits config c ts) (audits : HasFewInAudits c ts) where
    called_few : (id : NodeId) (moment : ℕ) (call : NodeCall) → has_node config id.dc id.shard ≡ true → HasFewInCall config call → HasFewInAudits (call_node config id moment call c).after ts
    called_few id moment call there asked = each
      where
        number : ℕ
        number = node_number config.shards id

        after : SoloNode
        after = (node_step (place_of config id) moment call (node_of config c number)).after

        each : (n : ℕ) → HasFewInAudit config (node_of config (call_node config id moment call c).after n)
        each n = elim (eqb_tells n number) [
          | inl here ↦
              let within : number < length c.nodes = (let w = number_within config id there in let sized = inv.traced.sized in omega arith) in
              let is : node_of config (call_node config id moment call c).after number ≡ after = get_or-set_same c.nodes number after (new_node config.data_centres) within in
              subst (λ m. HasFewInAudit config (node_of config (call_node config id moment call c).after m)) (sym here.1)
              (subst (HasFewInAudit config) (sym is) (turn_few (node_of config c number) (limits.nodes number) (place_of config id) moment call asked (audits number)))
          | inr other ↦ subst (HasFewInAudit config) (sym ((call_changes config c id moment call there inv.traced.sized).others n other.1)) (audits n)
        ]

    -- what a running request asks
    module _ (name : List ℕ) (s : Session) (found : find_session name c ≡ Some s) where
      asked_few : (running : Running) (moment : ℕ) (directed : Directed) → s.running ≡ Some running → next config (request_of s running) running.log moment ≡ Call directed → HasFewInCall config directed.call
      asked_few = by_call config ts name s (session_of config c ts inv.traced name s found) (λ running moment directed. HasFewInCall config directed.call)
          (λ number context key value moment runs is. seen_roomy config s (room config some c ts inv limits name s found) context is.in_open) (λ number context keys log moment q runs is at e. tt)

    -- what a carrier asks
    carrier_few : (stream : Stream) → IsStream config stream → (moment : ℕ) (directed : Directed) → Stage (Delivered config c stream) config.shards stream directed → HasFewInAudits (call_node config directed.node moment directed.call c).after ts
    carrier_few stream is moment = by_stage config some c stream is (λ directed. HasFewInAudits (call_node config directed.node moment directed.call c).after ts)
        (λ there. called_few (pull stream).node moment (pull stream).call there tt) (record {
          checks = λ e near offered among there. called_few (check config.shards stream near).node moment (check config.shards stream near).call there tt;
          commits = λ e offered checks there. called_few (commit_call stream e).node moment (commit_call stream e).call there (offered_few config some c ts inv limits stream e offered);
          acks = λ e r offered brought kind there. called_few (ack_call stream e).node moment (ack_call stream e).call there tt;
        })

  abbrev Limited : SoloCluster → List Traced → Type 0
  Limited = Both (IsSound config) (IsWithinLimits config)

  few_kept : 0 < config.shards → Leads config (Both Limited HasFewInAudits) HasFewInAudits
  few_kept some = nodes_lead config (λ nodes. HasFewInAudits (bare nodes) []) (Both Limited HasFewInAudits) (λ c ts inv. inv.1) (λ c ts inv. record {
    by_session = λ name s found running moment directed runs e.
        called_few some c ts inv.0.0 inv.0.1 inv.1 directed.node moment directed.call (session_ready config some c ts inv.0.0 name s found running moment directed runs e).there
        (asked_few some c ts inv.0.0 inv.0.1 inv.1 name s found running moment directed runs e);
    by_carrier = λ name k found moment directed e.
        carrier_few some c ts inv.0.0 inv.0.1 inv.1 k.stream (stream_is config some c ts inv.0.0.flowing inv.0.0.traced name k found) moment directed (stage_now config some c ts inv.0.0.flowing inv.0.0.traced name k found directed e);
    collected = λ id moment there. called_few some c ts inv.0.0 inv.0.1 inv.1 id moment Collect there tt;
  })

  few_at_first : HasFewInAudits (new_cluster config) []
  few_at_first n = subst (HasFewInAudit config) (sym (new_nodes (config.data_centres * config.shards) n (new_node config.data_centres))) tt

  -- ---- after every run

  each_node : (nodes : List SoloNode) → ((n : ℕ) → HasFewInAudit config (slice_index_or nodes n (new_node config.data_centres))) → AllByRecursion (HasFewInAudit config) nodes
  each_node [] few = tt
  each_node (node ∷ nodes) few = (few zero, each_node nodes (λ n. few (suc n)))

  pub audits_few_left : 0 < config.shards → (acts : List Act) (told : List Reply) (left : SoloCluster) → Goes config acts told (new_cluster config) left → AllByRecursion (HasFewInAudit config) left.nodes
  audits_few_left some acts told left goes =
      let inv = after_turns (kept_both (kept_both (sound_kept config some) (limits_kept config some)) (few_kept some)) acts told left ((sound_at_first config some, limits_at_first config), few_at_first) goes in
      each_node left.nodes inv.1

  pub audits_few : 0 < config.shards → (acts : List Act) → AllByRecursion (HasFewInAudit config) (cluster_of config acts).nodes
  audits_few some acts = audits_few_left some acts (solo_replies config acts) (cluster_of config acts) (goes_alone config acts (new_cluster config))

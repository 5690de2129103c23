-- If no queue holds an entry, equivalent nodes show the same latest entries.
use Rattle.std.proofs.Common.{◌≡◌, ◌≢◌, ℕ, ◌+◌, ◌*◌, ◌<◌, ◌≤◌, ◌%◌, true, false, List, [], ◌∷◌, ◌++◌, length, drop, ◌⊎◌, inl, inr, refl, sym, ◌∙◌, ap, subst, arith, length-append, append-nil}
use Rattle.std.specs.Prelude.{zero, suc, slice_index, nat_lt, ◌==◌, Some}
use Rattle.std.specs.List.{AllByRecursion}
use Rattle.std.proofs.lemmas.Bool.Decides.{nat_tests, eqb_tells}
use Rattle.std.proofs.lemmas.Nat.{mod-mul-add}
use Rattle.cops_types.specs.declared.records.EntryParts.{EntryParts as Entry}
use Rattle.cops_types.specs.Key.{shard_of}
use Rattle.cops_types.specs.TenantConfig.{TenantConfig}
use Rattle.cops_types.specs.Records.{clock}
use Rattle.cops_types.specs.Pairs.{greatest_clock}
use Rattle.cops_model.specs.declared.calls.NodeCall.{NodeCall}
use Rattle.cops_model.specs.declared.calls.NodeCall.TheVariants as node_call
use Rattle.cops_model.specs.declared.calls.NodeId.{NodeId}
use Rattle.cops_model.specs.declared.calls.NodeReply.{NodeReply}
use Rattle.cops_model.specs.Log.{Directed, Call}
use Rattle.cops_model.specs.Place.{node_number, own_number, place_of}
use Rattle.cops_model.specs.SoloNode.{new_node, queue}
use Rattle.cops_model.specs.Carrier.{Stream, ack_call, check, commit_call, pull}
use Rattle.cops_model.specs.Request.{next}
use Rattle.cops_model.specs.Causal.{Traced}
use Rattle.cops_model.specs.Cluster.{SoloCluster, new_cluster, has_node, call_node}
use Rattle.cops_model.specs.Laws.{AreSettled, node_in, AtEachNode}
use Rattle.cops_repl.proofs.CarrierStages.{Stage}
use Rattle.cops_types.proofs.Elements.{Among, Among-left, Among-filter, Every-append, Every-at, and_left, and_right}
use Rattle.cops_node.proofs.Chains.{IsFront}
use Rattle.cops_causal.proofs.Convergence.{IsOrderly, same_latest, in_entries, of_entries, in_held}
use Rattle.cops_causal.proofs.Moves.{IsStream, Leads, Both}
use Rattle.cops_node.proofs.NodeTurns.{entries, Change, IsRefused, Answers, Joined, Taken, Stores}
use Rattle.cops_causal.proofs.NodeEffects.{node_of, Called, call_changes}
use Rattle.cops_causal.proofs.Offers.{IsOffered, origin_of, of_origin-node}
use Rattle.cops_causal.proofs.Past.{new_nodes}
use Rattle.cops_causal.proofs.Provenance.{IsTraced, IsSession}
use Rattle.cops_causal.proofs.StreamMoves.{stage_now, stream_is}
use Rattle.cops_causal.proofs.StreamNodes.{held, IsStreamed}
use Rattle.cops_causal.proofs.Streams.{IsFlowing, Delivered}
use Rattle.cops_causal.proofs.TracedCalls.{next-above, home-there}
use Rattle.cops_causal.proofs.TracedIdle.{session_of}
use Rattle.cops_causal.proofs.ActorMoves.{nodes_lead}
use Rattle.cops_causal.proofs.StreamCalls.{by_stage, offered_among}
use Rattle.cops_causal.proofs.RequestSteps.{by_call, put_sent}
use Rattle.cops_session.proofs.RequestReplies.{call_of}
use Rattle.cops_types.specs.Context.{all_of}
use Rattle.cops_model.specs.Session.{Running, Session, obs_of, request_of}
use Rattle.cops_causal.proofs.ActorsKeep.{bare}

-- the entry was issued at an equivalent node of the cluster, and its key is placed on the shard of the node
pub record IsEquivalent (config : TenantConfig) (n : ℕ) (e : Entry) : Type 0 where
  pub dc : ℕ
  pub within : nat_lt dc config.data_centres ≡ true
  pub issued_at : e.version.node ≡ dc * config.shards + n % config.shards
  pub home : shard_of e.key config.shards ≡ n % config.shards

abbrev pub AreEquivalent : TenantConfig → SoloCluster → List Traced → Type 0
AreEquivalent config c ts = (n : ℕ) → AllByRecursion (IsEquivalent config n) (entries (node_of config c n))

equivalent_called : (config : TenantConfig) (c after : SoloCluster) (id : NodeId) (call : NodeCall) (reply : NodeReply) → Called config c id call reply after → (ts : List Traced) → AreEquivalent config c ts →
    ((e : Entry) → Stores (place_of config id) call (node_of config c (node_number config.shards id)) reply e → IsEquivalent config (node_number config.shards id) e) → AreEquivalent config after ts
equivalent_called config c after id call reply called ts old new n =
    elim (eqb_tells n (node_number config.shards id)) [
      | inr other ↦ subst (λ solo. AllByRecursion (IsEquivalent config n) (entries solo)) (sym (called.others n other.1)) (old n)
      | inl here ↦ subst (λ m. AllByRecursion (IsEquivalent config m) (entries (node_of config after m))) (sym here.1) (by_change called.change)
    ]
  where
    number : ℕ
    number = node_number config.shards id

    by_change : Change (place_of config id) call (node_of config c number) reply (node_of config after number) → AllByRecursion (IsEquivalent config number) (entries (node_of config after number))
    by_change (IsRefused same acked is) = subst (AllByRecursion (IsEquivalent config number)) (sym same) (old number)
    by_change (Answers same acked is) = subst (AllByRecursion (IsEquivalent config number)) (sym same) (old number)
    by_change (Joined e more acked is) = subst (AllByRecursion (IsEquivalent config number)) (sym more) (Every-append (IsEquivalent config number) (entries (node_of config c number)) (e ∷ []) (old number) (new e is, tt))
    by_change (Taken same is) = subst (AllByRecursion (IsEquivalent config number)) (sym same) (old number)

shard_is : (config : TenantConfig) (id : NodeId) → has_node config id.dc id.shard ≡ true → node_number config.shards id % config.shards ≡ id.shard
shard_is config id there =
    let e : nat_lt id.shard config.shards ≡ true = and_right (nat_lt id.dc config.data_centres) (nat_lt id.shard config.shards) there in
    let below : id.shard < config.shards = grind (arith, nat_tests) in
    mod-mul-add id.dc config.shards id.shard below

-- of a node with this number, of the data centre and the shard of the id
at_id : (config : TenantConfig) (id origin : NodeId) (e : Entry) → has_node config id.dc id.shard ≡ true → nat_lt origin.dc config.data_centres ≡ true → origin.shard ≡ id.shard → e.version.node ≡ node_number config.shards origin → shard_of e.key config.shards ≡ id.shard → IsEquivalent config (node_number config.shards id) e
at_id config id origin e there within same is home =
    record { dc = origin.dc; within = within; issued_at = is ∙ ap (λ s. origin.dc * config.shards + s) (same ∙ sym (shard_is config id there)); home = home ∙ sym (shard_is config id there) }

abbrev Before : TenantConfig → SoloCluster → List Traced → Type 0
Before config = Both (Both (IsTraced config) (IsFlowing config)) (AreEquivalent config)

module _ (config : TenantConfig) (some : 0 < config.shards) (c : SoloCluster) (ts : List Traced) (inv : Before config c ts) where
  -- what a call leaves, if what it stores is equivalent
  called_at : (moment : ℕ) (directed : Directed) → has_node config directed.node.dc directed.node.shard ≡ true →
      ((reply : NodeReply) (e : Entry) → Stores (place_of config directed.node) directed.call (node_of config c (node_number config.shards directed.node)) reply e → IsEquivalent config (node_number config.shards directed.node) e) →
      AreEquivalent config (call_node config directed.node moment directed.call c).after ts
  called_at moment directed there new =
      let turn = call_node config directed.node moment directed.call c in
      equivalent_called config c turn.after directed.node directed.call turn.reply (call_changes config c directed.node moment directed.call there inv.0.0.sized) ts inv.1 (new turn.reply)

  by_session : (name : List ℕ) (s : Session) → IsSession config ts name s → (running : Running) (moment : ℕ) (directed : Directed) → s.running ≡ Some running → next config (request_of s running) running.log moment ≡ Call directed →
      AreEquivalent config (call_node config directed.node moment directed.call c).after ts
  by_session name s this = by_call config ts name s this (λ running moment directed. AreEquivalent config (call_node config directed.node moment directed.call c).after ts)
      (λ number context key value moment runs is.
      let sent = put_sent config s context key value in
      let there = home-there config s.dc key some this.placed in
      let solo = node_of config c (node_number config.shards sent.node) in
      called_at moment sent there (λ reply e stores.
      at_id config sent.node sent.node e there this.placed refl
      (ap (λ (f : Entry). f.version.node) stores.3 ∙ (next-above (clock config.first_clock solo.recs) (greatest_clock (all_of (obs_of context s))) (own_number (place_of config sent.node)) stores.0 stores.2).1)
      (ap (λ (f : Entry). shard_of f.key config.shards) stores.3)))
      (λ number context keys log moment q runs is at e. called_at moment (call_of config s.dc q) (home-there config s.dc q.key some this.placed) (λ reply e stores. absurd stores))

  module _ (stream : Stream) (is : IsStream config stream) where
    -- what is offered is placed on the shard of its origin
    pub at_origin : (e : Entry) → IsOffered config c stream e → shard_of e.key config.shards ≡ stream.origin.shard
    at_origin e offered =
        let origin = origin_of config stream in
        (Every-at (IsEquivalent config origin) e (entries (node_of config c origin)) (inv.1 origin) (offered_among config c stream e offered)).home ∙ shard_is config stream.origin is.origin_is

    -- what the calls of a carrier leave
    by_carrier : (moment : ℕ) (directed : Directed) → Stage (Delivered config c stream) config.shards stream directed → AreEquivalent config (call_node config directed.node moment directed.call c).after ts
    by_carrier moment = by_stage config some c stream is (λ directed. AreEquivalent config (call_node config directed.node moment directed.call c).after ts)
        (λ there. called_at moment (pull stream) there (λ reply f stores. absurd stores)) (record {
          checks = λ e near offered among there. called_at moment (check config.shards stream near) there (λ reply f stores. absurd stores);
          commits = λ e offered checks there. called_at moment (commit_call stream e) there (λ reply f stores.
              at_id config (record { dc = stream.to_dc; shard = stream.origin.shard }) stream.origin f there (and_left (nat_lt stream.origin.dc config.data_centres) (nat_lt stream.origin.shard config.shards) is.origin_is) refl
              (ap (λ (g : Entry). g.version.node) stores.1 ∙ of_origin-node (origin_of config stream) (entries (node_of config c (origin_of config stream))) offered.place e offered.at)
              (ap (λ (g : Entry). shard_of g.key config.shards) stores.1 ∙ at_origin e offered));
          acks = λ e r offered brought kind there. called_at moment (ack_call stream e) there (λ reply f stores. absurd stores);
        })

pub equivalent_kept : (config : TenantConfig) → 0 < config.shards → Leads config (Before config) (AreEquivalent config)
equivalent_kept config some = nodes_lead config (λ nodes. AreEquivalent config (bare nodes) []) (Before config) (λ c ts inv. inv.1) (λ c ts inv. record {
  by_session = λ name s found running moment directed runs e.
      by_session config some c ts inv name s (session_of config c ts inv.0.0 name s found) running moment directed runs e;
  by_carrier = λ name k found moment directed e.
      by_carrier config some c ts inv k.stream (stream_is config some c ts inv.0.1 inv.0.0 name k found) moment directed (stage_now config some c ts inv.0.1 inv.0.0 name k found directed e);
  collected = λ id moment there. called_at config some c ts inv moment (record { node = id; call = node_call.Collect }) there (λ reply e stores. absurd stores);
})

pub equivalent_at_first : (config : TenantConfig) → AreEquivalent config (new_cluster config) []
equivalent_at_first config n = subst (λ solo. AllByRecursion (IsEquivalent config n) (entries solo)) (sym (new_nodes (config.data_centres * config.shards) n (new_node config.data_centres))) tt

-- ---- empty queues

dropped : {A : Type 0} (k : ℕ) (xs : List A) → drop k xs ≡ [] → length xs ≤ k
dropped zero [] e = omega arith
dropped zero (x ∷ xs) e = cc
dropped (suc k) [] e = omega arith
dropped (suc k) (x ∷ xs) e = let later = dropped k xs e in omega arith

-- a front as long as the whole is the whole
whole_front : (front whole : List Entry) → IsFront front whole → length whole ≤ length front → (e : Entry) → Among e whole → Among e front
whole_front front whole is long e at = subst (Among e) (is.whole_is ∙ ap (λ es. front ++ es) (nothing is.rest counted) ∙ append-nil front) at
  where
    counted : length is.rest ≤ 0
    counted = let sum = ap length is.whole_is ∙ length-append front is.rest in omega arith

    nothing : (es : List Entry) → length es ≤ 0 → es ≡ []
    nothing [] e = refl
    nothing (x ∷ es) e = absurd (omega arith)

-- no queue has an entry for another data centre
abbrev pub AreQueuesEmpty : TenantConfig → SoloCluster → Type 0
AreQueuesEmpty config c =
    AtEachNode config (λ dc shard. (to : ℕ) → to < config.data_centres → to ≢ dc → queue (place_of config (record { dc = dc; shard = shard })) to (node_in config c dc shard) ≡ [])

module _ (config : TenantConfig) (some : 0 < config.shards) (c : SoloCluster) (streamed : IsStreamed config c) (placed : AreEquivalent config c []) (idle : AreQueuesEmpty config c) (shard : ℕ) (in_shards : shard < config.shards) where
  abbrev number : ℕ → ℕ
  number dc = dc * config.shards + shard

  shard-of : (dc : ℕ) → number dc % config.shards ≡ shard
  shard-of dc = mod-mul-add dc config.shards shard in_shards

  -- what one node has, every equivalent one has
  pub everywhere : (one other : ℕ) → other < config.data_centres → (e : Entry) → Among e (entries (node_of config c (number one))) → Among e (entries (node_of config c (number other)))
  everywhere one other within e at =
      (Among-filter (λ (f : Entry). f.version.node == e.version.node) e (entries (node_of config c (number other))) (by_dc (eqb_tells is.dc other))).0
    where
      is : IsEquivalent config (number one) e
      is = Every-at (IsEquivalent config (number one)) e (entries (node_of config c (number one))) (placed (number one)) at

      origin-is : e.version.node ≡ number is.dc
      origin-is = is.issued_at ∙ ap (λ s. is.dc * config.shards + s) (shard-of one)

      at_origin : Among e (held config c e.version.node e.version.node)
      at_origin =
          let front = streamed.fronts (number one) e.version.node in
          subst (Among e) (sym front.whole_is) (Among-left e (held config c (number one) e.version.node) front.rest (in_held (node_of config c (number one)) e at))

      there : is.dc ≢ other → Among e (held config c (number other) (number is.dc))
      there apart =
          let m = number is.dc in
          let in_dcs : is.dc < config.data_centres = (let w : nat_lt is.dc config.data_centres ≡ true = is.within in grind (arith, nat_tests)) in
          let issued_all = dropped (slice_index (node_of config c m).acked other) (held config c m m) (idle is.dc shard in_dcs in_shards other within (λ same. apart (sym same))) in
          let acked : slice_index (node_of config c m).acked other ≤ length (held config c (number other) m) =
          subst (λ s. slice_index (node_of config c m).acked other ≤ length (held config c (other * config.shards + s) m)) (shard-of is.dc) (streamed.acked_held m other) in
          whole_front (held config c (number other) m) (held config c m m) (streamed.fronts (number other) m) (omega arith) e (subst (λ k. Among e (held config c k k)) origin-is at_origin)

      by_dc : ((is.dc == other) ≡ true) × (is.dc ≡ other) ⊎ ((is.dc == other) ≡ false) × (is.dc ≢ other) → Among e (held config c (number other) e.version.node)
      by_dc (inl same) = subst (λ k. Among e (held config c k e.version.node)) (origin-is ∙ ap number same.1) at_origin
      by_dc (inr apart) = subst (λ k. Among e (held config c (number other) k)) (sym origin-is) (there apart.1)

-- of a cluster whose streams flow and whose nodes are orderly
pub settled_at : (config : TenantConfig) → 0 < config.shards → (c : SoloCluster) → IsStreamed config c → AreEquivalent config c [] → ((n : ℕ) → IsOrderly (node_of config c n)) → AreSettled config c
settled_at config some c streamed placed are idle one other shard in_one in_other in_shards key =
    let first = node_in config c one shard in
    let second = node_in config c other shard in
    same_latest key first second (are (one * config.shards + shard)) (are (other * config.shards + shard))
    (λ e at. let is = in_entries key first e at in of_entries key second e (everywhere config some c streamed placed idle shard in_shards one other in_other e is.0) is.1)
    (λ e at. let is = in_entries key second e at in of_entries key first e (everywhere config some c streamed placed idle shard in_shards other one in_one e is.0) is.1)

-- The causal laws, of the replies to a tenant's acts and of the cluster that they leave.
use Rattle.std.specs.Prelude.{◌≡◌, ◌≢◌, ℕ, ◌<◌, ◌+◌, ◌*◌, List, [], ◌∷◌, ◌++◌, length, map, filter_map, take, IsPermutation, IsTrue, Bool, true, false, slice_index_or, Option}
use Rattle.std.specs.Option.{option_map}
use Rattle.std.specs.List.{list_all, list_any}
use Rattle.cops_types.specs.declared.faults.Fault.TheVariants.{Torn}
use Rattle.cops_types.specs.declared.pairs.Pair.{Pair}
use Rattle.cops_types.specs.declared.records.EntryParts.{EntryParts as Entry}
use Rattle.cops_types.specs.Key.{shard_of}
use Rattle.cops_types.specs.Pairs.{holds}
use Rattle.cops_types.specs.Records.{ever, of_key, latest}
use Rattle.cops_types.specs.TenantConfig.{TenantConfig}
use Rattle.cops_model.specs.declared.acts.Act.{Act}
use Rattle.cops_model.specs.declared.acts.Act.TheVariants.{Done}
use Rattle.cops_model.specs.declared.calls.AuditEntry.{AuditEntry}
use Rattle.cops_model.specs.declared.calls.NodeReply.{NodeReply}
use Rattle.cops_model.specs.declared.calls.NodeReply.TheVariants as node_reply
use Rattle.cops_model.specs.declared.replies.Reply.{Reply}
use Rattle.cops_model.specs.declared.replies.Reply.TheVariants.{OutOfOrder, Refused}
use Rattle.cops_model.specs.Place.{place_of}
use Rattle.cops_model.specs.SoloNode.{SoloNode, new_node, queue}
use Rattle.cops_model.specs.Carrier.{pair_of_entry}
use Rattle.cops_model.specs.Causal.{Operation, Traced, answers_consistently, deps_of, effect_of, past_of_put, put_by}
use Rattle.cops_model.specs.Cluster.{SoloCluster, cluster_step, goes_on, new_cluster}
use Rattle.cops_model.specs.Goes.{Goes}
use Rattle.cops_model.specs.Precedence.{AreLeastPasts}
use Rattle.cops_model.specs.Restarts.{ends_when_due, moment_in, steps_of}
use Rattle.cops_model.specs.Told.{history_told, operations_told}

-- ---- nodes of a cluster

abbrev pub node_in : TenantConfig → SoloCluster → ℕ → ℕ → SoloNode
node_in config cluster dc shard = slice_index_or cluster.nodes (dc * config.shards + shard) (new_node config.data_centres)

-- the entries that the node ever committed
abbrev pub committed_entries : TenantConfig → SoloCluster → ℕ → ℕ → List Entry
committed_entries config cluster dc shard = map (λ r. r.entry) (ever (node_in config cluster dc shard).recs)

-- at each node of the cluster
abbrev pub AtEachNode : TenantConfig → (ℕ → ℕ → Type 0) → Type 0
AtEachNode config P = (dc shard : ℕ) → dc < config.data_centres → shard < config.shards → P dc shard

-- ---- pasts

-- each of the entries comes from a put, and its deps are exactly those of that put
abbrev pub AreExactDeps : List Traced → List Entry → Type 0
AreExactDeps history entries =
    IsTrue (list_all (λ e. list_any (λ t. holds (put_by t.operation.effect) (pair_of_entry e)) history) entries)
    × (map (λ e. e.deps) entries ≡ map (λ e. deps_of history (pair_of_entry e)) entries)

-- the pair was committed in the data centre
abbrev pub is_committed_in : TenantConfig → SoloCluster → ℕ → Pair → Bool
is_committed_in config cluster dc pair = holds (map pair_of_entry (committed_entries config cluster dc (shard_of pair.key config.shards))) pair

-- each transaction's answer is causally consistent
abbrev pub AreConsistent : List Traced → Type 0
AreConsistent history = IsTrue (list_all (λ t. answers_consistently t t.operation.effect) history)

-- ---- replies

-- no node replies that a version has not come, that an entry is out of order or that a request is torn; neither does a request or carrier
abbrev pub is_expected_of_node : NodeReply → Bool
is_expected_of_node node_reply.NotYet = false
is_expected_of_node (node_reply.OutOfOrder mark) = false
is_expected_of_node (node_reply.Refused Torn) = false
is_expected_of_node reply = true

abbrev pub is_expected : Reply → Bool
is_expected (OutOfOrder mark) = false
is_expected (Refused Torn) = false
is_expected reply = true

-- ---- convergence

abbrev pub latest_entry : List ℕ → SoloNode → Option Entry
latest_entry key solo = option_map (λ r. r.entry) (latest key solo.recs)

abbrev pub entries_of : List ℕ → SoloNode → List Entry
entries_of key solo = map (λ r. r.entry) (of_key key (ever solo.recs))

-- equivalent nodes that committed the same entries of a key show the same latest entry
abbrev pub AreConvergent : TenantConfig → SoloCluster → Type 0
AreConvergent config cluster =
    (one other shard : ℕ) (key : List ℕ) →
    IsPermutation (entries_of key (node_in config cluster one shard)) (entries_of key (node_in config cluster other shard)) →
    latest_entry key (node_in config cluster one shard) ≡ latest_entry key (node_in config cluster other shard)

-- if no queue has an entry for another data centre, every two equivalent nodes show the same latest entry of each key
abbrev pub AreSettled : TenantConfig → SoloCluster → Type 0
AreSettled config cluster =
    AtEachNode config (λ dc shard. (to : ℕ) → to < config.data_centres → to ≢ dc → queue (place_of config (record { dc = dc; shard = shard })) to (node_in config cluster dc shard) ≡ []) →
    (one other shard : ℕ) → one < config.data_centres → other < config.data_centres → shard < config.shards → (key : List ℕ) →
    latest_entry key (node_in config cluster one shard) ≡ latest_entry key (node_in config cluster other shard)

-- ---- all laws

-- the laws, of the replies to these acts and of the cluster that they leave
pub record IsCausal (config : TenantConfig) (acts : List Act) (told : List Reply) (cluster : SoloCluster) : Type 0 where
  -- each reply that a pair was stored, or of values that were read, ends an operation of its own, in order
  pub each : filter_map effect_of told ≡ map (λ (o : Operation). o.effect) (operations_told acts told)
  -- of no key that a transaction returned is there a newer version in the past of what it returned
  pub consistent : AreConsistent (history_told acts told)
  -- pasts follow from the least relation closed under the rules of `Precedes`
  pub least_pasts : AreLeastPasts (operations_told acts told)
  -- each stored record was put, and has exactly the dependencies of its put
  pub exact_deps : AtEachNode config (λ dc shard. AreExactDeps (history_told acts told) (committed_entries config cluster dc shard))
  -- if a record was committed in a data centre, so was its whole past
  pub committed :
      AtEachNode config (λ dc shard.
      IsTrue (list_all (λ e. list_all (is_committed_in config cluster dc) (past_of_put (history_told acts told) (pair_of_entry e))) (committed_entries config cluster dc shard)))
  -- nothing is torn, not yet there or out of order
  pub expected : IsTrue (list_all is_expected told)
  pub expected_of_nodes : AtEachNode config (λ dc shard. IsTrue (list_all (λ (entry : AuditEntry). is_expected_of_node entry.reply) (node_in config cluster dc shard).trail))
  -- equivalent nodes come to show the same
  pub convergent : AreConvergent config cluster
  pub settled : AreSettled config cluster
  -- `done` ends
  pub ends : (name : List ℕ) (moment : ℕ) → goes_on (cluster_step config (Done name moment) cluster).reply ≡ false
  -- in the steps of each act a transaction begins again only if a moment passed by then is late for its attempt
  pub restarts :
      (before later : List Act) (act : Act) → acts ≡ before ++ act ∷ later → (from : SoloCluster) → Goes config before (take (length before) told) (new_cluster config) from →
      IsTrue (list_all (ends_when_due config (filter_map moment_in (before ++ act ∷ []))) (steps_of config act from))

-- every run keeps them, however often memory runs out
abbrev pub AllAreCausal : TenantConfig → Type 0
AllAreCausal config = (acts : List Act) (told : List Reply) (cluster : SoloCluster) → Goes config acts told (new_cluster config) cluster → IsCausal config acts told cluster

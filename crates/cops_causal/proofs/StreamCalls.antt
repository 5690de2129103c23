-- What a carrier calls at its stage, taken apart once: each call, and that its node is there.
use Rattle.std.proofs.Common.{◌≡◌, ◌<◌, true, ◌⊎◌, sym, subst}
use Rattle.std.specs.Prelude.{nat_lt, ◌==◌}
use Rattle.std.specs.List.{AllByRecursion}
use Rattle.cops_types.specs.declared.pairs.Pair.{Pair}
use Rattle.cops_types.specs.declared.records.EntryParts.{EntryParts as Entry}
use Rattle.cops_types.specs.TenantConfig.{TenantConfig}
use Rattle.cops_types.proofs.Elements.{Among, Among-filter, and_right, and_true, slice_get-Among}
use Rattle.cops_model.specs.declared.calls.NodeReply.{NodeReply}
use Rattle.cops_model.specs.declared.calls.NodeReply.TheVariants.{Already, Checked, Committed}
use Rattle.cops_model.specs.Log.{Directed}
use Rattle.cops_model.specs.Carrier.{Stream, ack_call, check, commit_call, pull}
use Rattle.cops_model.specs.Cluster.{SoloCluster, has_node}
use Rattle.cops_node.proofs.Chains.{of_origin}
use Rattle.cops_node.proofs.NodeTurns.{entries}
use Rattle.cops_repl.proofs.CarrierStages.{Acking, Checking, Committing, Delivering, InDelivery, Pulling, Stage}
use Rattle.cops_causal.proofs.Moves.{IsStream}
use Rattle.cops_causal.proofs.NodeEffects.{node_of}
use Rattle.cops_causal.proofs.Offers.{IsOffered, origin_of}
use Rattle.cops_causal.proofs.Streams.{Delivered}
use Rattle.cops_causal.proofs.TracedCalls.{home-there}

-- what is offered is among the entries of its origin
pub offered_among : (config : TenantConfig) (c : SoloCluster) (stream : Stream) (e : Entry) → IsOffered config c stream e → Among e (entries (node_of config c (origin_of config stream)))
offered_among config c stream e offered =
    let origin = origin_of config stream in
    (Among-filter (λ (g : Entry). g.version.node == origin) e (entries (node_of config c origin)) (slice_get-Among (of_origin origin (entries (node_of config c origin))) offered.place e offered.at)).0

module _ (config : TenantConfig) (some : 0 < config.shards) (c : SoloCluster) (stream : Stream) (is : IsStream config stream) (G : Directed → Type 0) where
  -- the node of the call is one of the cluster
  abbrev pub IsThere : Directed → Type 0
  IsThere directed = has_node config directed.node.dc directed.node.shard ≡ true

  -- what holds of each call that is made for an entry
  pub record DeliveryCases : Type 0 where
    pub checks : (e : Entry) (near : Pair) → IsOffered config c stream e → Among near e.near → IsThere (check config.shards stream near) → G (check config.shards stream near)
    pub commits : (e : Entry) → IsOffered config c stream e → AllByRecursion (λ near. Delivered config c stream (check config.shards stream near) (Checked true)) e.near → IsThere (commit_call stream e) → G (commit_call stream e)
    pub acks : (e : Entry) (r : NodeReply) → IsOffered config c stream e → Delivered config c stream (commit_call stream e) r → (r ≡ Committed) ⊎ (r ≡ Already) → IsThere (ack_call stream e) → G (ack_call stream e)

  -- so is the one to which a stream brings entries
  end_there : has_node config stream.to_dc stream.origin.shard ≡ true
  end_there =
      and_true (nat_lt stream.to_dc config.data_centres) (nat_lt stream.origin.shard config.shards) is.to_is
      (and_right (nat_lt stream.origin.dc config.data_centres) (nat_lt stream.origin.shard config.shards) is.origin_is)

  -- of the call that is made for this entry
  by_delivery : DeliveryCases → (e : Entry) (directed : Directed) → IsOffered config c stream e → InDelivery (Delivered config c stream) config.shards stream e directed → G directed
  by_delivery cases e directed offered (Checking near among same) = subst G (sym same) (cases.checks e near offered among (home-there config stream.to_dc near.key some is.to_is))
  by_delivery cases e directed offered (Committing near same) = subst G (sym same) (cases.commits e offered near end_there)
  by_delivery cases e directed offered (Acking r brought kind same) = subst G (sym same) (cases.acks e r offered brought kind is.origin_is)

  -- so of the call at a stage
  pub by_stage : (IsThere (pull stream) → G (pull stream)) → DeliveryCases → (directed : Directed) → Stage (Delivered config c stream) config.shards stream directed → G directed
  by_stage pulls cases directed (Pulling same) = subst G (sym same) (pulls is.origin_is)
  by_stage pulls cases directed (Delivering e offered now) = by_delivery cases e directed offered now

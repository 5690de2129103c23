-- What the threads of a service do with their seats, as actors at shards that exist.
use Rattle.std.proofs.Common.{◌≡◌, ℕ, ◌<◌, true, not, ◌==◌, ◌&&◌, nat_lt, ltb-true, subst, arith}
use Rattle.std.specs.Prelude.{Some, slice_get}
use Rattle.cops_types.specs.declared.configs.Config.{Config}
use Rattle.cops_types.specs.declared.configs.Tenant.{Tenant}
use Rattle.cops_types.specs.TenantConfig.{tenant_config}
use Rattle.cops_types.proofs.Elements.{and_left, and_right}
use Rattle.cops_model.specs.declared.calls.NodeCall.TheVariants as node_call
use Rattle.cops_model.specs.declared.calls.NodeId.{NodeId}
use Rattle.cops_model.specs.declared.calls.NodeReply.{NodeReply}
use Rattle.cops_model.specs.declared.deliveries.Delivery.{Delivery}
use Rattle.cops_model.specs.Carrier.{Stream}
use Rattle.cops_model.specs.Cluster.{has_node, has_stream}
use Rattle.cops_node.specs.Parts.{Shared}
use Rattle.cops_service.specs.Carried.{Delivers}
use Rattle.cops_service.specs.Conversing.{ConverseAll}
use Rattle.cops_service.specs.Desks.{IsDeskCall, NodeSeat}
use Rattle.cops_service.specs.Gates.{Gates}
use Rattle.cops_whole.specs.Services.{IsCallAtShard}
use Rattle.cops_whole.specs.Clients.{AreSessionsOf, conversations_in}
use Rattle.cops_whole.specs.Threads.{AreCallsOfActors}
use Rattle.cops_whole.proofs.AtShards.{all_converse_there, delivers_there, same_conversations}
use Rattle.cops_whole.proofs.Threads.{collects, delivered, sessions_worked, worked}

module _ (config : Config) (cluster : Gates Shared) where
  pub serves : {M : Type 0} (Gives : M → ℕ → M → Type 0) (count : ℕ) (first last : NodeSeat) (moments later : M) → 0 < config.shards → ConverseAll (IsDeskCall cluster) Gives config count first last moments later →
      AreCallsOfActors (IsCallAtShard config cluster) config first last
  serves Gives count first last moments later some h =
      worked (IsCallAtShard config cluster) Gives config count first last moments later (all_converse_there (IsDeskCall cluster) Gives config some count first last moments later h)

  pub sessions_served : {M : Type 0} (Gives : M → ℕ → M → Type 0) (count : ℕ) (first last : NodeSeat) (moments later : M) (some : 0 < config.shards) (h : ConverseAll (IsDeskCall cluster) Gives config count first last moments later) →
      AreSessionsOf (conversations_in (IsDeskCall cluster) Gives config count first last moments later h) (serves Gives count first last moments later some h).actors
  unfolding serves
  sessions_served Gives count first last moments later some h =
      subst (λ cs. AreSessionsOf cs (serves Gives count first last moments later some h).actors) (same_conversations (IsDeskCall cluster) Gives config some count first last moments later h)
      (sessions_worked (IsCallAtShard config cluster) Gives config count first last moments later (all_converse_there (IsDeskCall cluster) Gives config some count first last moments later h))

  -- a stream begins at a shard that exists
  begins_there : (tenant : Tenant) (stream : Stream) → has_stream (tenant_config config tenant) stream.origin.dc stream.origin.shard stream.to_dc ≡ true → stream.origin.shard < config.shards
  begins_there tenant stream there =
      let node : has_node (tenant_config config tenant) stream.origin.dc stream.origin.shard ≡ true =
      and_left (has_node (tenant_config config tenant) stream.origin.dc stream.origin.shard) (nat_lt stream.to_dc config.data_centres)
      (and_left (has_node (tenant_config config tenant) stream.origin.dc stream.origin.shard && nat_lt stream.to_dc config.data_centres) (not (stream.origin.dc == stream.to_dc)) there) in
      ltb-true stream.origin.shard config.shards (and_right (nat_lt stream.origin.dc config.data_centres) (nat_lt stream.origin.shard config.shards) node)

  pub carries : (tenant : Tenant) (slot : ℕ) (stream : Stream) (ending : Delivery) (first last : NodeSeat) → slice_get config.tenants slot ≡ Some tenant →
      has_stream (tenant_config config tenant) stream.origin.dc stream.origin.shard stream.to_dc ≡ true → Delivers (IsDeskCall cluster) config.shards slot stream first last ending →
      AreCallsOfActors (IsCallAtShard config cluster) config first last
  carries tenant slot stream ending first last found there h =
      let below : stream.origin.shard < config.shards = begins_there tenant stream there in
      delivered (IsCallAtShard config cluster) config tenant slot stream ending first last found there (delivers_there (IsDeskCall cluster) config.shards slot (omega (arith, below)) stream below first last ending h)

  pub collected : (tenant : Tenant) (slot : ℕ) (id : NodeId) (moment : ℕ) (reply : NodeReply) (first last : NodeSeat) → slice_get config.tenants slot ≡ Some tenant → id.shard < config.shards →
      IsDeskCall cluster first id slot moment node_call.Collect reply last → AreCallsOfActors (IsCallAtShard config cluster) config first last
  collected tenant slot id moment reply first last found below h = collects (IsCallAtShard config cluster) config tenant slot id moment reply first last found (below, h)

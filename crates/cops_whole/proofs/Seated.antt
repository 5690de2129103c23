-- The turns of one tenant's actors, of those of all tenants.
use Rattle.std.proofs.Common.{◌≡◌, ℕ, ◌+◌, ◌*◌, ◌/◌, ◌%◌, ◌<◌, true, false, cond, nat_eq, List, [], ◌∷◌, ◌++◌, map, refl, sym, ◌∙◌, ap, subst}
use Rattle.std.specs.Prelude.{Some, None, filter, slice_get}
use Rattle.std.specs.List.{AllByRecursion, flat_map}
use Rattle.std.proofs.lemmas.Bool.{eqb-true}
use Rattle.std.proofs.lemmas.Bool.Decides.{Decides-eqb}
use Rattle.std.proofs.lemmas.Nat.{div-mul-add, mod-mul-add}
use Rattle.cops_types.specs.declared.configs.Config.{Config}
use Rattle.cops_types.specs.declared.configs.Tenant.{Tenant}
use Rattle.cops_types.specs.TenantConfig.{tenant_config}
use Rattle.cops_model.specs.declared.calls.NodeId.{NodeId}
use Rattle.cops_model.specs.Place.{node_number}
use Rattle.cops_node.specs.Clusters.{id_of}
use Rattle.cops_history.specs.Turns.{Turn}
use Rattle.cops_history.specs.History.{AreActs, Behaves, all_done, seat_in, turns}
use Rattle.cops_served.specs.Conversations.{turns_of_told}
use Rattle.cops_whole.specs.Whole.{WholeTurn, own_log, tenant_turn}
use Rattle.cops_whole.specs.Seats.{BehavesInSlot, IsAtShards, IsServedCluster, SlotActor, own_commands, turn_by, turns_by_actor}
use Rattle.cops_whole.proofs.Legal.{causal}
use Rattle.cops_whole.proofs.Nodes.{some_same}
use Rattle.cops_whole.proofs.Recording.{by_seat}

-- a node's number leads back to it
pub id_again : (shards : ℕ) (id : NodeId) → id.shard < shards → id_of shards (node_number shards id) ≡ id
id_again shards id below = λ i. record { dc = dc_is i; shard = shard_is i }
  where
    dc_is : (id.dc * shards + id.shard) / shards ≡ id.dc
    dc_is = div-mul-add id.dc shards id.shard below

    shard_is : (id.dc * shards + id.shard) % shards ≡ id.shard
    shard_is = mod-mul-add id.dc shards id.shard below

module _ (config : Config) (slot : ℕ) where
  -- the turns of an actor of the tenant
  own_there : (seat : ℕ) (ts : List Turn) (later : List WholeTurn) → AllByRecursion (λ (t : Turn). t.node.shard < config.shards) ts →
      turns (own_log config slot (map (turn_by config seat slot) ts ++ later)) ≡ ts ++ turns (own_log config slot later)
  own_there seat [] later below = refl
  own_there seat (t ∷ ts) later below =
      let same : nat_eq slot slot ≡ true = (Decides-eqb slot slot).1 refl in
      let here : tenant_turn config (node_number config.shards t.node) (record { slot = slot; moment = t.moment; call = t.call; reply = t.reply }) ≡ t =
      ap (λ id. record { node = id; moment = t.moment; call = t.call; reply = t.reply }) (id_again config.shards t.node below.0) in
      let rest = own_there seat ts later below.1 in
      ap (λ b. turns (cond b (record { seat = seat; turn = tenant_turn config (node_number config.shards t.node) (record { slot = slot; moment = t.moment; call = t.call; reply = t.reply }) } ∷ own_log config slot (map (turn_by config seat slot) ts ++ later)) (own_log config slot (map (turn_by config seat slot) ts ++ later)))) same
      ∙ (λ i. here i ∷ rest i)

  -- those of another tenant's
  none_there : (seat other : ℕ) (ts : List Turn) (later : List WholeTurn) → nat_eq other slot ≡ false → own_log config slot (map (turn_by config seat other) ts ++ later) ≡ own_log config slot later
  none_there seat other [] later differ = refl
  none_there seat other (t ∷ ts) later differ =
      ap (λ b. cond b (record { seat = seat; turn = tenant_turn config (node_number config.shards t.node) (record { slot = other; moment = t.moment; call = t.call; reply = t.reply }) } ∷ own_log config slot (map (turn_by config seat other) ts ++ later)) (own_log config slot (map (turn_by config seat other) ts ++ later))) differ
      ∙ none_there seat other ts later differ

  of_actors : (seat : ℕ) (actors : List SlotActor) → AllByRecursion (IsAtShards config) actors → turns (own_log config slot (flat_map (turns_by_actor config seat) actors)) ≡ flat_map turns_of_told (own_commands slot actors)
  of_actors seat [] below = refl
  of_actors seat (a ∷ actors) below = elim (nat_eq a.slot slot) as (λ b. nat_eq a.slot slot ≡ b →
      turns (own_log config slot (turns_by_actor config seat a ++ flat_map (turns_by_actor config seat) actors)) ≡ flat_map turns_of_told (map (λ (x : SlotActor). x.did) (cond b (a ∷ filter (λ (x : SlotActor). nat_eq x.slot slot) actors) (filter (λ (x : SlotActor). nat_eq x.slot slot) actors)))) [
        | true ↦ λ is.
            let at : a.slot ≡ slot = eqb-true a.slot slot is in
            subst (λ s. turns (own_log config slot (map (turn_by config seat s) (turns_of_told a.did) ++ flat_map (turns_by_actor config seat) actors)) ≡ turns_of_told a.did ++ flat_map turns_of_told (own_commands slot actors)) (sym at)
            (own_there seat (turns_of_told a.did) (flat_map (turns_by_actor config seat) actors) below.0 ∙ ap (λ ts. turns_of_told a.did ++ ts) (of_actors seat actors below.1))
        | false ↦ λ differ. ap turns (none_there seat a.slot (turns_of_told a.did) (flat_map (turns_by_actor config seat) actors) differ) ∙ of_actors seat actors below.1
      ] refl

  all_behave : (tenant : Tenant) (actors : List SlotActor) → slice_get config.tenants slot ≡ Some tenant → AllByRecursion (BehavesInSlot config) actors → AllByRecursion (Behaves (tenant_config config tenant) None) (own_commands slot actors)
  all_behave tenant [] found all = tt
  all_behave tenant (a ∷ actors) found all = elim (nat_eq a.slot slot) as (λ b. nat_eq a.slot slot ≡ b →
      AllByRecursion (Behaves (tenant_config config tenant) None) (map (λ (x : SlotActor). x.did) (cond b (a ∷ filter (λ (x : SlotActor). nat_eq x.slot slot) actors) (filter (λ (x : SlotActor). nat_eq x.slot slot) actors)))) [
        | true ↦ λ is.
            let at : a.slot ≡ slot = eqb-true a.slot slot is in
            let same : all.0.0 ≡ tenant = some_same all.0.0 tenant (sym all.0.1 ∙ ap (slice_get config.tenants) at ∙ found) in
            (subst (λ (t : Tenant). Behaves (tenant_config config t) None a.did) same all.0.2, all_behave tenant actors found all.1)
        | false ↦ λ differ. all_behave tenant actors found all.1
      ] refl

  pub served_causally : (tenant : Tenant) (log : List WholeTurn) (seats : ℕ) (actors : ℕ → List SlotActor) → 0 < config.shards → slice_get config.tenants slot ≡ Some tenant → IsServedCluster config log seats actors →
      AreActs (tenant_config config tenant) (own_log config slot log) seat_in (all_done (λ seat. own_commands slot (actors seat)))
  served_causally tenant log seats actors some found served =
      causal config tenant slot some log seats (λ seat. own_commands slot (actors seat)) found served.whole
      (record {
        behave = λ seat. all_behave tenant (actors seat) found (served.behave seat);
        make = λ seat. sym (of_actors seat (actors seat) (served.shards seat)) ∙ ap (λ ws. turns (own_log config slot ws)) (served.make seat) ∙ sym (by_seat config slot seat log);
        few = λ seat beyond. ap (own_commands slot) (served.few seat beyond);
      })

-- What a carrier was given and what it brought: an entry of its stream, and the entry's place.
use Rattle.std.proofs.Common.{◌≡◌, ◌≢◌, ℕ, ◌+◌, ◌*◌, ◌<◌, ◌≤◌, ◌%◌, ◌/◌, true, false, List, [], ◌∷◌, ◌++◌, length, drop, ◌⊎◌, inl, inr, sym, ◌∙◌, ap, subst, arith, true≢false, get_or-set_same, get_or-set_other, length-set}
use Rattle.std.specs.Prelude.{Some, zero, suc, slice_get, slice_index, slice_set, nat_lt, ◌==◌}
use Rattle.std.proofs.lemmas.Bool.Decides.{nat_tests, eqb_tells, leb_tells, Decides-eqb}
use Rattle.std.proofs.lemmas.List.{get_or_past}
use Rattle.std.proofs.lemmas.Nat.{div-mul-add, mod-mul-add}
use Rattle.cops_types.specs.declared.records.EntryParts.{EntryParts as Entry}
use Rattle.cops_types.specs.Records.{mark}
use Rattle.cops_types.specs.TenantConfig.{TenantConfig}
use Rattle.cops_types.specs.Version.{no_version, version_lt, version_le, version_eq}
use Rattle.cops_types.proofs.VersionOrder.{version_eq-true, version_eq-refl, version_lt-irrefl, version_le-lt_trans}
use Rattle.cops_model.specs.declared.calls.NodeCall.TheVariants as node_call
use Rattle.cops_model.specs.declared.calls.NodeReply.{NodeReply}
use Rattle.cops_model.specs.Place.{node_number, place_of}
use Rattle.cops_model.specs.SoloNode.{queue, front}
use Rattle.cops_model.specs.Step.{was_committed}
use Rattle.cops_model.specs.Carrier.{Stream}
use Rattle.cops_model.specs.Cluster.{SoloCluster}
use Rattle.cops_node.proofs.Chains.{of_origin, IsChain, last_version, chain-at, chain-left, chain-greatest, chain-distinct, front-get, front-next, mark-is, le-mark}
use Rattle.cops_types.proofs.Elements.{slice_get-Among, Among-filter, and_right}
use Rattle.cops_causal.proofs.Moves.{IsStream}
use Rattle.cops_node.proofs.NodeTurns.{entries, Takes}
use Rattle.cops_causal.proofs.NodeEffects.{node_of}
use Rattle.cops_causal.proofs.StreamNodes.{held, IsStreamed, MayJoin, AsNext}

abbrev pub origin_of : TenantConfig → Stream → ℕ
origin_of config stream = node_number config.shards stream.origin

-- the node to which the stream goes
abbrev pub end_of : TenantConfig → Stream → ℕ
end_of config stream = node_number config.shards (record { dc = stream.to_dc; shard = stream.origin.shard })

-- the entry is issued by the origin, and all before it are at the destination
pub record IsOffered (config : TenantConfig) (c : SoloCluster) (stream : Stream) (e : Entry) : Type 0 where
  pub place : ℕ
  pub at : slice_get (held config c (origin_of config stream) (origin_of config stream)) place ≡ Some e
  pub within : place ≤ length (held config c (end_of config stream) (origin_of config stream))

-- and it is at the destination itself
pub record IsArrived (config : TenantConfig) (c : SoloCluster) (stream : Stream) (e : Entry) : Type 0 where
  pub place : ℕ
  pub at : slice_get (held config c (origin_of config stream) (origin_of config stream)) place ≡ Some e
  pub within : place < length (held config c (end_of config stream) (origin_of config stream))

pub of_origin-node : (m : ℕ) (es : List Entry) (i : ℕ) (e : Entry) → slice_get (of_origin m es) i ≡ Some e → e.version.node ≡ m
of_origin-node m es i e at = (Decides-eqb e.version.node m).0 (Among-filter (λ (e : Entry). e.version.node == m) e es (slice_get-Among (of_origin m es) i e at)).1

front-get-queue : (n : ℕ) (es : List Entry) (e : Entry) → front (drop n es) ≡ Some e → slice_get es n ≡ Some e
front-get-queue zero [] e at = cc
front-get-queue zero (f ∷ es) e at = at
front-get-queue (suc n) [] e at = cc
front-get-queue (suc n) (f ∷ es) e at = front-get-queue n es e at

module _ (config : TenantConfig) (c : SoloCluster) (inv : IsStreamed config c) (stream : Stream) (is : IsStream config stream) where
  abbrev origin : ℕ
  origin = origin_of config stream

  abbrev destination : ℕ
  destination = end_of config stream

  shard_below : stream.origin.shard < config.shards
  shard_below = let e : nat_lt stream.origin.shard config.shards ≡ true = and_right (nat_lt stream.origin.dc config.data_centres) (nat_lt stream.origin.shard config.shards) is.origin_is in grind (arith, nat_tests)

  -- the destination, as the counts of the origin name it
  destination-is : stream.to_dc * config.shards + origin % config.shards ≡ destination
  destination-is = ap (λ n. stream.to_dc * config.shards + n) (mod-mul-add stream.origin.dc config.shards stream.origin.shard shard_below)

  origin-apart : origin ≢ destination
  origin-apart same =
      let dcs : stream.origin.dc ≡ stream.to_dc =
      sym (div-mul-add stream.origin.dc config.shards stream.origin.shard shard_below) ∙ ap (λ n. n / config.shards) same ∙ div-mul-add stream.to_dc config.shards stream.origin.shard shard_below in
      let e : (stream.origin.dc == stream.to_dc) ≡ false = is.other in grind (arith, nat_tests)

  mark-held : mark origin (node_of config c destination).recs ≡ last_version no_version (held config c destination origin)
  mark-held =
      let front = inv.fronts destination origin in
      mark-is origin (node_of config c destination)
      ∙ chain-greatest (held config c destination origin) (chain-left no_version (held config c destination origin) front.rest (subst (IsChain no_version) front.whole_is (inv.chained origin)))

  -- what is pulled is offered
  pub pulled-offered : (e : Entry) → front (queue (place_of config stream.origin) stream.to_dc (node_of config c origin)) ≡ Some e → IsOffered config c stream e
  pulled-offered e at =
      record {
        place = slice_index (node_of config c origin).acked stream.to_dc;
        at = front-get-queue (slice_index (node_of config c origin).acked stream.to_dc) (held config c origin origin) e at;
        within = subst (λ n. slice_index (node_of config c origin).acked stream.to_dc ≤ length (held config c n origin)) destination-is (inv.acked_held origin stream.to_dc);
      }

  -- what has arrived was committed
  pub arrived-committed : (e : Entry) → IsArrived config c stream e → was_committed e.version (node_of config c destination) ≡ true
  arrived-committed e arrived =
      let there = front-get (held config c destination origin) (held config c origin origin) arrived.place e (inv.fronts destination origin) arrived.at arrived.within in
      let node = of_origin-node origin (entries (node_of config c origin)) arrived.place e arrived.at in
      ap (version_le e.version) (ap (λ n. mark n (node_of config c destination).recs) node ∙ mark-is origin (node_of config c destination))
      ∙ le-mark (held config c destination origin) arrived.place e there

  -- an offered entry that has not arrived is the next one
  module _ (e : Entry) (offered : IsOffered config c stream e) (next : offered.place ≡ length (held config c destination origin)) where
    abbrev split : (later : List Entry) × (held config c origin origin ≡ held config c destination origin ++ e ∷ later)
    split = front-next (held config c destination origin) (held config c origin origin) offered.place e (inv.fronts destination origin) offered.at next

    follows : (e.prev ≡ last_version no_version (held config c destination origin)) × (version_lt (last_version no_version (held config c destination origin)) e.version ≡ true)
    follows = chain-at no_version (held config c destination origin) split.0 e (subst (IsChain no_version) split.1 (inv.chained origin))

    mark-node : mark e.version.node (node_of config c destination).recs ≡ last_version no_version (held config c destination origin)
    mark-node = ap (λ n. mark n (node_of config c destination).recs) (of_origin-node origin (entries (node_of config c origin)) offered.place e offered.at) ∙ mark-held

    pub next-in_order : version_eq e.prev (mark e.version.node (node_of config c destination).recs) ≡ true
    next-in_order = ap (version_eq e.prev) (mark-node ∙ sym follows.0) ∙ version_eq-refl e.prev

    pub next-new : was_committed e.version (node_of config c destination) ≡ true → ⊥
    next-new was =
        let below = sym (ap (version_le e.version) mark-node) ∙ was in
        true≢false (sym (version_le-lt_trans e.version (last_version no_version (held config c destination origin)) e.version below follows.1) ∙ version_lt-irrefl e.version)

  offered_or_arrived : (e : Entry) (offered : IsOffered config c stream e) → (offered.place ≡ length (held config c destination origin)) ⊎ IsArrived config c stream e
  offered_or_arrived e offered =
      elim (eqb_tells offered.place (length (held config c destination origin))) [
        | inl same ↦ inl same.1
        | inr other ↦ inr (record { place = offered.place; at = offered.at; within = (let w = offered.within in let o = other.1 in omega arith) })
      ]

  -- a commit is never out of order
  pub never-out_of_order : (e : Entry) → IsOffered config c stream e → was_committed e.version (node_of config c destination) ≡ false → version_eq e.prev (mark e.version.node (node_of config c destination).recs) ≡ false → ⊥
  never-out_of_order e offered new apart =
      elim (offered_or_arrived e offered) [
        | inl next ↦ true≢false (sym (next-in_order e offered next) ∙ apart)
        | inr arrived ↦ true≢false (sym (arrived-committed e arrived) ∙ new)
      ]

  -- what was committed before has arrived
  pub committed-arrived : (e : Entry) → IsOffered config c stream e → was_committed e.version (node_of config c destination) ≡ true → IsArrived config c stream e
  committed-arrived e offered was = elim (offered_or_arrived e offered) [ inl next ↦ absurd (next-new e offered next was) | inr arrived ↦ arrived ]

  -- what is committed now may join
  pub offered-joins : (e : Entry) → IsOffered config c stream e → was_committed e.version (node_of config c destination) ≡ false → MayJoin config c destination e × ((offered : IsOffered config c stream e) → offered.place ≡ length (held config c destination origin))
  offered-joins e offered new =
      (by_place (offered_or_arrived e offered), λ other. at_end other (offered_or_arrived e other))
    where
      node : e.version.node ≡ origin
      node = of_origin-node origin (entries (node_of config c origin)) offered.place e offered.at

      by_place : (offered.place ≡ length (held config c destination origin)) ⊎ IsArrived config c stream e → MayJoin config c destination e
      by_place (inl next) =
          let there = split e offered next in
          AsNext (λ same. origin-apart (sym node ∙ same)) there.0 (subst (λ m. held config c m m ≡ held config c destination m ++ e ∷ there.0) (sym node) there.1)
      by_place (inr arrived) = absurd (true≢false (sym (arrived-committed e arrived) ∙ new))

      at_end : (other : IsOffered config c stream e) → (other.place ≡ length (held config c destination origin)) ⊎ IsArrived config c stream e → other.place ≡ length (held config c destination origin)
      at_end other (inl next) = next
      at_end other (inr arrived) = absurd (true≢false (sym (arrived-committed e arrived) ∙ new))

  -- what has arrived may be acknowledged
  pub arrived-taken : (e : Entry) → IsArrived config c stream e → (reply : NodeReply) (acked : List ℕ) → Takes (place_of config stream.origin) (node_call.Ack stream.to_dc e.version) (node_of config c origin) reply acked →
      (dc : ℕ) → slice_index acked dc ≤ length (held config c (dc * config.shards + origin % config.shards) origin)
  arrived-taken e arrived reply acked takes dc =
      let old = (node_of config c origin).acked in
      let n = slice_index old stream.to_dc in
      let first = front-get-queue n (held config c origin origin) takes.0 takes.1 in
      let same : n ≡ arrived.place = chain-distinct no_version (held config c origin origin) n arrived.place takes.0 e (inv.chained origin) first arrived.at (version_eq-true takes.0.version e.version takes.2) in
      let there : n + 1 ≤ length (held config c (stream.to_dc * config.shards + origin % config.shards) origin) =
      subst (λ m. n + 1 ≤ length (held config c m origin)) (sym destination-is) (let w = arrived.within in omega arith) in
      subst (λ as'. slice_index as' dc ≤ length (held config c (dc * config.shards + origin % config.shards) origin)) (sym takes.4) (by_dc old (inv.acked_held origin dc) (eqb_tells dc stream.to_dc) there)
    where
      by_dc : (old : List ℕ) → slice_index old dc ≤ length (held config c (dc * config.shards + origin % config.shards) origin) → ((dc == stream.to_dc) ≡ true) × (dc ≡ stream.to_dc) ⊎ ((dc == stream.to_dc) ≡ false) × (dc ≢ stream.to_dc) →
          slice_index old stream.to_dc + 1 ≤ length (held config c (stream.to_dc * config.shards + origin % config.shards) origin) →
          slice_index (slice_set old stream.to_dc (slice_index old stream.to_dc + 1)) dc ≤ length (held config c (dc * config.shards + origin % config.shards) origin)
      by_dc old before (inr other) there = let same = get_or-set_other old stream.to_dc dc (slice_index old stream.to_dc + 1) 0 other.1 in omega arith
      by_dc old before (inl here) there =
          subst (λ d. slice_index (slice_set old stream.to_dc (slice_index old stream.to_dc + 1)) d ≤ length (held config c (d * config.shards + origin % config.shards) origin)) (sym here.1)
          (elim (leb_tells (length old) stream.to_dc) [
            | inl past ↦ (let none = get_or_past (slice_set old stream.to_dc (slice_index old stream.to_dc + 1)) stream.to_dc 0 (let counted = length-set old stream.to_dc (slice_index old stream.to_dc + 1) in omega (arith, past.1)) in omega arith)
            | inr within ↦ (let now = get_or-set_same old stream.to_dc (slice_index old stream.to_dc + 1) 0 within.1 in omega arith)
          ])

-- The node calls of sessions keep that all is traced to its put.
use Rattle.std.proofs.Common.{◌≡◌, ℕ, ◌+◌, ◌<◌, ◌≤◌, ◌%◌, Bool, true, false, cond, not, List, [], ◌∷◌, map, inl, inr, refl, sym, ◌∙◌, ap, subst, arith}
use Rattle.std.specs.Prelude.{Option, Some, None, max, nat_lt, is_some, filter, sum}
use Rattle.std.specs.List.{AllByRecursion, fold}
use Rattle.std.specs.Option.{option_and_then}
use Rattle.std.proofs.lemmas.Bool.Decides.{nat_tests}
use Rattle.std.proofs.lemmas.List.{map-append}
use Rattle.std.proofs.Math.Nat.{mod-lt}
use Rattle.cops_types.specs.declared.pairs.Pair.{Pair}
use Rattle.cops_types.specs.declared.records.EntryParts.{EntryParts as Entry}
use Rattle.cops_types.specs.declared.records.Record.{Record}
use Rattle.cops_types.specs.Key.{key_eq, shard_of}
use Rattle.cops_types.specs.Pairs.{greatest_per_key, greatest_clock}
use Rattle.cops_types.specs.Records.{Tracked, ever, kept, of_key, exact, latest, greatest_of, clock}
use Rattle.cops_types.specs.TenantConfig.{TenantConfig}
use Rattle.cops_types.specs.Version.{Timestamp, version_eq, next_version, last_clock}
use Rattle.cops_types.proofs.VersionOrder.{version_eq-true}
use Rattle.cops_model.specs.declared.calls.NodeCall.{NodeCall}
use Rattle.cops_model.specs.declared.calls.NodeCall.TheVariants.{Get}
use Rattle.cops_model.specs.declared.calls.NodeId.{NodeId}
use Rattle.cops_model.specs.declared.calls.NodeReply.{NodeReply}
use Rattle.cops_model.specs.declared.calls.Wanted.{Wanted}
use Rattle.cops_model.specs.declared.calls.Wanted.TheVariants.{Latest, Exactly}
use Rattle.cops_model.specs.Place.{Place, node_number, own_number, place_of}
use Rattle.cops_model.specs.SoloNode.{SoloNode}
use Rattle.cops_model.specs.Step.{was_committed, reply_latest, reply_exact, version_of_put}
use Rattle.cops_model.specs.Carrier.{pair_of_entry}
use Rattle.cops_model.specs.Request.{key_home}
use Rattle.cops_model.specs.Causal.{Traced}
use Rattle.cops_model.specs.Cluster.{SoloCluster, NamedActor, Actor, find_actor, session_in, has_node}
use Rattle.cops_causal.proofs.ActorsKeep.{EachActor, IsKnown}
use Rattle.cops_types.proofs.KeyTests.{key_eq-true}
use Rattle.cops_types.proofs.Elements.{Among, Among-left, Among-find, Among-filter, Every-at, and_true, Among-map, map-Among}
use Rattle.cops_node.proofs.NodeTurns.{entries, IsReply, Stores, Change, IsRefused, Answers, Joined, Taken}
use Rattle.cops_causal.proofs.NodeEffects.{node_of, Called, entries_grow, entries_keep}
use Rattle.cops_types.specs.Pairs.{version_of}
use Rattle.cops_types.proofs.PairSets.{at, at as at_key, le-version_of, greatest-has}
use Rattle.cops_causal.proofs.Provenance.{IsPut, IsPutEntry, IsFound, IsTraced, IsActor}
use Rattle.cops_causal.proofs.Histories.{puts_of}

-- ---- what a node finds is among its entries

kept-ever : (recs : List Tracked) (r : Record) → Among r (kept recs) → Among r (ever recs)
kept-ever recs r there =
    let found = map-Among (λ (t : Tracked). t.record_of) r (filter (λ t. not t.removed) recs) there in
    subst (λ x. Among x (ever recs)) found.2 (Among-map (λ (t : Tracked). t.record_of) found.0 recs (Among-filter (λ (t : Tracked). not t.removed) found.0 recs found.1).0)

pub exact-is : (key : List ℕ) (version : Timestamp) (solo : SoloNode) (r : Record) → exact key version solo.recs ≡ Some r → Among r.entry (entries solo) × (r.entry.key ≡ key) × (r.entry.version ≡ version)
exact-is key version solo r e =
    let found = Among-find (λ (r : Record). version_eq r.entry.version version) r (of_key key (kept solo.recs)) e in
    let of = Among-filter (λ (r : Record). key_eq r.entry.key key) r (kept solo.recs) found.0 in
    (Among-map (λ (r : Record). r.entry) r (ever solo.recs) (kept-ever solo.recs r of.0), key_eq-true r.entry.key key of.1, version_eq-true r.entry.version version found.1)

module _ (ts : List Traced) (key : List ℕ) (solo : SoloNode) (are : AllByRecursion (IsPutEntry ts) (entries solo)) where
  record_put : (r : Record) (version : Timestamp) → exact key version solo.recs ≡ Some r → IsPut ts (at key r.entry.version) r.entry.deps
  record_put r version e =
      let is = exact-is key version solo r e in
      subst (λ k. IsPut ts (at k r.entry.version) r.entry.deps) is.1 ((Every-at (IsPutEntry ts) r.entry (entries solo) are is.0).put)

  found_latest : (wanted : Wanted) (o : Option Record) → latest key solo.recs ≡ o → IsFound ts (record { key = key; wanted = wanted }) (reply_latest o)
  found_latest wanted (Some r) is = record_put r (greatest_of key (kept solo.recs)) is
  found_latest wanted None is = tt

  found_exact : (wanted : Wanted) (version : Timestamp) (now : ℕ) (was : Bool) (o : Option Record) → exact key version solo.recs ≡ o → IsFound ts (record { key = key; wanted = wanted }) (reply_exact now was o)
  found_exact wanted version now was (Some r) is = record_put r version is
  found_exact wanted version now true None is = tt
  found_exact wanted version now false None is = tt

  replied_found : (place : Place) (wanted : Wanted) (reply : NodeReply) → IsReply place (Get key wanted) solo reply → IsFound ts (record { key = key; wanted = wanted }) reply
  replied_found place Latest reply is = subst (IsFound ts (record { key = key; wanted = Latest })) (sym is) (found_latest Latest (latest key solo.recs) refl)
  replied_found place (Exactly version) reply is =
      subst (IsFound ts (record { key = key; wanted = Exactly version })) (sym is.1) (found_exact (Exactly version) version is.0 (was_committed version solo) (exact key version solo.recs) refl)

  -- what a read finds was put
  pub get_found : (place : Place) (wanted : Wanted) (reply : NodeReply) (after : SoloNode) → Change place (Get key wanted) solo reply after → IsFound ts (record { key = key; wanted = wanted }) reply
  get_found place wanted reply after (IsRefused same acked is) = subst (IsFound ts (record { key = key; wanted = wanted })) (sym is.1) tt
  get_found place wanted reply after (Answers same acked is) = replied_found place wanted reply is
  get_found place wanted reply after (Joined e more acked is) = absurd is
  get_found place wanted reply after (Taken same is) = absurd is

-- ---- a call that stores nothing, or what was put

module _ {config : TenantConfig} {c after : SoloCluster} {id : NodeId} {call : NodeCall} {reply : NodeReply} (called : Called config c id call reply after) where
  pub pair_stays : (n : ℕ) (p : Pair) → Among p (map pair_of_entry (entries (node_of config c n))) → Among p (map pair_of_entry (entries (node_of config after n)))
  pair_stays n p there =
      let grown = entries_grow called n in
      subst (Among p) (sym (ap (map pair_of_entry) grown.1 ∙ map-append pair_of_entry (entries (node_of config c n)) grown.0)) (Among-left p (map pair_of_entry (entries (node_of config c n))) (map pair_of_entry grown.0) there)

  pub actors_stay : (P : List ℕ → Actor → Type 0) → EachActor P c → EachActor P after
  actors_stay P each = subst (AllByRecursion (λ (a : NamedActor). P a.name a.actor)) (sym called.actors_same) each

  pub found_still : (name : List ℕ) → find_actor name after ≡ find_actor name c
  found_still name = ap (λ actors. find_actor name (record { nodes = after.nodes; actors = actors })) called.actors_same

  pub known_still : (name : List ℕ) → IsKnown c name → IsKnown after name
  known_still name known = ap (λ o. is_some (option_and_then session_in o)) (found_still name) ∙ known

  pub traced-call : (ts : List Traced) → ((e : Entry) → Stores (place_of config id) call (node_of config c (node_number config.shards id)) reply e → IsPutEntry ts e) → IsTraced config c ts → IsTraced config after ts
  traced-call ts stored inv =
      record {
        stands = record {
          nodes = record { history = inv.history; sized = called.sized; entries_are = entries_keep called (IsPutEntry ts) stored inv.entries_are; puts_are = λ p at. pair_stays p.version.node p (inv.puts_are p at) };
          actors = actors_stay (IsActor config ts) inv.actors_are;
        };
        known = λ t at. known_still t.operation.session (inv.known t at);
      }

-- ---- versions are new

le-fold : (a : ℕ) (ns : List ℕ) → a ≤ fold max a ns
le-fold a [] = omega arith
le-fold a (n ∷ ns) = let later = le-fold (max a n) ns in omega arith

fold-le : (a : ℕ) (ns : List ℕ) (n : ℕ) → Among n ns → n ≤ fold max a ns
fold-le a [] n there = absurd there
fold-le a (m ∷ ns) n (inl e) = let later = le-fold (max a m) ns in omega arith
fold-le a (m ∷ ns) n (inr there) = fold-le (max a m) ns n there

-- no record's clock is above that of the node
pub clock-above : (first : ℕ) (solo : SoloNode) (p : Pair) → Among p (map pair_of_entry (entries solo)) → p.version.clock ≤ clock first solo.recs
clock-above first solo p there =
    let found = map-Among pair_of_entry p (entries solo) there in
    let of = map-Among (λ (r : Record). r.entry) found.0 (ever solo.recs) found.1 in
    let among = Among-map (λ (r : Record). r.entry.version.clock) of.0 (ever solo.recs) of.1 in
    subst (λ n. n ≤ clock first solo.recs) (ap (λ (e : Entry). e.version.clock) of.2 ∙ ap (λ (q : Pair). q.version.clock) found.2)
    (fold-le first (map (λ r. r.entry.version.clock) (ever solo.recs)) of.0.entry.version.clock among)

-- no clock of a list is above the greatest clock of its greatest versions
pub clock-below : (ps : List Pair) (q : Pair) → Among q ps → q.version.clock ≤ greatest_clock (greatest_per_key ps)
clock-below ps q at =
    let v = version_of q.key ps in
    let le = le-version_of q.key ps q.version at in
    let clocks : q.version.clock ≤ v.clock = grind (arith, nat_tests) in
    let there = Among-map (λ (p : Pair). p.version.clock) (at_key q.key v) (greatest_per_key ps) (greatest-has ps q at) in
    let bound = fold-le 0 (map (λ (p : Pair). p.version.clock) (greatest_per_key ps)) v.clock there in
    omega arith

-- a version that a put gets is above the clock of its node
pub next-above : (clock deps_clock node : ℕ) (version : Timestamp) → next_version clock deps_clock node ≡ Some version → (version.clock ≡ max clock deps_clock + 1) × (version.node ≡ node)
next-above clock deps_clock node version e = by_test (nat_lt (max clock deps_clock) last_clock) e
  where
    by_test : (b : Bool) → cond b (Some (record { clock = max clock deps_clock + 1; node = node })) None ≡ Some version → (version.clock ≡ max clock deps_clock + 1) × (version.node ≡ node)
    by_test true e = let v : Timestamp = record { clock = max clock deps_clock + 1; node = node } in let same : v ≡ version = cc in (ap (λ (w : Timestamp). w.clock) (sym same), ap (λ (w : Timestamp). w.node) (sym same))
    by_test false e = cc

-- so no operation put that version
pub unput : (config : TenantConfig) (c : SoloCluster) (ts : List Traced) → IsTraced config c ts → (id : NodeId) (key : List ℕ) (deps : List Pair) (version : Timestamp) →
    version_of_put (place_of config id) (node_of config c (node_number config.shards id)) deps ≡ Some version → Among (at_key key version) (puts_of ts) → ⊥
unput config c ts traced id key deps version is was =
    let solo = node_of config c (node_number config.shards id) in
    let above = next-above (clock config.first_clock solo.recs) (greatest_clock deps) (own_number (place_of config id)) version is in
    let there : Among (at_key key version) (map pair_of_entry (entries solo)) = subst (λ n. Among (at_key key version) (map pair_of_entry (entries (node_of config c n)))) above.1 (traced.puts_are (at_key key version) was) in
    let below : version.clock ≤ clock config.first_clock solo.recs = clock-above config.first_clock solo (at_key key version) there in
    let higher = above.0 in omega arith

-- ---- where a session's calls go

pub home-there : (config : TenantConfig) (dc : ℕ) (key : List ℕ) → 0 < config.shards → nat_lt dc config.data_centres ≡ true → has_node config (key_home config dc key).dc (key_home config dc key).shard ≡ true
home-there config dc key some placed =
    and_true (nat_lt dc config.data_centres) (nat_lt (shard_of key config.shards) config.shards) placed
    (let less : sum key % config.shards < config.shards = mod-lt (sum key) some in grind (arith, nat_tests))

-- Nodes that committed the same entries of a key show the same latest one.
use Rattle.std.proofs.Common.{◌≡◌, ℕ, ◌+◌, ◌*◌, ◌<◌, true, false, cond, List, [], ◌∷◌, map, length, ◌⊎◌, inl, inr, refl, sym, ◌∙◌, ap, subst, arith, true≢false, get_or}
use Rattle.std.specs.Prelude.{Option, Some, None, zero, suc, find, slice_get, IsPermutation, ◌==◌}
use Rattle.std.specs.List.{Contains}
use Rattle.std.specs.Option.{option_map}
use Rattle.std.proofs.lemmas.Bool.Decides.{Decides-eqb}
use Rattle.std.proofs.lemmas.List.Sorted.{Contains-permutation, IsPermutation-sym}
use Rattle.cops_types.specs.declared.records.EntryParts.{EntryParts as Entry}
use Rattle.cops_types.specs.declared.records.Record.{Record}
use Rattle.cops_types.specs.Key.{key_eq}
use Rattle.cops_types.specs.Records.{ever, kept, of_key, latest, greatest_of, KeepsGreatest}
use Rattle.cops_types.specs.TenantConfig.{TenantConfig}
use Rattle.cops_types.specs.Version.{Timestamp, no_version, version_eq, version_le, version_lt, version_max, greatest}
use Rattle.cops_types.proofs.VersionOrder.{version_eq-refl, version_le-trans, version_le-antisym, version_max-left, version_max-right, version_max_is_one, version_lt-le_trans, version_lt-irrefl}
use Rattle.cops_model.specs.SoloNode.{SoloNode}
use Rattle.cops_model.specs.Cluster.{SoloCluster}
use Rattle.cops_model.specs.Laws.{AreConvergent, node_in, latest_entry, entries_of}
use Rattle.cops_types.proofs.KeyTests.{key_eq-true, key_eq-refl}
use Rattle.cops_node.proofs.Chains.{of_origin, IsChain, chain-distinct, chain-above, chain-left}
use Rattle.cops_types.proofs.Elements.{Among, Among-filter, filter-Among, Among-map, map-Among}
use Rattle.cops_node.proofs.NodeTurns.{entries}
use Rattle.cops_causal.proofs.NodeEffects.{node_of}
use Rattle.cops_causal.proofs.StreamNodes.{held, IsStreamed}
use Rattle.cops_causal.proofs.TracedCalls.{exact-is}

-- an element of a list stands at some place, and the other way round
pub Among-place : {A : Type 0} (xs : List A) (x : A) → Among x xs → (i : ℕ) × (slice_get xs i ≡ Some x)
Among-place [] x at = absurd at
Among-place (y ∷ xs) x (inl e) = (zero, ap Some e)
Among-place (y ∷ xs) x (inr at) = let later = Among-place xs x at in (suc later.0, later.1)

Among-Contains : {A : Type 0} (xs : List A) (x : A) → Among x xs → Contains xs x
Among-Contains [] x at = absurd at
Among-Contains (y ∷ xs) x (inl e) = (zero, omega arith, e)
Among-Contains (y ∷ xs) x (inr at) = let later = Among-Contains xs x at in (suc later.0, (let w = later.1 in omega arith), later.2)

Contains-Among : {A : Type 0} (xs : List A) (x : A) (k : ℕ) → k < length xs → get_or xs k x ≡ x → Among x xs
Contains-Among [] x k within e = absurd (omega arith)
Contains-Among (y ∷ xs) x zero within e = inl e
Contains-Among (y ∷ xs) x (suc k) within e = inr (Contains-Among xs x k (omega arith) e)

-- ---- the greatest of records

le-greatest_of : (rs : List Record) (r : Record) → Among r rs → version_le r.entry.version (greatest (map (λ (r : Record). r.entry.version) rs)) ≡ true
le-greatest_of [] r at = absurd at
le-greatest_of (s ∷ rs) r (inl e) =
    subst (λ (t : Record). version_le t.entry.version (version_max s.entry.version (greatest (map (λ (r : Record). r.entry.version) rs))) ≡ true) e (version_max-left s.entry.version (greatest (map (λ (r : Record). r.entry.version) rs)))
le-greatest_of (s ∷ rs) r (inr at) =
    let rest = greatest (map (λ (r : Record). r.entry.version) rs) in
    version_le-trans r.entry.version rest (version_max s.entry.version rest) (le-greatest_of rs r at) (version_max-right s.entry.version rest)

pub found_by : (v : Timestamp) (rs : List Record) (r : Record) → Among r rs → r.entry.version ≡ v → (s : Record) × (find (λ (r : Record). version_eq r.entry.version v) rs ≡ Some s)
found_by v [] r at e = absurd at
found_by v (s ∷ rs) r at e =
    elim (version_eq s.entry.version v) as (λ b. version_eq s.entry.version v ≡ b → (t : Record) × (cond b (Some s) (find (λ (r : Record). version_eq r.entry.version v) rs) ≡ Some t)) [
      | true ↦ λ is. (s, refl)
      | false ↦ λ is. elim at [
        | inl same ↦ absurd (true≢false (sym (version_eq-refl v) ∙ ap (λ w. version_eq w v) (sym e ∙ ap (λ (t : Record). t.entry.version) (sym same)) ∙ is))
        | inr later ↦ found_by v rs r later e
      ]
    ] refl

-- the greatest version of records is one of theirs, unless they have none
greatest-of-some : (rs : List Record) → (greatest (map (λ (r : Record). r.entry.version) rs) ≡ no_version) ⊎ ((r : Record) × Among r rs × (r.entry.version ≡ greatest (map (λ (r : Record). r.entry.version) rs)))
greatest-of-some [] = inl refl
greatest-of-some (s ∷ rs) =
    let rest = greatest (map (λ (r : Record). r.entry.version) rs) in
    elim (version_max_is_one s.entry.version rest) [
      | inl e ↦ inr (s, inl refl, sym e)
      | inr e ↦ elim (greatest-of-some rs) [ inl none ↦ inl (e ∙ none) | inr later ↦ inr (later.0, inr later.1, later.2 ∙ sym e) ]
    ]

-- ---- one node

-- no two entries of a node have one version, none has 0.0, and the greatest of each key is kept
pub record IsOrderly (solo : SoloNode) : Type 0 where
  pub one_each : (e f : Entry) → Among e (entries solo) → Among f (entries solo) → e.version ≡ f.version → e ≡ f
  pub above_none : (e : Entry) → Among e (entries solo) → version_lt no_version e.version ≡ true
  pub keeps : KeepsGreatest solo.recs

-- the latest entry of a key that has some is one of them, with the greatest version
pub record IsLatest (key : List ℕ) (solo : SoloNode) : Type 0 where
  pub record_is : Record
  pub found : latest key solo.recs ≡ Some record_is
  pub among : Among record_is.entry (entries_of key solo)
  pub greatest_is : (e : Entry) → Among e (entries_of key solo) → version_le e.version record_is.entry.version ≡ true

pub in_entries : (key : List ℕ) (solo : SoloNode) (e : Entry) → Among e (entries_of key solo) → Among e (entries solo) × (e.key ≡ key)
in_entries key solo e at =
    let from = map-Among (λ (r : Record). r.entry) e (of_key key (ever solo.recs)) at in
    let of = Among-filter (λ (r : Record). key_eq r.entry.key key) from.0 (ever solo.recs) from.1 in
    (subst (λ f. Among f (entries solo)) from.2 (Among-map (λ (r : Record). r.entry) from.0 (ever solo.recs) of.0), ap (λ (f : Entry). f.key) (sym from.2) ∙ key_eq-true from.0.entry.key key of.1)

pub of_entries : (key : List ℕ) (solo : SoloNode) (e : Entry) → Among e (entries solo) → e.key ≡ key → Among e (entries_of key solo)
of_entries key solo e at same =
    let from = map-Among (λ (r : Record). r.entry) e (ever solo.recs) at in
    let passes : key_eq from.0.entry.key key ≡ true = ap (λ k. key_eq k key) (ap (λ (f : Entry). f.key) from.2 ∙ same) ∙ key_eq-refl key in
    subst (λ f. Among f (entries_of key solo)) from.2 (Among-map (λ (r : Record). r.entry) from.0 (of_key key (ever solo.recs)) (filter-Among (λ (r : Record). key_eq r.entry.key key) from.0 (ever solo.recs) from.1 passes))

pub latest_of_some : (key : List ℕ) (solo : SoloNode) → IsOrderly solo → (e : Entry) → Among e (entries_of key solo) → IsLatest key solo
latest_of_some key solo orderly e at = by_greatest (greatest-of-some (of_key key (kept solo.recs)))
  where
    below : (f : Entry) → Among f (entries_of key solo) → version_le f.version (greatest_of key (kept solo.recs)) ≡ true
    below f there =
        let from = map-Among (λ (r : Record). r.entry) f (of_key key (ever solo.recs)) there in
        ap (λ v. version_le f.version v) (orderly.keeps key) ∙ subst (λ (g : Entry). version_le g.version (greatest_of key (ever solo.recs)) ≡ true) from.2 (le-greatest_of (of_key key (ever solo.recs)) from.0 from.1)

    by_greatest : (greatest_of key (kept solo.recs) ≡ no_version) ⊎ ((r : Record) × Among r (of_key key (kept solo.recs)) × (r.entry.version ≡ greatest_of key (kept solo.recs))) → IsLatest key solo
    by_greatest (inl none) =
        let high = orderly.above_none e (in_entries key solo e at).0 in
        let low : version_le e.version no_version ≡ true = ap (version_le e.version) (sym none) ∙ below e at in
        absurd (true≢false (sym (version_lt-le_trans no_version e.version no_version high low) ∙ version_lt-irrefl no_version))
    by_greatest (inr some) =
        let found = found_by (greatest_of key (kept solo.recs)) (of_key key (kept solo.recs)) some.0 some.1 some.2 in
        let is = exact-is key (greatest_of key (kept solo.recs)) solo found.0 found.1 in
        record {
          record_is = found.0;
          found = found.1;
          among = of_entries key solo found.0.entry is.0 is.1;
          greatest_is = λ f there. ap (version_le f.version) is.2 ∙ below f there;
        }

-- the latest entry, if a key has none
latest_of_none : (key : List ℕ) (solo : SoloNode) → ((e : Entry) → Among e (entries_of key solo) → ⊥) → latest_entry key solo ≡ None
latest_of_none key solo none = by_latest (latest key solo.recs) refl
  where
    by_latest : (o : Option Record) → latest key solo.recs ≡ o → option_map (λ (r : Record). r.entry) o ≡ None
    by_latest None is = refl
    by_latest (Some r) is = let there = exact-is key (greatest_of key (kept solo.recs)) solo r is in absurd (none r.entry (of_entries key solo r.entry there.0 there.1))

-- nodes with the same entries of a key show the same latest one
pub same_latest : (key : List ℕ) (one other : SoloNode) → IsOrderly one → IsOrderly other →
    ((e : Entry) → Among e (entries_of key one) → Among e (entries_of key other)) → ((e : Entry) → Among e (entries_of key other) → Among e (entries_of key one)) →
    latest_entry key one ≡ latest_entry key other
same_latest key one other orderly_one orderly_other there back = by_entries (entries_of key one) (λ e at. at) (λ e at. at)
  where
    by_entries : (es : List Entry) → ((e : Entry) → Among e es → Among e (entries_of key one)) → ((e : Entry) → Among e (entries_of key one) → Among e es) → latest_entry key one ≡ latest_entry key other
    by_entries [] to from = latest_of_none key one from ∙ sym (latest_of_none key other (λ e at. from e (back e at)))
    by_entries (e ∷ es) to from =
        let first = latest_of_some key one orderly_one e (to e (inl refl)) in
        let second = latest_of_some key other orderly_other e (there e (to e (inl refl))) in
        let r = first.record_is.entry in
        let s = second.record_is.entry in
        let versions : r.version ≡ s.version = version_le-antisym r.version s.version (second.greatest_is r (there r first.among)) (first.greatest_is s (back s second.among)) in
        let same : r ≡ s = orderly_other.one_each r s (in_entries key other r (there r first.among)).0 (in_entries key other s second.among).0 versions in
        ap (option_map (λ (t : Record). t.entry)) first.found ∙ ap Some same ∙ sym (ap (option_map (λ (t : Record). t.entry)) second.found)

-- ---- the nodes of a run

pub in_held : (solo : SoloNode) (e : Entry) → Among e (entries solo) → Among e (of_origin e.version.node (entries solo))
in_held solo e at = filter-Among (λ (f : Entry). f.version.node == e.version.node) e (entries solo) at ((Decides-eqb e.version.node e.version.node).1 refl)

-- at each node whose greatest versions are kept, if the streams flow
pub orderly_at : (config : TenantConfig) (c : SoloCluster) → IsStreamed config c → (n : ℕ) → KeepsGreatest (node_of config c n).recs → IsOrderly (node_of config c n)
orderly_at config c streamed n keeps =
    record {
      one_each = λ e f at also same.
          let m = e.version.node in
          let first = Among-place (held config c n m) e (in_held (node_of config c n) e at) in
          let second = Among-place (held config c n m) f (subst (λ k. Among f (held config c n k)) (sym (ap (λ (v : Timestamp). v.node) same)) (in_held (node_of config c n) f also)) in
          let place = chain-distinct no_version (held config c n m) first.0 second.0 e f (chain m) first.1 second.1 same in
          let both : Some e ≡ Some f = sym first.1 ∙ ap (slice_get (held config c n m)) place ∙ second.1 in cc;
      above_none = λ e at.
          let m = e.version.node in
          let place = Among-place (held config c n m) e (in_held (node_of config c n) e at) in
          chain-above no_version (held config c n m) place.0 e (chain m) place.1;
      keeps = keeps;
    }
  where
    chain : (m : ℕ) → IsChain no_version (held config c n m)
    chain m = let front = streamed.fronts n m in chain-left no_version (held config c n m) front.rest (subst (IsChain no_version) front.whole_is (streamed.chained m))

permuted : (xs ys : List Entry) → IsPermutation xs ys → (e : Entry) → Among e xs → Among e ys
permuted xs ys same e at = let there = Contains-permutation xs ys e same (Among-Contains xs e at) in Contains-Among ys e there.0 there.1 there.2

-- of a cluster whose nodes are orderly
pub convergent_at : (config : TenantConfig) (c : SoloCluster) → ((n : ℕ) → IsOrderly (node_of config c n)) → AreConvergent config c
convergent_at config c are one other shard key same =
    let first = node_in config c one shard in
    let second = node_in config c other shard in
    same_latest key first second (are (one * config.shards + shard)) (are (other * config.shards + shard))
    (permuted (entries_of key first) (entries_of key second) same) (permuted (entries_of key second) (entries_of key first) (IsPermutation-sym (entries_of key first) (entries_of key second) same))

-- What one more record does to marks, clock and queues, and that its version is new.
use Rattle.std.proofs.Common.{◌≡◌, ◌≢◌, ℕ, ◌+◌, ◌*◌, ◌/◌, ◌%◌, ◌<◌, ◌≤◌, Bool, true, false, cond, not, List, [], ◌∷◌, ◌++◌, map, refl, sym, ap, ◌∙◌, subst, arith, true≢false, max, get_or, set}
use Rattle.std.specs.Prelude.{if◌then◌else◌, ◌==◌, filter, Option}
use Rattle.std.specs.List.{AllByRecursion, fold}
use Rattle.std.proofs.lemmas.Bool.Decides.{Decides-eqb, nat_tests}
use Rattle.std.proofs.lemmas.List.{get_or-set_same, get_or-set_other, map-append}
use Rattle.std.proofs.lemmas.List.Elements.{recursion_from_All, All-from_recursion}
use Rattle.std.proofs.lemmas.List.Sums.{fold-append}
use Rattle.std.proofs.lemmas.List.Sorted.{All-permutation, IsPermutation-sym}
use Rattle.std.proofs.Math.ListN.{length-set}
use Rattle.std.proofs.Math.Nat.{div-add-mod}
use Rattle.cops_types.specs.declared.records.Dated.{Dated}
use Rattle.cops_types.specs.declared.records.Record.{Record}
use Rattle.cops_types.specs.Records.{Tracked, StandsFor, clock, mark, mark_among, ever, kept, dated, stale_from}
use Rattle.cops_types.specs.Version.{Timestamp, no_version, version_le, version_max, greatest}
use Rattle.cops_types.proofs.VersionOrder.{version_max-left, version_max-right, version_le-trans, version_le-false, version_lt-le, version_max-no_version_right}
use Rattle.cops_store.specs.Contents.{LacksVersion, NoneLater}
use Rattle.cops_node.specs.declared.Home.{Home}
use Rattle.cops_node.specs.Parts.{AreMarks, mark_in}
use Rattle.cops_node.proofs.MarkLaws.{is_of, mark_among-push}

-- ---- a version above the mark of its node is new

not_there : (recs : List Record) (v : Timestamp) → version_le v (mark_among v.node recs) ≡ false → AllByRecursion (λ r. r.entry.version ≢ v) recs
not_there [] v h = tt
not_there (r ∷ recs) v h = by (r.entry.version.node == v.node) refl (not_there recs v)
  where
    by : (b : Bool) → (r.entry.version.node == v.node) ≡ b → (version_le v (mark_among v.node recs) ≡ false → AllByRecursion (λ s. s.entry.version ≢ v) recs) → AllByRecursion (λ s. s.entry.version ≢ v) (r ∷ recs)
    by true is more =
        let here : version_le v (version_max r.entry.version (mark_among v.node recs)) ≡ false = sym (ap (λ b. version_le v (greatest (cond b (r.entry.version ∷ filter (λ w. w.node == v.node) (map (λ (s : Record). s.entry.version) recs)) (filter (λ w. w.node == v.node) (map (λ (s : Record). s.entry.version) recs))))) is) ∙ h in (
          λ same. true≢false (sym (ap (λ w. version_le w (version_max r.entry.version (mark_among v.node recs))) (sym same) ∙ version_max-left r.entry.version (mark_among v.node recs)) ∙ here),
          more (below (version_le v (mark_among v.node recs)) refl here),
        )
      where
        below : (t : Bool) → version_le v (mark_among v.node recs) ≡ t → version_le v (version_max r.entry.version (mark_among v.node recs)) ≡ false → t ≡ false
        below true e here = absurd (true≢false (sym (version_le-trans v (mark_among v.node recs) (version_max r.entry.version (mark_among v.node recs)) e (version_max-right r.entry.version (mark_among v.node recs))) ∙ here))
        below false e here = refl
    by false is more =
        let here : version_le v (mark_among v.node recs) ≡ false = sym (ap (λ b. version_le v (greatest (cond b (r.entry.version ∷ filter (λ w. w.node == v.node) (map (λ (s : Record). s.entry.version) recs)) (filter (λ w. w.node == v.node) (map (λ (s : Record). s.entry.version) recs))))) is) ∙ h in
        (λ same. true≢false (sym ((Decides-eqb r.entry.version.node v.node).1 (ap (λ (w : Timestamp). w.node) same)) ∙ is), more here)

in_dated : (v : Timestamp) (stale : Record → Option ℕ) (recs : List Tracked) → AllByRecursion (λ r. r.entry.version ≢ v) (ever recs) → AllByRecursion (λ (k : Dated). k.record_of.entry.version ≢ v) (map (λ r. record { record_of = r; stale = stale r }) (kept recs))
in_dated v stale [] h = tt
in_dated v stale (t ∷ recs) h = by t.removed (in_dated v stale recs h.1)
  where
    by : (b : Bool) → AllByRecursion (λ (k : Dated). k.record_of.entry.version ≢ v) (map (λ r. record { record_of = r; stale = stale r }) (kept recs))
        → AllByRecursion (λ (k : Dated). k.record_of.entry.version ≢ v) (map (λ r. record { record_of = r; stale = stale r }) (map (λ (u : Tracked). u.record_of) (cond (not b) (t ∷ filter (λ u. not u.removed) recs) (filter (λ u. not u.removed) recs))))
    by true rest = rest
    by false rest = (h.0, rest)

weaker : (key : List ℕ) (v : Timestamp) (rows : List Dated) → AllByRecursion (λ (k : Dated). k.record_of.entry.version ≢ v) rows → LacksVersion key v rows
weaker key v [] h = tt
weaker key v (k ∷ rows) h = (λ _. h.0, weaker key v rows h.1)

-- no row of the slot has the version
pub is_new : (key : List ℕ) (v : Timestamp) (rows : List Dated) (recs : List Tracked) → StandsFor rows recs → version_le v (mark v.node recs) ≡ false → LacksVersion key v rows
is_new key v rows recs h above =
    weaker key v rows
    (recursion_from_All (λ (k : Dated). k.record_of.entry.version ≢ v) rows
    (All-permutation (λ (k : Dated). k.record_of.entry.version ≢ v) (dated recs) rows (IsPermutation-sym rows (dated recs) h.records)
    (All-from_recursion (λ (k : Dated). k.record_of.entry.version ≢ v) (dated recs) (in_dated v (λ r. stale_from r (ever recs)) recs (not_there (ever recs) v above)))))

-- ---- the clock

start_le : (a : ℕ) (ns : List ℕ) → a ≤ fold max a ns
start_le a [] = omega arith
start_le a (n ∷ ns) = let rest = start_le (max a n) ns in omega arith

clock_above : (first : ℕ) (node : ℕ) (recs : List Record) → (mark_among node recs).clock ≤ fold max first (map (λ (r : Record). r.entry.version.clock) recs)
clock_above first node [] = omega arith
clock_above first node (r ∷ recs) = by (r.entry.version.node == node) (clock_above (max first r.entry.version.clock) node recs)
  where
    of_max : (v w : Timestamp) (n : ℕ) → v.clock ≤ n → w.clock ≤ n → (version_max v w).clock ≤ n
    of_max v w n a b = pick (version_le v w)
      where
        pick : (t : Bool) → (cond t w v).clock ≤ n
        pick true = b
        pick false = a

    by : (b : Bool) → (mark_among node recs).clock ≤ fold max (max first r.entry.version.clock) (map (λ (s : Record). s.entry.version.clock) recs)
        → (greatest (cond b (r.entry.version ∷ filter (λ w. w.node == node) (map (λ (s : Record). s.entry.version) recs)) (filter (λ w. w.node == node) (map (λ (s : Record). s.entry.version) recs)))).clock ≤ fold max (max first r.entry.version.clock) (map (λ (s : Record). s.entry.version.clock) recs)
    by true rest = of_max r.entry.version (mark_among node recs) _ (let low = start_le (max first r.entry.version.clock) (map (λ (s : Record). s.entry.version.clock) recs) in omega arith) rest
    by false rest = rest

-- a version whose clock is above that of the slot is above each mark
pub above_marks : (first : ℕ) (v : Timestamp) (recs : List Tracked) → clock first recs < v.clock → version_le v (mark v.node recs) ≡ false
above_marks first v recs lt =
    let low = clock_above first v.node (ever recs) in
    later v (mark v.node recs) (omega arith)
  where
    later : (v w : Timestamp) → w.clock < v.clock → version_le v w ≡ false
    later v w lt = grind (arith, nat_tests)

pub clock-push : (first : ℕ) (recs : List Tracked) (r : Record) → clock first (recs ++ record { record_of = r; removed = false } ∷ []) ≡ max (clock first recs) r.entry.version.clock
clock-push first recs r =
    ap (λ rs. fold max first (map (λ (s : Record). s.entry.version.clock) rs)) (map-append (λ (t : Tracked). t.record_of) recs (record { record_of = r; removed = false } ∷ []))
    ∙ ap (fold max first) (map-append (λ (s : Record). s.entry.version.clock) (ever recs) (r ∷ []))
    ∙ fold-append max first (map (λ (s : Record). s.entry.version.clock) (ever recs)) (r.entry.version.clock ∷ [])

-- ---- the marks

mark-push_is : (node : ℕ) (recs : List Tracked) (r : Record) → mark node (recs ++ record { record_of = r; removed = false } ∷ []) ≡ version_max (mark node recs) (greatest (filter (is_of node) (r.entry.version ∷ [])))
mark-push_is node recs r = ap (mark_among node) (map-append (λ (t : Tracked). t.record_of) recs (record { record_of = r; removed = false } ∷ [])) ∙ mark_among-push node (ever recs) r

mark_own : (recs : List Tracked) (r : Record) → version_le r.entry.version (mark r.entry.version.node recs) ≡ false → mark r.entry.version.node (recs ++ record { record_of = r; removed = false } ∷ []) ≡ r.entry.version
mark_own recs r above =
    let v = r.entry.version in
    let old = mark r.entry.version.node recs in
    mark-push_is v.node recs r
    ∙ ap (λ b. version_max old (greatest (cond b (v ∷ []) []))) ((Decides-eqb v.node v.node).1 refl)
    ∙ ap (version_max old) (version_max-no_version_right v)
    ∙ ap (λ b. if b then v else old) (version_lt-le old v (version_le-false v old above))

mark_other : (node : ℕ) (recs : List Tracked) (r : Record) → (r.entry.version.node == node) ≡ false → mark node (recs ++ record { record_of = r; removed = false } ∷ []) ≡ mark node recs
mark_other node recs r differ =
    mark-push_is node recs r
    ∙ ap (λ b. version_max (mark node recs) (greatest (cond b (r.entry.version ∷ []) []))) differ
    ∙ version_max-no_version_right (mark node recs)

-- two nodes with one shard number and one data centre are one
same_node : (a b shards : ℕ) → a % shards ≡ b % shards → a / shards ≡ b / shards → a ≡ b
same_node a b shards shard dc = sym (div-add-mod a shards) ∙ (λ i. shards * dc i + shard i) ∙ div-add-mod b shards

-- the mark of another node is as before
other_mark : (home : Home) (marks : List Timestamp) (v : Timestamp) (node : ℕ) → v.node % home.shape.shards ≡ home.id.shard → (v.node == node) ≡ false
    → mark_in home (set marks (v.node / home.shape.shards) v) node ≡ mark_in home marks node
other_mark home marks v node shard_is differ = by (node % home.shape.shards == home.id.shard) refl
  where
    by : (b : Bool) → (node % home.shape.shards == home.id.shard) ≡ b
        → (if b then get_or (set marks (v.node / home.shape.shards) v) (node / home.shape.shards) no_version else no_version) ≡ (if b then get_or marks (node / home.shape.shards) no_version else no_version)
    by true is =
        let shard : v.node % home.shape.shards ≡ node % home.shape.shards = shard_is ∙ sym ((Decides-eqb (node % home.shape.shards) home.id.shard).0 is) in
        get_or-set_other marks (v.node / home.shape.shards) (node / home.shape.shards) v no_version (λ dc. true≢false (sym ((Decides-eqb v.node node).1 (same_node v.node node home.shape.shards shard (sym dc))) ∙ differ))
    by false is = refl

pub AreMarks-push : (home : Home) (marks : List Timestamp) (recs : List Tracked) (r : Record) → AreMarks home marks recs → r.entry.version.node / home.shape.shards < home.shape.data_centres → r.entry.version.node % home.shape.shards ≡ home.id.shard
    → version_le r.entry.version (mark r.entry.version.node recs) ≡ false → AreMarks home (set marks (r.entry.version.node / home.shape.shards) r.entry.version) (recs ++ record { record_of = r; removed = false } ∷ [])
AreMarks-push home marks recs r h within shard_is above = record {
  all = length-set marks (r.entry.version.node / home.shape.shards) r.entry.version ∙ h.all;
  each = λ node. by node (r.entry.version.node == node) refl;
}
  where
    own : mark_in home (set marks (r.entry.version.node / home.shape.shards) r.entry.version) r.entry.version.node ≡ mark r.entry.version.node (recs ++ record { record_of = r; removed = false } ∷ [])
    own =
        ap (λ b. if b then get_or (set marks (r.entry.version.node / home.shape.shards) r.entry.version) (r.entry.version.node / home.shape.shards) no_version else no_version) ((Decides-eqb (r.entry.version.node % home.shape.shards) home.id.shard).1 shard_is)
        ∙ get_or-set_same marks (r.entry.version.node / home.shape.shards) r.entry.version no_version (subst (λ n. r.entry.version.node / home.shape.shards < n) (sym h.all) within)
        ∙ sym (mark_own recs r above)

    by : (node : ℕ) (b : Bool) → (r.entry.version.node == node) ≡ b
        → mark_in home (set marks (r.entry.version.node / home.shape.shards) r.entry.version) node ≡ mark node (recs ++ record { record_of = r; removed = false } ∷ [])
    by node true is =
        subst (λ n. mark_in home (set marks (r.entry.version.node / home.shape.shards) r.entry.version) n ≡ mark n (recs ++ record { record_of = r; removed = false } ∷ [])) ((Decides-eqb r.entry.version.node node).0 is) own
    by node false is = other_mark home marks r.entry.version node shard_is is ∙ h.each node ∙ sym (mark_other node recs r is)

-- ---- timestamps

pub NoneLater-push : (now : ℕ) (recs : List Tracked) (r : Record) → NoneLater now recs → r.at ≤ now → NoneLater now (recs ++ record { record_of = r; removed = false } ∷ [])
NoneLater-push now [] r h le = (le, tt)
NoneLater-push now (t ∷ recs) r h le = (h.0, NoneLater-push now recs r h.1 le)

pub NoneLater-raised : (a b : ℕ) (recs : List Tracked) → a ≤ b → NoneLater a recs → NoneLater b recs
NoneLater-raised a b [] le h = tt
NoneLater-raised a b (t ∷ recs) le h = (let at : t.record_of.at ≤ a = h.0 in omega arith, NoneLater-raised a b recs le h.1)

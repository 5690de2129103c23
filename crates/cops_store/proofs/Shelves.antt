-- What the fields of a shelf show.
use Rattle.std.proofs.Common.{◌≡◌, ◌≢◌, ℕ, suc, ◌+◌, Bool, true, false, ◌||◌, List, [], ◌∷◌, ◌++◌, length, map, refl, sym, ap, ◌∙◌, subst, true≢false, sum_by}
use Rattle.std.specs.Prelude.{Some, None, if◌then◌else◌, is_some}
use Rattle.std.specs.List.{list_any, AllByRecursion, IsDistinct}
use Rattle.std.specs.List.Sorted.{IsPermutation}
use Rattle.std.specs.Map.{keys_of, lookup}
use Rattle.std.proofs.lemmas.Map.Keys.{IsDistinct-cons}
use Rattle.std.proofs.lemmas.List.Sorted.{length_permutation, sum_by-IsPermutation}
use Rattle.std.proofs.lemmas.List.Sums.{sum_by-cons}
use Rattle.cops_types.specs.declared.records.Record.{Record}
use Rattle.cops_types.specs.declared.records.Dated.{Dated}
use Rattle.cops_store.specs.declared.usage.InUse.{InUse}
use Rattle.cops_store.specs.declared.table.Due.{Due}
use Rattle.cops_types.specs.Key.{key_eq}
use Rattle.cops_store.specs.Contents.{size_of}
use Rattle.cops_store.proofs.History.{AreLeft, left_of, kept_among, latest, exact}
use Rattle.cops_types.specs.Version.{Timestamp}
use Rattle.cops_store.specs.Contents.{use_of, LacksVersion}
use Rattle.cops_store.specs.Chains.{KeptChain, ChainLacks, IsChain, find_version, last_commit}
use Rattle.cops_store.specs.Tables.{Chains, chains_of, all_rows, IsTable, with_key, with_record, AreNoted, AreFounded, IsShelf}
use Rattle.cops_store.proofs.Lists.{each_append, each_weaker, each_right}
use Rattle.cops_store.proofs.Versions.{key_eq-refl, key_eq_is, with_next}
use Rattle.cops_store.proofs.Chains.{missing_version}
use Rattle.cops_store.proofs.Founded.{AreFounded-with_key}
use Rattle.cops_store.proofs.Tables.{found_by_lookup, absent, lack_before, lack_after, lack_chains, chains_of-split, Around, rows_elsewhere, around, latest_of_chain, exact_of_chain, latest_missing, exact_missing, all_rows-with_record, all_rows-with_key, IsTable-with_record, IsTable-with_key, AreNoted-with_key, chain_lacks, use_of-next}

module _ (p : List ℕ) (entries : List (List ℕ × KeptChain)) (table : IsTable (chains_of entries)) (rows : List Dated) (shown : all_rows (chains_of entries) ≡ rows)
    (recs : List Record) (removed : List Bool) (stands : AreLeft rows recs removed) where
  pub stands_here : AreLeft (all_rows (chains_of entries)) recs removed
  stands_here = subst (λ r. AreLeft r recs removed) (sym shown) stands

  module _ (v : KeptChain) (found : Some v ≡ lookup (key_eq p) entries) where
    pub latest_found : last_commit v.items ≡ latest p (left_of recs removed)
    latest_found =
        let there = found_by_lookup p entries v (sym found) in
        let a = around p v.items (chains_of there.0) (chains_of there.1) (chains_of entries) table (ap chains_of there.2 ∙ chains_of-split p v there.0 there.1) in
        latest_of_chain p v.items _ a recs removed stands_here

    pub exact_found : (version : Timestamp) → find_version version v.items ≡ exact p version (left_of recs removed)
    exact_found version =
        let there = found_by_lookup p entries v (sym found) in
        let a = around p v.items (chains_of there.0) (chains_of there.1) (chains_of entries) table (ap chains_of there.2 ∙ chains_of-split p v there.0 there.1) in
        exact_of_chain p version v.items _ a recs removed stands_here

  module _ (missing : None ≡ lookup (key_eq p) entries) where
    lack : AllByRecursion (λ (e : List ℕ × KeptChain). key_eq p e.0 ≡ false) entries
    lack = absent p entries (ap is_some (sym missing))

    pub latest_none : None ≡ latest p (left_of recs removed)
    latest_none = latest_missing p (chains_of entries) table.chained (lack_chains p entries lack) recs removed stands_here

    pub exact_none : (version : Timestamp) → None ≡ exact p version (left_of recs removed)
    exact_none version = exact_missing p version (chains_of entries) table.chained (lack_chains p entries lack) recs removed stands_here

pub chain_found : (p : List ℕ) (entries : List (List ℕ × KeptChain)) (v : KeptChain) → AllByRecursion (λ (e : List ℕ × List Dated). IsChain e.0 e.1) (chains_of entries) → Some v ≡ lookup (key_eq p) entries → IsChain p v.items
chain_found p entries v all found =
    let there = found_by_lookup p entries v (sym found) in
    (each_right (λ (e : List ℕ × List Dated). IsChain e.0 e.1) (chains_of there.0) ((p, v.items) ∷ chains_of there.1) (subst (AllByRecursion (λ (e : List ℕ × List Dated). IsChain e.0 e.1)) (ap chains_of there.2 ∙ chains_of-split p v there.0 there.1) all)).0

length-map : {A B : Type 0} (f : A → B) (xs : List A) → length (map f xs) ≡ length xs
length-map f [] = refl
length-map f (x ∷ xs) = ap suc (length-map f xs)

sizes-kept : (recs left : List Record) → sum_by (λ k. size_of k.record_of.entry) (map (kept_among recs) left) ≡ sum_by (λ r. size_of r.entry) left
sizes-kept recs [] = refl
sizes-kept recs (r ∷ left) = sum_by-cons (λ k. size_of k.record_of.entry) (kept_among recs r) (map (kept_among recs) left) ∙ ap (λ m. size_of r.entry + m) (sizes-kept recs left) ∙ sym (sum_by-cons (λ (r : Record). size_of r.entry) r left)

-- what rows use is what the records that are left use
pub use_of-left : (rows : List Dated) (recs : List Record) (removed : List Bool) → AreLeft rows recs removed → use_of rows ≡ record { records = length (left_of recs removed); bytes = sum_by (λ r. size_of r.entry) (left_of recs removed) }
use_of-left rows recs removed h =
    let n = length_permutation _ _ h.rows_are ∙ length-map (kept_among recs) (left_of recs removed) in
    let b = sum_by-IsPermutation (λ k. size_of k.record_of.entry) _ _ h.rows_are ∙ sizes-kept recs (left_of recs removed) in
    (λ i. record { records = n i; bytes = b i })

-- ---- one more record
key_split : (p : List ℕ) (chains : Chains) → list_any (λ (e : List ℕ × List Dated). key_eq p e.0) chains ≡ true → (before : Chains) × (c : List Dated) × (after : Chains) × (chains ≡ before ++ (p, c) ∷ after)
key_split p [] h = absurd (true≢false (sym h))
key_split p (e ∷ chains) h = by (key_eq p e.0) refl h (key_split p chains)
  where
    by : (b : Bool) → key_eq p e.0 ≡ b → (b || list_any (λ (e : List ℕ × List Dated). key_eq p e.0) chains) ≡ true
        → (list_any (λ (e : List ℕ × List Dated). key_eq p e.0) chains ≡ true → (before : Chains) × (c : List Dated) × (after : Chains) × (chains ≡ before ++ (p, c) ∷ after))
        → (before : Chains) × (c : List Dated) × (after : Chains) × (e ∷ chains ≡ before ++ (p, c) ∷ after)
    by true is k rest = ([], e.1, chains, (λ i. (sym (key_eq_is p e.0 is) i, e.1) ∷ chains))
    by false is k rest = let r = rest k in (e ∷ r.0, r.1, r.2, ap (λ xs. e ∷ xs) r.3)

with_key_has : (p : List ℕ) (chains : Chains) → list_any (λ (e : List ℕ × List Dated). key_eq p e.0) (with_key p chains) ≡ true
with_key_has p chains = by (list_any (λ (e : List ℕ × List Dated). key_eq p e.0) chains) refl
  where
    by : (b : Bool) → list_any (λ (e : List ℕ × List Dated). key_eq p e.0) chains ≡ b → list_any (λ (e : List ℕ × List Dated). key_eq p e.0) (if b then chains else (p, []) ∷ chains) ≡ true
    by true is = is
    by false is = ap (λ b. b || list_any (λ (e : List ℕ × List Dated). key_eq p e.0) chains) (key_eq-refl p)

-- what is shown once the record is put
rows-with_record : (p : List ℕ) (n : Record) (chains : Chains) → n.entry.key ≡ p → IsTable chains → list_any (λ (e : List ℕ × List Dated). key_eq p e.0) chains ≡ true
    → LacksVersion n.entry.key n.entry.version (all_rows chains) → IsPermutation (with_next n (all_rows chains)) (all_rows (with_record p n chains))
rows-with_record p n chains own table has lacks =
    let s = key_split p chains has in
    let before = s.0 in let c = s.1 in let after = s.2 in
    let apart = subst (λ cs. IsDistinct key_eq (keys_of cs)) s.3 table.unique in
    let lacking = chain_lacks p n chains own table.chained lacks in
    subst (λ cs. IsPermutation (with_next n (all_rows cs)) (all_rows (with_record p n cs))) (sym s.3)
    (all_rows-with_record p n c before after own (subst (AllByRecursion (λ e. IsChain e.0 e.1)) s.3 table.chained) (lack_before p c before after apart) (lack_after p c before after apart)
    ((each_right (λ (e : List ℕ × List Dated). key_eq p e.0 ≡ true → ChainLacks n.entry.version e.1) before ((p, c) ∷ after) (subst (AllByRecursion (λ (e : List ℕ × List Dated). key_eq p e.0 ≡ true → ChainLacks n.entry.version e.1)) s.3 lacking)).0 (key_eq-refl p)))

-- after room is made
pub roomy_shelf : (used : InUse) (due : List Due) (p : List ℕ) (chains next : Chains) → IsShelf used due chains → next ≡ with_key p chains → IsDistinct key_eq (map (λ (e : List ℕ × List Dated). e.0) next) → IsShelf used due next
roomy_shelf used due p chains next h is unique = subst (IsShelf used due) (sym is) (record {
  table = IsTable-with_key p chains (subst (λ cs. IsDistinct key_eq (map (λ (e : List ℕ × List Dated). e.0) cs)) is unique) h.table;
  noted = AreNoted-with_key due p chains h.noted;
  founded = AreFounded-with_key due p chains h.founded;
  counted = h.counted ∙ ap use_of (sym (all_rows-with_key p chains));
})

module _ (used : InUse) (due later : List Due) (p : List ℕ) (n : Record) (chains middle next : Chains) (shelf : IsShelf used due chains)
    (made : middle ≡ with_key p chains) (unique : IsDistinct key_eq (map (λ (e : List ℕ × List Dated). e.0) middle)) (own : n.entry.key ≡ p)
    (put : next ≡ with_record p n middle) (noted : AreNoted due middle → AreNoted later next) (founded : AreFounded due middle → AreFounded later next) (rows : List Dated) (shown : all_rows chains ≡ rows) (lacks : LacksVersion n.entry.key n.entry.version rows) where
  roomy : IsShelf used due middle
  roomy = roomy_shelf used due p chains middle shelf made unique

  same_rows : all_rows middle ≡ rows
  same_rows = ap all_rows made ∙ all_rows-with_key p chains ∙ shown

  lacking : LacksVersion n.entry.key n.entry.version (all_rows middle)
  lacking = subst (LacksVersion n.entry.key n.entry.version) (sym same_rows) lacks

  pub next_rows : IsPermutation (with_next n rows) (all_rows next)
  next_rows = subst (λ r. IsPermutation (with_next n r) (all_rows next)) same_rows (subst (λ cs. IsPermutation (with_next n (all_rows middle)) (all_rows cs)) (sym put)
      (rows-with_record p n middle own roomy.table (ap (list_any (λ (e : List ℕ × List Dated). key_eq p e.0)) made ∙ with_key_has p chains) lacking))

  pub next_shelf : IsShelf (record { records = used.records + 1; bytes = used.bytes + size_of n.entry }) later next
  next_shelf = record {
    table = subst IsTable (sym put) (IsTable-with_record p n middle own (chain_lacks p n middle own roomy.table.chained lacking) roomy.table);
    noted = noted roomy.noted;
    founded = founded roomy.founded;
    counted = (λ i. record { records = (counts i).records + 1; bytes = (counts i).bytes + size_of n.entry }) ∙ sym (use_of-next n rows (all_rows next) next_rows);
  }
    where
      counts : used ≡ use_of rows
      counts = shelf.counted ∙ ap use_of shown

-- ---- what is not there
lacks_around : (p : List ℕ) (v : Timestamp) (c rows : List Dated) → Around p c rows → find_version v c ≡ None → LacksVersion p v rows
lacks_around p v c rows a none = subst (LacksVersion p v) (sym a.is)
    (each_append _ a.front (c ++ a.back) (each_weaker _ _ other a.front a.other_front)
    (each_append _ c a.back (each_weaker _ _ (λ k differs _. differs) c (missing_version v c none)) (each_weaker _ _ other a.back a.other_back)))
  where
    other : (k : Dated) → key_eq k.record_of.entry.key p ≡ false → k.record_of.entry.key ≡ p → k.record_of.entry.version ≢ v
    other k no_key is = absurd (true≢false (sym (subst (λ key. key_eq k.record_of.entry.key key ≡ true) is (key_eq-refl k.record_of.entry.key)) ∙ no_key))

module _ (p : List ℕ) (v : Timestamp) (entries : List (List ℕ × KeptChain)) (table : IsTable (chains_of entries)) (rows : List Dated) (shown : all_rows (chains_of entries) ≡ rows) where
  pub lacks_found : (c : KeptChain) → Some c ≡ lookup (key_eq p) entries → find_version v c.items ≡ None → LacksVersion p v rows
  lacks_found c found none =
      let there = found_by_lookup p entries c (sym found) in
      let a = around p c.items (chains_of there.0) (chains_of there.1) (chains_of entries) table (ap chains_of there.2 ∙ chains_of-split p c there.0 there.1) in
      subst (LacksVersion p v) shown (lacks_around p v c.items _ a none)

  pub lacks_missing : None ≡ lookup (key_eq p) entries → LacksVersion p v rows
  lacks_missing missing = subst (LacksVersion p v) shown (each_weaker _ _ other _ (rows_elsewhere p (chains_of entries) table.chained (lack_chains p entries (absent p entries (ap is_some (sym missing))))))
    where
      other : (k : Dated) → key_eq k.record_of.entry.key p ≡ false → k.record_of.entry.key ≡ p → k.record_of.entry.version ≢ v
      other k no_key is = absurd (true≢false (sym (subst (λ key. key_eq k.record_of.entry.key key ≡ true) is (key_eq-refl k.record_of.entry.key)) ∙ no_key))

-- with one for the key, no two chains are of one key
pub unique_with_key : (p : List ℕ) (chains : Chains) → IsDistinct key_eq (map (λ (e : List ℕ × List Dated). e.0) chains) → IsDistinct key_eq (map (λ (e : List ℕ × List Dated). e.0) (with_key p chains))
unique_with_key p chains h = by (list_any (λ (e : List ℕ × List Dated). key_eq p e.0) chains) refl
  where
    apart : (chains : Chains) → list_any (λ (e : List ℕ × List Dated). key_eq p e.0) chains ≡ false → AllByRecursion (λ q. key_eq p q ≡ false) (map (λ (e : List ℕ × List Dated). e.0) chains)
    apart [] none = tt
    apart (e ∷ chains) none = both (key_eq p e.0) refl none (apart chains)
      where
        both : (b : Bool) → key_eq p e.0 ≡ b → (b || list_any (λ (e : List ℕ × List Dated). key_eq p e.0) chains) ≡ false
            → (list_any (λ (e : List ℕ × List Dated). key_eq p e.0) chains ≡ false → AllByRecursion (λ q. key_eq p q ≡ false) (map (λ (e : List ℕ × List Dated). e.0) chains))
            → (key_eq p e.0 ≡ false) × AllByRecursion (λ q. key_eq p q ≡ false) (map (λ (e : List ℕ × List Dated). e.0) chains)
        both true is k rest = absurd (true≢false k)
        both false is k rest = (is, rest k)

    by : (b : Bool) → list_any (λ (e : List ℕ × List Dated). key_eq p e.0) chains ≡ b → IsDistinct key_eq (map (λ (e : List ℕ × List Dated). e.0) (if b then chains else (p, []) ∷ chains))
    by true is = h
    by false is = IsDistinct-cons key_eq p (map (λ (e : List ℕ × List Dated). e.0) chains) (apart chains is) h

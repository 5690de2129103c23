-- The lines of the slots in their table.
use Rattle.std.proofs.Common.{◌≡◌, ◌≢◌, ℕ, zero, suc, ◌+◌, ◌<◌, Bool, true, false, cond, not, ◌&&◌, List, [], ◌∷◌, ◌++◌, length, map, refl, sym, ap, ◌∙◌, subst, arith, true≢false, get_or, nat_eq}
use Rattle.std.specs.Prelude.{IfSome, Option, Some, None, is_some, position, slice_get, if◌then◌else◌}
use Rattle.std.specs.List.{AllByRecursion, IsDistinct, position_or_len}
use Rattle.std.specs.Map.{keys_of, values_of, lookup}
use Rattle.std.specs.Cmp.{IsEquivalence, and_equiv, on_equiv, nat_eq_equiv}
use Rattle.std.specs.Cmp.Lexicographic.{nat_list_eq_equiv}
use Rattle.std.proofs.lemmas.Bool.Decides.{Decides-eqb}
use Rattle.std.proofs.lemmas.List.Quantifiers.{position-Some}
use Rattle.std.proofs.lemmas.Option.{slice_get_within}
use Rattle.std.proofs.lemmas.Map.Keys.{IsDistinct-head, IsDistinct-tail, IsDistinct-cons}
use Rattle.indexmap.specs.IndexMap.{IndexMap, Updates, set_value_at, with_value_at}
use Rattle.indexmap.proofs.CallerLemmas.{keys-with_value_at, index_map_len-with_value_at, updates-with_value_at}
use Rattle.cops_types.specs.Key.{key_eq}
use Rattle.cops_store.specs.declared.rows.SlotKey.{SlotKey}
use Rattle.cops_store.specs.declared.rows.Row.{Row}
use Rattle.cops_store.specs.declared.rows.Line.{Line}
use Rattle.cops_store.specs.Chains.{KeptChain}
use Rattle.cops_store.specs.Lines.{AreLinked, IsNewRow, IsAt, IsChanged, IsRowLine, IsRechained, IsLineTurn, chain_in, linked_from, linked_in, linked_entry, linked_next, row_of, same_place, with_chain}
use Rattle.cops_store.specs.Places.{same_place_is}
use Rattle.cops_store.proofs.Lists.{each_from_map}
use Rattle.cops_store.proofs.Versions.{key_eq_is, key_eq-refl}
use Rattle.cops_store.proofs.Tables.{absent, fails, key_eq_flips}

-- ---- keys of slots
abbrev pub place : ℕ → List ℕ → SlotKey
place slot key = record { slot = slot; key = key }

pub places_equiv : IsEquivalence same_place
places_equiv = and_equiv (on_equiv (λ (p : SlotKey). p.slot) nat_eq_equiv) (on_equiv (λ (p : SlotKey). p.key) nat_list_eq_equiv)

and_false : (a : Bool) → (a && false) ≡ false
and_false true = refl
and_false false = refl

other_slot : (slot other : ℕ) (key k : List ℕ) → other ≢ slot → same_place (place slot key) (place other k) ≡ false
other_slot slot other key k differ = ap (λ b. b && key_eq key k) (fails (nat_eq slot other) (λ same. differ (sym ((Decides-eqb slot other).0 same))))

other_key : (slot : ℕ) (key k : List ℕ) → key_eq key k ≡ false → same_place (place slot key) (place slot k) ≡ false
other_key slot key k apart = ap (λ b. nat_eq slot slot && b) apart ∙ and_false (nat_eq slot slot)

-- ---- the row at an index
pub found_at : (rows : List (SlotKey × Row)) (i : ℕ) (p : SlotKey) (r : Row) → IsDistinct same_place (keys_of rows) → slice_get rows i ≡ Some (p, r) → lookup (same_place p) rows ≡ Some r
found_at [] i p r distinct reads = absurd (true≢false (sym (ap is_some reads)))
found_at (e ∷ rows) zero p r distinct reads =
    let is : e ≡ (p, r) = cc in
    subst (λ (f : SlotKey × Row). cond (same_place p f.0) (Some f.1) (lookup (same_place p) rows) ≡ Some r) (sym is) (ap (λ b. cond b (Some r) (lookup (same_place p) rows)) (places_equiv.refl p))
found_at (e ∷ rows) (suc i) p r distinct reads =
    let apart = each_from_map (λ q. same_place e.0 q ≡ false) (λ (f : SlotKey × Row). f.0) rows (IsDistinct-head same_place e.0 (keys_of rows) distinct) in
    ap (λ b. cond b (Some e.1) (lookup (same_place p) rows)) (places_equiv.symm p e.0 ∙ among rows i apart reads)
    ∙ found_at rows i p r (IsDistinct-tail same_place e.0 (keys_of rows) distinct) reads
  where
    among : (rows : List (SlotKey × Row)) (i : ℕ) → AllByRecursion (λ (f : SlotKey × Row). same_place e.0 f.0 ≡ false) rows → slice_get rows i ≡ Some (p, r) → same_place e.0 p ≡ false
    among [] i all reads = absurd (true≢false (sym (ap is_some reads)))
    among (f ∷ rows) zero all reads = let is : f ≡ (p, r) = cc in subst (λ (g : SlotKey × Row). same_place e.0 g.0 ≡ false) is all.0
    among (f ∷ rows) (suc i) all reads = among rows i all.1 reads

pub place_is : (p : SlotKey) (slot : ℕ) (key : List ℕ) → p.slot ≡ slot → key_eq key p.key ≡ true → p ≡ place slot key
place_is p slot key a b =
    let k = sym (key_eq_is key p.key b) in
    (λ i. record { slot = a i; key = k i })

pub at_within : (rows : List (SlotKey × Row)) (i slot : ℕ) (key : List ℕ) → IsAt rows i slot key → i < length rows
at_within rows i slot key at = slice_get_within rows i (place slot key, at.0) at.1

-- what `get_index_of` says
pub indexed_at : (rows : List (SlotKey × Row)) (slot : ℕ) (key : List ℕ) (o : Option ℕ) → o ≡ position (same_place (place slot key)) (keys_of rows) → IfSome o (λ i. IsAt rows i slot key)
indexed_at rows slot key None is = tt
indexed_at rows slot key (Some i) is =
    let found = position-Some (same_place (place slot key)) (keys_of rows) i (place slot key) (sym is) in
    by rows i (subst (λ n. i < n) (length-keys rows) found.0) found.1
  where
    length-keys : (rows : List (SlotKey × Row)) → length (keys_of rows) ≡ length rows
    length-keys [] = refl
    length-keys (e ∷ rows) = ap suc (length-keys rows)

    by : (rows : List (SlotKey × Row)) (i : ℕ) → i < length rows → same_place (place slot key) (get_or (keys_of rows) i (place slot key)) ≡ true → IsAt rows i slot key
    by [] i lt h = absurd (omega arith)
    by (e ∷ rows) zero lt h = (e.1, ap (λ p. Some (p, e.1)) (sym (same_place_is (place slot key) e.0 h)))
    by (e ∷ rows) (suc i) lt h = by rows i (omega arith) h

value_at : (rows : List (SlotKey × Row)) (i : ℕ) (e : SlotKey × Row) (v : Row) → slice_get rows i ≡ Some e → slice_get (values_of rows) i ≡ Some v → e.1 ≡ v
value_at [] i e v reads values = absurd (true≢false (sym (ap is_some reads)))
value_at (f ∷ rows) zero e v reads values = let is : f ≡ e = cc in let same : f.1 ≡ v = cc in ap (λ (g : SlotKey × Row). g.1) (sym is) ∙ same
value_at (f ∷ rows) (suc i) e v reads values = value_at rows i e v reads values

-- what stands at the index is the chain of the key
pub chain_at_index : (rows : List (SlotKey × Row)) (i slot : ℕ) (key : List ℕ) (v : Row) → IsDistinct same_place (keys_of rows) → IsAt rows i slot key → slice_get (values_of rows) i ≡ Some v → chain_in (row_of rows slot key) ≡ Some v.chain
chain_at_index rows i slot key v unique at read =
    ap chain_in (found_at rows i (place slot key) at.0 unique at.1) ∙ ap (λ (r : Row). Some r.chain) (value_at rows i (place slot key, at.0) v at.1 read)

-- ---- what an update of the map says of its slots
module _ {S : Type 0} where
  pub changed_by : (m n : IndexMap SlotKey Row S) (slot : ℕ) (key : List ℕ) (row : Option Row) → Updates same_place m n (place slot key) row → IsDistinct same_place (keys_of n.entries) → IsChanged m.entries n.entries slot key row
  changed_by m n slot key row h unique = record {
    own = h.1;
    same = λ k apart. h.2 (place slot k) (other_key slot key k apart);
    others = λ other differ. (λ i k. h.2 (place other k) (other_slot slot other key k differ) i);
    unique = unique;
  }

  -- a row whose chain is written at its index
  pub rechained_at : (m : IndexMap SlotKey Row S) (i slot : ℕ) (key : List ℕ) (v : Row) (w : KeptChain) → IsDistinct same_place (keys_of m.entries) → IsAt m.entries i slot key → slice_get (values_of m.entries) i ≡ Some v
      → IsRechained m.entries (set_value_at m.entries i (record { chain = w; next = v.next })) slot key v.chain w
  rechained_at m i slot key v w unique at read =
      let is = value_at m.entries i (place slot key, at.0) v at.1 read in
      record {
        next = v.next;
        was = found_at m.entries i (place slot key) at.0 unique at.1 ∙ ap (λ r. Some r) is;
        changed = changed_by m (with_value_at m i (record { chain = w; next = v.next })) slot key (Some (record { chain = w; next = v.next }))
            (updates-with_value_at m i (record { chain = w; next = v.next }) places_equiv unique (place slot key) at.0 at.1)
            (subst (IsDistinct same_place) (sym (keys-with_value_at m i (record { chain = w; next = v.next }))) unique);
        long = index_map_len-with_value_at m i (record { chain = w; next = v.next });
      }

  -- the row is still at its index
  pub still_at : (m : IndexMap SlotKey Row S) (i slot : ℕ) (key : List ℕ) (w : Row) → IsAt m.entries i slot key → IsAt (set_value_at m.entries i w) i slot key
  still_at m i slot key w at = (w, by m.entries i at.1)
    where
      by : (rows : List (SlotKey × Row)) (i : ℕ) → slice_get rows i ≡ Some (place slot key, at.0) → slice_get (set_value_at rows i w) i ≡ Some (place slot key, w)
      by [] i reads = absurd (true≢false (sym (ap is_some reads)))
      by (e ∷ rows) zero reads = let is : e ≡ (place slot key, at.0) = cc in ap (λ (f : SlotKey × Row). Some (f.0, w)) is
      by (e ∷ rows) (suc i) reads = by rows i reads

-- ---- entries, with another chain for a key
map-append : {A B : Type 0} (f : A → B) (xs ys : List A) → map f (xs ++ ys) ≡ map f xs ++ map f ys
map-append f [] ys = refl
map-append f (x ∷ xs) ys = ap (λ r. f x ∷ r) (map-append f xs ys)

module _ (key : List ℕ) (new : KeptChain) where
  pub keys-with_chain : (entries : List (List ℕ × KeptChain)) → keys_of (with_chain key new entries) ≡ keys_of entries
  keys-with_chain [] = refl
  keys-with_chain (e ∷ entries) = by (key_eq key e.0) (keys-with_chain entries)
    where
      by : (b : Bool) → keys_of (with_chain key new entries) ≡ keys_of entries → keys_of ((if b then (e.0, new) else e) ∷ with_chain key new entries) ≡ e.0 ∷ keys_of entries
      by true rest = ap (λ ks. e.0 ∷ ks) rest
      by false rest = ap (λ ks. e.0 ∷ ks) rest

  pub lookup-with_own : (entries : List (List ℕ × KeptChain)) (old : KeptChain) → lookup (key_eq key) entries ≡ Some old → lookup (key_eq key) (with_chain key new entries) ≡ Some new
  lookup-with_own [] old h = absurd (true≢false (sym (ap is_some h)))
  lookup-with_own (e ∷ entries) old h = by (key_eq key e.0) refl h (lookup-with_own entries old)
    where
      by : (b : Bool) → key_eq key e.0 ≡ b → cond b (Some e.1) (lookup (key_eq key) entries) ≡ Some old → (lookup (key_eq key) entries ≡ Some old → lookup (key_eq key) (with_chain key new entries) ≡ Some new)
          → lookup (key_eq key) ((if b then (e.0, new) else e) ∷ with_chain key new entries) ≡ Some new
      by true is k rest = ap (λ c. cond c (Some new) (lookup (key_eq key) (with_chain key new entries))) is
      by false is k rest = ap (λ c. cond c (Some e.1) (lookup (key_eq key) (with_chain key new entries))) is ∙ rest k

  pub lookup-with_other : (k : List ℕ) → key_eq key k ≡ false → (entries : List (List ℕ × KeptChain)) → lookup (key_eq k) (with_chain key new entries) ≡ lookup (key_eq k) entries
  lookup-with_other k apart [] = refl
  lookup-with_other k apart (e ∷ entries) = by (key_eq key e.0) refl (lookup-with_other k apart entries)
    where
      by : (b : Bool) → key_eq key e.0 ≡ b → lookup (key_eq k) (with_chain key new entries) ≡ lookup (key_eq k) entries
          → lookup (key_eq k) ((if b then (e.0, new) else e) ∷ with_chain key new entries) ≡ cond (key_eq k e.0) (Some e.1) (lookup (key_eq k) entries)
      by true is rest =
          let other : key_eq k e.0 ≡ false = ap (key_eq k) (sym (key_eq_is key e.0 is)) ∙ key_eq_flips key k apart in
          ap (λ c. cond c (Some new) (lookup (key_eq k) (with_chain key new entries))) other ∙ rest ∙ sym (ap (λ c. cond c (Some e.1) (lookup (key_eq k) entries)) other)
      by false is rest = ap (cond (key_eq k e.0) (Some e.1)) rest

-- ---- a slot's rows before and after
module _ (rows rows' : List ℕ → Option Row) (key : List ℕ) (same : (other : List ℕ) → key_eq key other ≡ false → rows' other ≡ rows other) where
  -- the row of the key has another chain
  module _ (old new : KeptChain) (next : Option (List ℕ)) (was : rows key ≡ Some (record { chain = old; next = next })) (is : rows' key ≡ Some (record { chain = new; next = next })) where
    abbrev IsSameBut : List ℕ → Type 0
    IsSameBut k = (linked_next (rows' k) ≡ linked_next (rows k)) × (linked_entry k (rows' k) ≡ with_chain key new (linked_entry k (rows k))) × ((r : Row) → rows k ≡ Some r → (r' : Row) × (rows' k ≡ Some r') × (r'.next ≡ r.next))

    same_but : (k : List ℕ) → IsSameBut k
    same_but k = by (key_eq key k) refl
      where
        own : IsSameBut key
        own = (
          ap linked_next is ∙ sym (ap linked_next was),
          ap (linked_entry key) is ∙ sym (ap (λ r. with_chain key new (linked_entry key r)) was ∙ ap (λ b. (if b then (key, new) else (key, old)) ∷ []) (key_eq-refl key)),
          (λ r found. (record { chain = new; next = next }, is, ap linked_next (sym was ∙ found))),
        )

        untouched : key_eq key k ≡ false → (r : Option Row) → linked_entry k r ≡ with_chain key new (linked_entry k r)
        untouched e None = refl
        untouched e (Some r) = sym (ap (λ b. (if b then (k, new) else (k, r.chain)) ∷ []) e)

        by : (b : Bool) → key_eq key k ≡ b → IsSameBut k
        by true e = subst IsSameBut (key_eq_is key k e) own
        by false e = (ap linked_next (same k e), ap (linked_entry k) (same k e) ∙ untouched e (rows k), (λ r found. (r, same k e ∙ found, refl)))

    rechained_entries : (n : ℕ) (from : Option (List ℕ)) → linked_from rows' n from ≡ with_chain key new (linked_from rows n from)
    rechained_entries zero from = refl
    rechained_entries (suc n) None = refl
    rechained_entries (suc n) (Some k) =
        let but = same_but k in
        (λ i. but.1 i ++ linked_from rows' n (but.0 i))
        ∙ ap (λ es. with_chain key new (linked_entry k (rows k)) ++ es) (rechained_entries n (linked_next (rows k)))
        ∙ sym (map-append (λ (e : List ℕ × KeptChain). if key_eq key e.0 then (e.0, new) else e) (linked_entry k (rows k)) (linked_from rows n (linked_next (rows k))))

    rechained_links : (n : ℕ) (from : Option (List ℕ)) → AreLinked rows n from → AreLinked rows' n from
    rechained_links zero from h = tt
    rechained_links (suc n) None h = h
    rechained_links (suc n) (Some k) h =
        let r' = (same_but k).2 h.0 h.1 in
        (r'.0, r'.1, subst (AreLinked rows' n) (sym r'.2) (rechained_links n h.0.next h.2))

    pub rechained_in : (line : Line) → linked_in rows' line ≡ with_chain key new (linked_in rows line)
    rechained_in line = rechained_entries line.count line.first

    pub rechained_line : (line : Line) → IsRowLine rows line → IsRowLine rows' line
    rechained_line line h = record {
      linked = rechained_links line.count line.first h.linked;
      distinct = subst (IsDistinct key_eq) (sym (ap keys_of (rechained_in line) ∙ keys-with_chain key new (linked_in rows line))) h.distinct;
      whole = λ k. ap (lookup (key_eq k)) (rechained_in line) ∙ by k (key_eq key k) refl;
    }
      where
        own : lookup (key_eq key) (with_chain key new (linked_in rows line)) ≡ chain_in (rows' key)
        own = lookup-with_own key new (linked_in rows line) old (h.whole key ∙ ap chain_in was) ∙ sym (ap chain_in is)

        by : (k : List ℕ) (b : Bool) → key_eq key k ≡ b → lookup (key_eq k) (with_chain key new (linked_in rows line)) ≡ chain_in (rows' k)
        by k true e = subst (λ q. lookup (key_eq q) (with_chain key new (linked_in rows line)) ≡ chain_in (rows' q)) (key_eq_is key k e) own
        by k false e = lookup-with_other key new k e (linked_in rows line) ∙ h.whole k ∙ ap chain_in (sym (same k e))

  -- the row of the key is new, and leads to the former first one
  module _ (line : Line) (h : IsRowLine rows line) (chain : KeptChain) (lacked : rows key ≡ None) (is : rows' key ≡ Some (record { chain = chain; next = line.first })) where
    agree : (k : List ℕ) (r : Row) → rows k ≡ Some r → rows' k ≡ Some r
    agree k r found = by (key_eq key k) refl
      where
        by : (b : Bool) → key_eq key k ≡ b → rows' k ≡ Some r
        by true e = absurd (true≢false (sym (ap is_some (sym lacked ∙ ap rows (key_eq_is key k e) ∙ found))))
        by false e = same k e ∙ found

    kept : (n : ℕ) (from : Option (List ℕ)) → AreLinked rows n from → AreLinked rows' n from × (linked_from rows' n from ≡ linked_from rows n from)
    kept zero from h = (tt, refl)
    kept (suc n) None h = absurd h
    kept (suc n) (Some k) h =
        let there = agree k h.0 h.1 in
        let rest = kept n h.0.next h.2 in (
          (h.0, there, rest.0),
          (λ i. linked_entry k (there i) ++ linked_from rows' n (linked_next (there i))) ∙ ap (λ es. (k, h.0.chain) ∷ es) rest.1 ∙ sym (λ i. linked_entry k (h.1 i) ++ linked_from rows n (linked_next (h.1 i))),
        )

    before : AreLinked rows' line.count line.first × (linked_in rows' line ≡ linked_in rows line)
    before = kept line.count line.first h.linked

    first_added : linked_from rows' (suc line.count) (Some key) ≡ (key, chain) ∷ linked_in rows line
    first_added = (λ i. linked_entry key (is i) ++ linked_from rows' line.count (linked_next (is i))) ∙ ap (λ es. (key, chain) ∷ es) before.1

    longer : line.count + 1 ≡ suc line.count
    longer = omega arith

    pub added_in : linked_in rows' (record { first = Some key; count = line.count + 1 }) ≡ (key, chain) ∷ linked_in rows line
    added_in = ap (λ n. linked_from rows' n (Some key)) longer ∙ first_added

    lacking : AllByRecursion (λ (e : List ℕ × KeptChain). key_eq key e.0 ≡ false) (linked_in rows line)
    lacking = absent key (linked_in rows line) (ap is_some (h.whole key ∙ ap chain_in lacked))

    keys_apart : (entries : List (List ℕ × KeptChain)) → AllByRecursion (λ (e : List ℕ × KeptChain). key_eq key e.0 ≡ false) entries → AllByRecursion (λ k. key_eq key k ≡ false) (keys_of entries)
    keys_apart [] all = tt
    keys_apart (e ∷ entries) all = (all.0, keys_apart entries all.1)

    pub added_line : IsRowLine rows' (record { first = Some key; count = line.count + 1 })
    added_line = record {
      linked = subst (λ n. AreLinked rows' n (Some key)) (sym longer) (record { chain = chain; next = line.first }, is, before.0);
      distinct = subst (λ es. IsDistinct key_eq (keys_of es)) (sym added_in) (IsDistinct-cons key_eq key (keys_of (linked_in rows line)) (keys_apart (linked_in rows line) lacking) h.distinct);
      whole = λ k. ap (lookup (key_eq k)) added_in ∙ by k (key_eq key k) refl;
    }
      where
        by : (k : List ℕ) (b : Bool) → key_eq key k ≡ b → cond (key_eq k key) (Some chain) (lookup (key_eq k) (linked_in rows line)) ≡ chain_in (rows' k)
        by k true e = subst (λ q. cond (key_eq q key) (Some chain) (lookup (key_eq q) (linked_in rows line)) ≡ chain_in (rows' q)) (key_eq_is key k e)
            (ap (λ b. cond b (Some chain) (lookup (key_eq key) (linked_in rows line))) (key_eq-refl key) ∙ sym (ap chain_in is))
        by k false e = ap (λ b. cond b (Some chain) (lookup (key_eq k) (linked_in rows line))) (key_eq_flips key k e) ∙ h.whole k ∙ ap chain_in (sym (same k e))

  -- the row of the key was the first, and is gone
  module _ (n : ℕ) (r : Row) (found : rows key ≡ Some r) (gone : rows' key ≡ None) (h : IsRowLine rows (record { first = Some key; count = suc n })) where
    was_first : linked_from rows (suc n) (Some key) ≡ (key, r.chain) ∷ linked_from rows n r.next
    was_first = (λ i. linked_entry key (found i) ++ linked_from rows n (linked_next (found i)))

    was_linked : AreLinked rows n r.next
    was_linked = subst (AreLinked rows n) (ap linked_next (sym h.linked.1 ∙ found)) h.linked.2

    distinct_before : IsDistinct key_eq (key ∷ keys_of (linked_from rows n r.next))
    distinct_before = subst (λ es. IsDistinct key_eq (keys_of es)) was_first h.distinct

    others_apart : AllByRecursion (λ (e : List ℕ × KeptChain). key_eq key e.0 ≡ false) (linked_from rows n r.next)
    others_apart = each_from_map (λ k. key_eq key k ≡ false) (λ (e : List ℕ × KeptChain). e.0) (linked_from rows n r.next) (IsDistinct-head key_eq key (keys_of (linked_from rows n r.next)) distinct_before)

    left : (m : ℕ) (from : Option (List ℕ)) → AreLinked rows m from → AllByRecursion (λ (e : List ℕ × KeptChain). key_eq key e.0 ≡ false) (linked_from rows m from) → AreLinked rows' m from × (linked_from rows' m from ≡ linked_from rows m from)
    left zero from h all = (tt, refl)
    left (suc m) None h all = absurd h
    left (suc m) (Some k) h all =
        let here : linked_from rows (suc m) (Some k) ≡ (k, h.0.chain) ∷ linked_from rows m h.0.next = (λ i. linked_entry k (h.1 i) ++ linked_from rows m (linked_next (h.1 i))) in
        let apart : AllByRecursion (λ (e : List ℕ × KeptChain). key_eq key e.0 ≡ false) ((k, h.0.chain) ∷ linked_from rows m h.0.next) = subst (AllByRecursion (λ (e : List ℕ × KeptChain). key_eq key e.0 ≡ false)) here all in
        let there = same k apart.0 ∙ h.1 in
        let rest = left m h.0.next h.2 apart.1 in (
          (h.0, there, rest.0),
          (λ i. linked_entry k (there i) ++ linked_from rows' m (linked_next (there i))) ∙ ap (λ es. (k, h.0.chain) ∷ es) rest.1 ∙ sym here,
        )

    after : AreLinked rows' n r.next × (linked_from rows' n r.next ≡ linked_from rows n r.next)
    after = left n r.next was_linked others_apart

    none_here : (entries : List (List ℕ × KeptChain)) → AllByRecursion (λ (e : List ℕ × KeptChain). key_eq key e.0 ≡ false) entries → lookup (key_eq key) entries ≡ None
    none_here [] all = refl
    none_here (e ∷ entries) all = ap (λ b. cond b (Some e.1) (lookup (key_eq key) entries)) all.0 ∙ none_here entries all.1

    pub released_line : IsRowLine rows' (record { first = r.next; count = n })
    released_line = record {
      linked = after.0;
      distinct = subst (λ es. IsDistinct key_eq (keys_of es)) (sym after.1) (IsDistinct-tail key_eq key (keys_of (linked_from rows n r.next)) distinct_before);
      whole = λ k. ap (lookup (key_eq k)) after.1 ∙ by k (key_eq key k) refl;
    }
      where
        by : (k : List ℕ) (b : Bool) → key_eq key k ≡ b → lookup (key_eq k) (linked_from rows n r.next) ≡ chain_in (rows' k)
        by k true e = subst (λ q. lookup (key_eq q) (linked_from rows n r.next) ≡ chain_in (rows' q)) (key_eq_is key k e) (none_here (linked_from rows n r.next) others_apart ∙ sym (ap chain_in gone))
        by k false e =
            sym (ap (lookup (key_eq k)) was_first ∙ ap (λ b. cond b (Some r.chain) (lookup (key_eq k) (linked_from rows n r.next))) (key_eq_flips key k e))
            ∙ h.whole k ∙ ap chain_in (sym (same k e))

-- ---- the turns of a line
pub turn_rechained : (before after : List (SlotKey × Row)) (slot : ℕ) (key : List ℕ) (old new : KeptChain) (line : Line) → IsRowLine (row_of before slot) line → IsRechained before after slot key old new → IsLineTurn before after slot line line
turn_rechained before after slot key old new line h r = record {
  stays = rechained_line (row_of before slot) (row_of after slot) key r.changed.same old new r.next r.was r.changed.own line h;
  others = r.changed.others;
  unique = r.changed.unique;
  counted = ap (λ n. line.count + n) (sym r.long);
}

pub turn_added : (before after : List (SlotKey × Row)) (slot : ℕ) (key : List ℕ) (line : Line) → IsRowLine (row_of before slot) line → IsNewRow before after slot key line.first → IsLineTurn before after slot line (record { first = Some key; count = line.count + 1 })
turn_added before after slot key line h a = record {
  stays = added_line (row_of before slot) (row_of after slot) key a.changed.same line h a.chain a.lacked a.changed.own;
  others = a.changed.others;
  unique = a.changed.unique;
  counted = let long = a.long in omega arith;
}

pub turn_none : (rows rows' : List (SlotKey × Row)) (slot : ℕ) (line : Line) → IsRowLine (row_of rows slot) line → IsDistinct same_place (keys_of rows) → rows' ≡ rows → IsLineTurn rows rows' slot line line
turn_none rows rows' slot line h unique is = subst (λ rs. IsLineTurn rows rs slot line line) (sym is) (record { stays = h; others = λ other differ. refl; unique = unique; counted = refl })

pub turn_then : (rows rows' rows'' : List (SlotKey × Row)) (slot : ℕ) (line line' line'' : Line) → IsLineTurn rows rows' slot line line' → IsLineTurn rows' rows'' slot line' line'' → IsLineTurn rows rows'' slot line line''
turn_then rows rows' rows'' slot line line' line'' a b = record {
  stays = b.stays;
  others = λ other differ. b.others other differ ∙ a.others other differ;
  unique = b.unique;
  counted = let x = a.counted in let y = b.counted in omega arith;
}

-- the first row of the line is gone
pub turn_released : {S : Type 0} (m n : IndexMap SlotKey Row S) (slot : ℕ) (key : List ℕ) (line rest : Line) (r : Row) → IsRowLine (row_of m.entries slot) line → line.first ≡ Some key → rest.count + 1 ≡ line.count → rest.first ≡ r.next
    → row_of m.entries slot key ≡ Some r → Updates same_place m n (place slot key) None → IsDistinct same_place (keys_of n.entries) → length n.entries + 1 ≡ length m.entries → IsLineTurn m.entries n.entries slot line rest
turn_released m n slot key line rest r h first count next found gone unique long = record {
  stays = subst (IsRowLine (row_of n.entries slot)) (λ i. record { first = sym next i; count = rest.count })
      (released_line (row_of m.entries slot) (row_of n.entries slot) key changed.same rest.count r found changed.own (subst (IsRowLine (row_of m.entries slot)) is h));
  others = changed.others;
  unique = unique;
  counted = omega arith;
}
  where
    changed : IsChanged m.entries n.entries slot key None
    changed = changed_by m n slot key None gone unique

    one_more : line.count ≡ suc rest.count
    one_more = omega arith

    is : line ≡ record { first = Some key; count = suc rest.count }
    is = (λ i. record { first = first i; count = one_more i })

-- ---- what `entry` says
-- a key that is there stands at its index
pub occupied_at : (rows : List (SlotKey × Row)) (slot : ℕ) (key : List ℕ) (i : ℕ) → i ≡ position_or_len (same_place (place slot key)) (keys_of rows) → is_some (lookup (same_place (place slot key)) rows) ≡ true → IsAt rows i slot key
occupied_at rows slot key i is there = subst (λ n. IsAt rows n slot key) (sym is) (by rows there)
  where
    by : (rows : List (SlotKey × Row)) → is_some (lookup (same_place (place slot key)) rows) ≡ true → IsAt rows (position_or_len (same_place (place slot key)) (keys_of rows)) slot key
    by [] there = absurd (true≢false (sym there))
    by (e ∷ rows) there = at (same_place (place slot key) e.0) refl there (by rows)
      where
        at : (b : Bool) → same_place (place slot key) e.0 ≡ b → is_some (cond b (Some e.1) (lookup (same_place (place slot key)) rows)) ≡ true
            → (is_some (lookup (same_place (place slot key)) rows) ≡ true → IsAt rows (position_or_len (same_place (place slot key)) (keys_of rows)) slot key)
            → IsAt (e ∷ rows) (cond (not b) (1 + position_or_len (same_place (place slot key)) (keys_of rows)) 0) slot key
        at true is k rest = (e.1, ap (λ p. Some (p, e.1)) (sym (same_place_is (place slot key) e.0 is)))
        at false is k rest = let r = rest k in (r.0, ap (slice_get (e ∷ rows)) one_more ∙ r.1)
          where
            one_more : 1 + position_or_len (same_place (place slot key)) (keys_of rows) ≡ suc (position_or_len (same_place (place slot key)) (keys_of rows))
            one_more = omega arith

module _ (rows : List (SlotKey × Row)) (slot : ℕ) (key : List ℕ) (r : Row) (lacked : row_of rows slot key ≡ None) where
  -- a new key goes to the end
  pub vacant_at : (i : ℕ) → i ≡ position_or_len (same_place (place slot key)) (keys_of rows) → IsAt (rows ++ (place slot key, r) ∷ []) i slot key
  vacant_at i is = (r, ap (slice_get (rows ++ (place slot key, r) ∷ [])) (is ∙ past rows lacked) ∙ last rows)
    where
      past : (rows : List (SlotKey × Row)) → lookup (same_place (place slot key)) rows ≡ None → position_or_len (same_place (place slot key)) (keys_of rows) ≡ length rows
      past [] none = refl
      past (e ∷ rows) none = by (same_place (place slot key) e.0) none (past rows)
        where
          by : (b : Bool) → cond b (Some e.1) (lookup (same_place (place slot key)) rows) ≡ None → (lookup (same_place (place slot key)) rows ≡ None → position_or_len (same_place (place slot key)) (keys_of rows) ≡ length rows)
              → cond (not b) (1 + position_or_len (same_place (place slot key)) (keys_of rows)) 0 ≡ suc (length rows)
          by true k rest = absurd (true≢false (ap is_some k))
          by false k rest = let n = rest k in omega arith

      last : (rows : List (SlotKey × Row)) → slice_get (rows ++ (place slot key, r) ∷ []) (length rows) ≡ Some (place slot key, r)
      last [] = refl
      last (e ∷ rows) = last rows

  pub vacant_added : (after : List (SlotKey × Row)) (first : Option (List ℕ)) (chain : KeptChain) → after ≡ rows ++ (place slot key, r) ∷ [] → r ≡ record { chain = chain; next = first } → chain.items ≡ [] → chain.room ≡ true
      → lookup (same_place (place slot key)) after ≡ Some r → ((q : SlotKey) → same_place (place slot key) q ≡ false → lookup (same_place q) after ≡ lookup (same_place q) rows) → IsDistinct same_place (keys_of after)
      → IsNewRow rows (rows ++ (place slot key, r) ∷ []) slot key first
  vacant_added after first chain behind is items room own rest unique = record {
    chain = chain;
    items = items;
    room = room;
    lacked = lacked;
    changed = subst (λ (v : Row). IsChanged rows (rows ++ (place slot key, r) ∷ []) slot key (Some v)) is (subst (λ es. IsChanged rows es slot key (Some r)) behind (record {
      own = own;
      same = λ k apart. rest (place slot k) (other_key slot key k apart);
      others = λ other differ. (λ i k. rest (place other k) (other_slot slot other key k differ) i);
      unique = unique;
    }));
    long = longer rows;
  }
    where
      longer : (rows : List (SlotKey × Row)) → length (rows ++ (place slot key, r) ∷ []) ≡ suc (length rows)
      longer [] = refl
      longer (e ∷ rows) = ap suc (longer rows)

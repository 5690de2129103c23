-- Each note of what is due is of something stale that is there.
use Rattle.std.proofs.Common.{◌≡◌, ℕ, ◌-◌, ◌≤◌, Bool, true, false, cond, not, ◌&&◌, ◌||◌, List, [], ◌∷◌, ◌++◌, map, refl, sym, ap, ◌∙◌, subst, filter, arith, true≢false, nat_lt, nat_le, min, max, length, sum_by}
use Rattle.std.specs.Prelude.{Option, Some, None, if◌then◌else◌, is_none}
use Rattle.std.specs.List.{list_any, fold, AllByRecursion}
use Rattle.std.specs.Map.{lookup}
use Rattle.std.proofs.lemmas.Bool.Decides.{nat_tests}
use Rattle.cops_types.specs.declared.records.Record.{Record}
use Rattle.cops_types.specs.declared.records.Dated.{Dated}
use Rattle.cops_types.specs.Key.{key_eq}
use Rattle.cops_store.specs.declared.usage.InUse.{InUse}
use Rattle.cops_store.specs.declared.table.Due.{Due}
use Rattle.cops_store.specs.Contents.{is_ripe, size_of, use_of}
use Rattle.cops_store.specs.Chains.{KeptChain, IsChain, Rises, earlier, fresh_row, is_below, is_covered, oldest_of, placed, stale_row}
use Rattle.cops_store.specs.Tables.{AreFounded, AreNoted, Chains, IsFreed, IsShelf, IsTable, all_rows, chain_at, chains_of, collect_chains, collect_chains_by, has_since, is_founded, is_hit, is_since, put_off, renewed, staying, with_key, with_record}
use Rattle.cops_store.proofs.Lists.{each_append, each_both, each_weaker}
use Rattle.cops_store.proofs.Versions.{and_both, list_any_weaker, list_any-filter, or_left, or_right}
use Rattle.cops_store.proofs.Tables.{a_key, chains_of-split, found_by_lookup}
use Rattle.cops_store.proofs.Collections.{cleaned_by_all, noted_cleaned, staying_unripe, table_cleaned}

-- ---- one more key
founded-with_key : (p : List ℕ) (chains : Chains) (d : Due) → is_founded chains d ≡ true → is_founded (with_key p chains) d ≡ true
founded-with_key p chains d h = by (list_any (λ (e : List ℕ × List Dated). key_eq p e.0) chains)
  where
    by : (b : Bool) → is_founded (if b then chains else (p, []) ∷ chains) d ≡ true
    by true = h
    by false = or_right (key_eq d.key p && false) _ h

pub AreFounded-with_key : (due : List Due) (p : List ℕ) (chains : Chains) → AreFounded due chains → AreFounded due (with_key p chains)
AreFounded-with_key due p chains h = each_weaker _ _ (λ d. founded-with_key p chains d) due h

-- ---- one more record
since_itself : (m : ℕ) → nat_le m m ≡ true
since_itself m = grind (arith, nat_tests)

or_more : (a x y : Bool) → (a || x) ≡ true → (x ≡ true → y ≡ true) → (a || y) ≡ true
or_more true x y h more = refl
or_more false x y h more = more h

-- what is stale stays so
since-placed : (m : ℕ) (n : Record) (chain : List Dated) → Rises chain → has_since m chain ≡ true → has_since m (placed n chain) ≡ true
since-placed m n [] rises h = absurd (true≢false (sym h))
since-placed m n (k ∷ []) rises h = absurd (by k.stale rises.1 h)
  where
    by : (o : Option ℕ) → is_none o ≡ true → (is_since m o || false) ≡ true → ⊥
    by None e f = true≢false (sym f)
    by (Some s) e f = true≢false (sym e)
since-placed m n (k ∷ l ∷ chain) rises h = by (is_below n.entry.version k) h (since-placed m n (l ∷ chain) rises.2)
  where
    by : (b : Bool) → has_since m (k ∷ l ∷ chain) ≡ true → (has_since m (l ∷ chain) ≡ true → has_since m (placed n (l ∷ chain)) ≡ true)
        → has_since m (if b then k ∷ placed n (l ∷ chain) else stale_row n ∷ k ∷ l ∷ chain) ≡ true
    by true was rest = or_more (is_since m k.stale) (has_since m (l ∷ chain)) (has_since m (placed n (l ∷ chain))) was rest
    by false was rest = or_right (is_since m (Some n.at)) _ was

-- in a chain that isn't empty something becomes stale
since_then : (n : Record) (k : Dated) (chain : List Dated) → has_since n.at (placed n (k ∷ chain)) ≡ true
since_then n k [] = by (is_below n.entry.version k)
  where
    by : (b : Bool) → has_since n.at (if b then record { record_of = k.record_of; stale = Some n.at } ∷ fresh_row n ∷ [] else stale_row n ∷ k ∷ []) ≡ true
    by true = or_left _ _ (since_itself n.at)
    by false = or_left _ _ (since_itself n.at)
since_then n k (l ∷ chain) = by (is_below n.entry.version k) (since_then n l chain)
  where
    by : (b : Bool) → has_since n.at (placed n (l ∷ chain)) ≡ true → has_since n.at (if b then k ∷ placed n (l ∷ chain) else stale_row n ∷ k ∷ l ∷ chain) ≡ true
    by true rest = or_right (is_since n.at k.stale) _ rest
    by false rest = or_left _ _ (since_itself n.at)

since_commit : (n : Record) (chain : List Dated) → is_covered n.at chain ≡ false → has_since n.at (placed n chain) ≡ true
since_commit n [] open_yet = absurd (true≢false open_yet)
since_commit n (k ∷ chain) open_yet = since_then n k chain

founded-with_record : (p : List ℕ) (n : Record) (chains : Chains) (d : Due) → AllByRecursion (λ e. IsChain e.0 e.1) chains → is_founded chains d ≡ true → is_founded (with_record p n chains) d ≡ true
founded-with_record p n [] d chained h = h
founded-with_record p n (e ∷ chains) d chained h = by (key_eq p e.0) h (founded-with_record p n chains d chained.1)
  where
    kept : (own : Bool) → (own && has_since d.stale e.1) ≡ true → (own && has_since d.stale (placed n e.1)) ≡ true
    kept true k = since-placed d.stale n e.1 chained.0.rises k
    kept false k = k

    both : (a b x y : Bool) → (a ≡ true → b ≡ true) → (x ≡ true → y ≡ true) → (a || x) ≡ true → (b || y) ≡ true
    both true b x y f g k = or_left b y (f refl)
    both false b x y f g k = or_right b y (g k)

    by : (is : Bool) → is_founded (e ∷ chains) d ≡ true → (is_founded chains d ≡ true → is_founded (with_record p n chains) d ≡ true)
        → is_founded ((if is then (e.0, placed n e.1) else e) ∷ with_record p n chains) d ≡ true
    by true k rest = both (key_eq d.key e.0 && has_since d.stale e.1) (key_eq d.key e.0 && has_since d.stale (placed n e.1)) _ _ (kept (key_eq d.key e.0)) rest k
    by false k rest = or_more (key_eq d.key e.0 && has_since d.stale e.1) _ _ k rest

pub AreFounded-with_record : (due : List Due) (p : List ℕ) (n : Record) (chains : Chains) → AllByRecursion (λ e. IsChain e.0 e.1) chains → AreFounded due chains → AreFounded due (with_record p n chains)
AreFounded-with_record due p n chains chained h = each_weaker _ _ (λ d. founded-with_record p n chains d chained) due h

-- the record's own note
founded_commit : (p : List ℕ) (n : Record) (chains : Chains) → list_any (λ (e : List ℕ × List Dated). key_eq p e.0) chains ≡ true → AllByRecursion (λ e. key_eq p e.0 ≡ true → is_covered n.at e.1 ≡ false) chains
    → is_founded (with_record p n chains) (record { key = p; stale = n.at }) ≡ true
founded_commit p n [] there open_yet = there
founded_commit p n (e ∷ chains) there open_yet = by (key_eq p e.0) refl there (λ k. founded_commit p n chains k open_yet.1)
  where
    by : (is : Bool) → key_eq p e.0 ≡ is → (is || list_any (λ (e : List ℕ × List Dated). key_eq p e.0) chains) ≡ true
        → (list_any (λ (e : List ℕ × List Dated). key_eq p e.0) chains ≡ true → is_founded (with_record p n chains) (record { key = p; stale = n.at }) ≡ true)
        → is_founded ((if is then (e.0, placed n e.1) else e) ∷ with_record p n chains) (record { key = p; stale = n.at }) ≡ true
    by true is k rest = or_left _ _ (and_both _ _ is (since_commit n e.1 (open_yet.0 is)))
    by false is k rest = or_right (key_eq p e.0 && has_since n.at e.1) _ (rest k)

pub AreFounded-next : (due next : List Due) (p : List ℕ) (n : Record) (chains : Chains) → next ≡ due ++ record { key = p; stale = n.at } ∷ [] → AllByRecursion (λ e. IsChain e.0 e.1) chains
    → list_any (λ (e : List ℕ × List Dated). key_eq p e.0) chains ≡ true → AllByRecursion (λ e. key_eq p e.0 ≡ true → is_covered n.at e.1 ≡ false) chains → AreFounded due chains → AreFounded next (with_record p n chains)
AreFounded-next due next p n chains is chained there open_yet h = subst (λ d. AreFounded d (with_record p n chains)) (sym is)
    (each_append _ due (record { key = p; stale = n.at } ∷ []) (AreFounded-with_record due p n chains chained h) (founded_commit p n chains there open_yet, tt))

-- a key that is found is there
pub key_there : (p : List ℕ) (entries : List (List ℕ × KeptChain)) (v : KeptChain) → lookup (key_eq p) entries ≡ Some v → list_any (λ (e : List ℕ × List Dated). key_eq p e.0) (chains_of entries) ≡ true
key_there p entries v found =
    let there = found_by_lookup p entries v found in
    ap (λ es. list_any (λ (e : List ℕ × List Dated). key_eq p e.0) (chains_of es)) there.2
    ∙ ap (list_any (λ (e : List ℕ × List Dated). key_eq p e.0)) (chains_of-split p v there.0 there.1)
    ∙ a_key p v.items (chains_of there.0) (chains_of there.1)

-- ---- after a collection
module _ (now trans_time : ℕ) where
  -- what isn't stale before a timestamp that isn't ripe, isn't ripe
  since_stays : (m : ℕ) (o : Option ℕ) → is_ripe now trans_time (Some m) ≡ false → is_since m o ≡ true → (is_since m o && not (is_ripe now trans_time o)) ≡ true
  since_stays m None unripe since = absurd (true≢false (sym since))
  since_stays m (Some s) unripe since = and_both _ _ since (ap not later)
    where
      later : nat_lt trans_time (now - s) ≡ false
      later =
          let early : now - m ≤ trans_time = grind (arith, nat_tests, unripe) in
          let le : m ≤ s = grind (arith, nat_tests, since) in
          let late : now - s ≤ trans_time = omega arith in
          grind (arith, nat_tests, late)

  since-staying : (m : ℕ) (chain : List Dated) → is_ripe now trans_time (Some m) ≡ false → has_since m chain ≡ true → has_since m (staying now trans_time chain) ≡ true
  since-staying m chain unripe h =
      list_any-filter (λ (k : Dated). is_since m k.stale) (λ k. not (is_ripe now trans_time k.stale)) chain
      ∙ list_any_weaker (λ (k : Dated). is_since m k.stale) (λ k. is_since m k.stale && not (is_ripe now trans_time k.stale)) (λ k. since_stays m k.stale unripe) chain h

  -- a note under which nothing may go stays founded
  founded_miss : (chains : Chains) (d : Due) → is_hit now trans_time d ≡ false → is_founded chains d ≡ true → is_founded (collect_chains now trans_time chains) d ≡ true
  founded_miss [] d miss h = h
  founded_miss (e ∷ chains) d miss h = by (key_eq d.key e.0) (has_since d.stale e.1) refl h (founded_miss chains d miss)
    where
      by : (own since : Bool) → has_since d.stale e.1 ≡ since → ((own && since) || is_founded chains d) ≡ true → (is_founded chains d ≡ true → is_founded (collect_chains now trans_time chains) d ≡ true)
          → ((own && has_since d.stale (staying now trans_time e.1)) || is_founded (collect_chains now trans_time chains) d) ≡ true
      by true true s k rest = or_left _ _ (since-staying d.stale e.1 miss s)
      by true false s k rest = or_right (has_since d.stale (staying now trans_time e.1)) _ (rest k)
      by false s e k rest = rest k

  -- the oldest timestamp is that of one of the chain
  module _ (G : ℕ → Type 0) where
    either : (a b : Option ℕ) (m : ℕ) → earlier a b ≡ Some m → (a ≡ Some m → G m) → (b ≡ Some m → G m) → G m
    either None b m is left right = right is
    either (Some s) None m is left right = left is
    either (Some s) (Some r) m is left right = by (nat_le s r) refl
      where
        by : (b : Bool) → nat_le s r ≡ b → G m
        by true e = let less : min s r ≡ s = grind (arith, nat_tests, e) in left (ap (λ x. Some x) (sym less) ∙ is)
        by false e = let less : min s r ≡ r = grind (arith, nat_tests, e) in right (ap (λ x. Some x) (sym less) ∙ is)

    oldest_found : (a : Option ℕ) (rows : List Dated) (m : ℕ) → fold (λ o k. earlier o k.stale) a rows ≡ Some m → (a ≡ Some m → G m) → AllByRecursion (λ k. k.stale ≡ Some m → G m) rows → G m
    oldest_found a [] m is first each = first is
    oldest_found a (k ∷ rows) m is first each = oldest_found (earlier a k.stale) rows m is (λ e. either a k.stale m e first each.0) each.1

  -- what some row passes, some of the chain does
  each_any : (chain : List Dated) → AllByRecursion (λ k. (test : Dated → Bool) → test k ≡ true → list_any test chain ≡ true) chain
  each_any [] = tt
  each_any (k ∷ chain) = (
    λ test passes. or_left _ _ passes,
    each_weaker _ _ (λ l any test passes. or_right (test k) _ (any test passes)) chain (each_any chain),
  )

  -- if no row is ripe, a note that is put off is of the oldest
  put_off_since : (m from : ℕ) (chain : List Dated) → AllByRecursion (λ k. is_ripe now trans_time k.stale ≡ false) chain → oldest_of chain ≡ Some m → has_since (max m (now - trans_time)) chain ≡ true
  put_off_since m from chain unripe is =
      oldest_found (λ m. has_since (max m (now - trans_time)) chain ≡ true) None chain m is (λ none. absurd (none_some none))
      (each_weaker _ _ (λ k both at. both.1 (λ l. is_since (max m (now - trans_time)) l.stale) (there k.stale both.0 at)) chain (each_both _ _ chain unripe (each_any chain)))
    where
      none_some : None ≡ Some m → ⊥
      none_some e = true≢false (ap is_none e)

      there : (o : Option ℕ) → is_ripe now trans_time o ≡ false → o ≡ Some m → is_since (max m (now - trans_time)) o ≡ true
      there o early at = subst (λ x. is_since (max m (now - trans_time)) x ≡ true) (sym at) (same (subst (λ x. is_ripe now trans_time x ≡ false) at early))
        where
          same : nat_lt trans_time (now - m) ≡ false → nat_le (max m (now - trans_time)) m ≡ true
          same none =
              let stays : now - m ≤ trans_time = grind (arith, nat_tests, none) in
              let le : max m (now - trans_time) ≤ m = omega arith in
              grind (arith, nat_tests, le)

  unripe_at : (key : List ℕ) (chains : Chains) → AllByRecursion (λ k. is_ripe now trans_time k.stale ≡ false) (chain_at key (collect_chains now trans_time chains))
  unripe_at key [] = tt
  unripe_at key (e ∷ chains) = by (key_eq key e.0) (unripe_at key chains)
    where
      by : (b : Bool) → AllByRecursion (λ k. is_ripe now trans_time k.stale ≡ false) (chain_at key (collect_chains now trans_time chains))
          → AllByRecursion (λ k. is_ripe now trans_time k.stale ≡ false) (if b then staying now trans_time e.1 else chain_at key (collect_chains now trans_time chains))
      by true rest = staying_unripe now trans_time e.1
      by false rest = rest

  -- what is stale in the chain of a key founds a note of the key
  founded_at : (key : List ℕ) (m : ℕ) (chains : Chains) → has_since m (chain_at key chains) ≡ true → is_founded chains (record { key = key; stale = m }) ≡ true
  founded_at key m [] h = h
  founded_at key m (e ∷ chains) h = by (key_eq key e.0) h (founded_at key m chains)
    where
      by : (b : Bool) → has_since m (if b then e.1 else chain_at key chains) ≡ true → (has_since m (chain_at key chains) ≡ true → is_founded chains (record { key = key; stale = m }) ≡ true)
          → ((b && has_since m e.1) || is_founded chains (record { key = key; stale = m })) ≡ true
      by true k rest = or_left _ _ k
      by false k rest = rest k

  module _ (chains : Chains) where
    abbrev left : Chains
    left = collect_chains now trans_time chains

    -- a note that stays is founded on what is left
    founded_after : (d : Due) → is_founded chains d ≡ true → is_hit now trans_time (renewed now trans_time left d) ≡ false → is_founded left (renewed now trans_time left d) ≡ true
    founded_after d h = by (is_hit now trans_time d) refl
      where
        at : Bool → Due
        at b = record { key = d.key; stale = if b then put_off (now - trans_time) d.stale (oldest_of (chain_at d.key left)) else d.stale }

        moved : (o : Option ℕ) → is_hit now trans_time d ≡ true → oldest_of (chain_at d.key left) ≡ o → is_hit now trans_time (record { key = d.key; stale = put_off (now - trans_time) d.stale o }) ≡ false
            → has_since (put_off (now - trans_time) d.stale o) (chain_at d.key left) ≡ true
        moved None hit is stays = absurd (true≢false (sym hit ∙ stays))
        moved (Some m) hit is stays = put_off_since m d.stale (chain_at d.key left) (unripe_at d.key chains) is

        by : (b : Bool) → is_hit now trans_time d ≡ b → is_hit now trans_time (at b) ≡ false → is_founded left (at b) ≡ true
        by true hit stays = founded_at d.key (put_off (now - trans_time) d.stale (oldest_of (chain_at d.key left))) left (moved (oldest_of (chain_at d.key left)) hit refl stays)
        by false miss stays = founded_miss chains d miss h

    each_left : (due : List Due) → AreFounded due chains → AreFounded (filter (λ d. not (is_hit now trans_time d)) (map (renewed now trans_time left) due)) left
    each_left [] h = tt
    each_left (d ∷ due) h = by (is_hit now trans_time (renewed now trans_time left d)) refl (each_left due h.1)
      where
        rest : List Due
        rest = filter (λ d. not (is_hit now trans_time d)) (map (renewed now trans_time left) due)

        by : (b : Bool) → is_hit now trans_time (renewed now trans_time left d) ≡ b → AreFounded rest left → AreFounded (cond (not b) (renewed now trans_time left d ∷ rest) rest) left
        by true hit all = all
        by false miss all = (founded_after d h.0 miss, all)

pub founded_cleaned : (now trans_time : ℕ) (due : List Due) (chains next : Chains) → next ≡ collect_chains now trans_time chains → AreFounded due chains
    → AreFounded (filter (λ d. not (is_hit now trans_time d)) (map (renewed now trans_time next) due)) next
founded_cleaned now trans_time due chains next is h =
    subst (λ cs. AreFounded (filter (λ d. not (is_hit now trans_time d)) (map (renewed now trans_time cs) due)) cs) (sym is) (each_left now trans_time chains due h)

-- what is kept after a collection
pub shelf_cleaned : (used freed : InUse) (due later : List Due) (now trans_time : ℕ) (chains next : Chains) → IsShelf used due chains
    → next ≡ collect_chains_by now trans_time due chains → later ≡ filter (λ d. not (is_hit now trans_time d)) (map (renewed now trans_time next) due) → IsFreed freed (all_rows chains) (all_rows next)
    → IsShelf (record { records = used.records - freed.records; bytes = used.bytes - freed.bytes }) later next
shelf_cleaned used freed due later now trans_time chains next h is due_is gone = record {
  table = table_is;
  noted = subst (λ d. AreNoted d next) (sym due_is) (noted_cleaned now trans_time due chains next next_is table_is.unique h.noted);
  founded = subst (λ d. AreFounded d next) (sym due_is) (founded_cleaned now trans_time due chains next next_is h.founded);
  counted = counts;
}
  where
    next_is : next ≡ collect_chains now trans_time chains
    next_is = is ∙ cleaned_by_all now trans_time due chains h.noted

    table_is : IsTable next
    table_is = subst IsTable (sym next_is) (table_cleaned now trans_time chains h.table)

    counts : record { records = used.records - freed.records; bytes = used.bytes - freed.bytes } ≡ use_of (all_rows next)
    counts =
        let r = ap (λ (x : InUse). x.records) h.counted in
        let b = ap (λ (x : InUse). x.bytes) h.counted in
        let rs : used.records - freed.records ≡ length (all_rows next) = omega (arith, gone.0) in
        let bs : used.bytes - freed.bytes ≡ sum_by (λ k. size_of k.record_of.entry) (all_rows next) = omega (arith, gone.1) in
        (λ i. record { records = rs i; bytes = bs i })

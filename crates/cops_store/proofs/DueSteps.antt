-- What a collection does, entry by entry, to a slot's chains and to its line of entries.
use Rattle.std.proofs.Common.{◌≡◌, ℕ, zero, suc, ◌+◌, ◌-◌, ◌<◌, ◌≤◌, Bool, true, false, cond, not, ◌&&◌, ◌||◌, List, [], ◌∷◌, ◌++◌, length, refl, sym, ap, ◌∙◌, subst, filter, arith, get_or, take, max, min, zero-add}
use Rattle.std.specs.Prelude.{Some, None, Option, if◌then◌else◌, drop, slice_get}
use Rattle.std.specs.List.{AllByRecursion}
use Rattle.std.proofs.lemmas.Bool.Decides.{nat_tests}
use Rattle.cops_types.specs.declared.records.Dated.{Dated}
use Rattle.cops_types.specs.Key.{key_eq}
use Rattle.cops_store.specs.declared.table.Due.{Due}
use Rattle.cops_store.specs.declared.due_rows.DueLine.{DueLine}
use Rattle.cops_store.specs.declared.due_rows.DueRow.{DueRow}
use Rattle.cops_store.specs.declared.usage.InUse.{InUse}
use Rattle.cops_store.specs.Chains.{oldest_of}
use Rattle.cops_store.specs.Contents.{is_ripe}
use Rattle.cops_store.specs.Dues.{IsFromLeast, dues_in, passed}
use Rattle.cops_store.specs.Tables.{AreNoted, Chains, IsFreed, all_rows, chain_at, cleaned_by_first, collect_chains, collect_chains_at, collect_chains_by, hits, is_hit, kept_dues, put_off, renewed, staying}
use Rattle.cops_store.proofs.Collections.{cleaned_by_all, hit_step, miss_step, none_ripe, renewed_miss}
use Rattle.cops_store.proofs.Lists.{each_append, each_weaker}
use Rattle.cops_store.proofs.Versions.{key_eq_is, key_eq-refl}

-- ---- the first entry
pub first_of : (dues rest : List Due) (d : Due) → dues ≡ d ∷ rest → slice_get dues 0 ≡ Some d
first_of dues rest d is = ap (λ ds. slice_get ds 0) is

pub head_is : (dues : List Due) (d : Due) → slice_get dues 0 ≡ Some d → dues ≡ d ∷ drop 1 dues
head_is [] d read = cc
head_is (e ∷ dues) d read = let same : e ≡ d = cc in ap (λ x. x ∷ dues) same

pub cleaned_hit : (now trans_time : ℕ) (dues : List Due) (d : Due) (chains : Chains) → slice_get dues 0 ≡ Some d → is_hit now trans_time d ≡ true → collect_chains_at now trans_time d.key chains ≡ cleaned_by_first now trans_time dues chains
cleaned_hit now trans_time [] d chains read hit = cc
cleaned_hit now trans_time (e ∷ dues) d chains read hit =
    let same : d ≡ e = cc in
    sym (ap (λ b. if b then collect_chains_at now trans_time d.key chains else chains) hit) ∙ ap (λ (x : Due). if is_hit now trans_time x then collect_chains_at now trans_time x.key chains else chains) same

pub cleaned_miss : (now trans_time : ℕ) (dues : List Due) (d : Due) (chains : Chains) → slice_get dues 0 ≡ Some d → is_hit now trans_time d ≡ false → chains ≡ cleaned_by_first now trans_time dues chains
cleaned_miss now trans_time [] d chains read miss = refl
cleaned_miss now trans_time (e ∷ dues) d chains read miss =
    let same : d ≡ e = cc in
    sym (ap (λ b. if b then collect_chains_at now trans_time d.key chains else chains) miss) ∙ ap (λ (x : Due). if is_hit now trans_time x then collect_chains_at now trans_time x.key chains else chains) same

-- what one entry leaves
abbrev pub IsKeptOf : ℕ → ℕ → Chains → Due → ℕ → List Due → Type 0
IsKeptOf now trans_time chains d least kept = (kept ≡ kept_dues now trans_time chains (d ∷ [])) × AllByRecursion (λ e. least ≤ e.stale) (kept_dues now trans_time chains (d ∷ []))

-- an entry that isn't ripe stays
pub kept_miss : (now trans_time : ℕ) (chains : Chains) (d : Due) → is_hit now trans_time d ≡ false → IsKeptOf now trans_time chains d d.stale (d ∷ [])
kept_miss now trans_time chains d miss = (sym is, subst (AllByRecursion (λ e. d.stale ≤ e.stale)) (sym is) (omega arith, tt))
  where
    is : kept_dues now trans_time chains (d ∷ []) ≡ d ∷ []
    is = ap (λ x. filter (λ e. not (is_hit now trans_time e)) (x ∷ [])) (sym (renewed_miss now trans_time chains d miss)) ∙ ap (λ b. cond (not b) (d ∷ []) []) miss

-- an entry is dropped if nothing stale remains
pub kept_none : (now trans_time : ℕ) (chains : Chains) (d : Due) (least : ℕ) → is_hit now trans_time d ≡ true → None ≡ oldest_of (chain_at d.key chains) → IsKeptOf now trans_time chains d least []
kept_none now trans_time chains d least hit none = (sym is, subst (AllByRecursion (λ e. least ≤ e.stale)) (sym is) tt)
  where
    same : renewed now trans_time chains d ≡ d
    same =
        let moment = ap (λ b. if b then put_off (now - trans_time) d.stale (oldest_of (chain_at d.key chains)) else d.stale) hit ∙ ap (put_off (now - trans_time) d.stale) (sym none) in
        (λ i. record { key = d.key; stale = moment i })

    is : kept_dues now trans_time chains (d ∷ []) ≡ []
    is = ap (λ x. filter (λ e. not (is_hit now trans_time e)) (x ∷ [])) same ∙ ap (λ b. cond (not b) (d ∷ []) []) hit

-- and else postponed
pub kept_some : (now trans_time : ℕ) (chains : Chains) (d : Due) (oldest stale : ℕ) → is_hit now trans_time d ≡ true → Some oldest ≡ oldest_of (chain_at d.key chains) → stale ≡ put_off (now - trans_time) d.stale (Some oldest)
    → IsKeptOf now trans_time chains d stale (record { key = d.key; stale = stale } ∷ [])
kept_some now trans_time chains d oldest stale hit some put = (sym is, subst (AllByRecursion (λ e. stale ≤ e.stale)) (sym is) (omega arith, tt))
  where
    new : Due
    new = record { key = d.key; stale = stale }

    same : renewed now trans_time chains d ≡ record { key = d.key; stale = stale }
    same =
        let moment = ap (λ b. if b then put_off (now - trans_time) d.stale (oldest_of (chain_at d.key chains)) else d.stale) hit ∙ ap (put_off (now - trans_time) d.stale) (sym some) ∙ sym put in
        (λ i. record { key = d.key; stale = moment i })

    late : is_hit now trans_time (record { key = d.key; stale = stale }) ≡ false
    late = let is : stale ≡ max oldest (now - trans_time) = put in let le : now - stale ≤ trans_time = omega arith in grind (arith, nat_tests, le)

    is : kept_dues now trans_time chains (d ∷ []) ≡ record { key = d.key; stale = stale } ∷ []
    is = ap (λ x. filter (λ e. not (is_hit now trans_time e)) (x ∷ [])) same ∙ ap (λ b. cond (not b) (record { key = d.key; stale = stale } ∷ []) []) late

-- ---- where the first entry goes
first_same : (dues rest : List Due) (d first : Due) → dues ≡ d ∷ rest → slice_get dues 0 ≡ Some first → first ≡ d
first_same dues rest d first is read = let both : Some first ≡ Some d = sym read ∙ ap (λ ds. slice_get ds 0) is in cc

pub pass_kept : (now trans_time : ℕ) (chains : Chains) (dues dues' rest : List Due) (d first : Due) (stale least : ℕ) → dues ≡ d ∷ rest → slice_get dues 0 ≡ Some first → dues' ≡ passed stale dues
    → IsKeptOf now trans_time chains first least (record { key = first.key; stale = stale } ∷ []) → (dues' ≡ rest ++ kept_dues now trans_time chains (d ∷ [])) × AllByRecursion (λ e. least ≤ e.stale) (kept_dues now trans_time chains (d ∷ []))
pass_kept now trans_time chains dues dues' rest d first stale least is read moved kept =
    let same = first_same dues rest d first is read in (
      moved ∙ ap (passed stale) is ∙ ap (λ (x : Due). rest ++ record { key = x.key; stale = stale } ∷ []) (sym same) ∙ ap (λ ks. rest ++ ks) kept.0 ∙ ap (λ x. rest ++ kept_dues now trans_time chains (x ∷ [])) same,
      subst (λ x. AllByRecursion (λ e. least ≤ e.stale) (kept_dues now trans_time chains (x ∷ []))) same kept.1,
    )

append_none : (xs : List Due) → xs ++ [] ≡ xs
append_none [] = refl
append_none (x ∷ xs) = ap (λ ds. x ∷ ds) (append_none xs)

pub drop_kept : (now trans_time : ℕ) (chains : Chains) (dues dues' rest : List Due) (d first : Due) (least : ℕ) → dues ≡ d ∷ rest → slice_get dues 0 ≡ Some first → dues' ≡ drop 1 dues
    → IsKeptOf now trans_time chains first least [] → (dues' ≡ rest ++ kept_dues now trans_time chains (d ∷ [])) × AllByRecursion (λ e. least ≤ e.stale) (kept_dues now trans_time chains (d ∷ []))
drop_kept now trans_time chains dues dues' rest d first least is read gone kept =
    let same = first_same dues rest d first is read in (
      gone ∙ ap (λ ds. drop 1 ds) is ∙ sym (append_none rest) ∙ ap (λ ks. rest ++ ks) kept.0 ∙ ap (λ x. rest ++ kept_dues now trans_time chains (x ∷ [])) same,
      subst (λ x. AllByRecursion (λ e. least ≤ e.stale) (kept_dues now trans_time chains (x ∷ []))) same kept.1,
    )

-- one more entry
pub least_longer : (rows rows' : List (Option DueRow)) (line line' : DueLine) (due : Due) → dues_in rows' line' ≡ dues_in rows line ++ due ∷ [] → line'.least ≡ min line.least due.stale → IsFromLeast rows line → IsFromLeast rows' line'
least_longer rows rows' line line' due is low h = subst (AllByRecursion (λ (d : Due). line'.least ≤ d.stale)) (sym is)
    (each_append (λ (d : Due). line'.least ≤ d.stale) (dues_in rows line) (due ∷ []) (each_weaker (λ (d : Due). line.least ≤ d.stale) (λ (d : Due). line'.least ≤ d.stale) (λ d early. let it = early in omega arith) (dues_in rows line) h) (omega arith, tt))

-- ---- the chain of an entry stays as its own step left it
chain_by : (now trans_time : ℕ) (due : List Due) (key : List ℕ) (chains : Chains) → hits now trans_time due key ≡ true → chain_at key (collect_chains_by now trans_time due chains) ≡ chain_at key (collect_chains now trans_time chains)
chain_by now trans_time due key [] hit = refl
chain_by now trans_time due key (e ∷ chains) hit = by (key_eq key e.0) refl (chain_by now trans_time due key chains hit)
  where
    at : Bool → List ℕ × List Dated
    at b = if b then (e.0, staying now trans_time e.1) else e

    key_of : (b : Bool) → (at b).0 ≡ e.0
    key_of true = refl
    key_of false = refl

    by : (own : Bool) → key_eq key e.0 ≡ own → chain_at key (collect_chains_by now trans_time due chains) ≡ chain_at key (collect_chains now trans_time chains)
        → (if key_eq key (at (hits now trans_time due e.0)).0 then (at (hits now trans_time due e.0)).1 else chain_at key (collect_chains_by now trans_time due chains)) ≡ (if key_eq key e.0 then staying now trans_time e.1 else chain_at key (collect_chains now trans_time chains))
    by own is rest =
        ap (λ k. if key_eq key k then (at (hits now trans_time due e.0)).1 else chain_at key (collect_chains_by now trans_time due chains)) (key_of (hits now trans_time due e.0))
        ∙ inner own is
      where
        inner : (own : Bool) → key_eq key e.0 ≡ own → (if key_eq key e.0 then (at (hits now trans_time due e.0)).1 else chain_at key (collect_chains_by now trans_time due chains)) ≡ (if key_eq key e.0 then staying now trans_time e.1 else chain_at key (collect_chains now trans_time chains))
        inner true is =
            let same : key ≡ e.0 = key_eq_is key e.0 is in
            let all : hits now trans_time due e.0 ≡ true = ap (hits now trans_time due) (sym same) ∙ hit in
            ap (λ b. if key_eq key e.0 then (at b).1 else chain_at key (collect_chains_by now trans_time due chains)) all
            ∙ ap (λ b. if b then staying now trans_time e.1 else chain_at key (collect_chains_by now trans_time due chains)) is
            ∙ sym (ap (λ b. if b then staying now trans_time e.1 else chain_at key (collect_chains now trans_time chains)) is)
        inner false is =
            ap (λ b. if b then (at (hits now trans_time due e.0)).1 else chain_at key (collect_chains_by now trans_time due chains)) is
            ∙ rest
            ∙ sym (ap (λ b. if b then staying now trans_time e.1 else chain_at key (collect_chains now trans_time chains)) is)

-- ---- the loop over the entries
take_more : (due : List Due) (i : ℕ) (d : Due) → slice_get due i ≡ Some d → take (i + 1) due ≡ take i due ++ d ∷ []
take_more [] i d read = cc
take_more (e ∷ due) zero d read = let same : e ≡ d = cc in ap (λ x. x ∷ []) same
take_more (e ∷ due) (suc i) d read = let s : suc i + 1 ≡ suc (i + 1) = omega arith in ap (λ m. take m (e ∷ due)) s ∙ ap (λ ds. e ∷ ds) (take_more due i d read)

drop_at : (due : List Due) (i : ℕ) → i < length due → (d : Due) × (slice_get due i ≡ Some d) × (drop i due ≡ d ∷ drop (i + 1) due)
drop_at [] i lt = absurd (omega arith)
drop_at (e ∷ due) zero lt = (e, refl, refl)
drop_at (e ∷ due) (suc i) lt =
    let s : suc i + 1 ≡ suc (i + 1) = omega arith in
    let rest = drop_at due i (omega arith) in
    (rest.0, rest.1, rest.2 ∙ ap (λ m. rest.0 ∷ drop m (e ∷ due)) (sym s))

hits_last : (now trans_time : ℕ) (due : List Due) (d : Due) → is_hit now trans_time d ≡ true → hits now trans_time (due ++ d ∷ []) d.key ≡ true
hits_last now trans_time [] d hit = ap (λ b. (b && key_eq d.key d.key) || false) hit ∙ ap (λ b. b || false) (key_eq-refl d.key)
hits_last now trans_time (e ∷ due) d hit = or_true (is_hit now trans_time e && key_eq e.key d.key) (hits_last now trans_time due d hit)
  where
    or_true : (a : Bool) → hits now trans_time (due ++ d ∷ []) d.key ≡ true → (a || hits now trans_time (due ++ d ∷ []) d.key) ≡ true
    or_true true h = refl
    or_true false h = h

kept_append : (now trans_time : ℕ) (chains : Chains) (xs ys : List Due) → kept_dues now trans_time chains (xs ++ ys) ≡ kept_dues now trans_time chains xs ++ kept_dues now trans_time chains ys
kept_append now trans_time chains [] ys = refl
kept_append now trans_time chains (x ∷ xs) ys = by (not (is_hit now trans_time (renewed now trans_time chains x))) (kept_append now trans_time chains xs ys)
  where
    by : (b : Bool) → kept_dues now trans_time chains (xs ++ ys) ≡ kept_dues now trans_time chains xs ++ kept_dues now trans_time chains ys
        → cond b (renewed now trans_time chains x ∷ kept_dues now trans_time chains (xs ++ ys)) (kept_dues now trans_time chains (xs ++ ys)) ≡ cond b (renewed now trans_time chains x ∷ kept_dues now trans_time chains xs) (kept_dues now trans_time chains xs) ++ kept_dues now trans_time chains ys
    by true is = ap (λ ds. renewed now trans_time chains x ∷ ds) is
    by false is = is

append-assoc : (xs ys zs : List Due) → (xs ++ ys) ++ zs ≡ xs ++ (ys ++ zs)
append-assoc [] ys zs = refl
append-assoc (x ∷ xs) ys zs = ap (λ ds. x ∷ ds) (append-assoc xs ys zs)

lower : (least other : ℕ) (due : List Due) → least ≤ other → AllByRecursion (λ d. other ≤ d.stale) due → AllByRecursion (λ d. least ≤ d.stale) due
lower least other due le h = each_weaker (λ d. other ≤ d.stale) (λ d. least ≤ d.stale) (λ d low. let it = low in omega arith) due h

-- what holds once this many entries of a line were looked at
pub record IsCleanedTo (now trans_time i : ℕ) (due : List Due) (start middle : Chains) (dues : List Due) (freed : InUse) (least : ℕ) : Type 0 where
  pub chains : middle ≡ collect_chains_by now trans_time (take i due) start
  pub freed_is : IsFreed freed (all_rows start) (all_rows middle)
  pub dues_are : dues ≡ drop i due ++ kept_dues now trans_time (collect_chains now trans_time start) (take i due)
  pub least_is : AllByRecursion (λ d. least ≤ d.stale) (kept_dues now trans_time (collect_chains now trans_time start) (take i due))

module _ (now trans_time i : ℕ) (due : List Due) (start middle next : Chains) (dues dues' : List Due) (freed more : InUse) (least one : ℕ) (h : IsCleanedTo now trans_time i due start middle dues freed least) (lt : i < length due)
    (chains_are : next ≡ cleaned_by_first now trans_time dues middle) (freed_more : IsFreed more (all_rows middle) (all_rows next))
    (left : (d : Due) (rest : List Due) → dues ≡ d ∷ rest → (dues' ≡ rest ++ kept_dues now trans_time next (d ∷ [])) × AllByRecursion (λ e. one ≤ e.stale) (kept_dues now trans_time next (d ∷ []))) where
  read : slice_get due i ≡ Some (drop_at due i lt).0
  read = (drop_at due i lt).1

  dues_start : dues ≡ (drop_at due i lt).0 ∷ (drop (i + 1) due ++ kept_dues now trans_time (collect_chains now trans_time start) (take i due))
  dues_start = h.dues_are ∙ ap (λ ds. ds ++ kept_dues now trans_time (collect_chains now trans_time start) (take i due)) (drop_at due i lt).2

  first_chains : next ≡ (if is_hit now trans_time (drop_at due i lt).0 then collect_chains_at now trans_time (drop_at due i lt).0.key middle else middle)
  first_chains = chains_are ∙ ap (λ ds. cleaned_by_first now trans_time ds middle) dues_start

  got : (due : List Due) (i : ℕ) (d : Due) → slice_get due i ≡ Some d → d ≡ get_or due i d
  got [] i d read = refl
  got (e ∷ due) zero d read = cc
  got (e ∷ due) (suc i) d read = got due i d read

  next_chains : next ≡ collect_chains_by now trans_time (take (i + 1) due) start
  next_chains = by (is_hit now trans_time (drop_at due i lt).0) refl first_chains
    where
      by : (b : Bool) → is_hit now trans_time (drop_at due i lt).0 ≡ b → next ≡ (if b then collect_chains_at now trans_time (drop_at due i lt).0.key middle else middle) → next ≡ collect_chains_by now trans_time (take (i + 1) due) start
      by true hit is = (hit_step now trans_time due i (drop_at due i lt).0 start middle next freed more lt (got due i (drop_at due i lt).0 read) hit h.chains h.freed_is is freed_more).0
      by false miss is = is ∙ miss_step now trans_time due i (drop_at due i lt).0 start middle lt (got due i (drop_at due i lt).0 read) miss h.chains

  same_note : renewed now trans_time next (drop_at due i lt).0 ≡ renewed now trans_time (collect_chains now trans_time start) (drop_at due i lt).0
  same_note = by (is_hit now trans_time (drop_at due i lt).0) refl
    where
      by : (b : Bool) → is_hit now trans_time (drop_at due i lt).0 ≡ b → renewed now trans_time next (drop_at due i lt).0 ≡ renewed now trans_time (collect_chains now trans_time start) (drop_at due i lt).0
      by false miss = sym (renewed_miss now trans_time next (drop_at due i lt).0 miss) ∙ renewed_miss now trans_time (collect_chains now trans_time start) (drop_at due i lt).0 miss
      by true hit =
          let all : hits now trans_time (take (i + 1) due) (drop_at due i lt).0.key ≡ true = ap (λ ds. hits now trans_time ds (drop_at due i lt).0.key) (take_more due i (drop_at due i lt).0 read) ∙ hits_last now trans_time (take i due) (drop_at due i lt).0 hit in
          let chain : chain_at (drop_at due i lt).0.key next ≡ chain_at (drop_at due i lt).0.key (collect_chains now trans_time start) = ap (chain_at (drop_at due i lt).0.key) next_chains ∙ chain_by now trans_time (take (i + 1) due) (drop_at due i lt).0.key start all in
          ap (λ c. record { key = (drop_at due i lt).0.key; stale = if is_hit now trans_time (drop_at due i lt).0 then put_off (now - trans_time) (drop_at due i lt).0.stale (oldest_of c) else (drop_at due i lt).0.stale }) chain

  same_kept : kept_dues now trans_time next ((drop_at due i lt).0 ∷ []) ≡ kept_dues now trans_time (collect_chains now trans_time start) ((drop_at due i lt).0 ∷ [])
  same_kept = ap (λ x. filter (λ e. not (is_hit now trans_time e)) (x ∷ [])) same_note

  all_kept : kept_dues now trans_time (collect_chains now trans_time start) (take (i + 1) due) ≡ kept_dues now trans_time (collect_chains now trans_time start) (take i due) ++ kept_dues now trans_time next ((drop_at due i lt).0 ∷ [])
  all_kept =
      ap (kept_dues now trans_time (collect_chains now trans_time start)) (take_more due i (drop_at due i lt).0 read)
      ∙ kept_append now trans_time (collect_chains now trans_time start) (take i due) ((drop_at due i lt).0 ∷ [])
      ∙ ap (λ ds. kept_dues now trans_time (collect_chains now trans_time start) (take i due) ++ ds) (sym same_kept)

  step : (dues' ≡ (drop (i + 1) due ++ kept_dues now trans_time (collect_chains now trans_time start) (take i due)) ++ kept_dues now trans_time next ((drop_at due i lt).0 ∷ [])) × AllByRecursion (λ e. one ≤ e.stale) (kept_dues now trans_time next ((drop_at due i lt).0 ∷ []))
  step = left (drop_at due i lt).0 (drop (i + 1) due ++ kept_dues now trans_time (collect_chains now trans_time start) (take i due)) dues_start

  pub cleaned_one : (lower_of : ℕ) → lower_of ≡ min least one → IsCleanedTo now trans_time (i + 1) due start next dues' (record { records = freed.records + more.records; bytes = freed.bytes + more.bytes }) lower_of
  cleaned_one lower_of low = record {
    chains = next_chains;
    freed_is = let a = h.freed_is in (omega (arith, a.0, freed_more.0), omega (arith, a.1, freed_more.1));
    dues_are = step.0 ∙ append-assoc (drop (i + 1) due) (kept_dues now trans_time (collect_chains now trans_time start) (take i due)) (kept_dues now trans_time next ((drop_at due i lt).0 ∷ [])) ∙ ap (λ ds. drop (i + 1) due ++ ds) (sym all_kept);
    least_is = subst (AllByRecursion (λ e. lower_of ≤ e.stale)) (sym all_kept)
        (each_append (λ e. lower_of ≤ e.stale) (kept_dues now trans_time (collect_chains now trans_time start) (take i due)) (kept_dues now trans_time next ((drop_at due i lt).0 ∷ []))
        (lower lower_of least (kept_dues now trans_time (collect_chains now trans_time start) (take i due)) (omega arith) h.least_is)
        (lower lower_of one (kept_dues now trans_time next ((drop_at due i lt).0 ∷ [])) (omega arith) step.1));
  }

-- if the least timestamp isn't ripe nothing hits
pub none_hit : (now trans_time least : ℕ) (due : List Due) → is_ripe now trans_time (Some least) ≡ false → AllByRecursion (λ d. least ≤ d.stale) due → (key : List ℕ) → hits now trans_time due key ≡ false
none_hit now trans_time least due unripe h key = let le : now - least ≤ trans_time = grind (arith, nat_tests, unripe) in none_ripe now trans_time least le key due h

-- as many as there are
pub one_left : (now trans_time i : ℕ) (due : List Due) (start middle : Chains) (dues : List Due) (freed : InUse) (least : ℕ) → IsCleanedTo now trans_time i due start middle dues freed least → i < length due → 0 < length dues
one_left now trans_time i due start middle dues freed least h lt = subst (λ ds. 0 < length ds) (sym (h.dues_are ∙ ap (λ ds. ds ++ kept_dues now trans_time (collect_chains now trans_time start) (take i due)) (drop_at due i lt).2)) (omega arith)

-- none was looked at
pub cleaned_none : (now trans_time : ℕ) (due : List Due) (start : Chains) (least : ℕ) → IsCleanedTo now trans_time 0 due start start due (record { records = 0; bytes = 0 }) least
cleaned_none now trans_time due start least = record {
  chains = same start;
  freed_is = (zero-add _, zero-add _);
  dues_are = sym (append_none due);
  least_is = tt;
}
  where
    same : (chains : Chains) → chains ≡ collect_chains_by now trans_time [] chains
    same [] = refl
    same (e ∷ chains) = ap (λ xs. e ∷ xs) (same chains)

-- all were looked at
module _ (now trans_time i : ℕ) (due : List Due) (start middle : Chains) (dues : List Due) (freed : InUse) (least : ℕ) (h : IsCleanedTo now trans_time i due start middle dues freed least) (all : length due ≤ i) where
  whole : (due : List Due) (i : ℕ) → length due ≤ i → take i due ≡ due
  whole [] zero le = refl
  whole [] (suc i) le = refl
  whole (d ∷ due) zero le = absurd (omega arith)
  whole (d ∷ due) (suc i) le = ap (λ ds. d ∷ ds) (whole due i (omega arith))

  gone : (due : List Due) (i : ℕ) → length due ≤ i → drop i due ≡ []
  gone [] zero le = refl
  gone [] (suc i) le = refl
  gone (d ∷ due) zero le = absurd (omega arith)
  gone (d ∷ due) (suc i) le = gone due i (omega arith)

  pub all_chains : middle ≡ collect_chains_by now trans_time due start
  all_chains = h.chains ∙ ap (λ ds. collect_chains_by now trans_time ds start) (whole due i all)

  module _ (noted : AreNoted due start) where
    final_is : middle ≡ collect_chains now trans_time start
    final_is = all_chains ∙ cleaned_by_all now trans_time due start noted

    pub all_dues : dues ≡ kept_dues now trans_time middle due
    all_dues =
        h.dues_are ∙ ap (λ ds. ds ++ kept_dues now trans_time (collect_chains now trans_time start) (take i due)) (gone due i all)
        ∙ ap (kept_dues now trans_time (collect_chains now trans_time start)) (whole due i all) ∙ ap (λ cs. kept_dues now trans_time cs due) (sym final_is)

    pub all_least : AllByRecursion (λ d. least ≤ d.stale) dues
    all_least = subst (AllByRecursion (λ d. least ≤ d.stale)) (sym (h.dues_are ∙ ap (λ ds. ds ++ kept_dues now trans_time (collect_chains now trans_time start) (take i due)) (gone due i all))) h.least_is

-- Checks, by computation, that a transcript keeps a law: for examples.
use Rattle.std.proofs.Common.{◌≡◌, ℕ, ◌<◌, Bool, true, false, not, ◌&&◌, ◌||◌, List, [], ◌∷◌, ◌++◌, map, length, inl, inr, refl, sym, ◌∙◌, ap, subst, arith, append_assoc}
use Rattle.std.specs.Prelude.{Option, Some, None, zero, suc, slice_get}
use Rattle.std.specs.List.{list_all, list_any}
use Rattle.std.proofs.lemmas.Bool.Decides.{leb_tells}
use Rattle.cops_types.specs.declared.contexts.ReadParts.{ReadParts as Read}
use Rattle.cops_types.specs.declared.pairs.Pair.{Pair}
use Rattle.cops_types.specs.Key.{key_eq}
use Rattle.cops_types.specs.Pairs.{holds, pair_eq, pairs_eq}
use Rattle.cops_types.specs.Same.{same_pairs}
use Rattle.cops_types.specs.Version.{no_version, version_eq}
use Rattle.cops_types.proofs.Elements.{Among, Every-at, Every-from, all_true, and_left, and_right, and_true, any_intro, slice_get-Among}
use Rattle.cops_types.proofs.KeyTests.{key_eq-refl, key_eq-true}
use Rattle.cops_types.proofs.PairSets.{holds-Among, pair_eq-refl, pair_eq-true}
use Rattle.cops_types.proofs.Successive.{EachAfter, each_after-at, get-at, get-in_front, get-left, get-map, place_of}
use Rattle.cops_types.proofs.VersionOrder.{version_eq-refl, version_eq-true}
use Rattle.cops_model.specs.Causal.{Effect, Operation, Returned, Traced, Wrote, deps_of, put_by, returned_by, traced}
use Rattle.cops_model.specs.Precedence.{AreLeastPasts, PutsAt}
use Rattle.cops_model.specs.Request.{Action, Fetch, Write}
use Rattle.cops_causal.specs.ClientLaws.{AreOfPuts, HaveDistinctVersions, IsTrueRead, pair_of_read, reads_in}
use Rattle.cops_causal.specs.Transcript.{Ended, history_in}
use Rattle.cops_causal.proofs.Answering.{IsNext}
use Rattle.cops_causal.proofs.Histories.{Among-flat_map, puts_of}
use Rattle.cops_causal.proofs.LeastPasts.{before-has, least_pasts_of, op_of, operations-traced, traced_by}

all_at : {A : Type 0} (p : A → Bool) (x : A) (xs : List A) → list_all p xs ≡ true → Among x xs → p x ≡ true
all_at p x [] e there = absurd there
all_at p x (y ∷ ys) e (inl same) = subst (λ z. p z ≡ true) same (and_left (p y) (list_all p ys) e)
all_at p x (y ∷ ys) e (inr there) = all_at p x ys (and_right (p y) (list_all p ys) e) there

-- ---- versions and pasts

-- the operation returned what was put, and put versions that no other has
abbrev pub follows : List Traced → Traced → Bool
follows before t =
    list_all (holds (puts_of before)) (returned_by t.operation.effect)
    && list_all (λ p. not (list_any (λ q. version_eq q.version p.version) (puts_of before))) (put_by t.operation.effect)

abbrev pub all_follow : List Traced → List Traced → Bool
all_follow before [] = true
all_follow before (t ∷ ts) = follows before t && all_follow (before ++ t ∷ []) ts

record Follows (before : List Traced) (t : Traced) : Type 0 where
  pub returned : (q : Pair) → Among q (returned_by t.operation.effect) → Among q (puts_of before)
  pub fresh : (p q : Pair) → Among p (put_by t.operation.effect) → Among q (puts_of before) → q.version ≡ p.version → ⊥

follows_so : (before : List Traced) (t : Traced) → follows before t ≡ true → Follows before t
follows_so before t e =
    let reads = list_all (holds (puts_of before)) (returned_by t.operation.effect) in
    let puts = list_all (λ (p : Pair). not (list_any (λ (q : Pair). version_eq q.version p.version) (puts_of before))) (put_by t.operation.effect) in
    record {
      returned = λ q there. holds-Among (puts_of before) q (all_at (holds (puts_of before)) q (returned_by t.operation.effect) (and_left reads puts e) there);
      fresh = λ p q there was same.
          clash (list_any (λ (r : Pair). version_eq r.version p.version) (puts_of before))
          (any_intro (λ (r : Pair). version_eq r.version p.version) q (puts_of before) was (ap (version_eq q.version) (sym same) ∙ version_eq-refl q.version))
          (all_at (λ (r : Pair). not (list_any (λ (q : Pair). version_eq q.version r.version) (puts_of before))) p (put_by t.operation.effect) (and_right reads puts e) there);
    }
  where
    clash : (b : Bool) → b ≡ true → not b ≡ true → ⊥
    clash true is e = cc
    clash false is e = cc

each_follows : (before ts : List Traced) → all_follow before ts ≡ true → EachAfter Follows before ts
each_follows before [] e = tt
each_follows before (t ∷ ts) e =
    (follows_so before t (and_left (follows before t) (all_follow (before ++ t ∷ []) ts) e), each_follows (before ++ t ∷ []) ts (and_right (follows before t) (all_follow (before ++ t ∷ []) ts) e))

each_next : (before ts : List Traced) → EachAfter Follows before ts → EachAfter IsNext before ts
each_next before [] each = tt
each_next before (t ∷ ts) each = (record { returned = each.0.returned; new = λ p there was. each.0.fresh p p there was refl }, each_next (before ++ t ∷ []) ts each.1)

module _ (ops : List Operation) (checked : all_follow [] (traced ops) ≡ true) where
  abbrev us : List Traced
  us = traced ops

  each : EachAfter Follows [] us
  each = each_follows [] us checked

  next : EachAfter IsNext [] us
  next = each_next [] us each

  pub least_by : AreLeastPasts ops
  least_by = least_pasts_of ops next

  later_differs : (i j : ℕ) (p q : Pair) → PutsAt ops i p → PutsAt ops j q → i < j → p.version ≡ q.version → ⊥
  later_differs i j p q puts puts_too less same_version =
      let same : map op_of us ≡ ops = operations-traced [] ops in
      let u = get-map op_of us i puts.0 (ap (λ os. slice_get os i) same ∙ puts.1) in
      let t = get-map op_of us j puts_too.0 (ap (λ os. slice_get os j) same ∙ puts_too.1) in
      let place = place_of us j t.0 t.1 in
      let follows = each_after-at Follows [] place.before place.after t.0 (subst (EachAfter Follows []) place.whole each) in
      let among = before-has us (traced_by [] ops tt) next j t.0 t.1 i u.0 u.1 less in
      follows.fresh q p (subst (λ (o : Operation). Among q (put_by o.effect)) (sym t.2) (holds-Among (put_by puts_too.0.effect) q puts_too.2))
      (Among-flat_map (λ (v : Traced). put_by v.operation.effect) place.before p u.0 among (subst (λ (o : Operation). Among p (put_by o.effect)) (sym u.2) (holds-Among (put_by puts.0.effect) p puts.2)))
      same_version

  pub distinct_by : HaveDistinctVersions ops
  distinct_by one other p q puts puts_too same =
      elim (leb_tells other one) [
        | inr less ↦ absurd (later_differs one other p q puts puts_too less.1 same)
        | inl down ↦ elim (leb_tells one other) [
          | inr less ↦ absurd (later_differs other one q p puts_too puts less.1 (sym same))
          | inl up ↦ (let le = down.1 in let ge = up.1 in omega arith)
        ]
      ]

-- ---- values

abbrev pub wrote_it : List ℕ → Action → Effect → Pair → Bool
wrote_it value (Write key given) (Wrote p) pair = pair_eq p pair && (key_eq key pair.key && key_eq given value)
wrote_it value asked effect pair = false

abbrev pub is_true_read : List Traced → List Ended → Read → Option (List ℕ) → Bool
is_true_read history before read (Some value) = list_any (λ (e : Ended). wrote_it value e.asked e.operation.effect (pair_of_read read)) before && pairs_eq read.deps (deps_of history (pair_of_read read))
is_true_read history before read None = version_eq read.version no_version && pairs_eq read.deps []

abbrev pub are_true_reads : List Traced → List Ended → Ended → Bool
are_true_reads history before e = list_all (λ (read : Read). is_true_read history before read read.value) (reads_in e.operation.effect)

abbrev pub all_true_reads : List Traced → List Ended → List Ended → Bool
all_true_reads history before [] = true
all_true_reads history before (e ∷ es) = are_true_reads history before e && all_true_reads history (before ++ e ∷ []) es

module _ {A : Type 0} where
  -- where an element passes
  record FoundAt (p : A → Bool) (xs : List A) : Type 0 where
    pub place : ℕ
    pub found : A
    pub stands : slice_get xs place ≡ Some found
    pub passes : p found ≡ true
    pub within : place < length xs

  first_found : (p : A → Bool) (x : A) (xs : List A) (b : Bool) → p x ≡ b → (b || list_any p xs) ≡ true → (list_any p xs ≡ true → FoundAt p xs) → FoundAt p (x ∷ xs)
  first_found p x xs true is e rest = record { place = zero; found = x; stands = refl; passes = is; within = omega arith }
  first_found p x xs false is e rest =
      let later = rest e in
      record { place = suc later.place; found = later.found; stands = later.stands; passes = later.passes; within = (let less = later.within in omega arith) }

  any_place : (p : A → Bool) (xs : List A) → list_any p xs ≡ true → FoundAt p xs
  any_place p [] e = cc
  any_place p (x ∷ xs) e = first_found p x xs (p x) refl e (λ later. any_place p xs later)

wrote_so : (value : List ℕ) (asked : Action) (effect : Effect) (pair : Pair) → wrote_it value asked effect pair ≡ true → (effect ≡ Wrote pair) × (asked ≡ Write pair.key value)
wrote_so value (Write key given) (Wrote p) pair e =
    let second = and_right (pair_eq p pair) (key_eq key pair.key && key_eq given value) e in (
      ap Wrote (pair_eq-true p pair (and_left (pair_eq p pair) (key_eq key pair.key && key_eq given value) e)),
      λ i. Write (key_eq-true key pair.key (and_left (key_eq key pair.key) (key_eq given value) second) i) (key_eq-true given value (and_right (key_eq key pair.key) (key_eq given value) second) i),
    )
wrote_so value (Write key given) (Returned reads) pair e = cc
wrote_so value (Fetch keys) effect pair e = cc

module _ (es : List Ended) (checked : all_true_reads (history_in es) [] es ≡ true) where
  abbrev AreTrueAfter : List Ended → Ended → Type 0
  AreTrueAfter before e = are_true_reads (history_in es) before e ≡ true

  each_true : (before later : List Ended) → all_true_reads (history_in es) before later ≡ true → EachAfter AreTrueAfter before later
  each_true before [] e = tt
  each_true before (x ∷ later) e = (
    and_left (are_true_reads (history_in es) before x) (all_true_reads (history_in es) (before ++ x ∷ []) later) e,
    each_true (before ++ x ∷ []) later (and_right (are_true_reads (history_in es) before x) (all_true_reads (history_in es) (before ++ x ∷ []) later) e),
  )

  pub of_puts_by : AreOfPuts es
  of_puts_by place e at_e =
      let there = place_of es place e at_e in
      let are = each_after-at AreTrueAfter [] there.before there.after e (subst (EachAfter AreTrueAfter []) there.whole (each_true [] es checked)) in
      Every-from (λ read. IsTrueRead es place read read.value) (reads_in e.operation.effect) (λ read among.
      by_value there.before there.after there.whole there.counted read read.value (all_at (λ (read : Read). is_true_read (history_in es) there.before read read.value) read (reads_in e.operation.effect) are among))
    where
      by_value : (before after : List Ended) → es ≡ before ++ e ∷ after → length before ≡ place → (read : Read) (value : Option (List ℕ)) → is_true_read (history_in es) before read value ≡ true → IsTrueRead es place read value
      by_value before after whole counted read (Some value) is =
          let test = list_any (λ (e : Ended). wrote_it value e.asked e.operation.effect (pair_of_read read)) before in
          let same_deps = pairs_eq read.deps (deps_of (history_in es) (pair_of_read read)) in
          let found = any_place (λ (e : Ended). wrote_it value e.asked e.operation.effect (pair_of_read read)) before (and_left test same_deps is) in
          let wrote = wrote_so value found.found.asked found.found.operation.effect (pair_of_read read) found.passes in
          record {
            before = found.place;
            earlier = (let less = found.within in let counts = counted in omega arith);
            put = found.found;
            stands = subst (λ xs. slice_get xs found.place ≡ Some found.found) (sym whole) (get-in_front before (e ∷ after) found.place found.found found.stands);
            wrote = wrote.0;
            asked = wrote.1;
            deps = same_pairs.same read.deps (deps_of (history_in es) (pair_of_read read)) (and_right test same_deps is);
          }
      by_value before after whole counted read None is =
          (version_eq-true read.version no_version (and_left (version_eq read.version no_version) (pairs_eq read.deps []) is), same_pairs.same read.deps [] (and_right (version_eq read.version no_version) (pairs_eq read.deps []) is))

-- ---- and a transcript that keeps the law passes

wrote_passes : (value : List ℕ) (asked : Action) (effect : Effect) (pair : Pair) → effect ≡ Wrote pair → asked ≡ Write pair.key value → wrote_it value asked effect pair ≡ true
wrote_passes value asked effect pair wrote is =
    subst (λ a. wrote_it value a effect pair ≡ true) (sym is)
    (subst (λ f. wrote_it value (Write pair.key value) f pair ≡ true) (sym wrote)
    (and_true (pair_eq pair pair) (key_eq pair.key pair.key && key_eq value value) (pair_eq-refl pair) (and_true (key_eq pair.key pair.key) (key_eq value value) (key_eq-refl pair.key) (key_eq-refl value))))

module _ (es : List Ended) (are : AreOfPuts es) where
  read_passes : (before later : List Ended) → es ≡ before ++ later → (read : Read) (value : Option (List ℕ)) → IsTrueRead es (length before) read value → is_true_read (history_in es) before read value ≡ true
  read_passes before later whole read (Some value) is =
      let among = slice_get-Among before is.before is.put (get-left before later is.before is.put (subst (λ xs. slice_get xs is.before ≡ Some is.put) whole is.stands) is.earlier) in
      and_true (list_any (λ (e : Ended). wrote_it value e.asked e.operation.effect (pair_of_read read)) before) (pairs_eq read.deps (deps_of (history_in es) (pair_of_read read)))
      (any_intro (λ (e : Ended). wrote_it value e.asked e.operation.effect (pair_of_read read)) is.put before among (wrote_passes value is.put.asked is.put.operation.effect (pair_of_read read) is.wrote is.asked))
      (subst (λ ds. pairs_eq read.deps ds ≡ true) is.deps (same_pairs.itself read.deps))
  read_passes before later whole read None is =
      and_true (version_eq read.version no_version) (pairs_eq read.deps []) (subst (λ v. version_eq read.version v ≡ true) is.0 (version_eq-refl read.version)) (subst (λ ds. pairs_eq read.deps ds ≡ true) is.1 (same_pairs.itself read.deps))

  passes_from : (before later : List Ended) → es ≡ before ++ later → all_true_reads (history_in es) before later ≡ true
  passes_from before [] whole = refl
  passes_from before (e ∷ later) whole =
      let place = subst (λ xs. slice_get xs (length before) ≡ Some e) (sym whole) (get-at before later e) in
      and_true (are_true_reads (history_in es) before e) (all_true_reads (history_in es) (before ++ e ∷ []) later)
      (all_true (λ (read : Read). is_true_read (history_in es) before read read.value) (reads_in e.operation.effect) (λ read among.
      read_passes before (e ∷ later) whole read read.value (Every-at (λ read. IsTrueRead es (length before) read read.value) read (reads_in e.operation.effect) (are (length before) e place) among)))
      (passes_from (before ++ e ∷ []) later (whole ∙ sym (append_assoc before (e ∷ []) later)))

  pub of_puts_pass : all_true_reads (history_in es) [] es ≡ true
  of_puts_pass = passes_from [] es refl

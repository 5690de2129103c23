-- Values and versions fix the pasts: if each read is of an earlier put and no two puts have one version, the pasts of a transcript follow the least relation.
use Rattle.std.proofs.Common.{◌≡◌, ℕ, ◌<◌, List, [], ◌∷◌, ◌++◌, map, length, inl, inr, refl, sym, ◌∙◌, subst, arith, append_assoc}
use Rattle.std.specs.Prelude.{Option, Some, None, slice_get}
use Rattle.cops_types.specs.declared.contexts.ReadParts.{ReadParts as Read}
use Rattle.cops_types.specs.declared.pairs.Pair.{Pair}
use Rattle.cops_types.proofs.Elements.{Among, Every-at, slice_get-Among, slice_get-within}
use Rattle.cops_types.proofs.PairSets.{Among-holds}
use Rattle.cops_types.proofs.Successive.{EachAfter, get-at, get-in_front, get-left, get-map, map-get}
use Rattle.cops_model.specs.Causal.{Effect, Operation, Returned, Traced, Wrote, put_by, returned_by}
use Rattle.cops_model.specs.Precedence.{AreLeastPasts}
use Rattle.cops_causal.specs.ClientLaws.{AreOfPuts, HaveDistinctVersions, IsOfPut, IsTrueRead, pair_of_read, reads_in}
use Rattle.cops_causal.specs.Transcript.{Ended, history_in, operations_in}
use Rattle.cops_causal.proofs.Answering.{IsNext}
use Rattle.cops_causal.proofs.Convergence.{Among-place}
use Rattle.cops_causal.proofs.Histories.{Among-flat_map, flat_map-Among, pair_read, puts_of}
use Rattle.cops_causal.proofs.LeastPasts.{least_pasts_of, op_of, operations-traced}

-- a pair that was returned is of a read with a value
record IsOfRead (effect : Effect) (q : Pair) : Type 0 where
  pub read : Read
  pub value : List ℕ
  pub there : Among read (reads_in effect)
  pub valued : read.value ≡ Some value
  pub is : pair_of_read read ≡ q

of_read : (effect : Effect) (q : Pair) → Among q (returned_by effect) → IsOfRead effect q
of_read (Wrote pair) q there = absurd there
of_read (Returned reads) q there =
    let found = flat_map-Among pair_read reads q there in
    by_value found.0 found.1 found.0.value refl found.2
  where
    by_value : (read : Read) → Among read reads → (value : Option (List ℕ)) → read.value ≡ value → Among q (pair_read read) → IsOfRead (Returned reads) q
    by_value read among None e at =
        let none : pair_read read ≡ [] = rw e refl in
        absurd (subst (Among q) none at)
    by_value read among (Some value) e at =
        let one : pair_read read ≡ pair_of_read read ∷ [] = rw e refl in
        by_only read value among e (subst (Among q) one at)
      where
        by_only : (read : Read) (value : List ℕ) → Among read reads → read.value ≡ Some value → Among q (pair_of_read read ∷ []) → IsOfRead (Returned reads) q
        by_only read value among e (inl is) = record { read = read; value = value; there = among; valued = e; is = is }
        by_only read value among e (inr none) = absurd none

module _ (es : List Ended) (are : AreOfPuts es) (distinct : HaveDistinctVersions (operations_in es)) where
  abbrev us : List Traced
  us = history_in es

  same : map op_of us ≡ operations_in es
  same = operations-traced [] (operations_in es)

  operation_at : (i : ℕ) (t : Traced) → slice_get us i ≡ Some t → slice_get (operations_in es) i ≡ Some t.operation
  operation_at i t at_t = subst (λ os. slice_get os i ≡ Some t.operation) same (map-get op_of us i t at_t)

  -- what a put left in the history before a place
  put_before : (before later : List Traced) → us ≡ before ++ later → (i : ℕ) (put : Ended) → slice_get es i ≡ Some put → i < length before → (q : Pair) → put.operation.effect ≡ Wrote q → Among q (puts_of before)
  put_before before later whole i put stands less q wrote =
      let at_i = map-get (λ (e : Ended). e.operation) es i put stands in
      let u = get-map op_of us i put.operation (subst (λ os. slice_get os i ≡ Some put.operation) (sym same) at_i) in
      let among = slice_get-Among before i u.0 (get-left before later i u.0 (subst (λ xs. slice_get xs i ≡ Some u.0) whole u.1) less) in
      let effect : u.0.operation.effect ≡ Wrote q = (λ j. (u.2 j).effect) ∙ wrote in
      Among-flat_map (λ (v : Traced). put_by v.operation.effect) before q u.0 among (subst (λ f. Among q (put_by f)) (sym effect) (inl refl))

  module _ (before : List Traced) (t : Traced) (later : List Traced) (whole : us ≡ before ++ t ∷ later) where
    abbrev place : ℕ
    place = length before

    at_t : slice_get us place ≡ Some t
    at_t = subst (λ xs. slice_get xs place ≡ Some t) (sym whole) (get-at before later t)

    ended : (e : Ended) × (slice_get es place ≡ Some e) × (e.operation ≡ t.operation)
    ended = get-map (λ (e : Ended). e.operation) es place t.operation (operation_at place t at_t)

    is_returned : (q : Pair) → Among q (returned_by t.operation.effect) → Among q (puts_of before)
    is_returned q there =
        let read = of_read ended.0.operation.effect q (subst (λ (o : Operation). Among q (returned_by o.effect)) (sym ended.2) there) in
        let true_read = Every-at (λ r. IsTrueRead es place r r.value) read.read (reads_in ended.0.operation.effect) (are place ended.0 ended.1) read.there in
        let put : IsOfPut es place read.read read.value = subst (IsTrueRead es place read.read) read.valued true_read in
        subst (λ p. Among p (puts_of before)) read.is (put_before before (t ∷ later) whole put.before put.put put.stands put.earlier (pair_of_read read.read) put.wrote)

    is_new : (p : Pair) → Among p (put_by t.operation.effect) → Among p (puts_of before) → ⊥
    is_new p there was =
        let found = flat_map-Among (λ (v : Traced). put_by v.operation.effect) before p was in
        let at_u = Among-place before found.0 found.1 in
        let less = slice_get-within before at_u.0 found.0 at_u.1 in
        let stands = subst (λ xs. slice_get xs at_u.0 ≡ Some found.0) (sym whole) (get-in_front before (t ∷ later) at_u.0 found.0 at_u.1) in
        let one = distinct at_u.0 place p p (found.0.operation, operation_at at_u.0 found.0 stands, Among-holds (put_by found.0.operation.effect) p found.2)
        (t.operation, operation_at place t at_t, Among-holds (put_by t.operation.effect) p there) refl in
        absurd (omega (arith, one, less))

    is_next : IsNext before t
    is_next = record { returned = is_returned; new = is_new }

  each_next : (before later : List Traced) → us ≡ before ++ later → EachAfter IsNext before later
  each_next before [] whole = tt
  each_next before (t ∷ later) whole = (is_next before t later whole, each_next (before ++ t ∷ []) later (whole ∙ sym (append_assoc before (t ∷ []) later)))

  pub pasts_fixed : AreLeastPasts (operations_in es)
  pasts_fixed = least_pasts_of (operations_in es) (each_next [] us refl)

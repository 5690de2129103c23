-- After every list of acts, the past of each operation is what the operations put that precede it.
use Rattle.std.proofs.Common.{◌≡◌, ℕ, ◌+◌, ◌<◌, true, ◌&&◌, List, [], ◌∷◌, ◌++◌, map, ◌⊎◌, inl, inr, refl, sym, ◌∙◌, ap, subst, arith, append-nil, append_assoc}
use Rattle.std.specs.Prelude.{Some, zero, suc, slice_get, ◌==◌, IsTrue, ◌↔◌}
use Rattle.std.specs.List.{list_any}
use Rattle.std.proofs.lemmas.Bool.Decides.{Decides-eqb, leb_tells}
use Rattle.std.proofs.lemmas.List.{map-append}
use Rattle.cops_types.specs.declared.pairs.Pair.{Pair}
use Rattle.cops_types.specs.Key.{key_eq}
use Rattle.cops_types.specs.Pairs.{holds}
use Rattle.cops_types.proofs.Elements.{Among, Among-left, Among-right, Among-cases, any_intro, any_elim, and_left, and_right, and_true, or_left, or_right, or_cases, slice_get-Among, slice_get-within}
use Rattle.cops_types.proofs.KeyTests.{key_eq-true, key_eq-refl}
use Rattle.cops_types.proofs.PairSets.{Within, holds-Among, Among-holds}
use Rattle.cops_types.proofs.Successive.{EachAfter, each_after-push, each_after-at, Place, place_of, get-left, get-in_front, map-get, get-map}
use Rattle.cops_model.specs.Causal.{Operation, Traced, put_by, returned_by, leads_to, past_after, traced, traced_from}
use Rattle.cops_model.specs.Precedence.{PutsAt, Precedes, Earlier, Returned, Between, AreLeastPasts}
use Rattle.cops_causal.proofs.Answering.{IsNext}
use Rattle.cops_causal.proofs.Histories.{given, past_after-Among, Among-past_after, flat_map-Among, Among-flat_map}

-- ---- the history, place by place

abbrev pub IsTracedBy : List Traced → Traced → Type 0
IsTracedBy before t = t.past ≡ past_after before t.operation

pub traced_by : (earlier : List Traced) (ops : List Operation) → EachAfter IsTracedBy [] earlier → EachAfter IsTracedBy [] (traced_from earlier ops)
traced_by earlier [] each = each
traced_by earlier (o ∷ ops) each =
    let t : Traced = record { operation = o; past = past_after earlier o } in
    traced_by (earlier ++ t ∷ []) ops (each_after-push IsTracedBy [] earlier t each refl)

abbrev pub op_of : Traced → Operation
op_of t = t.operation

pub operations-traced : (earlier : List Traced) (ops : List Operation) → map op_of (traced_from earlier ops) ≡ map op_of earlier ++ ops
operations-traced earlier [] = sym (append-nil (map op_of earlier))
operations-traced earlier (o ∷ ops) =
    let t : Traced = record { operation = o; past = past_after earlier o } in
    operations-traced (earlier ++ t ∷ []) ops ∙ ap (λ os. os ++ ops) (map-append op_of earlier (t ∷ [])) ∙ append_assoc (map op_of earlier) (o ∷ []) ops

-- an element stands at some place
among-place : {A : Type 0} (xs : List A) (x : A) → Among x xs → (i : ℕ) × (slice_get xs i ≡ Some x)
among-place [] x at = absurd at
among-place (y ∷ xs) x (inl e) = (zero, ap Some e)
among-place (y ∷ xs) x (inr at) = let later = among-place xs x at in (suc later.0, later.1)

module _ (ts : List Traced) (past_is : EachAfter IsTracedBy [] ts) (next : EachAfter IsNext [] ts) where
  abbrev ops : List Operation
  ops = map op_of ts

  abbrev at_place : ℕ → Traced → Type 0
  at_place i t = slice_get ts i ≡ Some t

  -- of the operation at a place: what stands before it
  module _ (j : ℕ) (t : Traced) (at_j : at_place j t) where
    abbrev place : Place ts j t
    place = place_of ts j t at_j

    past-before : t.past ≡ past_after place.before t.operation
    past-before = each_after-at IsTracedBy [] place.before place.after t (subst (EachAfter IsTracedBy []) place.whole past_is)

    pub next-before : IsNext place.before t
    next-before = each_after-at IsNext [] place.before place.after t (subst (EachAfter IsNext []) place.whole next)

    -- an earlier operation is before it
    pub before-has : (i : ℕ) (u : Traced) → at_place i u → i < j → Among u place.before
    before-has i u at_i less =
        slice_get-Among place.before i u
        (get-left place.before (t ∷ place.after) i u (subst (λ us. slice_get us i ≡ Some u) place.whole at_i) (let c = place.counted in omega arith))

    -- and what is before it is earlier
    pub before-at : (u : Traced) → Among u place.before → (i : ℕ) × at_place i u × (i < j)
    before-at u among =
        let found = among-place place.before u among in
        let less = slice_get-within place.before found.0 u found.1 in
        (found.0, subst (λ us. slice_get us found.0 ≡ Some u) (sym place.whole) (get-in_front place.before (t ∷ place.after) found.0 u found.1), (let c = place.counted in omega arith))

  -- ---- what leads to an operation precedes it

  leads-precedes : (i j : ℕ) (u t : Traced) → at_place i u → at_place j t → i < j → leads_to u.operation t.operation ≡ true → Precedes ops i j
  leads-precedes i j u t at_i at_j less leads =
      elim (or_cases (key_eq a.session b.session && a.context == b.context) (list_any (holds (returned_by b.effect)) (put_by a.effect)) leads) [
        | inl same ↦ Earlier i j a b less (map-get op_of ts i u at_i) (map-get op_of ts j t at_j) (key_eq-true a.session b.session (and_left (key_eq a.session b.session) (a.context == b.context) same)) ((Decides-eqb a.context b.context).0 (and_right (key_eq a.session b.session) (a.context == b.context) same))
        | inr read ↦ any_elim (holds (returned_by b.effect)) (put_by a.effect) (λ q puts returns.
            Returned i j q b (a, map-get op_of ts i u at_i, Among-holds (put_by a.effect) q puts) (map-get op_of ts j t at_j) returns) read
      ]
    where
      a : Operation
      a = u.operation

      b : Operation
      b = t.operation

  abbrev WasPutBefore : ℕ → Pair → Type 0
  WasPutBefore j p = (i : ℕ) × PutsAt ops i p × Precedes ops i j

  -- each pair of a past was put by an operation that precedes
  past-put : (most j : ℕ) (t : Traced) → j < most → at_place j t → (p : Pair) → Among p t.past → WasPutBefore j p
  past-put zero j t less at_j p there = absurd (omega arith)
  past-put (suc most) j t less at_j p there = by_given (Among-cases p (put_by u.operation.effect) u.past found.3) (λ before. past-put most where_u.0 u (let l = where_u.2 in omega arith) where_u.1 p before)
    where
      found : (u : Traced) × Among u (place j t at_j).before × (leads_to u.operation t.operation ≡ true) × Among p (given u)
      found = past_after-Among (place j t at_j).before t.operation p (subst (Among p) (past-before j t at_j) there)

      u : Traced
      u = found.0

      where_u : (i : ℕ) × at_place i u × (i < j)
      where_u = before-at j t at_j u found.1

      precedes : Precedes ops where_u.0 j
      precedes = leads-precedes where_u.0 j u t where_u.1 at_j where_u.2 found.2

      by_given : Among p (put_by u.operation.effect) ⊎ Among p u.past → (Among p u.past → WasPutBefore where_u.0 p) → WasPutBefore j p
      by_given (inl puts) later = (where_u.0, (u.operation, map-get op_of ts where_u.0 u where_u.1, Among-holds (put_by u.operation.effect) p puts), precedes)
      by_given (inr before) later = let first = later before in (first.0, first.1, Between first.0 where_u.0 j first.2 precedes)

  -- ---- what precedes an operation leads to it

  same_place : (i : ℕ) (u : Traced) (o : Operation) → at_place i u → slice_get ops i ≡ Some o → u.operation ≡ o
  same_place i u o at_i at_o = let both : Some u.operation ≡ Some o = sym (map-get op_of ts i u at_i) ∙ at_o in cc

  -- a returned pair was put before, and only there
  put-earlier : (i j : ℕ) (u t : Traced) → at_place i u → at_place j t → (q : Pair) → Among q (put_by u.operation.effect) → Among q (returned_by t.operation.effect) → i < j
  put-earlier i j u t at_i at_j q puts returns =
      elim (leb_tells j i) [
        | inr less ↦ less.1
        | inl late ↦
            let was = (next-before j t at_j).returned q returns in
            let by = flat_map-Among (λ (v : Traced). put_by v.operation.effect) (place j t at_j).before q was in
            let first = before-at j t at_j by.0 by.1 in
            absurd ((next-before i u at_i).new q puts (Among-flat_map (λ (v : Traced). put_by v.operation.effect) (place i u at_i).before q by.0 (before-has i u at_i first.0 by.0 first.1 (let a = first.2 in let b = late.1 in omega arith)) by.2))
      ]

  abbrev Gives : ℕ → ℕ → Type 0
  Gives i j = (u t : Traced) → at_place i u → at_place j t → Within (given u) t.past

  gives-led : (i j : ℕ) (u t : Traced) → at_place i u → at_place j t → i < j → leads_to u.operation t.operation ≡ true → Within (given u) t.past
  gives-led i j u t at_i at_j less leads p there =
      subst (Among p) (sym (past-before j t at_j)) (Among-past_after (place j t at_j).before t.operation p u (before-has j t at_j i u at_i less) leads there)

  gives-earlier : (i j : ℕ) (one other : Operation) → i < j → slice_get ops i ≡ Some one → slice_get ops j ≡ Some other → one.session ≡ other.session → one.context ≡ other.context → Gives i j
  gives-earlier i j one other less at_one at_other of_session of_context u t at_i at_j =
      let a = same_place i u one at_i at_one in
      let b = same_place j t other at_j at_other in
      let sessions : u.operation.session ≡ t.operation.session = ap (λ (o : Operation). o.session) a ∙ of_session ∙ ap (λ (o : Operation). o.session) (sym b) in
      let contexts : u.operation.context ≡ t.operation.context = ap (λ (o : Operation). o.context) a ∙ of_context ∙ ap (λ (o : Operation). o.context) (sym b) in
      let same = and_true (key_eq u.operation.session t.operation.session) (u.operation.context == t.operation.context)
      (ap (key_eq u.operation.session) (sym sessions) ∙ key_eq-refl u.operation.session) ((Decides-eqb u.operation.context t.operation.context).1 contexts) in
      gives-led i j u t at_i at_j less
      (or_left (key_eq u.operation.session t.operation.session && u.operation.context == t.operation.context) (list_any (holds (returned_by t.operation.effect)) (put_by u.operation.effect)) same)

  gives-returned : (i j : ℕ) (q : Pair) (reader : Operation) → PutsAt ops i q → slice_get ops j ≡ Some reader → IsTrue (holds (returned_by reader.effect) q) → Gives i j
  gives-returned i j q reader puts at_reader returns u t at_i at_j =
      let put = subst (λ (o : Operation). Among q (put_by o.effect)) (sym (same_place i u puts.0 at_i puts.1)) (holds-Among (put_by puts.0.effect) q puts.2) in
      let read = subst (λ (o : Operation). Among q (returned_by o.effect)) (sym (same_place j t reader at_j at_reader)) (holds-Among (returned_by reader.effect) q returns) in
      gives-led i j u t at_i at_j (put-earlier i j u t at_i at_j q put read)
      (or_right (key_eq u.operation.session t.operation.session && u.operation.context == t.operation.context) (list_any (holds (returned_by t.operation.effect)) (put_by u.operation.effect))
      (any_intro (holds (returned_by t.operation.effect)) q (put_by u.operation.effect) put (Among-holds (returned_by t.operation.effect) q read)))

  -- the later of two related places is one of the history
  later_at : (i j : ℕ) → Precedes ops i j → (t : Traced) × at_place j t
  later_at i j (Earlier one other first second less at_first at_second of_session of_context) = let found = get-map op_of ts other second at_second in (found.0, found.1)
  later_at i j (Returned one other pair reader puts at_reader returns) = let found = get-map op_of ts other reader at_reader in (found.0, found.1)
  later_at i j (Between one third other first second) = later_at third other second

  precedes-gives : (i j : ℕ) → Precedes ops i j → Gives i j
  precedes-gives i j (Earlier one other first second less at_first at_second of_session of_context) = gives-earlier one other first second less at_first at_second of_session of_context
  precedes-gives i j (Returned one other pair reader puts at_reader returns) = gives-returned one other pair reader puts at_reader returns
  precedes-gives i j (Between one third other first second) = λ u t at_i at_j p there.
      let v = later_at one third first in
      precedes-gives third other second v.0 t v.1 at_j p (Among-right p (put_by v.0.operation.effect) v.0.past (precedes-gives one third first u v.0 at_i v.1 p there))

  put-past : (j : ℕ) (t : Traced) → at_place j t → (p : Pair) → WasPutBefore j p → Among p t.past
  put-past j t at_j p was =
      let puts = was.1 in
      let found = get-map op_of ts was.0 puts.0 puts.1 in
      let put = subst (λ (o : Operation). Among p (put_by o.effect)) (sym found.2) (holds-Among (put_by puts.0.effect) p puts.2) in
      precedes-gives was.0 j was.2 found.0 t found.1 at_j p (Among-left p (put_by found.0.operation.effect) found.0.past put)

-- of operations each of which returned what was put before it
pub least_pasts_of : (os : List Operation) → EachAfter IsNext [] (traced os) → AreLeastPasts os
least_pasts_of all next = (same, λ place t at_t pair. subst (λ os. PastIs os place t pair) same (past place t at_t pair))
  where
    ts : List Traced
    ts = traced all

    same : map op_of ts ≡ all
    same = operations-traced [] all

    past_is : EachAfter IsTracedBy [] ts
    past_is = traced_by [] all tt

    PastIs : List Operation → ℕ → Traced → Pair → Type 0
    PastIs os place t pair = IsTrue (holds t.past pair) ↔ ((before : ℕ) × PutsAt os before pair × Precedes os before place)

    past : (place : ℕ) (t : Traced) → slice_get ts place ≡ Some t → (pair : Pair) → PastIs (map op_of ts) place t pair
    past place t at_t pair = (
      λ held. past-put ts past_is next (place + 1) place t (omega arith) at_t pair (holds-Among t.past pair held),
      λ was. Among-holds t.past pair (put-past ts past_is next place t at_t pair was),
    )

-- Contexts in a table stand for those of the definitions.
use Rattle.std.proofs.Common.{◌≡◌, ℕ, Bool, true, false, cond, ◌==◌, List, [], ◌∷◌, ◌++◌, length, refl, sym, ◌∙◌, ap, subst, arith, append-nil}
use Rattle.std.specs.Prelude.{Option, Some, None, find, filter, is_some, not, unwrap_or}
use Rattle.std.specs.Cmp.{IsTotalOrder}
use Rattle.std.specs.Option.{option_map}
use Rattle.std.specs.Ordering.{nat_cmp, on}
use Rattle.std.specs.declared.cmp.Ordering.TheVariants.{Less}
use Rattle.std.proofs.lemmas.Bool.Decides.{nat_tests}
use Rattle.std.proofs.lemmas.Cmp.{nat_cmp_total, on_total}
use Rattle.cops_types.specs.Context.{Observation}
use Rattle.cops_types.proofs.Rising.{Rises-is_rising}
use Rattle.cops_types.proofs.SortedSet.{AllAbove, Rises}
use Rattle.cops_context.specs.Lists.{Lists, ListsStandFor}
use Rattle.cops_handles.specs.declared.tables.Open.{Open}
use Rattle.cops_handles.specs.Rows.{AreIssued, row_at, replaced, closed}
use Rattle.cops_model.specs.Session.{OpenContext, context_extended}
use Rattle.cops_session.specs.SessionStands.{ContextsStandFor, obs_in}

by_number_total : IsTotalOrder (on (λ (o : Open Lists). o.number) nat_cmp)
by_number_total = on_total (λ (o : Open Lists). o.number) nat_cmp_total

above_differs : (a b n : ℕ) → a ≡ n → nat_cmp a b ≡ Less → (b == n) ≡ false
above_differs a b n is less = grind (arith, nat_tests)

is_number : (a n : ℕ) → (a == n) ≡ true → a ≡ n
is_number a n h = grind (arith, nat_tests)

abbrev has : ℕ → OpenContext → Bool
has number c = c.number == number

-- ---- the context of a number

StandsInBoth : Option Lists → Option OpenContext → Type 0
StandsInBoth None None = Unit {0}
StandsInBoth (Some lists) (Some c) = ListsStandFor lists c.obs
StandsInBoth None (Some c) = ⊥
StandsInBoth (Some lists) None = ⊥

found_in_both : (number : ℕ) (rows : List (Open Lists)) (opens : List OpenContext) → ContextsStandFor rows opens → StandsInBoth (row_at number rows) (find (has number) opens)
unfolding StandsInBoth
found_in_both number [] [] stand = tt
found_in_both number [] (c ∷ opens) stand = absurd stand
found_in_both number (row ∷ rows) [] stand = absurd stand
found_in_both number (row ∷ rows) (c ∷ opens) stand =
    elim (row.number == number) as (λ b. (row.number == number) ≡ b → StandsInBoth (row_at number (row ∷ rows)) (find (has number) (c ∷ opens))) [
      | true ↦ λ is.
          let own : (c.number == number) ≡ true = ap (λ n. n == number) (sym stand.0) ∙ is in
          rw (is, own) stand.1
      | false ↦ λ is.
          let own : (c.number == number) ≡ false = ap (λ n. n == number) (sym stand.0) ∙ is in
          rw (is, own) (found_in_both number rows opens stand.2)
    ] refl

pub obs_in-stands : (number : ℕ) (rows : List (Open Lists)) (opens : List OpenContext) (lists : Lists) → ContextsStandFor rows opens → row_at number rows ≡ Some lists → ListsStandFor lists (obs_in number opens)
unfolding StandsInBoth
obs_in-stands number rows opens lists stand is = by (find (has number) opens) (subst (λ (o : Option Lists). StandsInBoth o (find (has number) opens)) is (found_in_both number rows opens stand))
  where
    by : (o : Option OpenContext) → StandsInBoth (Some lists) o → ListsStandFor lists (unwrap_or (option_map (λ c. c.obs) o) [])
    by (Some c) h = h
    by None h = absurd h

pub is_open-some : (number : ℕ) (rows : List (Open Lists)) (opens : List OpenContext) (lists : Lists) → ContextsStandFor rows opens → row_at number rows ≡ Some lists → is_some (find (λ c. c.number == number) opens) ≡ true
unfolding StandsInBoth
is_open-some number rows opens lists stand is = by (find (has number) opens) (subst (λ (o : Option Lists). StandsInBoth o (find (has number) opens)) is (found_in_both number rows opens stand))
  where
    by : (o : Option OpenContext) → StandsInBoth (Some lists) o → is_some o ≡ true
    by (Some c) h = refl
    by None h = absurd h

pub is_open-none : (number : ℕ) (rows : List (Open Lists)) (opens : List OpenContext) → ContextsStandFor rows opens → row_at number rows ≡ None → is_some (find (λ c. c.number == number) opens) ≡ false
unfolding StandsInBoth
is_open-none number rows opens stand is = by (find (has number) opens) (subst (λ (o : Option Lists). StandsInBoth o (find (has number) opens)) is (found_in_both number rows opens stand))
  where
    by : (o : Option OpenContext) → StandsInBoth None o → is_some o ≡ false
    by (Some c) h = absurd h
    by None h = refl

pub length-stands : (rows : List (Open Lists)) (opens : List OpenContext) → ContextsStandFor rows opens → length rows ≡ length opens
length-stands [] [] stand = refl
length-stands [] (c ∷ opens) stand = absurd stand
length-stands (row ∷ rows) [] stand = absurd stand
length-stands (row ∷ rows) (c ∷ opens) stand = omega (arith, length-stands rows opens stand.2)

-- ---- a context more, or less

pub ContextsStandFor-opened : (rows : List (Open Lists)) (opens : List OpenContext) (row : Open Lists) (c : OpenContext) → ContextsStandFor rows opens → row.number ≡ c.number → ListsStandFor row.row c.obs →
    ContextsStandFor (rows ++ row ∷ []) (opens ++ c ∷ [])
ContextsStandFor-opened [] [] row c stand number is = (number, is, tt)
ContextsStandFor-opened [] (d ∷ opens) row c stand number is = absurd stand
ContextsStandFor-opened (r ∷ rows) [] row c stand number is = absurd stand
ContextsStandFor-opened (r ∷ rows) (d ∷ opens) row c stand number is = (stand.0, stand.1, ContextsStandFor-opened rows opens row c stand.2 number is)

pub ContextsStandFor-closed : (number : ℕ) (rows : List (Open Lists)) (opens : List OpenContext) → ContextsStandFor rows opens →
    ContextsStandFor (closed number rows) (filter (λ c. not (c.number == number)) opens)
ContextsStandFor-closed number [] [] stand = tt
ContextsStandFor-closed number [] (c ∷ opens) stand = absurd stand
ContextsStandFor-closed number (row ∷ rows) [] stand = absurd stand
ContextsStandFor-closed number (row ∷ rows) (c ∷ opens) stand =
    elim (row.number == number) as (λ b. (row.number == number) ≡ b → ContextsStandFor (closed number (row ∷ rows)) (filter (λ c. not (c.number == number)) (c ∷ opens))) [
      | true ↦ λ is.
          let own : (c.number == number) ≡ true = ap (λ n. n == number) (sym stand.0) ∙ is in
          rw (is, own) (ContextsStandFor-closed number rows opens stand.2)
      | false ↦ λ is.
          let own : (c.number == number) ≡ false = ap (λ n. n == number) (sym stand.0) ∙ is in
          rw (is, own) (stand.0, stand.1, ContextsStandFor-closed number rows opens stand.2)
    ] refl

-- ---- a context that has seen more

tail_stays : (x : Open Lists) (number : ℕ) (new : Lists) (more : List Observation) (rows : List (Open Lists)) (opens : List OpenContext) → x.number ≡ number → AllAbove by_number_total x rows → ContextsStandFor rows opens →
    ContextsStandFor (replaced number new rows) (context_extended number more opens)
tail_stays x number new more [] [] is above stand = tt
tail_stays x number new more [] (c ∷ opens) is above stand = absurd stand
tail_stays x number new more (row ∷ rows) [] is above stand = absurd stand
tail_stays x number new more (row ∷ rows) (c ∷ opens) is above stand =
    let other : (row.number == number) ≡ false = above_differs x.number row.number number is above.0 in
    let own : (c.number == number) ≡ false = ap (λ n. n == number) (sym stand.0) ∙ other in
    rw (other, own) (stand.0, stand.1, tail_stays x number new more rows opens is above.1 stand.2)

extended : (number : ℕ) (before new : Lists) (more : List Observation) (rows : List (Open Lists)) (opens : List OpenContext) → Rises by_number_total rows → row_at number rows ≡ Some before →
    ((obs : List Observation) → ListsStandFor before obs → ListsStandFor new (obs ++ more)) → ContextsStandFor rows opens → ContextsStandFor (replaced number new rows) (context_extended number more opens)
extended number before new more [] opens rises is sees stand = cc
extended number before new more (row ∷ rows) [] rises is sees stand = absurd stand
extended number before new more (row ∷ rows) (c ∷ opens) rises is sees stand =
    elim (row.number == number) as (λ b. (row.number == number) ≡ b → ContextsStandFor (replaced number new (row ∷ rows)) (context_extended number more (c ∷ opens))) [
      | true ↦ λ own.
          let same : (c.number == number) ≡ true = ap (λ n. n == number) (sym stand.0) ∙ own in
          let found = rw own at is in
          let this : row.row ≡ before = cc in
          rw (own, same) (
            stand.0,
            sees c.obs (subst (λ (l : Lists). ListsStandFor l c.obs) this stand.1),
            tail_stays row number new more rows opens (is_number row.number number own) rises.0 stand.2,
          )
      | false ↦ λ other.
          let same : (c.number == number) ≡ false = ap (λ n. n == number) (sym stand.0) ∙ other in
          rw (other, same) (stand.0, stand.1, extended number before new more rows opens rises.1 (rw other at is) sees stand.2)
    ] refl

pub ContextsStandFor-extended : (number next : ℕ) (before new : Lists) (more : List Observation) (rows : List (Open Lists)) (opens : List OpenContext) → AreIssued rows next → row_at number rows ≡ Some before →
    ((obs : List Observation) → ListsStandFor before obs → ListsStandFor new (obs ++ more)) → ContextsStandFor rows opens → ContextsStandFor (replaced number new rows) (context_extended number more opens)
ContextsStandFor-extended number next before new more rows opens issued is sees stand = extended number before new more rows opens (Rises-is_rising by_number_total rows issued.rising) is sees stand

pub context_extended-nothing : (number : ℕ) (opens : List OpenContext) → context_extended number [] opens ≡ opens
context_extended-nothing number [] = refl
context_extended-nothing number (c ∷ opens) =
    elim (c.number == number) as (λ b. cond b (record { number = c.number; obs = c.obs ++ [] }) c ∷ context_extended number [] opens ≡ c ∷ opens) [
      | true ↦ λ i. record { number = c.number; obs = append-nil c.obs i } ∷ context_extended-nothing number opens i
      | false ↦ ap (λ cs. c ∷ cs) (context_extended-nothing number opens)
    ]

pub ContextsStandFor-same : (number next : ℕ) (before new : Lists) (rows : List (Open Lists)) (opens : List OpenContext) → AreIssued rows next → row_at number rows ≡ Some before →
    ((obs : List Observation) → ListsStandFor before obs → ListsStandFor new obs) → ContextsStandFor rows opens → ContextsStandFor (replaced number new rows) opens
ContextsStandFor-same number next before new rows opens issued is sees stand =
    subst (λ (cs : List OpenContext). ContextsStandFor (replaced number new rows) cs) (context_extended-nothing number opens)
    (ContextsStandFor-extended number next before new [] rows opens issued is (λ obs h. subst (λ (os : List Observation). ListsStandFor new os) (sym (append-nil obs)) (sees obs h)) stand)

-- ---- a context that changes in its place

unchanged_tail : (x : Open Lists) (number : ℕ) (new : Lists) (rows : List (Open Lists)) → x.number ≡ number → AllAbove by_number_total x rows → replaced number new rows ≡ rows
unchanged_tail x number new [] is above = refl
unchanged_tail x number new (row ∷ rows) is above =
    let other : (row.number == number) ≡ false = above_differs x.number row.number number is above.0 in
    rw other (ap (λ rs. row ∷ rs) (unchanged_tail x number new rows is above.1))

unchanged : (number : ℕ) (before : Lists) (rows : List (Open Lists)) → Rises by_number_total rows → row_at number rows ≡ Some before → replaced number before rows ≡ rows
unchanged number before [] rises is = refl
unchanged number before (row ∷ rows) rises is =
    elim (row.number == number) as (λ c. (row.number == number) ≡ c → replaced number before (row ∷ rows) ≡ row ∷ rows) [
      | true ↦ λ own.
          let found = rw own at is in
          let this : row.row ≡ before = cc in
          rw own (λ i. record { number = row.number; row = sym this i } ∷ unchanged_tail row number before rows (is_number row.number number own) rises.0 i)
      | false ↦ λ other. rw other (ap (λ rs. row ∷ rs) (unchanged number before rows rises.1 (rw other at is)))
    ] refl

pub replaced-same : (number next : ℕ) (before : Lists) (rows : List (Open Lists)) → AreIssued rows next → row_at number rows ≡ Some before → replaced number before rows ≡ rows
replaced-same number next before rows issued is = unchanged number before rows (Rises-is_rising by_number_total rows issued.rising) is

pub row_at-replaced : (number : ℕ) (before new : Lists) (rows : List (Open Lists)) → row_at number rows ≡ Some before → row_at number (replaced number new rows) ≡ Some new
row_at-replaced number before new [] is = cc
row_at-replaced number before new (row ∷ rows) is =
    elim (row.number == number) as (λ c. (row.number == number) ≡ c → row_at number (replaced number new (row ∷ rows)) ≡ Some new) [
      | true ↦ λ own. rw (own, own) refl
      | false ↦ λ other. rw (other, other) (row_at-replaced number before new rows (rw other at is))
    ] refl

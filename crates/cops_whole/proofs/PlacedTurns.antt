-- Turns at nodes that exist, for any machines.
use Rattle.std.proofs.Common.{ℕ, ◌<◌, true, false, cond, ◌==◌, List, [], ◌∷◌, refl, subst}
use Rattle.std.specs.Prelude.{filter}
use Rattle.std.specs.List.{AllByRecursion}
use Rattle.std.proofs.lemmas.Bool.Decides.{Decides-eqb}
use Rattle.cops_gate.specs.declared.history.Turn.{Turn}
use Rattle.cops_gate.specs.History.{AtNodes, turns_of}

module _ {C R : Type 0} where
  abbrev pub ArePlaced : ℕ → List (Turn C R) → Type 0
  ArePlaced count log = AllByRecursion (λ (t : Turn C R). t.node < count) log

  pub placed : (count : ℕ) (log : List (Turn C R)) → AtNodes count log → ArePlaced count log
  placed count [] there = tt
  placed count (t ∷ ts) there = (there.0, placed count ts there.1)

  pub placed_of : (count seat : ℕ) (log : List (Turn C R)) → ArePlaced count log → ArePlaced count (turns_of seat log)
  placed_of count seat [] all = tt
  placed_of count seat (t ∷ ts) all = elim (t.seat == seat) as (λ b. ArePlaced count (cond b (t ∷ turns_of seat ts) (turns_of seat ts))) [
    | true ↦ (all.0, placed_of count seat ts all.1)
    | false ↦ placed_of count seat ts all.1
  ]

  -- of all turns with each key, so of all turns
  pub of_each : (P : Turn C R → Type 0) (key : Turn C R → ℕ) (count : ℕ) (log : List (Turn C R)) → AllByRecursion (λ t. key t < count) log → ((n : ℕ) → n < count → AllByRecursion P (filter (λ t. key t == n) log)) → AllByRecursion P log
  of_each P key count [] there all = tt
  of_each P key count (t ∷ ts) there all =
      let own : AllByRecursion P (t ∷ filter (λ u. key u == key t) ts) =
      subst (λ b. AllByRecursion P (cond b (t ∷ filter (λ u. key u == key t) ts) (filter (λ u. key u == key t) ts))) ((Decides-eqb (key t) (key t)).1 refl) (all (key t) there.0) in
      (own.0, of_each P key count ts there.1 (λ n within. later n (all n within)))
    where
      later : (n : ℕ) → AllByRecursion P (filter (λ u. key u == n) (t ∷ ts)) → AllByRecursion P (filter (λ u. key u == n) ts)
      later n = elim (key t == n) as (λ b. AllByRecursion P (cond b (t ∷ filter (λ u. key u == n) ts) (filter (λ u. key u == n) ts)) → AllByRecursion P (filter (λ u. key u == n) ts)) [
        | true ↦ λ h. h.1
        | false ↦ λ h. h
      ]

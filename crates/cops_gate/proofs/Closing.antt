-- The machines of a table that was closed, taken out one by one.
use Rattle.std.proofs.Common.{◌≡◌, ◌≢◌, ℕ, zero, suc, ◌+◌, ◌<◌, ◌≤◌, ⊎_elim, Bool, true, false, List, [], ◌∷◌, ◌++◌, length, get_or, set, sym, refl, ap, ◌∙◌, subst, arith, Option, Some, IfSome}
use mathlib.Core.Logic.{dite}
use mathlib.Core.Option.{some-injective, some-ne-none}
use native.Mathlib.Decide.{ℕ_discrete}
use lib.ListN.{get_elem?}
use Rattle.cops_gate.specs.Seats.{AreAtRest, IsAtRest}
use Rattle.cops_gate.proofs.Keeps.{at_end}

module _ {M : Type 0} where
  pub none_left : (ws : List ℕ) (hs : List M) (given : List (Option M)) → given ≡ [] → AreAtRest ws hs given
  none_left ws hs given empty n m at = absurd (some-ne-none (Some m) (sym (ap (λ l. get_elem? l n) (sym empty) ∙ at)))

  some_here : (ws : List ℕ) (hs : List M) (n : ℕ) (o : Option M) (m : M) → IfSome o (IsAtRest ws hs n) → o ≡ Some m → IsAtRest ws hs n m
  some_here ws hs n o m left is = subst (λ (x : Option M). IfSome x (IsAtRest ws hs n)) is left

  pub one_more : (ws : List ℕ) (hs : List M) (given given' : List (Option M)) (n : ℕ) (o : Option M) → length given ≡ n → given' ≡ given ++ o ∷ [] → AreAtRest ws hs given → IfSome o (IsAtRest ws hs n) → AreAtRest ws hs given'
  one_more ws hs given given' n o many is left here k m at = ⊎_elim (left k m)
      (λ (t : (k ≡ length given) × (o ≡ Some m)). subst (λ j. IsAtRest ws hs j m) (sym (t.0 ∙ many)) (some_here ws hs n o m here t.1))
      (at_end given o (Some m) k (ap (λ l. get_elem? l k) (sym is) ∙ at))

  -- the machine of the only node
  pub only_left : (ws : List ℕ) (hs : List M) (o : Option M) → IfSome o (IsAtRest ws hs 0) → AreAtRest ws hs (o ∷ [])
  only_left ws hs o here zero m at = some_here ws hs 0 o m here (some-injective o (Some m) at)
  only_left ws hs o here (suc n) m at = absurd (some-ne-none (Some m) (sym at))

flag_else : (fs : List Bool) (i j : ℕ) → j ≢ i → get_or (set fs i false) j false ≡ get_or fs j false
flag_else [] i j n = refl
flag_else (w ∷ ws) zero zero n = absurd (n refl)
flag_else (w ∷ ws) zero (suc j) n = refl
flag_else (w ∷ ws) (suc i) zero n = refl
flag_else (w ∷ ws) (suc i) (suc j) n = flag_else ws i j (λ e. n (ap suc e))

flag_here : (fs : List Bool) (i : ℕ) → get_or (set fs i false) i false ≡ false
flag_here [] i = refl
flag_here (w ∷ ws) zero = refl
flag_here (w ∷ ws) (suc i) = flag_here ws i

-- what is filled, once one more is taken
pub still_filled : (fs fs' : List Bool) (n len : ℕ) → fs' ≡ set fs n false → ((k : ℕ) → n ≤ k → k < len → get_or fs k false ≡ true) → (k : ℕ) → n + 1 ≤ k → k < len → get_or fs' k false ≡ true
still_filled fs fs' n len is full k above below = ap (λ l. get_or l k false) is ∙ (flag_else fs n k (λ e. omega arith) ∙ full k (omega arith) below)

pub still_empty : (fs fs' : List Bool) (n : ℕ) → fs' ≡ set fs n false → ((k : ℕ) → k < n → get_or fs k false ≡ false) → (k : ℕ) → k < n + 1 → get_or fs' k false ≡ false
still_empty fs fs' n is empty k below = ap (λ l. get_or l k false) is ∙ dite (ℕ_discrete k n) (λ e. subst (λ j. get_or (set fs n false) j false ≡ false) (sym e) (flag_here fs n)) (λ ne. flag_else fs n k ne ∙ empty k (omega arith))

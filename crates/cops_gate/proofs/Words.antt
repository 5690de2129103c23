-- The words of a table, and the stages of a seat.
use Rattle.std.proofs.Common.{◌≡◌, ◌≢◌, ℕ, zero, suc, ◌+◌, ◌*◌, ◌<◌, true, false, List, [], ◌∷◌, length, get_or, set, sym, refl, ap, subst, arith}
use mathlib.Core.Option.{some, some-injective, some-ne-none}
use lib.ListN.{get_elem?}
use Rattle.cops_gate.specs.declared.board.Stage.{Stage}
use Rattle.cops_gate.specs.declared.board.Stage.TheVariants.{Idle, Waits, Holds}
use Rattle.cops_gate.specs.Rule.{ticket_at, serving_at}

-- words
pub word_else : (ws : List ℕ) (i j x : ℕ) → j ≢ i → get_or (set ws i x) j 0 ≡ get_or ws j 0
word_else [] i j x n = refl
word_else (w ∷ ws) zero zero x n = absurd (n refl)
word_else (w ∷ ws) zero (suc j) x n = refl
word_else (w ∷ ws) (suc i) zero x n = refl
word_else (w ∷ ws) (suc i) (suc j) x n = word_else ws i j x (λ e. n (ap suc e))

pub word_here : (ws : List ℕ) (i x : ℕ) → i < length ws → get_or (set ws i x) i 0 ≡ x
word_here [] i x h = absurd (omega arith)
word_here (w ∷ ws) zero x h = refl
word_here (w ∷ ws) (suc i) x h = word_here ws i x (omega arith)

-- a word that isn't 0 is in the table
pub word_there : (ws : List ℕ) (i x : ℕ) → get_or ws i 0 ≡ x → 0 < x → i < length ws
word_there [] i x is more = absurd (omega (arith, is, more))
word_there (w ∷ ws) zero x is more = omega arith
word_there (w ∷ ws) (suc i) x is more = let within = word_there ws i x is more in omega (arith, within)

pub word_at : (ws : List ℕ) (i x : ℕ) → get_elem? ws i ≡ some x → get_or ws i 0 ≡ x
word_at [] i x e = absurd (some-ne-none x (sym e))
word_at (w ∷ ws) zero x e = some-injective w x e
word_at (w ∷ ws) (suc i) x e = word_at ws i x e

-- where the words of a node lie
pub apart_words : (m n : ℕ) → 16 * m ≡ 16 * n → m ≡ n
apart_words m n e = omega arith

pub odd_words : (m n : ℕ) → 16 * m + 1 ≡ 16 * n → ⊥
odd_words m n e = omega arith

-- a new ticket at the node n
pub ticket_else : (ws : List ℕ) (n m x : ℕ) → m ≢ n → ticket_at (set ws (16 * n) x) m ≡ ticket_at ws m
ticket_else ws n m x other = word_else ws (16 * n) (16 * m) x (λ e. other (apart_words m n e))

pub ticket_here : (ws : List ℕ) (n x : ℕ) → 16 * n < length ws → ticket_at (set ws (16 * n) x) n ≡ x
ticket_here ws n x inside = word_here ws (16 * n) x inside

pub ticket_serving : (ws : List ℕ) (n m x : ℕ) → serving_at (set ws (16 * n) x) m ≡ serving_at ws m
ticket_serving ws n m x = word_else ws (16 * n) (16 * m + 1) x (odd_words m n)

-- the next turn at the node n
pub serving_ticket : (ws : List ℕ) (n m x : ℕ) → ticket_at (set ws (16 * n + 1) x) m ≡ ticket_at ws m
serving_ticket ws n m x = word_else ws (16 * n + 1) (16 * m) x (λ e. odd_words n m (sym e))

pub serving_else : (ws : List ℕ) (n m x : ℕ) → m ≢ n → serving_at (set ws (16 * n + 1) x) m ≡ serving_at ws m
serving_else ws n m x other = word_else ws (16 * n + 1) (16 * m + 1) x (λ e. other (apart_words m n (omega arith)))

pub serving_here : (ws : List ℕ) (n x : ℕ) → 16 * n + 1 < length ws → serving_at (set ws (16 * n + 1) x) n ≡ x
serving_here ws n x inside = word_here ws (16 * n + 1) x inside

pub true_not_false : true ≡ false → ⊥
true_not_false e = cc

-- stages
pub ticket_of : Stage → ℕ
ticket_of Idle = 0
ticket_of (Waits n t) = t
ticket_of (Holds n t) = t

pub node_of : Stage → ℕ
node_of Idle = 0
node_of (Waits n t) = n
node_of (Holds n t) = n

pub IsWaiting : Stage → Type 0
IsWaiting (Waits n t) = Unit {0}
IsWaiting _ = ⊥

pub IsHolding : Stage → Type 0
IsHolding (Holds n t) = Unit {0}
IsHolding _ = ⊥

pub waits_not_holds : (n t m u : ℕ) → Waits n t ≡ Holds m u → ⊥
unfolding IsWaiting
waits_not_holds n t m u e = subst IsWaiting e tt

pub idle_not_holds : (m u : ℕ) → Idle ≡ Holds m u → ⊥
unfolding IsHolding
idle_not_holds m u e = subst IsHolding (sym e) tt

pub waits_same : (n t m u : ℕ) → Waits n t ≡ Waits m u → (n ≡ m) × (t ≡ u)
unfolding ticket_of node_of
waits_same n t m u e = (ap node_of e, ap ticket_of e)

pub holds_same : (n t m u : ℕ) → Holds n t ≡ Holds m u → (n ≡ m) × (t ≡ u)
unfolding ticket_of node_of
holds_same n t m u e = (ap node_of e, ap ticket_of e)

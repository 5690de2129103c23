-- Precedence between the operations of a run: the least relation closed under three rules.
use Rattle.std.specs.Prelude.{◌≡◌, ℕ, ◌<◌, List, map, slice_get, Some, IsTrue, ◌↔◌}
use Rattle.cops_types.specs.declared.pairs.Pair.{Pair}
use Rattle.cops_types.specs.Pairs.{holds}
use Rattle.cops_model.specs.Causal.{Operation, Traced, put_by, returned_by, traced}

-- the operation at this place put the pair
abbrev pub PutsAt : List Operation → ℕ → Pair → Type 0
PutsAt ops place pair = (o : Operation) × (slice_get ops place ≡ Some o) × IsTrue (holds (put_by o.effect) pair)

-- one operation is earlier than the other in the same context, or put a pair that the other returned, or a third lies between them
pub data Precedes (ops : List Operation) : ℕ → ℕ → Type 0 where
  Earlier : (one other : ℕ) (a b : Operation) → one < other → slice_get ops one ≡ Some a → slice_get ops other ≡ Some b → a.session ≡ b.session → a.context ≡ b.context → Precedes ops one other
  Returned : (one other : ℕ) (pair : Pair) (o : Operation) → PutsAt ops one pair → slice_get ops other ≡ Some o → IsTrue (holds (returned_by o.effect) pair) → Precedes ops one other
  Between : (one third other : ℕ) → Precedes ops one third → Precedes ops third other → Precedes ops one other

-- the past of each operation consists of exactly the pairs put by the operations that precede it
abbrev pub AreLeastPasts : List Operation → Type 0
AreLeastPasts ops =
    (map (λ t. t.operation) (traced ops) ≡ ops)
    × ((place : ℕ) (t : Traced) → slice_get (traced ops) place ≡ Some t → (pair : Pair) →
    IsTrue (holds t.past pair) ↔ ((before : ℕ) × PutsAt ops before pair × Precedes ops before place))

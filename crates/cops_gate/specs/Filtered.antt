-- What a history of all nodes says of each node by itself.
use Rattle.std.specs.Prelude.{◌≡◌, ◌≢◌, ℕ, List, [], ◌∷◌, ◌++◌, Option, None}
use mathlib.Core.Option.{some}
use lib.ListN.{get_elem?}
use Rattle.cops_gate.specs.declared.history.Entry.{Entry}
use Rattle.cops_gate.specs.declared.history.Turn.{Turn}
use Rattle.cops_gate.specs.History.{turn, turns_of, turns_at, StartsWith, Leads, IsLegal, Grows, LeavesLacking}

module _ {M C R : Type 0} (turns : M → ℕ → ℕ → C → R → M → Type 0) where
  -- The history of a node after a turn there is legal, has all that the seat had seen of it as a prefix, and ends with the new turn. Of this
  -- seat it has the earlier turns and this one
  abbrev pub GrowsThere : M → ℕ → ℕ → List (Turn C R) → Option (Entry C R) → List (Turn C R) → Type 0
  GrowsThere first number node before e after =
      IsLegal turns first after
      × ((between : List (Turn C R)) × (after ≡ (before ++ between) ++ turn number node e ∷ []))
      × (turns_of number after ≡ turns_of number before ++ turn number node e ∷ [])

  -- the history of another node is legal, and has all that the seat had seen of it as a prefix. Nothing new there is a turn of this seat
  abbrev pub SeesThere : M → ℕ → List (Turn C R) → List (Turn C R) → Type 0
  SeesThere first number before after = IsLegal turns first after × StartsWith after before × (turns_of number after ≡ turns_of number before)

  -- The history of the node ends with a no-op turn of this seat. In the state after the turns before it, a machine may run out of memory for
  -- this slot and call
  abbrev pub LacksThere : (M → ℕ → C → Type 0) → M → ℕ → ℕ → ℕ → C → List (Turn C R) → Type 0
  LacksThere may_lack first number node slot call after =
      (earlier : List (Turn C R)) × (state : M) × (after ≡ earlier ++ turn number node None ∷ []) × Leads turns first earlier state × may_lack state slot call

  abbrev pub TurnsAreOfOneNode : Type 0
  TurnsAreOfOneNode = (states : List M) (first : M) (number node : ℕ) (before after : List (Turn C R)) (e : Option (Entry C R)) → get_elem? states node ≡ some first
      → Grows turns states number node before e after → GrowsThere first number node (turns_at node before) e (turns_at node after)

  abbrev pub OtherNodesAreSeen : Type 0
  OtherNodesAreSeen = (states : List M) (first : M) (number node other : ℕ) (before after : List (Turn C R)) (e : Option (Entry C R)) → other ≢ node → get_elem? states other ≡ some first
      → Grows turns states number node before e after → SeesThere first number (turns_at other before) (turns_at other after)

  abbrev pub LackingIsOfOneNode : (M → ℕ → C → Type 0) → Type 0
  LackingIsOfOneNode may_lack = (states : List M) (first : M) (number node slot : ℕ) (call : C) (after : List (Turn C R)) → get_elem? states node ≡ some first
      → LeavesLacking turns may_lack states number node slot call after → LacksThere may_lack first number node slot call (turns_at node after)

-- A history of all nodes as a run of the cluster.
use Rattle.std.specs.Prelude.{◌≡◌, ℕ, List, [], ◌∷◌, ◌++◌, Option}
use mathlib.Core.Option.{some}
use lib.ListN.{get_elem?}
use Rattle.cops_gate.specs.declared.history.Turn.{Turn}
use Rattle.cops_gate.specs.declared.history.Entry.{Entry}
use Rattle.cops_gate.specs.History.{turn, turns_at, StartsWith, Leads, IsWhole, Runs, Grows}

module _ {M C R : Type 0} (turns : M → ℕ → ℕ → C → R → M → Type 0) where
  -- a history that is legal at each node is a run of the cluster
  abbrev pub WholeHistoriesRun : Type 0
  WholeHistoriesRun = (states : List M) (log : List (Turn C R)) → IsWhole turns states log → (after : List M) × Runs turns states log after

  -- a run leaves at each node what the turns there leave
  abbrev pub RunsLeadEachNode : Type 0
  RunsLeadEachNode = (states after : List M) (log : List (Turn C R)) (node : ℕ) (first last : M) → Runs turns states log after → get_elem? states node ≡ some first → get_elem? after node ≡ some last
      → Leads turns first (turns_at node log) last

  -- A turn that a seat has made is the last of a run, which begins with all that the seat had seen at all nodes
  abbrev pub TurnsEndARun : Type 0
  TurnsEndARun = (states : List M) (number node : ℕ) (before after : List (Turn C R)) (e : Option (Entry C R)) → Grows turns states number node before e after
      → (earlier : List (Turn C R)) × (between last : List M) × StartsWith earlier before × (after ≡ earlier ++ turn number node e ∷ [])
      × Runs turns states earlier between × Runs turns between (turn number node e ∷ []) last

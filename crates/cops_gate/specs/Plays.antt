-- What each step on the table tells the seat that takes it.
use Rattle.std.specs.Prelude.{◌≡◌, ◌≢◌, ℕ, ◌+◌, ◌*◌, ◌^◌, ◌≤◌, ◌<◌, true, false, [], ◌∷◌, ◌++◌, List, length, Option, Some, None}
use mathlib.Core.Option.{some}
use lib.ListN.{get_elem?}
use Rattle.atomic_table.specs.Table.{Me, Step}
use Rattle.atomic_table.specs.Seated.{TableId}
use Rattle.atomic_table.specs.declared.shared.Seat.{Seat}
use Rattle.cops_gate.specs.declared.history.Entry.{Entry}
use Rattle.cops_gate.specs.declared.history.Turn.{Turn}
use Rattle.cops_gate.specs.declared.board.Opening.{Opening}
use Rattle.cops_gate.specs.declared.board.Stage.{Stage}
use Rattle.cops_gate.specs.declared.board.Stage.TheVariants.{Idle, Waits, Holds}
use Rattle.cops_gate.specs.declared.board.View.{View}
use Rattle.cops_gate.specs.Accounts.{fork_of, forked, joined_with, no_account}
use Rattle.cops_gate.specs.History.{turn, turns_of, turns_at, StartsWith, Leads, IsWhole}
use Rattle.cops_gate.specs.Rule.{Met}

abbrev pub Sat : Type 0 → Type 0 → Type 0 → Type 0
Sat M C R = Me M (View M C R)

-- a table for these states: 16 words and one slot for each
abbrev pub IsTableFor : {M : Type 0} → TableId → List M → Type 0
IsTableFor table states = (table.words ≡ 16 * length states) × (table.slots ≡ length states) × (0 < length states) × (length states ≤ 2 ^ 32)

-- the node's two words are in the table
abbrev pub AreWords : TableId → ℕ → Type 0
AreWords table n = (n < 2 ^ 32) × (16 * n + 1 < table.words)

module _ {M C R : Type 0} where
  abbrev pub at_stage : Stage → View M C R → View M C R
  at_stage stage v = record { opening = v.opening; is_seat = v.is_seat; account = v.account; number = v.number; numbered = v.numbered; seen = v.seen; told = v.told; stage = stage; spent = v.spent }

  abbrev pub spent_view : ℕ → View M C R → View M C R
  spent_view n v = record { opening = v.opening; is_seat = v.is_seat; account = v.account; number = v.number; numbered = v.numbered; seen = v.seen; told = v.told; stage = v.stage; spent = n ∷ v.spent }

  -- the view of a seat that holds the slot of the node n, after its turn. Others have gone on at other nodes meanwhile
  abbrev pub published_view : ℕ → Option (Entry C R) → List (Turn C R) → View M C R → View M C R
  published_view n e between v = record { opening = v.opening; is_seat = v.is_seat; account = v.account; number = v.number; numbered = v.numbered; seen = (v.seen ++ between) ++ turn v.number n e ∷ []; told = v.told; stage = Idle; spent = v.spent }

  -- the seat has seen more, and among that no turn of its own, nor of a seat that ended into it
  abbrev pub SeesOn : View M C R → View M C R → Type 0
  SeesOn v w =
      (w.opening ≡ v.opening) × (w.number ≡ v.number) × (w.numbered ≡ true) × (w.spent ≡ v.spent)
      × StartsWith w.seen v.seen × StartsWith w.seen v.told × (turns_of v.number w.seen ≡ turns_of v.number v.seen)
      × (w.account ≡ v.account) × ((j : ℕ) → Met j v.account.joined → turns_of j w.seen ≡ turns_of j v.seen)

  -- what v tells another seat: all that it has seen
  abbrev pub fresh_view : View M C R → View M C R
  fresh_view v = record { opening = v.opening; is_seat = false; account = no_account; number = 0; numbered = false; seen = v.seen; told = v.told; stage = Idle; spent = v.spent }

  -- v, after a seat was split off from it
  abbrev pub forked_view : View M C R → View M C R
  forked_view v = record { opening = v.opening; is_seat = v.is_seat; account = forked v.account; number = v.number; numbered = v.numbered; seen = v.seen; told = v.told; stage = v.stage; spent = v.spent }

  -- the knowledge of a new seat, split from v: it has seen the same, and made no turn
  abbrev pub fork_view : View M C R → View M C R
  fork_view v = record { opening = v.opening; is_seat = true; account = fork_of v.account; number = 0; numbered = false; seen = v.seen; told = v.told; stage = Idle; spent = v.spent }

  -- v, after w has ended into it. It then knows at which nodes w met the last ticket
  abbrev pub joined_view : View M C R → View M C R → View M C R
  joined_view v w =
      record { opening = v.opening; is_seat = v.is_seat; account = joined_with v.account w.number w.account; number = v.number; numbered = v.numbered; seen = v.seen; told = v.told; stage = v.stage; spent = w.spent ++ v.spent }

  -- what was seen has all turns of this seat, and of those that ended into it
  abbrev pub KnowsTurnsOf : List (Turn C R) → View M C R → Type 0
  KnowsTurnsOf seen w = (j : ℕ) → Met j (w.number ∷ w.account.joined) → turns_of j seen ≡ turns_of j w.seen

  abbrev pub numbered_view : ℕ → View M C R → View M C R
  numbered_view n v = record { opening = v.opening; is_seat = v.is_seat; account = v.account; number = n; numbered = true; seen = v.seen; told = v.told; stage = v.stage; spent = v.spent }

  -- v, after it learned what w has seen
  abbrev pub told_view : View M C R → View M C R → View M C R
  told_view v w = record { opening = v.opening; is_seat = v.is_seat; account = v.account; number = v.number; numbered = v.numbered; seen = v.seen; told = w.seen; stage = v.stage; spent = v.spent }

  -- there are no more turns at a node than tickets below 2^62
  abbrev pub HasRoom : Option (Opening M) → List (Turn C R) → Type 0
  HasRoom known seen = (opening : Opening M) → known ≡ Some opening → (n : ℕ) (first : M) → get_elem? opening.states n ≡ some first → opening.ticket + length (turns_at n seen) ≤ 2 ^ 62

  -- a seat that has ended
  abbrev pub ended_view : View M C R
  ended_view = record { opening = None; is_seat = false; account = no_account; number = 0; numbered = false; seen = []; told = []; stage = Idle; spent = [] }

  -- a new seat learns its number
  abbrev pub learned : Step M → Sat M C R → ℕ → Sat M C R → Type 0
  learned st m r m' = (m'.1 ≡ m.1) × ((n : ℕ) × (m'.0 ≡ numbered_view n m.0) × (turns_of n m.0.seen ≡ []))

  -- a seat between two turns, which knows about itself what v says
  abbrev pub IsIdle : View M C R → Sat M C R → Type 0
  IsIdle v m = (m.1 ≡ []) × (m.0.stage ≡ Idle) × (m.0.numbered ≡ true) × (m.0.opening ≡ v.opening) × (m.0.number ≡ v.number) × (m.0.spent ≡ v.spent) × (m.0.account ≡ v.account)

  -- the number found is the node's ticket if it is the expected one
  abbrev pub DrawnAt : ℕ → Step M → Sat M C R → ℕ → Sat M C R → Type 0
  DrawnAt n st m r m' =
      (m'.1 ≡ m.1) × (r ≤ 2 ^ 62) × (Met n m.0.spent → r ≡ 2 ^ 62) × HasRoom m.0.opening m.0.seen
      × (r ≡ st.first → m'.0 ≡ at_stage (Waits n r) m.0)
      × (r ≢ st.first → r ≢ 2 ^ 62 → m'.0 ≡ m.0)
      × (r ≢ st.first → r ≡ 2 ^ 62 → m'.0 ≡ spent_view n m.0)

  abbrev pub drawn : Step M → Sat M C R → ℕ → Sat M C R → Type 0
  drawn st m r m' = (opening : Opening M) (n : ℕ) (first : M) → m.0.opening ≡ Some opening → get_elem? opening.states n ≡ some first → st.word ≡ 16 * n → DrawnAt n st m r m'

module _ {M C R P : Type 0} (turns : M → ℕ → ℕ → C → R → M → Type 0) (place : M → P) where
  -- the seat has seen all turns so far, and has the machine that those at its node leave
  abbrev pub Serves : M → View M C R → ℕ → ℕ → View M C R → M → Type 0
  Serves first v n t w machine = SeesOn v w × (w.stage ≡ Holds n t) × Leads turns first (turns_at n w.seen) machine × (place machine ≡ place first)

  -- the seat gets the slot, with that machine
  abbrev pub Gets : M → ℕ → ℕ → Sat M C R → Sat M C R → Type 0
  Gets first n t m m' = (machine : M) × (m'.1 ≡ (n, machine) ∷ m.1) × Serves first m.0 n t m'.0 machine

  -- a seat between two turns sees all turns so far
  abbrev pub glanced : Step M → Sat M C R → ℕ → Sat M C R → Type 0
  glanced st m r m' = (m'.1 ≡ m.1) × SeesOn m.0 m'.0 × (m'.0.stage ≡ Idle) × ((opening : Opening M) → m.0.opening ≡ Some opening → IsWhole turns opening.states m'.0.seen) × HasRoom m.0.opening m'.0.seen

  -- if the ticket is served, the seat has the slot
  abbrev pub looked : Step M → Sat M C R → ℕ → Sat M C R → Type 0
  looked st m r m' = (opening : Opening M) (n t : ℕ) (first : M) → m.0.opening ≡ Some opening → get_elem? opening.states n ≡ some first → m.0.stage ≡ Waits n t → m.0.numbered ≡ true → (r ≡ t → Gets first n t m m') × (r ≢ t → m' ≡ m)

  -- The slot is returned with the seat's turn done. What others did meanwhile is no turn at this node, and no turn of this seat
  abbrev pub PublishedAt : Opening M → ℕ → Option (Entry C R) → View M C R → View M C R → Type 0
  PublishedAt opening n e v w =
      (between : List (Turn C R)) × (w ≡ published_view n e between v)
      × (turns_at n (v.seen ++ between) ≡ turns_at n v.seen)
      × (turns_of v.number w.seen ≡ turns_of v.number v.seen ++ turn v.number n e ∷ [])
      × IsWhole turns opening.states w.seen

  abbrev pub published : Option (Entry C R) → Step M → Sat M C R → ℕ → Sat M C R → Type 0
  published e st m r m' =
      ((opening : Opening M) (n : ℕ) (h : M) → m.0.opening ≡ Some opening → m.1 ≡ (n, h) ∷ [] → (m'.1 ≡ []) × PublishedAt opening n e m.0 m'.0)
      × HasRoom m.0.opening m'.0.seen

  -- the same at a node, whatever state it opened with
  abbrev pub GetsAt : List M → ℕ → ℕ → Sat M C R → Sat M C R → Type 0
  GetsAt states n t m m' = (first : M) × (get_elem? states n ≡ some first) × Gets first n t m m'

  -- the seat has the slot of this node, with a machine that the turns there leave once this one is added
  abbrev pub HasTurned : List M → ℕ → Option (Entry C R) → Sat M C R → Type 0
  HasTurned states n e m =
      (first : M) × (machine : M) × (get_elem? states n ≡ some first) × (m.1 ≡ (n, machine) ∷ [])
      × Leads turns first (turns_at n m.0.seen ++ turn m.0.number n e ∷ []) machine × (place machine ≡ place first)

-- the seat is one of a table for these states, of which the node is one
abbrev pub IsSeatAt : {S V M : Type 0} → TableId → List M → ℕ → Seat S V → Type 0
IsSeatAt table states n seat = (seat.table_id ≡ table) × IsTableFor table states × (n < length states)

-- Seats that threads gave back, and the seat into which they ended.
use Rattle.std.specs.Prelude.{◌≡◌, ℕ, List, [], ◌∷◌, ◌++◌, length}
use Rattle.std.specs.List.{AllByRecursion}
use Rattle.cops_gate.specs.Accounts.{counted_account, first_of}
use Rattle.cops_gate.specs.Seats.{HasAllOf, Known, all_joined, all_spent}
use Rattle.cops_service.specs.Gates.{Gates, HasNoTurn, IsSeatOf}

-- The seat, which the first seat counts, had made no turn when its thread began, and since then has done just this.
pub record HasSinceDone {M C R : Type 0} (cluster : Gates M) (Does : Known M C R → Known M C R → Type 0) (seat : Known M C R) : Type 0 where
  pub own : IsSeatOf cluster seat
  pub account : seat.account ≡ counted_account
  pub first : Known M C R
  pub no_turn : HasNoTurn first
  pub does : Does first seat

-- the seats of this many threads, each of which has since done just this
abbrev pub AreAllDone : {M C R : Type 0} → Gates M → (Known M C R → Known M C R → Type 0) → ℕ → List (Known M C R) → Type 0
AreAllDone cluster Does count seats = (length seats ≡ count) × AllByRecursion (HasSinceDone cluster Does) seats

-- a seat of which this holds is added
abbrev pub AddsOne : {G S : Type 0} → (G → S → G → Type 0) → (S → Type 0) → G → G → Type 0
AddsOne {S = S} adds Is before after = (one : S) × Is one × adds before one after

-- A seat has seen all that the threads' seats saw, and of the turns of each those that it made. It is the first seat, has made no turn, and these
-- seats ended into it, which are all so many that were split off from it. It knows at which nodes they met the last ticket
pub record HasSeenAll {M C R : Type 0} (Are : List (Known M C R) → Type 0) (count : ℕ) (seat : Known M C R) : Type 0 where
  pub seats : List (Known M C R)
  pub crew : Are seats
  pub all : AllByRecursion (HasAllOf seat.history) seats
  pub no_turn : HasNoTurn seat
  pub account : seat.account ≡ all_joined (first_of count) seats
  pub spent : seat.spent ≡ all_spent [] seats

-- these seats, and one more behind them
pub record AreThenOne {S : Type 0} (Are : List S → Type 0) (Is : S → Type 0) (seats : List S) : Type 0 where
  pub others : List S
  pub one : S
  pub are : seats ≡ others ++ one ∷ []
  pub those : Are others
  pub that : Is one

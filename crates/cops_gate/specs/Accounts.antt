-- What seats know of each other's number: the first seat of a gate counts the seats that are split off from it (forks), until they end into it.
use Rattle.std.specs.Prelude.{◌≡◌, ℕ, ◌+◌, ◌-◌, Bool, true, false, [], ◌∷◌, ◌++◌}
use Rattle.cops_gate.specs.declared.board.Account.{Account}

-- of the first seat, when so many were split off from it and none has ended into it
abbrev pub first_of : ℕ → Account
first_of count = record { is_first = true; unjoined = count; counted = 0; joined = [] }

-- of a seat that the first seat counts
abbrev pub counted_account : Account
counted_account = record { is_first = false; unjoined = 0; counted = 1; joined = [] }

-- of a seat that no seat counts
abbrev pub no_account : Account
no_account = record { is_first = false; unjoined = 0; counted = 0; joined = [] }

-- of a seat after one was split off from it. Only the first seat counts on
abbrev pub forked : Account → Account
forked a = record { is_first = a.is_first; unjoined = a.unjoined + 1; counted = 0; joined = a.joined }

abbrev pub account_if_counted : Bool → Account
account_if_counted true = counted_account
account_if_counted false = no_account

-- of the new seat: the first seat counts it
abbrev pub fork_of : Account → Account
fork_of a = account_if_counted a.is_first

-- of a seat after the seat of this number and account has ended into it
abbrev pub joined_with : Account → ℕ → Account → Account
joined_with a number b = record { is_first = a.is_first; unjoined = a.unjoined - b.counted; counted = a.counted; joined = number ∷ (b.joined ++ a.joined) }

-- it is the first seat's, and each seat that was split off from it has ended into it
pub record IsComplete (a : Account) : Type 0 where
  pub first : a.is_first ≡ true
  pub joined : a.unjoined ≡ 0

-- A seat after a turn of the counter.
use Rattle.std.specs.Prelude.{◌≡◌, ℕ, Some}
use Rattle.cops_gate.specs.Filtered.{GrowsThere}
use Rattle.cops_gate.specs.History.{entry}
use Rattle.cops_gate.specs.Seats.{Known}
use Rattle.counting_gate.specs.declared.counter.Ask.{Ask}
use Rattle.counting_gate.specs.declared.counter.Ask.TheVariants.{Go}
use Rattle.counting_gate.specs.declared.counter.Counter.{Counter}
use Rattle.counting_gate.specs.Counts.{counts}

-- the seat has made one turn more, which got this reply
abbrev pub HasCounted : Counter → Known Counter Ask ℕ → ℕ → Known Counter Ask ℕ → Type 0
HasCounted opening seat reply after =
    (after.gate ≡ seat.gate) × (after.number ≡ seat.number) × GrowsThere counts opening seat.number 0 seat.history (Some (entry 0 0 Go reply)) after.history

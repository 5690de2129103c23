-- When places are due for collection, and how long streams wait.
use Rattle.std.specs.Prelude.{◌≡◌, ℕ, Bool, true, false, ◌+◌, ◌*◌, ◌-◌, ◌^◌, ◌==◌, if◌then◌else◌, max, min}
use Rattle.cops_service.specs.declared.dues.Due.{Due}
use Rattle.cops_service.specs.declared.waiting.Pause.{Pause}

-- ---- places

-- a place in a life; what another life left is forgotten, and nothing is due
abbrev pub due_in_life : ℕ → Due → Due
due_in_life life due =
    if due.life == life
    then due
    else (record { is_kept = false; life = life; is_asked = false; at = 2 ^ 64 - 1; latest = 0 })

-- the place after a visit at this time: it is to be collected at once, or a version came
abbrev pub IsVisited : Bool → ℕ → ℕ → Due → Due → Type 0
IsVisited true now trans_time before after =
    (after.is_asked ≡ true) × (after.life ≡ before.life) × (after.at ≡ before.at) × (after.latest ≡ before.latest)
IsVisited false now trans_time before after =
    (after.is_asked ≡ before.is_asked) × (after.life ≡ before.life)
    × (after.at ≡ min before.at (min (now + trans_time + 1) (2 ^ 64 - 1))) × (after.latest ≡ now)

-- ---- streams

-- a stream in a life; the pause of another life is forgotten
abbrev pub pause_in_life : ℕ → Pause → Pause
pause_in_life life pause =
    if pause.life == life
    then pause
    else (record { is_kept = false; life = life; length = 0; over = pause.over })

-- the stream waits from this time on, twice as long as before
abbrev pub WaitsLonger : ℕ → Pause → Pause → Type 0
WaitsLonger now before after =
    (after.life ≡ before.life) × (after.length ≡ max 5 (min (before.length * 2) 1000))
    × (after.over ≡ min (now + after.length) (2 ^ 64 - 1))

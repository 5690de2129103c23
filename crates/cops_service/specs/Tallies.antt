use Rattle.std.specs.Prelude.{ℕ, ◌+◌, ◌*◌, ◌-◌, ◌^◌, ◌%◌, ◌==◌, Bool, true, false, min, if◌then◌else◌, List, [], ◌∷◌}
use Rattle.cops_service.specs.declared.tallies.Tally.{Tally}

-- a tally after a byte of a length
abbrev pub measured : ℕ → Tally → Tally
measured byte tally =
    let value = (tally.length * 256 + byte) % 2 ^ 32 in
    if tally.head == 3
    then (record tally { head = 0; length = 0; left = value; is_tag = true })
    else (record tally { head = (tally.head + 1) % 2 ^ 32; length = value })

-- a tally after the first byte of a body
abbrev pub entered : ℕ → Tally → Tally
entered tag tally = record tally {
  is_tag = false;
  frames = min (tally.frames + 1) (2 ^ 64 - 1);
  refusals = if tag == 255 then min (tally.refusals + 1) (2 ^ 64 - 1) else tally.refusals;
}

-- a tally that has seen whether this byte is the first of a body
abbrev pub seen : ℕ → Tally → Tally
seen byte tally = if tally.is_tag then entered byte tally else tally

-- a tally after a byte of a body
abbrev pub skipped : ℕ → Tally → Tally
skipped byte tally = record (seen byte tally) { left = tally.left - 1 }

-- a tally after these bytes
abbrev pub after : Tally → List ℕ → Tally
after tally [] = tally
after tally (byte ∷ bytes) = after (if tally.left == 0 then measured byte tally else skipped byte tally) bytes

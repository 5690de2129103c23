use Rattle.std.proofs.Common.{◌≡◌, ◌-◌, ℕ, List, length}
use Rattle.cops_wire.specs.Reading.{all_at, text_at}
use Rattle.cops_wire.specs.Running.{AreMadeOf}
use Rattle.cops_wire.proofs.AllParts.{with_front}
use Rattle.cops_wire.proofs.reading.Unseen.take_keys.Given as goal

-- the lists so far stand before those that are still to be read, and keys were made of them
abbrev pub invariant-loop : goal.invariant-loop
invariant-loop l = (lists : List (List ℕ)) × (with_front lists (all_at (text_at 1) (l.count - l.counter) l.self) ≡ all_at (text_at 1) l.count l.fn.self) × AreMadeOf lists l.made l.keys.items × (length lists ≡ l.counter)

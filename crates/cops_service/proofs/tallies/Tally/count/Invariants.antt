use Rattle.std.proofs.Common.{◌≡◌, ◌+◌, ◌≤◌, length}
use Rattle.cops_service.specs.Tallies.{after}
use Rattle.cops_service.proofs.tallies.Tally.count.Given as goal

-- The rest has less than the bytes that passed.
abbrev pub invariant-loop : goal.invariant-loop
invariant-loop l = (after l.self l.rest ≡ after l.fn.self l.bytes) × (length l.rest + l.counter ≤ length l.bytes)

use Rattle.std.proofs.Common.{◌≤◌}
use Rattle.cops_service.proofs.waiting.Waiting.note_ready.Given as goal

abbrev pub invariant-loop-stream : goal.invariant-loop-stream
invariant-loop-stream g l = l.now ≤ l.next

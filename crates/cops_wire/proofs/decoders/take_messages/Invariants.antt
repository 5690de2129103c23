use Rattle.std.proofs.Common.{◌≡◌, ◌≤◌, ◌-◌, length, drop}
use Rattle.cops_wire.specs.Streams.{split_of, after_messages}
use Rattle.cops_wire.proofs.decoders.take_messages.Given as goal

abbrev pub invariant-loop-message : goal.invariant-loop-message
invariant-loop-message l = record {
  within : l.taken ≤ length l.bytes;
  so_far : after_messages l.messages.items (split_of (drop l.taken l.bytes)) ≡ after_messages l.fn.messages.items (split_of l.bytes);
}

abbrev pub decreases-loop-message : goal.decreases-loop-message
decreases-loop-message l = length l.bytes - l.taken

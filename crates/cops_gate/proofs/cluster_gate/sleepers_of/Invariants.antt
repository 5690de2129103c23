use Rattle.std.proofs.Common.{◌-◌, ◌≤◌, length}
use Rattle.cops_gate.proofs.cluster_gate.sleepers_of.Given as goal

abbrev pub invariant-loop-all : goal.invariant-loop-all
invariant-loop-all l = length l.all.items ≤ l.count

abbrev pub decreases-loop-all : goal.decreases-loop-all
decreases-loop-all l = l.count - length l.all.items

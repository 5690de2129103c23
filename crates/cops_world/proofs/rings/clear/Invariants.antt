use Rattle.std.proofs.Common.{◌≡◌}
use Rattle.cops_world.specs.ActorRings.{ring_at}
use Rattle.cops_world.proofs.JoinLemmas.{IsClearing}
use Rattle.cops_world.proofs.rings.clear.Given as goal

abbrev pub invariant-loop-rings : goal.invariant-loop-rings
invariant-loop-rings l = IsClearing l.slot l.fn.rows.entries l.fn.rings.items l.rows.entries l.rings.items

abbrev pub decreases-loop-rings : goal.decreases-loop-rings
decreases-loop-rings l = (ring_at l.slot l.rings.items).count

use Rattle.cops_world.proofs.PutsAndGets.{keys_so_far}
use Rattle.cops_world.proofs.world.keys_of.Goals as goal

pub loop-slice-preserved : goal.loop-slice-preserved
loop-slice-preserved c =
    keys_so_far c.args.slices.now c.loop-slice.keys.items c.loop-slice.left c.push.new.self.items c.next_slice.new.self c.in-Some.slice.now c.in_ok-key.key
    c.loop-slice.invariant c.in-Some.ensures c.in_ok-key.ensures c.in_ok-push.ensures.items

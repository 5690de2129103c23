use Rattle.std.proofs.Common.{arith}
use Rattle.cops_types.proofs.PlacedLemmas.{front_placed}
use Rattle.cops_types.proofs.placed.put_front.Goals as goal

pub returns-clause-text : goal.returns-clause-text
returns-clause-text c =
    front_placed c.args.at c.args.count c.args.bytes.now c.args.cells.now c.copy_from_slice.new.self _ (omega arith) c.requires.within c.copy_from_slice.ensures.after

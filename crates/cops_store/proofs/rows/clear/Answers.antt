use Rattle.std.proofs.Common.{arith, refl}
use Rattle.cops_store.proofs.Lines.{turn_none, turn_then}
use Rattle.cops_store.proofs.rows.clear.Goals as goal

pub loop-row-init : goal.loop-row-init
loop-row-init c = record { turn = turn_none _ _ c.args.slot c.args.line.now c.requires.line c.requires.unique refl; left = omega arith }

pub release-requires-clause-line : goal.release-requires-clause-line
release-requires-clause-line c = c.loop-row.invariant.turn.stays

pub release-requires-clause-unique : goal.release-requires-clause-unique
release-requires-clause-unique c = c.loop-row.invariant.turn.unique

pub release-requires-clause-some : goal.release-requires-clause-some
release-requires-clause-some c = let left = c.loop-row.invariant.left in omega arith

pub loop-row-preserved : goal.loop-row-preserved
loop-row-preserved c =
    let before = c.loop-row.invariant.left in
    let count = c.release.ensures.count in
    record { turn = turn_then _ _ _ c.args.slot c.args.line.now c.loop-row.line c.release.new.line c.loop-row.invariant.turn c.release.ensures.turn; left = omega arith }

pub returns : goal.returns
returns c = let left = c.loop-row.invariant.left in record { turn = c.loop-row.invariant.turn; count = omega arith }

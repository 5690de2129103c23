use Rattle.std.proofs.Common.{refl, arith}
use Rattle.cops_service.proofs.Passing.{steps_over}
use Rattle.cops_service.proofs.tallies.Tally.step.Goals as goal

pub returns-clause-bytes : goal.returns-clause-bytes
returns-clause-bytes c =
    steps_over c.args.bytes.now c.args.self.now c.take_first.new.self _ c.min-skipped.result c.take_first.ensures refl
    (grind (arith)) (omega arith) c.min-skipped.ensures

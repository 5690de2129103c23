use Rattle.cops_types.specs.Words.{parts_at, space}
use Rattle.std.proofs.Common.{refl}
use Rattle.cops_model.specs.declared.acts.Act.TheVariants.{Step}
use Rattle.cops_script.proofs.ActReading.{named_found}
use Rattle.cops_script.proofs.lines.read_step.Goals as goal

pub returns : goal.returns
returns c = named_found Step (parts_at space c.args.words.now) c.in_ok-name.name c.in_ok-name.moment refl c.in_ok-name.ensures.some

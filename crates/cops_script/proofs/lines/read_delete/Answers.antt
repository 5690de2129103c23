use Rattle.cops_types.specs.Words.{parts_at, space}
use Rattle.std.proofs.Common.{refl}
use Rattle.cops_model.specs.declared.acts.Act.TheVariants.{Delete}
use Rattle.cops_script.proofs.ActReading.{named_found}
use Rattle.cops_script.proofs.lines.read_delete.Goals as goal

pub returns : goal.returns
returns c = named_found Delete (parts_at space c.args.words.now) c.in_ok-name.name c.in_ok-name.context refl c.in_ok-name.ensures.some

use Rattle.std.proofs.Common.{sym, ◌∙◌}
use Rattle.cops_types.specs.declared.faults.Fault.TheVariants.{Syntax}
use Rattle.cops_script.proofs.ActReading.{made_name, makes_name}
use Rattle.cops_script.proofs.lines.last_name.Goals as goal

pub returns-in_default-clause-none : goal.returns-in_default-clause-none
returns-in_default-clause-none c = λ name is e. c.in_default.not-Ok c.args.words.now (c.new.ensures ∙ makes_name c.args.words.now name Syntax is e)

pub returns-clause-some : goal.returns-clause-some
returns-clause-some c = made_name c.args.words.now c.in-Ok.name Syntax (sym c.new.ensures ∙ c.in-Ok.is)

use Rattle.cops_script.proofs.SoloLines.{lines_alone}
use Rattle.cops_script.proofs.laws.tenants_lines_are_those_alone.Goals as goal

pub returns : goal.returns
returns c = λ bytes name config lines head there. lines_alone bytes name config lines head there

use Rattle.std.proofs.Common.{◌∙◌}
use Rattle.clap.specs.Matches.{found_of}
use Rattle.clap.proofs.WalkLemmas.{one_text-rows}
use Rattle.cops_cli.proofs.CommandLineFacts.{spelled}
use Rattle.cops_cli.proofs.command_line.number_in.Goals as goal

pub returns : goal.returns
returns c =
    spelled _ c.get_one.result c.args.other c.unwrap_or.result
    (λ text found. c.get_one.ensures.value text (one_text-rows (found_of c.args.matches.now) c.args.id.now ∙ found)) c.unwrap_or.ensures

use Rattle.std.proofs.Common.{◌∙◌, ap, ap₂}
use Rattle.std.proofs.lemmas.Result.{IfOk-weaker}
use Rattle.clap.specs.Words.{App, with_subcommand}
use Rattle.cops_cli.proofs.command_line.extract_commands.Goals as goal

pub returns : goal.returns
returns c =
    IfOk-weaker c.subcommand.result _ _ (λ command adds. adds.shape c.in_ok-extract.ensures.no_globals
    ∙ ap₂ with_subcommand c.in_ok-replay_commands.ensures (ap (λ (a : App). a.top) c.in_ok-extract.ensures.app)) c.subcommand.ensures

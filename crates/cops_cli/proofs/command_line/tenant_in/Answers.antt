use Rattle.std.proofs.Common.{◌∙◌, [], ap, codes, Option, unwrap_or}
use Rattle.clap.specs.Matches.{found_of}
use Rattle.clap.specs.Words.{Text}
use Rattle.clap.proofs.WalkLemmas.{first_value-rows}
use Rattle.cops_cli.proofs.CommandLineFacts.{unwrap_or-now}
use Rattle.cops_cli.proofs.command_line.tenant_in.Goals as goal

pub returns : goal.returns
returns c =
    ap (λ s. s.now) c.unwrap_or.ensures ∙ unwrap_or-now c.get_str.result _
    ∙ ap (λ (o : Option Text). unwrap_or o []) (c.get_str.ensures ∙ first_value-rows (found_of c.args.matches.now) (codes "TENANT"))

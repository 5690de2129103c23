use Rattle.std.proofs.Common.{◌∙◌, ap, Option, [], codes, unwrap_or}
use Rattle.clap.specs.Matches.{found_of}
use Rattle.clap.specs.Words.{Text}
use Rattle.clap.proofs.WalkLemmas.{first_value-rows, one_text-rows}
use Rattle.cops_cli.proofs.CommandLineFacts.{unwrap_or-now}
use Rattle.cops_cli.proofs.command_line.service_in.Goals as goal

pub returns : goal.returns
returns c =
    let rows = one_text-rows (found_of c.args.serve.now) (codes "verbose") in
    let fixed = one_text-rows (found_of c.args.serve.now) (codes "fixed-tenants") in
    record {
      address_is = ap (λ s. s.now) c.unwrap_or.ensures ∙ unwrap_or-now c.get_str.result _
          ∙ ap (λ (o : Option Text). unwrap_or o []) (c.get_str.ensures ∙ first_value-rows (found_of c.args.serve.now) (codes "ADDRESS"));
      workers_are = c.number_in.ensures;
      connections_are = c.number_in-2.ensures;
      idle_is = c.number_in-3.ensures;
      verbose_is = (λ found. c.get_flag.ensures.none (rows ∙ found), λ found. c.get_flag.ensures.value (rows ∙ found), λ found. c.get_flag.ensures.other (rows ∙ found));
      fixed_is = (λ found. c.get_flag-2.ensures.none (fixed ∙ found), λ found. c.get_flag-2.ensures.value (fixed ∙ found), λ found. c.get_flag-2.ensures.other (fixed ∙ found));
    }

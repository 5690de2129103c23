use Rattle.std.proofs.Common.{rules, [], subst, ◌≡◌, ◌∙◌, ap, map}
use Rattle.clap.specs.Kinds.{HasKind}
use Rattle.clap.specs.Words.{App, app_of, fault_of, is_simple, is_simple_and_free, subcommand_of, subcommand_rows_of}
use Rattle.cops_cli.specs.CommandLine.{cops}
use Rattle.cops_cli.proofs.CommandLineFacts.{is_free_cops, is_simple_cops}
use Rattle.cops_cli.proofs.PlainWords.{err_as, only_lack, plain_passes, refused_as}
use Rattle.cops_cli.proofs.command_line.read_words.Goals as goal

pub returns-in_err-matches-clause-refused : goal.returns-in_err-matches-clause-refused
returns-in_err-matches-clause-refused g c =
    let texts = map g.S.AsStr.text c.args.words.now in
    let is_cops : app_of _ ≡ cops = c.in_ok-command_line.ensures in
    let has = subst (λ (a : App). HasKind (fault_of a texts) c.in_err-matches.field-0.0) is_cops (c.in_err-matches.ensures.kinds (ap is_simple_and_free is_cops ∙ is_free_cops)) in
    err_as c.from_residual-in_err-matches.result _ _ (refused_as texts c.in_err-matches.field-0.0 has) c.from_residual-in_err-matches.ensures.1

pub returns-in_err-matches-clause-plain : goal.returns-in_err-matches-clause-plain
returns-in_err-matches-clause-plain g c plain =
    let texts = map g.S.AsStr.text c.args.words.now in
    let is_cops : app_of _ ≡ cops = c.in_ok-command_line.ensures in
    let has = subst (λ (a : App). HasKind (fault_of a texts) c.in_err-matches.field-0.0) is_cops (c.in_err-matches.ensures.kinds (ap is_simple_and_free is_cops ∙ is_free_cops)) in
    let lack = only_lack c.in_err-matches.field-0.0 (subst (λ kinds. HasKind kinds c.in_err-matches.field-0.0) (plain_passes texts plain) has) in
    search (rules, lack)

pub returns-clause-asked : goal.returns-clause-asked
returns-clause-asked g c =
    let texts = map g.S.AsStr.text c.args.words.now in
    let m = c.in_ok-matches.matches in
    let is_cops : app_of _ ≡ cops = c.in_ok-command_line.ensures in
    let found : subcommand_rows_of m ≡ subcommand_of cops texts = (c.in_ok-matches.ensures.matches (ap is_simple is_cops ∙ is_simple_cops)).1 ∙ ap (λ (a : App). subcommand_of a texts) is_cops in
    let passes = subst (λ (a : App). fault_of a texts ≡ []) is_cops (c.in_ok-matches.ensures.kinds (ap is_simple_and_free is_cops ∙ is_free_cops)) in
    c.task_in.ensures texts found passes

pub returns-clause-taken : goal.returns-clause-taken
returns-clause-taken g c = subst (λ (a : App). fault_of a (map g.S.AsStr.text c.args.words.now) ≡ []) c.in_ok-command_line.ensures (c.in_ok-matches.ensures.kinds (ap is_simple_and_free c.in_ok-command_line.ensures ∙ is_free_cops))

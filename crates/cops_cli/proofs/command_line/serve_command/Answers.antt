use Rattle.std.proofs.Common.{◌∙◌, ◌||◌, ap₂}
use Rattle.std.proofs.lemmas.Result.{IfOk-weaker}
use Rattle.clap.specs.Words.{with_rule}
use Rattle.cops_cli.proofs.command_line.serve_command.Goals as goal

pub returns-clause-app : goal.returns-clause-app
returns-clause-app c =
    IfOk-weaker c.arg-3.result _ _ (λ command adds. adds.shape c.flag_argument-fixed.ensures.local
    ∙ ap₂ with_rule (c.in_ok-arg-2.ensures.shape c.flag_argument-verbose.ensures.local
    ∙ ap₂ with_rule (c.in_ok-arg.ensures.shape c.number_argument-idle.ensures.local
    ∙ ap₂ with_rule c.in_ok-numbered_serve_command.ensures.app c.number_argument-idle.ensures.rule)
    c.flag_argument-verbose.ensures.rule) c.flag_argument-fixed.ensures.rule) c.arg-3.ensures

pub returns-clause-no_globals : goal.returns-clause-no_globals
returns-clause-no_globals c =
    IfOk-weaker c.arg-3.result _ _ (λ command adds. adds.globals
    ∙ ap₂ (λ x y. x || y) (c.in_ok-arg-2.ensures.globals
    ∙ ap₂ (λ x y. x || y) (c.in_ok-arg.ensures.globals
    ∙ ap₂ (λ x y. x || y) c.in_ok-numbered_serve_command.ensures.no_globals c.number_argument-idle.ensures.local)
    c.flag_argument-verbose.ensures.local) c.flag_argument-fixed.ensures.local) c.arg-3.ensures

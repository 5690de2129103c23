use Rattle.std.proofs.Common.{◌∙◌, ◌||◌, ap, ap₂}
use Rattle.std.proofs.lemmas.Result.{IfOk-weaker}
use Rattle.clap.specs.Words.{with_rule}
use Rattle.cops_cli.proofs.command_line.numbered_serve_command.Goals as goal

pub returns-clause-app : goal.returns-clause-app
returns-clause-app c =
    IfOk-weaker c.arg-3.result _ _ (λ command adds. adds.shape c.number_argument-connections.ensures.local
    ∙ ap₂ with_rule (c.in_ok-arg-2.ensures.shape c.number_argument-workers.ensures.local
    ∙ ap₂ with_rule (c.in_ok-arg.ensures.shape c.address_argument-address.ensures.local
    ∙ ap₂ with_rule c.bare_serve_command.ensures.app c.address_argument-address.ensures.rule)
    c.number_argument-workers.ensures.rule) c.number_argument-connections.ensures.rule) c.arg-3.ensures

pub returns-clause-no_globals : goal.returns-clause-no_globals
returns-clause-no_globals c =
    IfOk-weaker c.arg-3.result _ _ (λ command adds. adds.globals
    ∙ ap₂ (λ x y. x || y) (c.in_ok-arg-2.ensures.globals
    ∙ ap₂ (λ x y. x || y) (c.in_ok-arg.ensures.globals
    ∙ ap₂ (λ x y. x || y) c.bare_serve_command.ensures.no_globals c.address_argument-address.ensures.local)
    c.number_argument-workers.ensures.local) c.number_argument-connections.ensures.local) c.arg-3.ensures

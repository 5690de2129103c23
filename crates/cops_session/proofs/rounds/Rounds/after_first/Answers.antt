use Rattle.std.proofs.Common.{◌∙◌, sym, subst}
use Rattle.std.proofs.lemmas.Bool.{false≢true}
use Rattle.cops_session.specs.Stands.{IsOver}
use Rattle.cops_session.proofs.RoundsStand.{with_neither}
use Rattle.cops_session.proofs.rounds.Rounds.after_first.Goals as goal

pub returns-else-has_keys : goal.returns-else-has_keys
returns-else-has_keys c = λ keys replies after.
    subst (IsOver keys replies) (sym c.take_reads.ensures) (with_neither keys replies c.args.self after
    (λ wish. false≢true (sym c.if-has_wishes.false ∙ c.has_wishes.ensures.1 wish))
    (λ key. false≢true (sym c.if-has_keys.false ∙ c.has_keys.ensures.1 key)))

use Rattle.std.proofs.Common.{◌<◌, length, ◌++◌, ◌∷◌, [], ◌∙◌, sym}
use Rattle.std.proofs.lemmas.Bool.{false≢true}
use Rattle.std.proofs.lemmas.Result.{err_from_is_err_and}
use Rattle.cops_session.proofs.RoundsStand.{only_first, only_first_count, told_after}
use Rattle.cops_session.proofs.rounds.Rounds.accept.Goals as goal

pub returns-in_err-add-clause-stands : goal.returns-in_err-add-clause-stands
returns-in_err-add-clause-stands c = λ keys replies reply distinct stands is.
    let failed = err_from_is_err_and c.from_residual.result c.from_residual.ensures.1 in
    let none : 0 < length c.args.self.now.left → ⊥ = λ wish. false≢true (sym c.if-has_wishes.false ∙ c.has_wishes.ensures.1 wish) in
    rw failed.1 (only_first_count keys replies c.args.self.now (only_first keys replies c.args.self.now stands none) c.in_err-add.ensures.last)

pub returns-clause-stands : goal.returns-clause-stands
returns-clause-stands c = λ keys replies reply distinct stands is.
    let none : 0 < length c.args.self.now.left → ⊥ = λ wish. false≢true (sym c.if-has_wishes.false ∙ c.has_wishes.ensures.1 wish) in
    told_after keys (replies ++ reply ∷ []) c.add.new.self c.goes_on-2.result
    (c.in_ok-add.ensures.stands keys replies reply (only_first keys replies c.args.self.now stands none) is) c.goes_on-2.ensures.more c.goes_on-2.ensures.over

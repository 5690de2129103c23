use Rattle.std.proofs.Common.{◌∙◌, ap, drop}
use Rattle.cops_session.specs.Rounds.{with_read}
use Rattle.cops_session.proofs.RoundLaws.{drop-next}
use Rattle.cops_session.proofs.RoundsStand.{second_replaced}
use Rattle.cops_session.proofs.rounds.Rounds.replace.Goals as goal

pub returns-clause-stands : goal.returns-clause-stands
returns-clause-stands c = λ keys replies reply distinct stands is.
    let inside = c.self.inside in
    second_replaced keys replies reply c.args.read c.args.self.now _ distinct stands c.requires.key is (ap (λ r. r.keys) c.self.view_is)
    (drop-next inside.wishes.items inside.next ∙ ap (λ r. drop 1 r.left) c.self.view_is)
    (c.replace_read.ensures.reads ∙ ap (λ r. with_read c.args.read r.reads) c.self.view_is)

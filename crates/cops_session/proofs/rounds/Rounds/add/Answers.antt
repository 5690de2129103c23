use Rattle.std.proofs.Common.{◌∙◌, ◌++◌, ◌∷◌, [], ap, inl, inr, arith}
use Rattle.cops_session.specs.Rounds.{wishes_of}
use Rattle.cops_session.proofs.RoundsStand.{first_added}
use Rattle.cops_session.proofs.rounds.Rounds.add.Goals as goal

pub returns-then-len-clause-stands : goal.returns-then-len-clause-stands
returns-then-len-clause-stands c = λ keys replies reply stands is.
    let read = c.args.read in
    first_added keys replies reply read c.args.self.now _ stands c.requires.key is (ap (λ r. r.keys) c.self.view_is) (c.push_reserved.ensures.items ∙ ap (λ r. r.reads ++ read ∷ []) c.self.view_is)
    (inl (omega (arith, c.if-len.true, c.len.ensures, c.len-2.ensures), ap (λ r. r.left) c.self.view_is ∙ c.requires.first.0))

pub returns-in-Ok-clause-stands : goal.returns-in-Ok-clause-stands
returns-in-Ok-clause-stands c = λ keys replies reply stands is.
    let read = c.args.read in
    first_added keys replies reply read c.args.self.now _ stands c.requires.key is (ap (λ r. r.keys) c.self.view_is) (c.push_reserved.ensures.items ∙ ap (λ r. r.reads ++ read ∷ []) c.self.view_is)
    (inr (omega (arith, c.if-len.false, c.len.ensures, c.len-2.ensures), c.in-Ok.ensures ∙ ap wishes_of c.as_slice.ensures.value))

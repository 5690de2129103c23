use Rattle.std.proofs.Common.{[], ◌∷◌, ◌∙◌, ap, arith}
use Rattle.std.proofs.lemmas.List.{take_all}
use Rattle.cops_types.specs.Pairs.{joined}
use Rattle.cops_types.proofs.GreatestLists.{joined-more, joined-none}
use Rattle.cops_types.proofs.growing_pairs.GrowingPairs.has_each_as_new.Goals as goal

pub loop-place-init : goal.loop-place-init
loop-place-init c = joined-none c.args.self.now.pairs c.requires

pub loop-place-preserved : goal.loop-place-preserved
loop-place-preserved c =
    let pairs = c.args.self.now.pairs in
    let more = c.args.more.now in
    let p = c.pair.result in
    c.has_as_new.ensures c.if-not-has_as_new.false
    ∙ ap (λ ps. joined ps (p ∷ [])) c.loop-place.invariant
    ∙ joined-more pairs more c.loop-place.place p (omega (arith, c.loop-place-test.true, c.len-place-end.ensures)) c.pair.ensures

pub returns : goal.returns
returns c = λ _.
    c.loop-place.invariant
    ∙ ap (joined c.args.self.now.pairs) (take_all c.loop-place.place c.args.more.now (omega (arith, c.loop-place-test.false, c.len-place-end.ensures)))

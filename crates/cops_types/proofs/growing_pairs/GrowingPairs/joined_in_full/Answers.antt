use Rattle.std.proofs.Common.{[], ◌∷◌, ◌∙◌, ap, arith, sym, refl, take}
use Rattle.std.proofs.lemmas.Bool.{false≢true}
use Rattle.std.proofs.lemmas.List.{take_all}
use Rattle.cops_types.specs.Pairs.{joined}
use Rattle.cops_types.proofs.GreatestLists.{IsDeps-joined, joined-more, joined-none}
use Rattle.cops_types.proofs.growing_pairs.GrowingPairs.joined_in_full.Goals as goal

pub loop-place-init : goal.loop-place-init
loop-place-init c = record {
  joined = c.in_ok-full.ensures.items ∙ joined-none c.args.self.now.pairs c.requires;
  form = refl;
  room = (let room = c.in_ok-full.ensures.room in omega (arith, room, c.len.ensures));
}

pub put_reserved-requires-clause-in_order : goal.put_reserved-requires-clause-in_order
put_reserved-requires-clause-in_order c = IsDeps-joined c.loop-place.list.pairs c.args.self.now.pairs (take c.loop-place.place c.args.more.now) c.loop-place.invariant.joined

pub put_reserved-requires-clause-room : goal.put_reserved-requires-clause-room
put_reserved-requires-clause-room c =
    let room = c.loop-place.invariant.room in
    ((λ short. absurd (false≢true (sym short ∙ c.loop-place.invariant.form))), (λ _. omega (arith, room, c.loop-place-test.true, c.len-place-end.ensures)))

pub loop-place-preserved : goal.loop-place-preserved
loop-place-preserved c =
    let pairs = c.args.self.now.pairs in
    let more = c.args.more.now in
    let p = c.pair.result in
    let room = c.loop-place.invariant.room in
    record {
      joined = c.put_reserved.ensures.pairs ∙ ap (λ ps. joined ps (p ∷ [])) c.loop-place.invariant.joined
          ∙ joined-more pairs more c.loop-place.place p (omega (arith, c.loop-place-test.true, c.len-place-end.ensures)) c.pair.ensures;
      form = c.put_reserved.ensures.form ∙ c.loop-place.invariant.form;
      room = omega (arith, room, c.put_reserved.ensures.spare, c.loop-place-test.true, c.len-place-end.ensures);
    }

pub returns : goal.returns
returns c =
    c.loop-place.invariant.joined
    ∙ ap (joined c.args.self.now.pairs) (take_all c.loop-place.place c.args.more.now (omega (arith, c.loop-place-test.false, c.len-place-end.ensures)))

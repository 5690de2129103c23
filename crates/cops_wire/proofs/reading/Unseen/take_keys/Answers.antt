use Rattle.std.proofs.Common.{◌+◌, ◌∷◌, ◌++◌, [], refl, ap, ◌∙◌, arith, length-append}
use Rattle.std.proofs.lemmas.Result.{err_from_is_err_and}
use Rattle.cops_wire.specs.Reading.{all_at, text_at}
use Rattle.cops_wire.proofs.AllParts.{ends, goes_on, is_done, starts}
use Rattle.cops_wire.proofs.AskedLemmas.{all_made, no_lists}
use Rattle.cops_wire.proofs.reading.Unseen.take_keys.Goals as goal

pub returns-then-count-eq0 : goal.returns-then-count-eq0
returns-then-count-eq0 c = no_lists c.args.count c.args.self.now _ c.if-count-eq0.true

pub loop-init : goal.loop-init
loop-init c = ([], starts (text_at 1) c.args.count c.args.self.now, (c.clear.ensures.items, refl), refl)

pub returns-in_err-bytes : goal.returns-in_err-bytes
returns-in_err-bytes c =
    let p = err_from_is_err_and c.from_residual.result c.from_residual.ensures.1 in
    rw (p.1, p.2) (ends (text_at 1) c.in_err-bytes.field-0.0 c.loop.invariant.0 c.args.count c.loop.counter c.loop.self (all_at (text_at 1) c.args.count c.args.self.now) c.loop-test.true c.in_err-bytes.ensures c.loop.invariant.1)

pub loop-preserved : goal.loop-preserved
loop-preserved c = (
  c.loop.invariant.0 ++ c.in_ok-bytes.bytes.now ∷ [],
  goes_on (text_at 1) c.loop.invariant.0 c.args.count c.loop.counter c.loop.self c.in_ok-bytes.bytes.now c.key.new.self (all_at (text_at 1) c.args.count c.args.self.now) c.loop-test.true c.in_ok-bytes.ensures c.loop.invariant.1,
  c.add_key-made.ensures c.loop.invariant.0 c.loop.invariant.2,
  length-append c.loop.invariant.0 (c.in_ok-bytes.bytes.now ∷ []) ∙ ap (λ n. n + 1) c.loop.invariant.3,
)

pub returns : goal.returns
returns c = (
  c.loop.invariant.0,
  is_done (text_at 1) c.loop.invariant.0 c.args.count c.loop.counter c.loop.self (all_at (text_at 1) c.args.count c.args.self.now) c.loop-test.false c.loop.invariant.1,
  all_made c.loop.invariant.0 _ c.loop.made (omega (arith, c.if-count-eq0.false, c.loop-test.false, c.loop.invariant.3)) c.loop.invariant.2,
)

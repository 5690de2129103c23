use Rattle.std.proofs.Common.{◌∙◌, arith}
use Rattle.std.specs.Ordering.{nat_cmp}
use Rattle.cops_types.proofs.WordOrder.{words_alike, words_apart}
use Rattle.cops_types.proofs.fronts.order_of_words.Goals as goal

pub loop-word-preserved : goal.loop-word-preserved
loop-word-preserved c = record {
  within = omega (arith, c.loop-word-test.true);
  alike =
      words_alike c.args.cells.now c.args.others.now c.loop-word.word c.cmp.result (omega (arith, c.loop-word-test.true, c.requires.cells)) (omega (arith, c.loop-word-test.true, c.requires.others))
      (λ k. (c.type_inv.cells k).fits) (λ k. (c.type_inv.others k).fits) c.loop-word.invariant.alike
      (c.cmp.ensures ∙ (λ i. nat_cmp (c.word_at.ensures i) (c.word_at-in-loop-word.ensures i))) c.in-Equal.is;
}

pub returns-in_default : goal.returns-in_default
returns-in_default c =
    words_apart c.args.cells.now c.args.others.now c.loop-word.word c.args.words c.cmp.result (omega (arith, c.loop-word-test.true)) c.requires.cells c.requires.others
    (λ k. (c.type_inv.cells k).fits) (λ k. (c.type_inv.others k).fits) c.loop-word.invariant.alike
    (c.cmp.ensures ∙ (λ i. nat_cmp (c.word_at.ensures i) (c.word_at-in-loop-word.ensures i))) c.in_default.not-Equal

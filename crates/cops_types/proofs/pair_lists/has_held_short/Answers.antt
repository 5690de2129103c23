use Rattle.std.proofs.Common.{◌≡◌, false, ◌∙◌, sym, ap, get_or}
use Rattle.std.specs.Prelude.{◌||◌}
use Rattle.std.proofs.lemmas.List.Folds.{list_any_at, list_any_more}
use Rattle.cops_types.specs.Pairs.{holds}
use Rattle.cops_types.proofs.pair_lists.has_held_short.Goals as goal

pub returns-then-has_short : goal.returns-then-has_short
returns-then-has_short c =
    let pair = c.pair-item.result in
    let deps = c.args.deps.now in
    sym (list_any_at (holds deps) c.args.pairs.now c.loop-pair.pair-index pair c.loop-pair-test.true (ap (holds deps) (sym c.pair-item.is) ∙ sym c.has_short.ensures ∙ c.if-has_short.true))

pub loop-pair-preserved : goal.loop-pair-preserved
loop-pair-preserved c =
    let pairs = c.args.pairs.now in
    let i = c.loop-pair.pair-index in
    let pair = c.pair-item.result in
    let deps = c.args.deps.now in
    let other : holds deps (get_or pairs i pair) ≡ false = ap (holds deps) (sym c.pair-item.is) ∙ sym c.has_short.ensures ∙ c.if-has_short.false in
    list_any_more (holds deps) pairs i pair c.loop-pair-test.true ∙ (λ j. c.loop-pair.invariant j || other j)

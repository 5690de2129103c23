use Rattle.std.proofs.Common.{◌∙◌}
use Rattle.std.specs.Ordering.{nat_cmp}
use Rattle.cops_types.proofs.WordOrder.{fronts_alike, fronts_apart}
use Rattle.cops_types.proofs.fronts.order_of_fronts.Goals as goal

pub returns-in-Equal : goal.returns-in-Equal
returns-in-Equal c =
    fronts_alike c.args.cells.now c.args.others.now c.args.second _ _ c.requires.second c.requires.cells c.requires.others (λ k. (c.type_inv.cells k).fits) (λ k. (c.type_inv.others k).fits)
    (c.cmp.ensures ∙ (λ i. nat_cmp (c.word_at.ensures i) (c.word_at-2.ensures i))) c.in-Equal.is
    (c.cmp-in-Equal.ensures ∙ (λ i. nat_cmp (c.word_at-in-Equal.ensures i) (c.word_at-in-Equal-2.ensures i)))

pub returns-in_default : goal.returns-in_default
returns-in_default c =
    fronts_apart c.args.cells.now c.args.others.now c.args.second _ c.requires.second c.requires.cells c.requires.others (λ k. (c.type_inv.cells k).fits) (λ k. (c.type_inv.others k).fits)
    (c.cmp.ensures ∙ (λ i. nat_cmp (c.word_at.ensures i) (c.word_at-2.ensures i))) c.in_default.not-Equal

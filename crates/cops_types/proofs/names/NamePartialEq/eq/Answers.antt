use Rattle.std.proofs.Common.{sym, ap, ◌∙◌}
use Rattle.std.proofs.lemmas.Cmp.{is_eq_index}
use Rattle.std.specs.Cmp.Lexicographic.{texts_ties}
use Rattle.std.specs.Ordering.{is_eq}
use Rattle.cops_types.specs.Key.{key_cmp}
use Rattle.cops_types.proofs.WordOrder.{name_cells_decide}
use Rattle.cops_types.proofs.names.NamePartialEq.eq.Goals as goal

pub returns : goal.returns
returns c =
    let order = c.order_of_fronts.result in
    let decided =
    name_cells_decide c.self.inside.bytes c.other.inside.bytes c.self.inside.len c.other.inside.len order c.self.invariant c.other.invariant c.order_of_fronts.ensures
    ∙ (λ i. key_cmp (c.self.view_is i) (c.other.view_is i)) in
    c.eq.ensures ∙ sym (is_eq_index order) ∙ ap is_eq decided ∙ sym (texts_ties c.args.self.now c.args.other.now)

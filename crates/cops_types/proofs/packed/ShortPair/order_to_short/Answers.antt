use Rattle.std.proofs.Common.{◌∙◌}
use Rattle.cops_types.specs.Key.{key_cmp}
use Rattle.cops_types.proofs.WordOrder.{shorts_decide}
use Rattle.cops_types.proofs.packed.ShortPair.order_to_short.Goals as goal

pub returns : goal.returns
returns c =
    shorts_decide c.self.inside.bytes c.other.inside.bytes c.self.inside.len c.other.inside.len c.order_of_fronts.result c.self.invariant c.other.invariant c.order_of_fronts.ensures
    ∙ (λ i. key_cmp (c.self.view_is i).key (c.other.view_is i).key)

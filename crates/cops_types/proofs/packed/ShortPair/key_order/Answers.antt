use Rattle.std.proofs.Common.{◌∙◌, inl, inr, arith, ◌≤◌, ◌<◌, length, sym}
use Rattle.cops_types.specs.Key.{key_cmp}
use Rattle.cops_types.proofs.WordOrder.{alike_by, apart_by, front_size, short_before, short_decided}
use Rattle.cops_types.proofs.packed.ShortPair.key_order.Goals as goal

pub order_of_fronts-order-requires-clause-others : goal.order_of_fronts-order-requires-clause-others
order_of_fronts-order-requires-clause-others c = front_size c.args.key.now c.front.result.now c.front.ensures.key c.front.ensures.value

pub returns-then-ne : goal.returns-then-ne
returns-then-ne c =
    let order = c.order_of_fronts-order.result in
    short_decided c.self.inside.bytes c.args.key.now c.front.result.now c.self.inside.len order c.self.invariant c.front.ensures.key c.front.ensures.value c.order_of_fronts-order.ensures (inl (apart_by order _ c.ne.ensures c.if-ne.true))
    ∙ (λ i. key_cmp (c.self.view_is i).key c.args.key.now)

pub returns-then-len-le15 : goal.returns-then-len-le15
returns-then-len-le15 c =
    let order = c.order_of_fronts-order.result in
    let alike = alike_by order _ c.ne.ensures c.if-ne.false in
    let short : length c.args.key.now ≤ 15 = omega arith in
    sym alike
    ∙ short_decided c.self.inside.bytes c.args.key.now c.front.result.now c.self.inside.len order c.self.invariant c.front.ensures.key c.front.ensures.value c.order_of_fronts-order.ensures (inr short)
    ∙ (λ i. key_cmp (c.self.view_is i).key c.args.key.now)

pub returns-else-len-le15 : goal.returns-else-len-le15
returns-else-len-le15 c =
    let order = c.order_of_fronts-order.result in
    let alike = alike_by order _ c.ne.ensures c.if-ne.false in
    let long : 15 < length c.args.key.now = omega arith in
    short_before c.self.inside.bytes c.args.key.now c.front.result.now c.self.inside.len order c.self.invariant c.front.ensures.key c.front.ensures.value c.order_of_fronts-order.ensures alike long
    ∙ (λ i. key_cmp (c.self.view_is i).key c.args.key.now)

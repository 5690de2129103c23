use Rattle.std.proofs.Common.{◌≡◌, ◌+◌, ◌*◌, ◌<◌, ◌≤◌, ◌∙◌, ℕ, inl, inr, arith, sym, subst}
use Rattle.std.proofs.lemmas.Grind.{div_ceil_times}
use Rattle.std.specs.Int.{div_ceil}
use Rattle.cops_types.specs.Key.{key_cmp}
use Rattle.cops_types.proofs.WordOrder.{alike_by, apart_by, cells_decide}
use Rattle.cops_types.proofs.keys.KeyOrd.cmp.Goals as goal

-- so many words hold so many bytes, and fewer than 8 more
rounded : (most words : ℕ) → words ≡ div_ceil most 8 → (most ≤ words * 8) × (words * 8 < most + 8)
rounded most words is = subst (λ n. (most ≤ n * 8) × (n * 8 < most + 8)) (sym is) (div_ceil_times most 8 (omega arith))

pub returns-then-ne : goal.returns-then-ne
returns-then-ne c =
    let order = c.order_of_fronts-order.result in
    cells_decide 16 c.self.inside.bytes c.other.inside.bytes c.self.inside.len c.other.inside.len order (omega arith) c.self.invariant c.other.invariant c.order_of_fronts-order.ensures (inl (apart_by order _ c.ne.ensures c.if-ne.true))
    ∙ (λ i. key_cmp (c.self.view_is i) (c.other.view_is i))

pub returns-then-most-le16 : goal.returns-then-most-le16
returns-then-most-le16 c =
    let order = c.order_of_fronts-order.result in
    let alike = alike_by order _ c.ne.ensures c.if-ne.false in
    let mine : c.self.inside.len ≤ 16 = omega arith in
    let its : c.other.inside.len ≤ 16 = omega arith in
    sym alike
    ∙ cells_decide 16 c.self.inside.bytes c.other.inside.bytes c.self.inside.len c.other.inside.len order (omega arith) c.self.invariant c.other.invariant c.order_of_fronts-order.ensures (inr (mine, its))
    ∙ (λ i. key_cmp (c.self.view_is i) (c.other.view_is i))

pub order_of_words-requires-clause-begun : goal.order_of_words-requires-clause-begun
order_of_words-requires-clause-begun c =
    let size = rounded c.max-most.result c.div_ceil.result c.div_ceil.ensures in
    omega (arith, size.0, c.if-most-le16.false)

pub order_of_words-requires-clause-cells : goal.order_of_words-requires-clause-cells
order_of_words-requires-clause-cells c =
    let size = rounded c.max-most.result c.div_ceil.result c.div_ceil.ensures in
    omega (arith, size.1, c.max-most.ensures, c.self.invariant.size, c.self.invariant.fits, c.other.invariant.fits)

pub order_of_words-requires-clause-others : goal.order_of_words-requires-clause-others
order_of_words-requires-clause-others c =
    let size = rounded c.max-most.result c.div_ceil.result c.div_ceil.ensures in
    omega (arith, size.1, c.max-most.ensures, c.other.invariant.size, c.self.invariant.fits, c.other.invariant.fits)

pub order_of_words-requires-clause-front : goal.order_of_words-requires-clause-front
order_of_words-requires-clause-front c = sym c.order_of_fronts-order.ensures ∙ alike_by c.order_of_fronts-order.result _ c.ne.ensures c.if-ne.false

pub returns : goal.returns
returns c =
    let size = rounded c.max-most.result c.div_ceil.result c.div_ceil.ensures in
    let within : c.div_ceil.result * 8 ≤ 64 = omega (arith, size.1, c.max-most.ensures, c.self.invariant.fits, c.other.invariant.fits) in
    let mine : c.self.inside.len ≤ c.div_ceil.result * 8 = omega (arith, size.0, c.max-most.ensures) in
    let its : c.other.inside.len ≤ c.div_ceil.result * 8 = omega (arith, size.0, c.max-most.ensures) in
    cells_decide (c.div_ceil.result * 8) c.self.inside.bytes c.other.inside.bytes c.self.inside.len c.other.inside.len c.order_of_words.result within c.self.invariant c.other.invariant c.order_of_words.ensures (inr (mine, its))
    ∙ (λ i. key_cmp (c.self.view_is i) (c.other.view_is i))

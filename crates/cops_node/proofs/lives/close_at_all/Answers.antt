use Rattle.std.proofs.Common.{◌≡◌, ◌≤◌, ◌+◌, suc, length, set, subst, ◌∙◌, arith}
use Rattle.cops_node.specs.Lives.{AtFirst, IsClosed}
use Rattle.cops_node.proofs.LifeLemmas.{first_all, first_below, first_length, first_more, first_none}
use Rattle.cops_node.proofs.lives.close_at_all.Goals as goal

pub loop-number-init : goal.loop-number-init
loop-number-init c = first_none (IsClosed c.args.slot) c.args.nodes.now.items

pub loop-number-preserved : goal.loop-number-preserved
loop-number-preserved c =
    let Is = IsClosed c.args.slot in
    let n = c.loop-number.number in
    let old = c.args.nodes.now.items in
    let now = c.loop-number.nodes.items in
    let node = c.index_mut-node.result.now in
    let closed = c.close-ended.ensures in
    let end = c.len-number-end.ensures ∙ c.args.nodes.now.ok.0 in
    let next : suc n ≡ n + 1 = omega arith in
    subst (λ m. AtFirst Is m old (set now n c.close-ended.new.self)) next
    (first_more Is n old now node c.close-ended.new.self c.loop-number.invariant (first_below Is n c.len-number-end.result old now c.loop-number.invariant end c.loop-number-test.true)
    c.index_mut-node.ensures.value (record { vacant = closed.place; empty = closed.empty; others = closed.others; home = closed.home }))

pub returns : goal.returns
returns c =
    let Is = IsClosed c.args.slot in
    let n = c.loop-number.number in
    let old = c.args.nodes.now.items in
    let now = c.loop-number.nodes.items in
    let same = first_length Is n old now c.loop-number.invariant in
    let all : length now ≤ n = omega (arith, same, c.len-number-end.ensures, c.args.nodes.now.ok.0, c.loop-number-test.false) in
    first_all Is n old now c.loop-number.invariant all

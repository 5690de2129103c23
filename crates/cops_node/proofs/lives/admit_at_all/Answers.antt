use Rattle.std.proofs.Common.{◌≡◌, ◌≤◌, ◌+◌, List, false, suc, length, set, subst, ap, ◌∙◌, arith}
use Rattle.std.proofs.lemmas.List.{set-get_or}
use Rattle.cops_node.specs.Parts.{Shared, is_taken}
use Rattle.cops_node.specs.Lives.{AtEach, AtFirst, IsAdmitted, IsClosed}
use Rattle.cops_node.proofs.LifeLemmas.{all_gone_again, first_all, first_below, first_length, first_more, first_none, still}
use Rattle.cops_node.proofs.lives.admit_at_all.Goals as goal

pub loop-number-init : goal.loop-number-init
loop-number-init c = first_none (IsAdmitted c.args.slot c.args.first_clock c.args.quota) c.args.nodes.now.items

pub loop-number-preserved : goal.loop-number-preserved
loop-number-preserved c =
    let Is = IsAdmitted c.args.slot c.args.first_clock c.args.quota in
    let n = c.loop-number.number in
    let old = c.args.nodes.now.items in
    let now = c.loop-number.nodes.items in
    let node = c.index_mut-node.result.now in
    let came = c.in_default.ensures in
    let end = c.len-number-end.ensures ∙ c.args.nodes.now.ok.0 in
    let next : suc n ≡ n + 1 = omega arith in
    subst (λ m. AtFirst Is m old (set now n c.give.new.self)) next
    (first_more Is n old now node c.give.new.self c.loop-number.invariant (first_below Is n c.len-number-end.result old now c.loop-number.invariant end c.loop-number-test.true)
    c.index_mut-node.ensures.value (record { place = came.place; empty = came.empty; others = came.others; home = came.home }))

pub returns-in-Err-clause-err : goal.returns-in-Err-clause-err
returns-in-Err-clause-err c =
    let n = c.loop-number.number in
    let now = c.loop-number.nodes.items in
    let node = c.index_mut-node.result.now in
    let same : set now n c.give.new.self ≡ now = ap (set now n) (c.in-Err.ensures.err ∙ c.index_mut-node.ensures.value) ∙ set-get_or now n node in
    all_gone_again c.args.slot c.args.first_clock c.args.quota n c.args.nodes.now.items now c.close_at_all.new.nodes.items c.loop-number.invariant
    (subst (λ (nodes : List Shared). AtEach (IsClosed c.args.slot) nodes c.close_at_all.new.nodes.items) same c.close_at_all.ensures)

pub give-requires-clause-free : goal.give-requires-clause-free
give-requires-clause-free c =
    let Is = IsAdmitted c.args.slot c.args.first_clock c.args.quota in
    let n = c.loop-number.number in
    let old = c.args.nodes.now.items in
    let now = c.loop-number.nodes.items in
    let node = c.index_mut-node.result.now in
    let end = c.len-number-end.ensures ∙ c.args.nodes.now.ok.0 in
    still (λ (x : Shared). is_taken c.args.slot x ≡ false) Is n old now node c.requires.vacant c.loop-number.invariant
    (first_below Is n c.len-number-end.result old now c.loop-number.invariant end c.loop-number-test.true) c.index_mut-node.ensures.value

pub returns-clause-ok : goal.returns-clause-ok
returns-clause-ok c =
    let Is = IsAdmitted c.args.slot c.args.first_clock c.args.quota in
    let n = c.loop-number.number in
    let old = c.args.nodes.now.items in
    let now = c.loop-number.nodes.items in
    let same = first_length Is n old now c.loop-number.invariant in
    let all : length now ≤ n = omega (arith, same, c.len-number-end.ensures, c.args.nodes.now.ok.0, c.loop-number-test.false) in
    first_all Is n old now c.loop-number.invariant all

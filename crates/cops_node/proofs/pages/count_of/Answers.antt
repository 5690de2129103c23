use Rattle.std.proofs.Common.{◌≡◌, ◌+◌, ◌*◌, ◌-◌, arith, length}
use Rattle.cops_node.specs.Pages.{PAGE, calls_in}
use Rattle.cops_node.proofs.PageLemmas.{calls_counted}
use Rattle.cops_node.proofs.pages.count_of.Goals as goal
use Rattle.cops_node.proofs.pages.count_of.Goals.{After-index-page}

counted : (c : After-index-page) → length (calls_in c.args.pages.now.slots c.args.list.now) ≡ (c.args.list.now.pages - 1) * PAGE + length c.index-page.result.now.rows.items
counted c = calls_counted c.args.pages.now.slots c.requires.0 c.args.list.now c.index-page.result.now c.requires.1 (omega (arith, c.if-list-eq0.false)) c.index-page.ensures

pub overflow_mul-result : goal.overflow_mul-result
overflow_mul-result c = let all = counted c in let small = c.requires.1.countable in omega (arith, all, small)

pub overflow_add-result : goal.overflow_add-result
overflow_add-result c =
    let all = counted c.before in
    let small = c.requires.1.countable in
    omega (arith, all, small, c.len.ensures, c.index-page.result.now.rows.ok.0)

pub returns : goal.returns
returns c = let all = counted c.before in omega (arith, all, c.len.ensures, c.index-page.result.now.rows.ok.0)

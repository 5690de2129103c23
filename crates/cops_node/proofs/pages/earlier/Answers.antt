use Rattle.std.proofs.Common.{suc, ap, arith, subst}
use Rattle.cops_node.specs.Pages.{IsPageChain, PAGE, before_in, page_at}
use Rattle.cops_node.proofs.PageLemmas.{chain_at, page_number, skipped, some_pages}
use Rattle.cops_node.proofs.pages.earlier.Goals as goal

pub returns-then-skipped-number : goal.returns-then-skipped-number
returns-then-skipped-number c = λ slot n rows h alone lt.
    let m = skipped c.args.pages.now.slots slot rows n c.args.at c.index-page.result.now h c.index-page.ensures (omega arith) in
    let less = m.1 in
    let chain = chain_at c.args.pages.now.slots slot rows n c.args.at m.0 c.index-page.result.now.skip alone h (omega arith) m.2 in
    let number = page_number c.args.pages.now.slots slot m.0 c.index-page.result.now.skip c.index-skipped.result.now m.2 c.index-skipped.ensures in
    let test = c.if-skipped-number.true in
    (m.0, chain.0, chain.1, omega arith, less)

pub returns-else-skipped-number : goal.returns-else-skipped-number
returns-else-skipped-number c = λ slot n rows h alone lt.
    let m = some_pages n (omega arith) in
    let is = m.1 in (
      m.0,
      PAGE,
      subst (IsPageChain c.args.pages.now.slots slot PAGE (suc m.0)) (ap before_in c.index-page.ensures) (subst (λ k. IsPageChain c.args.pages.now.slots slot PAGE k (before_in (page_at c.args.pages.now.slots c.args.at))) m.1 h.3),
      omega arith,
      omega arith,
    )

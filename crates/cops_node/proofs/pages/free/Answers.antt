use Rattle.std.proofs.Common.{◌≡◌, ap, arith, refl, subst, sym}
use Rattle.cops_node.specs.Pages.{before_in}
use Rattle.cops_node.proofs.PageLemmas.{HasPages, none_left, others_left, pages_left, pages_there, some_pages}
use Rattle.cops_node.proofs.pages.free.Goals as goal

pub remove-page-requires : goal.remove-page-requires
remove-page-requires c =
    let left = c.loop-page.invariant c.requires.0 c.requires.1 in
    let sum = left.1 in
    let test = c.loop-page-test.true in
    pages_there c.loop-page.pages.slots c.requires.0 left.0 c.loop-page.list.last left.2 (omega arith)

pub loop-page-preserved : goal.loop-page-preserved
loop-page-preserved c = λ slot h.
    let left = c.loop-page.invariant slot h in
    let sum = left.1 in
    let test = c.loop-page-test.true in
    let n = some_pages left.0 (omega arith) in
    let one = n.1 in
    let pages = subst (λ k. HasPages c.loop-page.pages.slots slot k c.loop-page.list.last) n.1 left.2 in (
      n.0,
      omega arith,
      pages_left c.args.pages.now.slots c.loop-page.pages.slots c.remove-page.new.self.slots slot n.0 c.loop-page.list.last pages c.remove-page.ensures.updates.others c.remove-page.ensures.updates.changed
          c.remove-page.result.before (sym (ap before_in c.remove-page.ensures.value)),
      others_left c.args.pages.now.slots c.loop-page.pages.slots c.remove-page.new.self.slots slot n.0 c.loop-page.list.last pages c.remove-page.ensures.updates.others c.remove-page.ensures.updates.changed left.3,
    )

pub returns-clause-turn : goal.returns-clause-turn
returns-clause-turn c = λ slot h.
    let left = c.loop-page.invariant slot h in
    let sum = left.1 in
    let test = c.loop-page-test.false in
    let none : left.0 ≡ 0 = omega arith in
    none_left c.args.pages.now.slots c.loop-page.pages.slots slot c.loop-page.list.last (record { last = c.loop-page.list.last; pages = 0 })
    (subst (λ k. HasPages c.loop-page.pages.slots slot k c.loop-page.list.last) none left.2) left.3 refl

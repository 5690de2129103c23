use Rattle.std.proofs.Common.{◌≡◌, ℕ, ◌+◌}
use Rattle.cops_node.specs.Pages.{IsPageList, OtherPagesStay}
use Rattle.cops_node.proofs.PageLemmas.{HasPages}
use Rattle.cops_node.proofs.pages.free.Given as goal

abbrev pub invariant-loop-page : goal.invariant-loop-page
invariant-loop-page l =
    (slot : ℕ) → IsPageList l.fn.pages.slots slot l.fn.list
    → (left : ℕ) × (left + l._page ≡ l.fn.list.pages) × HasPages l.pages.slots slot left l.list.last × OtherPagesStay slot l.fn.pages.slots l.pages.slots

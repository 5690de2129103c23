use Rattle.std.proofs.Common.{ℕ, suc, ◌≤◌}
use Rattle.cops_node.specs.Pages.{AreNumbered, IsPageChain, number_of_page, page_at}
use Rattle.cops_node.proofs.pages.find.Given as goal

abbrev pub invariant-loop-at : goal.invariant-loop-at
invariant-loop-at l =
    (slot n rows : ℕ) → IsPageChain l.pages.slots slot rows (suc n) l.last → AreNumbered l.pages.slots slot → l.number ≤ n
    → (m rows' : ℕ) × IsPageChain l.pages.slots slot rows' (suc m) l.at × (l.number ≤ m)

abbrev pub decreases-loop-at : goal.decreases-loop-at
decreases-loop-at l = number_of_page (page_at l.pages.slots l.at)

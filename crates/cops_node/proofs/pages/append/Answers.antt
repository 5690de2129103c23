use Rattle.std.proofs.Common.{◌∙◌, ◌++◌, ◌∷◌, [], ap, sym}
use Rattle.cops_node.specs.Pages.{page_at, calls_of_page}
use Rattle.cops_node.proofs.PageLemmas.{refilled_by}
use Rattle.cops_node.proofs.pages.append.Goals as goal

pub returns : goal.returns
returns c =
    refilled_by c.args.pages.now.slots c.args.at c.index_mut-page.result.now c.push_reserved.new.self (calls_of_page (page_at c.args.pages.now.slots c.args.at) ++ c.args.row ∷ []) c.index_mut-page.ensures.value
    (c.push_reserved.ensures.items ∙ sym (ap (λ o. calls_of_page o ++ c.args.row ∷ []) c.index_mut-page.ensures.value))

use Rattle.std.proofs.Common.{◌∙◌, ap, sym}
use Rattle.cops_node.specs.Pages.{page_at, calls_of_page}
use Rattle.cops_node.proofs.PageLemmas.{refilled_by}
use Rattle.cops_node.proofs.pages.widen.Goals as goal

pub returns-clause-calls : goal.returns-clause-calls
returns-clause-calls c =
    refilled_by c.args.pages.now.slots c.args.at c.index_mut-page.result.now c.reserve.new.self (calls_of_page (page_at c.args.pages.now.slots c.args.at)) c.index_mut-page.ensures.value
    (c.reserve.ensures.items ∙ sym (ap calls_of_page c.index_mut-page.ensures.value))

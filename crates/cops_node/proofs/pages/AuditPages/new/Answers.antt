use Rattle.std.proofs.Common.{◌∙◌, ap, map}
use Rattle.std.specs.Prelude.{replicate}
use Rattle.cops_node.specs.Pages.{calls_in}
use Rattle.cops_node.proofs.PageLemmas.{no_pages_shown}
use Rattle.cops_node.proofs.pages.AuditPages.new.Goals as goal

pub returns : goal.returns
returns c =
    ap (map (calls_in _)) (c.in_ok-vec.ensures.items_if_clones_equal (λ y same. same) ∙ ap (replicate c.args.slots) c.no_list.ensures) ∙ no_pages_shown _ c.args.slots

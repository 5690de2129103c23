use Rattle.std.proofs.Common.{◌≡◌, ◌∙◌, ◌++◌, [], ap, map, subst, sym}
use Rattle.std.specs.Prelude.{replicate}
use Rattle.std.proofs.lemmas.List.{map-append}
use Rattle.cops_node.specs.Pages.{ArePages, AuditLists, calls_in, no_pages}
use Rattle.cops_node.proofs.PageLemmas.{lists_padded, no_pages_shown}
use Rattle.cops_node.proofs.pages.AuditPages.add_slots.Goals as goal

padded : (c : goal.After-drop-added-2) → c.append.new.self.items ≡ c.self.inside.lists.items ++ replicate c.args.more no_pages
padded c =
    c.in_ok-append.ensures.items
    ∙ ap (λ ls. c.self.inside.lists.items ++ ls) (c.in_ok-added.ensures.items_if_clones_equal (λ y same. same) ∙ ap (replicate c.args.more) c.no_list.ensures)

pub invariant_of-self-2 : goal.invariant_of-self-2
invariant_of-self-2 c = subst (ArePages c.self.inside.pages.slots) (sym (padded c)) (lists_padded c.self.inside.pages.slots c.self.inside.lists.items c.args.more c.self.invariant)

pub returns-clause-ok : goal.returns-clause-ok
returns-clause-ok c =
    ap (map (calls_in c.self.inside.pages.slots)) (padded c)
    ∙ map-append (calls_in c.self.inside.pages.slots) c.self.inside.lists.items (replicate c.args.more no_pages)
    ∙ ap (λ ts. map (calls_in c.self.inside.pages.slots) c.self.inside.lists.items ++ ts) (no_pages_shown c.self.inside.pages.slots c.args.more)
    ∙ ap (λ (a : AuditLists). a.trails ++ replicate c.args.more []) c.self.view_is

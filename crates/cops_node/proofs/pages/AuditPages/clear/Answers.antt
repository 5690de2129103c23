use Rattle.std.proofs.Common.{◌∙◌, ap, set}
use Rattle.cops_node.specs.Pages.{calls_to}
use Rattle.cops_node.proofs.PageLemmas.{own_list, turned_lists, turned_trails}
use Rattle.cops_node.proofs.pages.AuditPages.clear.Goals as goal

pub free-requires : goal.free-requires
free-requires c = (c.args.slot, own_list c.self.inside.pages.slots c.self.inside.lists.items c.args.self.now c.self.invariant c.self.view_is c.args.slot c.requires c.index_mut.result.now c.index_mut.ensures.value)

pub invariant_of-self : goal.invariant_of-self
invariant_of-self c =
    turned_lists c.self.inside.pages.slots c.self.inside.lists.items c.args.self.now c.self.invariant c.self.view_is c.args.slot c.requires c.index_mut.result.now c.index_mut.ensures.value
    c.free.new.pages.slots c.free.new.list
    (c.free.ensures.turn c.args.slot (own_list c.self.inside.pages.slots c.self.inside.lists.items c.args.self.now c.self.invariant c.self.view_is c.args.slot c.requires c.index_mut.result.now c.index_mut.ensures.value))

pub returns : goal.returns
returns c =
    turned_trails c.self.inside.pages.slots c.self.inside.lists.items c.args.self.now c.self.invariant c.self.view_is c.args.slot c.requires c.index_mut.result.now c.index_mut.ensures.value
    c.free.new.pages.slots c.free.new.list
    (c.free.ensures.turn c.args.slot (own_list c.self.inside.pages.slots c.self.inside.lists.items c.args.self.now c.self.invariant c.self.view_is c.args.slot c.requires c.index_mut.result.now c.index_mut.ensures.value))
    ∙ ap (λ n. set c.args.self.now.trails c.args.slot (calls_to c.free.new.pages.slots n c.free.new.list.last)) c.free.ensures.none

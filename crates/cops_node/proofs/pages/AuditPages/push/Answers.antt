use Rattle.std.proofs.Common.{◌≡◌, ◌+◌, ◌^◌, ◌<◌, ◌∙◌, length, ◌++◌, ◌∷◌, [], ap, set, subst, sym}
use Rattle.cops_node.specs.declared.pages.PageList.{PageList}
use Rattle.cops_node.specs.Pages.{IsListTurn, calls_in}
use Rattle.cops_node.proofs.PageLemmas.{list_noted, own_calls, own_list, own_spare, spare_small, spare_some, turned_lists, turned_trails}
use Rattle.cops_node.proofs.pages.AuditPages.push.Goals as goal

abbrev next : goal.After-append → PageList
next c = c.index_mut-list.result.now

noted_in : (c : goal.After-append) → IsListTurn c.self.inside.pages.slots c.append.new.pages.slots c.args.slot (next c) × (calls_in c.append.new.pages.slots (next c) ≡ calls_in c.self.inside.pages.slots c.index_mut-list.result.now ++ c.args.row ∷ [])
noted_in c =
    let room = spare_some c.self.inside.pages.slots c.index_mut-list.result.now.pages c.index_mut-list.result.now.last
    (subst (λ n. 0 < n) (own_spare c.self.inside.pages.slots c.self.inside.lists.items c.args.self.now c.self.invariant c.self.view_is c.args.slot c.requires.slot c.index_mut-list.result.now c.index_mut-list.ensures.value) c.requires.room) in
    list_noted c.self.inside.pages.slots c.append.new.pages.slots c.args.slot c.index_mut-list.result.now c.args.row
    (own_list c.self.inside.pages.slots c.self.inside.lists.items c.args.self.now c.self.invariant c.self.view_is c.args.slot c.requires.slot c.index_mut-list.result.now c.index_mut-list.ensures.value)
    room.0 (spare_small _ room.1) c.append.ensures
    (subst (λ es. length es + 1 < 2 ^ 64) (own_calls c.self.inside.pages.slots c.self.inside.lists.items c.args.self.now c.self.invariant c.self.view_is c.args.slot c.requires.slot c.index_mut-list.result.now c.index_mut-list.ensures.value) c.requires.countable)

pub invariant_of-self : goal.invariant_of-self
invariant_of-self c =
    turned_lists c.self.inside.pages.slots c.self.inside.lists.items c.args.self.now c.self.invariant c.self.view_is c.args.slot c.requires.slot c.index_mut-list.result.now c.index_mut-list.ensures.value
    c.append.new.pages.slots (next c) (noted_in c).0

pub returns : goal.returns
returns c =
    turned_trails c.self.inside.pages.slots c.self.inside.lists.items c.args.self.now c.self.invariant c.self.view_is c.args.slot c.requires.slot c.index_mut-list.result.now c.index_mut-list.ensures.value
    c.append.new.pages.slots (next c) (noted_in c).0
    ∙ ap (set c.args.self.now.trails c.args.slot)
    ((noted_in c).1
    ∙ ap (λ es. es ++ c.args.row ∷ []) (sym (own_calls c.self.inside.pages.slots c.self.inside.lists.items c.args.self.now c.self.invariant c.self.view_is c.args.slot c.requires.slot c.index_mut-list.result.now c.index_mut-list.ensures.value)))

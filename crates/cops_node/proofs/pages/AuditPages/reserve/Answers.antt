use Rattle.std.proofs.Common.{◌≡◌, ◌<◌, ◌∙◌, subst, sym, arith}
use Rattle.cops_node.specs.Pages.{IsListTurn, calls_in}
use Rattle.cops_node.proofs.PageLemmas.{OnOk-map, kept_trails, last_is_full, last_there, list_added, list_widened, own_list, room_in_last, spare_found, spare_shown, turned_lists}
use Rattle.cops_node.proofs.pages.AuditPages.reserve.Goals as goal
use Rattle.cops_node.proofs.pages.AuditPages.reserve.Goals.{After-widen}

pub has_room-requires : goal.has_room-requires
has_room-requires c = (c.args.slot, own_list c.self.inside.pages.slots c.self.inside.lists.items c.args.self.now c.self.invariant c.self.view_is c.args.slot c.requires c.index_mut-list.result.now c.index_mut-list.ensures.value)

-- ---- the last page has room

pub widen-requires : goal.widen-requires
widen-requires c =
    let room = room_in_last c.self.inside.pages.slots c.args.slot c.index_mut-list.result.now (own_list c.self.inside.pages.slots c.self.inside.lists.items c.args.self.now c.self.invariant c.self.view_is c.args.slot c.requires c.index_mut-list.result.now c.index_mut-list.ensures.value) (sym c.has_room.ensures ∙ c.if-has_room.true) in
    last_there c.self.inside.pages.slots c.args.slot c.index_mut-list.result.now (own_list c.self.inside.pages.slots c.self.inside.lists.items c.args.self.now c.self.invariant c.self.view_is c.args.slot c.requires c.index_mut-list.result.now c.index_mut-list.ensures.value) room.0

widened : (c : After-widen) → IsListTurn c.self.inside.pages.slots c.widen.new.pages.slots c.args.slot c.index_mut-list.result.now × (calls_in c.widen.new.pages.slots c.index_mut-list.result.now ≡ calls_in c.self.inside.pages.slots c.index_mut-list.result.now)
widened c =
    let room = room_in_last c.self.inside.pages.slots c.args.slot c.index_mut-list.result.now (own_list c.self.inside.pages.slots c.self.inside.lists.items c.args.self.now c.self.invariant c.self.view_is c.args.slot c.requires c.index_mut-list.result.now c.index_mut-list.ensures.value) (sym c.has_room.ensures ∙ c.if-has_room.true) in
    list_widened c.self.inside.pages.slots c.widen.new.pages.slots c.args.slot c.index_mut-list.result.now (own_list c.self.inside.pages.slots c.self.inside.lists.items c.args.self.now c.self.invariant c.self.view_is c.args.slot c.requires c.index_mut-list.result.now c.index_mut-list.ensures.value) room.0 c.widen.ensures.calls

pub invariant_of-self : goal.invariant_of-self
invariant_of-self c = turned_lists c.self.inside.pages.slots c.self.inside.lists.items c.args.self.now c.self.invariant c.self.view_is c.args.slot c.requires c.index_mut-list.result.now c.index_mut-list.ensures.value c.widen.new.pages.slots c.index_mut-list.result.now (widened c).0

pub returns-then-has_room-clause-ok : goal.returns-then-has_room-clause-ok
returns-then-has_room-clause-ok c =
    let room = room_in_last c.self.inside.pages.slots c.args.slot c.index_mut-list.result.now (own_list c.self.inside.pages.slots c.self.inside.lists.items c.args.self.now c.self.invariant c.self.view_is c.args.slot c.requires c.index_mut-list.result.now c.index_mut-list.ensures.value) (sym c.has_room.ensures ∙ c.if-has_room.true) in
    OnOk-map c.widen.result _ _ (λ found.
    subst (λ n. 0 < n) (sym (spare_shown c.self.inside.pages.slots c.self.inside.lists.items c.args.self.now c.self.invariant c.self.view_is c.args.slot c.requires c.index_mut-list.result.now c.index_mut-list.ensures.value c.widen.new.pages.slots c.index_mut-list.result.now))
    (spare_found c.widen.new.pages.slots c.index_mut-list.result.now room.0 (found room.1))) c.widen.ensures.ok

pub returns-then-has_room-clause-trails : goal.returns-then-has_room-clause-trails
returns-then-has_room-clause-trails c = kept_trails c.self.inside.pages.slots c.self.inside.lists.items c.args.self.now c.self.invariant c.self.view_is c.args.slot c.requires c.index_mut-list.result.now c.index_mut-list.ensures.value c.widen.new.pages.slots c.index_mut-list.result.now (widened c).0 (widened c).1

-- ---- a new page

pub add_page-requires-clause-list : goal.add_page-requires-clause-list
add_page-requires-clause-list c = own_list c.self.inside.pages.slots c.self.inside.lists.items c.args.self.now c.self.invariant c.self.view_is c.args.slot c.requires c.index_mut-list.result.now c.index_mut-list.ensures.value

pub add_page-requires-clause-full : goal.add_page-requires-clause-full
add_page-requires-clause-full c =
    last_is_full c.self.inside.pages.slots c.args.slot c.index_mut-list.result.now (own_list c.self.inside.pages.slots c.self.inside.lists.items c.args.self.now c.self.invariant c.self.view_is c.args.slot c.requires c.index_mut-list.result.now c.index_mut-list.ensures.value)
    (sym c.has_room.ensures ∙ c.if-has_room.false)

pub invariant_of-self-else-has_room : goal.invariant_of-self-else-has_room
invariant_of-self-else-has_room c =
    let turn = list_added c.self.inside.pages.slots c.add_page.new.pages.slots c.args.slot c.index_mut-list.result.now c.add_page.new.list (own_list c.self.inside.pages.slots c.self.inside.lists.items c.args.self.now c.self.invariant c.self.view_is c.args.slot c.requires c.index_mut-list.result.now c.index_mut-list.ensures.value)
    (last_is_full c.self.inside.pages.slots c.args.slot c.index_mut-list.result.now (own_list c.self.inside.pages.slots c.self.inside.lists.items c.args.self.now c.self.invariant c.self.view_is c.args.slot c.requires c.index_mut-list.result.now c.index_mut-list.ensures.value)
    (sym c.has_room.ensures ∙ c.if-has_room.false)) c.in_ok-add_page.ensures.ok in
    turned_lists c.self.inside.pages.slots c.self.inside.lists.items c.args.self.now c.self.invariant c.self.view_is c.args.slot c.requires c.index_mut-list.result.now c.index_mut-list.ensures.value c.add_page.new.pages.slots c.add_page.new.list turn.0

pub returns-in_ok-add_page-clause-ok : goal.returns-in_ok-add_page-clause-ok
returns-in_ok-add_page-clause-ok c =
    let more = c.in_ok-add_page.ensures.ok.pages_are in
    subst (λ n. 0 < n) (sym (spare_shown c.self.inside.pages.slots c.self.inside.lists.items c.args.self.now c.self.invariant c.self.view_is c.args.slot c.requires c.index_mut-list.result.now c.index_mut-list.ensures.value c.add_page.new.pages.slots c.add_page.new.list))
    (spare_found c.add_page.new.pages.slots c.add_page.new.list (omega arith) c.in_ok-add_page.ensures.spare)

pub returns-in_ok-add_page-clause-trails : goal.returns-in_ok-add_page-clause-trails
returns-in_ok-add_page-clause-trails c =
    let turn = list_added c.self.inside.pages.slots c.add_page.new.pages.slots c.args.slot c.index_mut-list.result.now c.add_page.new.list (own_list c.self.inside.pages.slots c.self.inside.lists.items c.args.self.now c.self.invariant c.self.view_is c.args.slot c.requires c.index_mut-list.result.now c.index_mut-list.ensures.value)
    (last_is_full c.self.inside.pages.slots c.args.slot c.index_mut-list.result.now (own_list c.self.inside.pages.slots c.self.inside.lists.items c.args.self.now c.self.invariant c.self.view_is c.args.slot c.requires c.index_mut-list.result.now c.index_mut-list.ensures.value)
    (sym c.has_room.ensures ∙ c.if-has_room.false)) c.in_ok-add_page.ensures.ok in
    kept_trails c.self.inside.pages.slots c.self.inside.lists.items c.args.self.now c.self.invariant c.self.view_is c.args.slot c.requires c.index_mut-list.result.now c.index_mut-list.ensures.value c.add_page.new.pages.slots c.add_page.new.list turn.0 turn.1

use Rattle.std.proofs.Common.{◌/◌, ◌%◌, ◌∙◌, ap, arith, List, subst, sym}
use Rattle.std.specs.Prelude.{slice_get}
use Rattle.cops_model.specs.declared.calls.AuditEntry.{AuditEntry}
use Rattle.cops_node.specs.Pages.{IsPageChain, PAGE, calls_of_page}
use Rattle.cops_node.proofs.PageLemmas.{call_shown, found_at, found_calls, found_list, page_of_call, page_there}
use Rattle.cops_node.proofs.pages.AuditPages.get_cached.Goals as goal

pub count_of-requires : goal.count_of-requires
count_of-requires c = (c.args.slot, found_list c.self.inside.pages.slots c.self.inside.lists.items c.deref.result.now c.self.invariant c.deref.ensures.value c.args.slot c.in-Some.list.now c.in-Some.ensures.lookup.1 c.in-Some.ensures.lookup.3.0)

pub find_cached-there-requires : goal.find_cached-there-requires
find_cached-there-requires c =
    let list = found_list c.self.inside.pages.slots c.self.inside.lists.items c.deref.result.now c.self.invariant c.deref.ensures.value c.args.slot c.in-Some.list.now c.in-Some.ensures.lookup.1 c.in-Some.ensures.lookup.3.0 in
    let n = page_of_call c.self.inside.pages.slots c.args.slot c.in-Some.list.now c.args.place list (let counted = c.count_of.ensures in let test = c.if-place-count_of.false in omega (arith, counted, test)) in
    (n.0, list.rows, subst (λ k. IsPageChain c.self.inside.pages.slots c.args.slot list.rows k c.in-Some.list.now.last) n.1 list.chain, list.numbered, n.2)

pub index-page-requires : goal.index-page-requires
index-page-requires c =
    let list = found_list c.self.inside.pages.slots c.self.inside.lists.items c.deref.result.now c.self.invariant c.deref.ensures.value c.args.slot c.in-Some.list.now c.in-Some.ensures.lookup.1 c.in-Some.ensures.lookup.3.0 in
    let n = page_of_call c.self.inside.pages.slots c.args.slot c.in-Some.list.now c.args.place list (let counted = c.count_of.ensures in let test = c.if-place-count_of.false in omega (arith, counted, test)) in
    page_there c.self.inside.pages.slots c.args.slot (c.args.place / PAGE) c.find_cached-there.result c.find_cached-there.ensures

pub returns : goal.returns
returns c =
    let list = found_list c.self.inside.pages.slots c.self.inside.lists.items c.deref.result.now c.self.invariant c.deref.ensures.value c.args.slot c.in-Some.list.now c.in-Some.ensures.lookup.1 c.in-Some.ensures.lookup.3.0 in
    let n = page_of_call c.self.inside.pages.slots c.args.slot c.in-Some.list.now c.args.place list (let counted = c.count_of.ensures in let test = c.if-place-count_of.false in omega (arith, counted, test)) in
    let page = c.find_cached-there.ensures in
    found_at c.deref-2.result.now (c.args.place % PAGE) c.get-2.result c.get-2.ensures.lookup
    ∙ ap (λ (rows : List AuditEntry). slice_get rows (c.args.place % PAGE)) (c.deref-2.ensures.value ∙ sym (ap calls_of_page c.index-page.ensures))
    ∙ call_shown c.self.inside.pages.slots c.args.slot c.in-Some.list.now n.0 c.args.place c.find_cached-there.result list n.1 n.2 page
    ∙ ap (λ es. slice_get es c.args.place)
    (sym (found_calls c.self.inside.pages.slots c.self.inside.lists.items c.args.self.now c.deref.result.now c.self.view_is c.deref.ensures.value c.args.slot c.in-Some.list.now c.in-Some.ensures.lookup.1 c.in-Some.ensures.lookup.3.0))

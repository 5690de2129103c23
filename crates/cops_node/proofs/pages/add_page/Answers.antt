use Rattle.std.proofs.Common.{◌∙◌, ap, arith, refl, subst, sym, List}
use Rattle.std.specs.Prelude.{Option}
use Rattle.slab.specs.Slab.{Slab}
use Rattle.cops_node.specs.declared.pages.Page.{Page}
use Rattle.cops_node.specs.Pages.{AreNumbered, IsEarlier, IsPageChain, PAGE, page_at}
use Rattle.cops_node.proofs.PageLemmas.{pages_small}
use Rattle.cops_node.proofs.pages.add_page.Goals as goal

pub skip_behind-skip-requires : goal.skip_behind-skip-requires
skip_behind-skip-requires c = (
  c.args.slot,
  PAGE,
  subst (λ (ps : List (Option Page)). IsPageChain ps c.args.slot PAGE c.args.list.now.pages c.args.list.now.last) (sym (ap (λ (s : Slab Page). s.slots) c.reserve-2.ensures.rest_kept)) c.requires.full,
  subst (λ (ps : List (Option Page)). AreNumbered ps c.args.slot) (sym (ap (λ (s : Slab Page). s.slots) c.reserve-2.ensures.rest_kept)) c.requires.list.numbered,
)

pub returns-clause-ok : goal.returns-clause-ok
returns-clause-ok c =
    let same = ap (λ (s : Slab Page). s.slots) c.reserve-2.ensures.rest_kept in
    record {
      page = record { slot = c.args.slot; number = c.args.list.now.pages; before = c.args.list.now.last; skip = c.skip_behind-skip.result; rows = c.reserve.new.self };
      vacant = ap (λ (ps : List (Option Page)). page_at ps c.insert_reserved-at.result) (sym same) ∙ c.insert_reserved-at.ensures.was_vacant;
      is = c.insert_reserved-at.ensures.updates.changed;
      others = λ x differ. c.insert_reserved-at.ensures.updates.others x differ ∙ ap (λ (ps : List (Option Page)). page_at ps x) same;
      slot_is = refl;
      number = refl;
      before = refl;
      skip = subst (λ (ps : List (Option Page)). IsEarlier ps c.args.slot c.args.list.now.pages c.skip_behind-skip.result) same
          (c.skip_behind-skip.ensures c.args.slot PAGE (subst (λ (ps : List (Option Page)). IsPageChain ps c.args.slot PAGE c.args.list.now.pages c.args.list.now.last) (sym same) c.requires.full));
      empty = c.reserve.ensures.items ∙ c.new-rows.ensures.items;
      pages_are = refl;
    }

pub overflow_add-list : goal.overflow_add-list
overflow_add-list c = let small = pages_small c.args.pages.now.slots c.args.slot c.args.list.now c.requires.list c.requires.full in omega (arith, small)

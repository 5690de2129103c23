use Rattle.std.proofs.Common.{◌≡◌, ℕ, suc, ◌+◌, ◌-◌, ◌<◌, inl, inr, drop, take, length, List, [], ◌∷◌, ◌++◌, sym, subst, ap, ◌∙◌, arith}
use Rattle.std.proofs.lemmas.List.{length-drop, take_all}
use Rattle.cops_types.specs.declared.pairs.Pair.{Pair}
use Rattle.cops_types.specs.Pairs.{newer_pair}
use Rattle.cops_types.proofs.Merging.{IsMerging, left_at, merged_all, merging_both, merging_first, merging_second, merging_start}
use Rattle.cops_types.proofs.pair_lists.merge.Goals as goal
use Rattle.cops_types.proofs.pair_lists.merge.Goals.{then-loop-first-test+else-second-more, else-loop-first-test}

pub loop-first-init : goal.loop-first-init
loop-first-init c = record {
  within_first = omega arith;
  within_second = omega arith;
  room = (let none = ap length c.requires.empty in let room = c.requires.room in omega (arith, none, room));
  merging = subst (λ done. IsMerging c.args.pairs.now c.args.more.now done c.args.pairs.now c.args.more.now) (sym c.requires.empty) (merging_start c.args.pairs.now c.args.more.now c.requires.pairs c.requires.more);
}

-- the loop's pairs stand first in what is left
opened : (pairs more done : List Pair) (i j : ℕ) (p q : Pair) → IsMerging pairs more done (drop i pairs) (drop j more) → drop i pairs ≡ p ∷ drop (suc i) pairs → drop j more ≡ q ∷ drop (suc j) more →
    IsMerging pairs more done (p ∷ drop (suc i) pairs) (q ∷ drop (suc j) more)
opened pairs more done i j p q h left right =
    subst (λ l. IsMerging pairs more done l (q ∷ drop (suc j) more)) left (subst (λ l. IsMerging pairs more done (drop i pairs) l) right h)

pub loop-first-preserved-in-Less : goal.loop-first-preserved-in-Less
loop-first-preserved-in-Less c =
    let l = c.loop-first in
    let pairs = c.args.pairs.now in
    let more = c.args.more.now in
    let p = c.index-pairs-first.result in
    let q = c.index-more-second.result in
    let test = c.loop-first-test.true in
    let other : l.second < length more = c.if-second-more.true in
    let left = left_at pairs l.first p test c.index-pairs-first.is in
    let right = left_at more l.second q other c.index-more-second.is in
    let step = merging_first pairs more l.merged.items p (drop (suc l.first) pairs) q (drop (suc l.second) more) (opened pairs more l.merged.items l.first l.second p q l.invariant.merging left right) (sym c.order_to_short.ensures ∙ c.in-Less.is) in
    let one_more : suc l.first ≡ l.first + 1 = omega arith in
    let within = l.invariant.within_second in
    let room = l.invariant.room in
    record {
      within_first = omega arith;
      within_second = within;
      room = omega (arith, room, c.push_reserved.ensures.len, c.push_reserved.ensures.capacity, test);
      merging = subst (λ done. IsMerging pairs more done (drop (l.first + 1) pairs) (drop l.second more)) (sym c.push_reserved.ensures.items)
          (subst (λ n. IsMerging pairs more (l.merged.items ++ p ∷ []) (drop n pairs) (drop l.second more)) one_more
          (subst (λ ls. IsMerging pairs more (l.merged.items ++ p ∷ []) (drop (suc l.first) pairs) ls) (sym right) step));
    }

pub loop-first-preserved-in-Greater : goal.loop-first-preserved-in-Greater
loop-first-preserved-in-Greater c =
    let l = c.loop-first in
    let pairs = c.args.pairs.now in
    let more = c.args.more.now in
    let p = c.index-pairs-first.result in
    let q = c.index-more-second.result in
    let test = c.loop-first-test.true in
    let other : l.second < length more = c.if-second-more.true in
    let left = left_at pairs l.first p test c.index-pairs-first.is in
    let right = left_at more l.second q other c.index-more-second.is in
    let step = merging_second pairs more l.merged.items p (drop (suc l.first) pairs) q (drop (suc l.second) more) (opened pairs more l.merged.items l.first l.second p q l.invariant.merging left right) (sym c.order_to_short.ensures ∙ c.in-Greater.is) in
    let one_more : suc l.second ≡ l.second + 1 = omega arith in
    let within = l.invariant.within_first in
    let room = l.invariant.room in
    record {
      within_first = within;
      within_second = omega arith;
      room = omega (arith, room, c.push_reserved-in-Greater.ensures.len, c.push_reserved-in-Greater.ensures.capacity, other);
      merging = subst (λ done. IsMerging pairs more done (drop l.first pairs) (drop (l.second + 1) more)) (sym c.push_reserved-in-Greater.ensures.items)
          (subst (λ n. IsMerging pairs more (l.merged.items ++ q ∷ []) (drop l.first pairs) (drop n more)) one_more
          (subst (λ ls. IsMerging pairs more (l.merged.items ++ q ∷ []) ls (drop (suc l.second) more)) (sym left) step));
    }

pub loop-first-preserved : goal.loop-first-preserved
loop-first-preserved c =
    let l = c.loop-first in
    let pairs = c.args.pairs.now in
    let more = c.args.more.now in
    let p = c.index-pairs-first.result in
    let q = c.index-more-second.result in
    let test = c.loop-first-test.true in
    let other : l.second < length more = c.if-second-more.true in
    let left = left_at pairs l.first p test c.index-pairs-first.is in
    let right = left_at more l.second q other c.index-more-second.is in
    let step = merging_both pairs more l.merged.items p (drop (suc l.first) pairs) q (drop (suc l.second) more) (opened pairs more l.merged.items l.first l.second p q l.invariant.merging left right) (sym c.order_to_short.ensures ∙ c.in-Equal.is) in
    let one_more : suc l.first ≡ l.first + 1 = omega arith in
    let one_other : suc l.second ≡ l.second + 1 = omega arith in
    let room = l.invariant.room in
    record {
      within_first = omega arith;
      within_second = omega arith;
      room = omega (arith, room, c.push_reserved-in-Equal.ensures.len, c.push_reserved-in-Equal.ensures.capacity, test, other);
      merging = subst (λ done. IsMerging pairs more done (drop (l.first + 1) pairs) (drop (l.second + 1) more)) (sym (c.push_reserved-in-Equal.ensures.items ∙ ap (λ z. l.merged.items ++ z ∷ []) c.newer.ensures))
          (subst (λ n. IsMerging pairs more (l.merged.items ++ newer_pair p q ∷ []) (drop n pairs) (drop (l.second + 1) more)) one_more
          (subst (λ n. IsMerging pairs more (l.merged.items ++ newer_pair p q ∷ []) (drop (suc l.first) pairs) (drop n more)) one_other step));
    }

rest : (l : List Pair) (n : ℕ) → take (length l - n) (drop n l) ≡ drop n l
rest l n = take_all (length l - n) (drop n l) (omega (arith, length-drop n l))

pub returns : goal.returns
returns c =
    let l = c.loop-first in
    let pairs = c.args.pairs.now in
    let more = c.args.more.now in
    c.extend_reserved-2.ensures.items ∙ ap (λ done. c.extend_reserved.new.pairs.items ++ done) (rest more l.second)
    ∙ ap (λ done. done ++ drop l.second more) c.extend_reserved.ensures.items
    ∙ merged_all pairs more l.merged.items l.first l.second l.invariant.merging (elim c.loop-first-test.branch [ then-loop-first-test+else-second-more w ↦ inr w.if-second-more.false | else-loop-first-test w ↦ inl w.loop-first-test.false ])

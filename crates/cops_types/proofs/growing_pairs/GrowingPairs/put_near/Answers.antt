use Rattle.std.proofs.Common.{◌≡◌, ◌<◌, ◌≤◌, ◌+◌, ℕ, true, false, List, length, insert, ◌∙◌, ap, sym, arith}
use Rattle.std.specs.Prelude.{Some, None}
use Rattle.std.proofs.lemmas.Bool.Decides.{nat_tests}
use Rattle.std.proofs.lemmas.List.Edits.{length-insert}
use Rattle.cops_types.specs.declared.faults.Fault.TheVariants.{DependenciesFull}
use Rattle.cops_types.specs.declared.pairs.Pair.{Pair}
use Rattle.cops_types.specs.Pairs.{pair_cmp, is_over}
use Rattle.cops_types.specs.Refusal.{refused_if}
use Rattle.cops_types.specs.Search.{add_item}
use Rattle.cops_types.proofs.PairLists.{pair_cmp_total}
use Rattle.cops_types.proofs.PairPlaces.{add_item-found, IsNear-add_item}
use Rattle.cops_types.proofs.Rising.{add_item_at}
use Rattle.cops_types.proofs.growing_pairs.GrowingPairs.put_near.Goals as goal

over : (limit : ℕ) (list pairs : List Pair) → list ≡ pairs → limit < length list → refused_if (is_over limit pairs) DependenciesFull ≡ Some DependenciesFull
over limit list pairs same above =
    let is : is_over limit list ≡ true = grind (arith, nat_tests, above) in
    ap (λ ps. refused_if (is_over limit ps) DependenciesFull) (sym same) ∙ ap (λ b. refused_if b DependenciesFull) is

within : (limit : ℕ) (list pairs : List Pair) → list ≡ pairs → length list ≤ limit → refused_if (is_over limit pairs) DependenciesFull ≡ None
within limit list pairs same under =
    let is : is_over limit list ≡ false = grind (arith, nat_tests, under) in
    ap (λ ps. refused_if (is_over limit ps) DependenciesFull) (sym same) ∙ ap (λ b. refused_if b DependenciesFull) is

pub returns-else-limit-len-clause-ok : goal.returns-else-limit-len-clause-ok
returns-else-limit-len-clause-ok c =
    let found = c.in-Ok.ensures in
    add_item-found c.args.self.now.pairs _ c.args.pair.now c.requires found.within found.place

pub returns-then-limit-len-clause-refused : goal.returns-then-limit-len-clause-refused
returns-then-limit-len-clause-refused c =
    let found = c.in-Ok.ensures in
    let same = add_item-found c.args.self.now.pairs _ c.args.pair.now c.requires found.within found.place in
    over c.args.limit c.args.self.now.pairs _ same (omega (arith, c.if-limit-len.true, c.len-len.ensures))

pub returns-else-limit-len-clause-refused : goal.returns-else-limit-len-clause-refused
returns-else-limit-len-clause-refused c =
    within c.args.limit c.args.self.now.pairs _ (returns-else-limit-len-clause-ok c) (omega (arith, c.if-limit-len.false, c.len-len.ensures))

pub returns-in_ok-insert_near-in-Err-clause-ok : goal.returns-in_ok-insert_near-in-Err-clause-ok
returns-in_ok-insert_near-in-Err-clause-ok c =
    let found = c.in-Err.ensures in
    c.in_ok-insert_near-in-Err.ensures.ok ∙ sym (add_item_at pair_cmp_total c.args.self.now.pairs c.in-Err.place c.args.pair.now found.within found.place.0 found.place.1)

pub returns-in_ok-insert_near-in-Err-clause-in_order : goal.returns-in_ok-insert_near-in-Err-clause-in_order
returns-in_ok-insert_near-in-Err-clause-in_order c =
    rw (returns-in_ok-insert_near-in-Err-clause-ok c) (IsNear-add_item c.args.self.now.pairs c.args.pair.now c.requires)

pub returns-in_ok-insert_near-in-Err-clause-refused : goal.returns-in_ok-insert_near-in-Err-clause-refused
returns-in_ok-insert_near-in-Err-clause-refused c =
    let found = c.in-Err.ensures in
    let pairs = c.args.self.now.pairs in
    let longer = insert pairs c.in-Err.place c.args.pair.now in
    let same : longer ≡ add_item pair_cmp c.args.pair.now pairs = sym (add_item_at pair_cmp_total pairs c.in-Err.place c.args.pair.now found.within found.place.0 found.place.1) in
    let one_more : length longer ≡ length pairs + 1 = length-insert pairs c.in-Err.place c.args.pair.now found.within in
    within c.args.limit longer _ same (omega (arith, one_more, c.if-limit-len-2.false, c.len-len.ensures))

pub returns-then-limit-len-2-clause-refused : goal.returns-then-limit-len-2-clause-refused
returns-then-limit-len-2-clause-refused c =
    let found = c.in-Err.ensures in
    let pairs = c.args.self.now.pairs in
    let longer = insert pairs c.in-Err.place c.args.pair.now in
    let same : longer ≡ add_item pair_cmp c.args.pair.now pairs = sym (add_item_at pair_cmp_total pairs c.in-Err.place c.args.pair.now found.within found.place.0 found.place.1) in
    let one_more : length longer ≡ length pairs + 1 = length-insert pairs c.in-Err.place c.args.pair.now found.within in
    over c.args.limit longer _ same (omega (arith, one_more, c.if-limit-len-2.true, c.len-len.ensures))

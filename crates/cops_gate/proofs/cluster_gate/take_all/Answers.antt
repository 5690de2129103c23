use Rattle.std.proofs.Common.{◌≡◌, arith, ◌∙◌, ◌∷◌, [], ap, subst, sym, length-append, IfSome, IsSome}
use Rattle.std.specs.Mem.Slots.{slots_items, slots_filled, slots_len}
use Rattle.std.specs.List.{AllByRecursion}
use Rattle.cops_gate.specs.Rule.{serving_at, ticket_at}
use Rattle.cops_gate.specs.Seats.{IsAtRest}
use Rattle.cops_gate.proofs.Closing.{one_more, still_filled, still_empty}
use Rattle.cops_gate.proofs.Ending.{all_joined}
use Rattle.cops_gate.proofs.cluster_gate.take_all.Goals as goal

pub loop-node-preserved : goal.loop-node-preserved
loop-node-preserved g c =
    let inv = c.loop-node.invariant in let one = c.take_one-machine.ensures in
    let ws = slots_items c.args.closed.words in let hs = slots_items c.args.closed.slots in
    let before = slots_filled c.loop-node.closed.slots in let after = slots_filled c.take_one-machine.new.closed.slots in
    let node = c.loop-node.node in let machine = c.take_one-machine.result in
    let at_old = one.some in (
      one.same.0 ∙ inv.0,
      one.same.1 ∙ inv.1,
      one.same.2 ∙ inv.2,
      (λ k above below. still_filled before after node (slots_len c.loop-node.closed.slots) one.taken inv.3 k above (let a = one.same.2 in omega arith)),
      still_empty before after node one.taken inv.4,
      (let a = inv.5 in let b = length-append c.loop-node.machines.items (machine ∷ []) in let e = ap Rattle.std.specs.Prelude.length c.push_reserved.ensures.items in omega arith),
      (let a = c.loop-node-test.true in omega arith),
      (let a = c.push_reserved.ensures.capacity in let b = inv.7 in omega arith),
      one_more ws hs c.loop-node.machines.items c.push_reserved.new.self.items node machine inv.5 c.push_reserved.ensures.items inv.8
          (subst (λ x. IfSome machine (IsAtRest x hs node)) (ap slots_items inv.0) (subst (λ x. IfSome machine (IsAtRest (slots_items c.loop-node.closed.words) x node)) inv.1 at_old)),
      (λ served. subst (AllByRecursion IsSome) (sym c.push_reserved.ensures.items)
          (all_joined IsSome c.loop-node.machines.items (machine ∷ []) (inv.9 served)
          (one.served (subst (λ (words : _). ticket_at (slots_items words) node ≡ serving_at (slots_items words) node) (sym inv.0) (served node c.loop-node-test.true)), tt))),
    )

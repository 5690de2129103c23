use Rattle.std.proofs.Common.{Some, subst, ◌≡◌, sym, IfOk, []}
use Rattle.cops_gate.specs.Filtered.{GrowsThere}
use Rattle.cops_gate.specs.History.{entry, turns_of}
use Rattle.counting_gate.specs.declared.counter.Ask.TheVariants.{Go}
use Rattle.counting_gate.specs.Counts.{counts}
use Rattle.counting_gate.specs.Counted.{HasCounted}
use Rattle.counting_gate.proofs.Apart.{differ}
use Rattle.counting_gate.proofs.turns_of_two_threads.Goals as goal

pub returns : goal.returns
returns g c =
    let opening = c.args.gate.now.opening in
    let seat = c.step.new.seat in
    let other = c.split-other.result in
    let e_here = entry 0 0 Go c.in_ok-here.here in
    let e_there = entry 0 0 Go c.in_ok-there.there in
    let here : HasCounted opening c.split-other.new.seat c.in_ok-here.here c.in_ok-here.seat = subst (λ r. IfOk r (λ x. HasCounted opening c.split-other.new.seat x.0 x.1)) c.in_ok-here.was c.join-here.ensures.first in
    let there : HasCounted opening other c.in_ok-there.there c.in_ok-there.other = subst (λ r. IfOk r (λ x. HasCounted opening other x.0 x.1)) c.in_ok-there.was c.join-here.ensures.second in
    differ opening seat.number other.number c.args.seat.history seat.history c.in_ok-here.seat.history c.in_ok-there.other.history c.meet.new.to.history
    (entry 0 0 Go c.in_ok-step.field-0) e_here e_there
    (subst (λ n. GrowsThere counts opening n 0 c.args.seat.history (Some (entry 0 0 Go c.in_ok-step.field-0)) seat.history) (sym c.step.ensures.same.1) c.in_ok-step.ensures.reply)
    (subst (λ h. turns_of other.number h ≡ []) c.split-other.ensures.new.1 c.split-other.ensures.no_turn)
    (subst (λ k. GrowsThere counts opening k.number 0 k.history (Some e_here) c.in_ok-here.seat.history) c.split-other.ensures.same here.2)
    (subst (λ h. GrowsThere counts opening other.number 0 h (Some e_there) c.in_ok-there.other.history) c.split-other.ensures.new.1 there.2)
    c.meet.ensures.seen.1 c.meet.ensures.seen.0

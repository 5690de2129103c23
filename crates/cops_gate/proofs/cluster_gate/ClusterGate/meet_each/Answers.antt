use Rattle.std.proofs.Common.{◌≡◌, ◌∙◌, ◌<◌, ◌≤◌, length, arith, ap, sym, refl, subst, get_or, take}
use Rattle.cops_gate.specs.History.{StartsWith}
use Rattle.cops_gate.specs.Seats.{gate_home}
use Rattle.cops_gate.proofs.Ending.{all_at, all_of, all_taken, all_weaker, set_same, starts_again}
use Rattle.cops_gate.proofs.cluster_gate.ClusterGate.meet_each.Goals as goal

pub meet-requires-clause-from : goal.meet-requires-clause-from
meet-requires-clause-from g c =
    let within : c.loop-number.number < length c.args.seats.now.items = omega (arith, c.loop-number-test.true, c.len-number-end.ensures, c.args.seats.now.ok.0) in
    let at : c.index_mut-from.result.now ≡ get_or c.args.seats.now.items c.loop-number.number c.index_mut-from.result.now
    = c.index_mut-from.ensures.value ∙ ap (λ l. get_or l c.loop-number.number c.index_mut-from.result.now) c.loop-number.invariant.0 in
    all_at (λ s. s.gate ≡ gate_home c.args.self.now) c.args.seats.now.items c.loop-number.number c.index_mut-from.result.now within at c.requires.seats

pub meet-requires-clause-to : goal.meet-requires-clause-to
meet-requires-clause-to g c = c.loop-number.invariant.1.0 ∙ c.requires.last

pub loop-number-preserved : goal.loop-number-preserved
loop-number-preserved g c =
    let inv = c.loop-number.invariant in
    let within : c.loop-number.number < length c.args.seats.now.items = omega (arith, c.loop-number-test.true, c.len-number-end.ensures, c.args.seats.now.ok.0) in
    let at : c.index_mut-from.result.now ≡ get_or c.args.seats.now.items c.loop-number.number c.index_mut-from.result.now
    = c.index_mut-from.ensures.value ∙ ap (λ l. get_or l c.loop-number.number c.index_mut-from.result.now) inv.0 in
    let same = c.meet.ensures.same in (
      ap (λ s. Rattle.std.proofs.Common.set c.loop-number.seats.items c.loop-number.number s) c.meet.ensures.from ∙ (set_same (λ s. s ≡ s) c.loop-number.seats.items c.loop-number.number c.index_mut-from.result.now c.index_mut-from.ensures.value ∙ inv.0),
      (same.0 ∙ inv.1.0, same.1 ∙ inv.1.1, same.2 ∙ inv.1.2),
      c.meet.ensures.account ∙ inv.2,
      all_taken (λ s. StartsWith c.meet.new.to.history s.history) c.args.seats.now.items c.loop-number.number c.index_mut-from.result.now within at c.meet.ensures.seen.0
          (all_weaker (λ s. StartsWith c.loop-number.last.history s.history) (λ s. StartsWith c.meet.new.to.history s.history) (take c.loop-number.number c.args.seats.now.items)
          (λ s sees. starts_again c.meet.new.to.history c.loop-number.last.history s.history c.meet.ensures.seen.1 sees) inv.3),
      starts_again c.meet.new.to.history c.loop-number.last.history c.args.last.now.history c.meet.ensures.seen.1 inv.4,
      c.meet.ensures.no_turn ∙ inv.5,
    )

pub returns-clause-each : goal.returns-clause-each
returns-clause-each g c =
    all_of (λ s. StartsWith c.loop-number.last.history s.history) c.args.seats.now.items c.loop-number.number (omega (arith, c.loop-number-test.false, c.len-number-end.ensures, c.args.seats.now.ok.0)) c.loop-number.invariant.3

use Rattle.std.proofs.Common.{◌≡◌, ◌<◌, ◌≤◌, ◌∙◌, arith, length, refl, sym, subst}
use Rattle.cops_node.specs.declared.hosted.SlotCall.TheVariants.{Admit}
use Rattle.cops_node.specs.declared.hosted.SlotReply.TheVariants.{Admitted}
use Rattle.cops_service.specs.Gates.{openings}
use Rattle.cops_service.specs.HostedDesks.{CallsFirst, IsClosedAtFirst, IsHostCall, told_at_slot}
use Rattle.cops_service.proofs.HostedDesks.{calls_more}
use Rattle.cops_service.proofs.hosted_desk.HostedDesk.admit_at_all.Goals as goal

pub loop-number-init : goal.loop-number-init
loop-number-init g c = (refl, refl, refl)

pub admit_at-requires-clause-node : goal.admit_at-requires-clause-node
admit_at-requires-clause-node g c =
    subst (λ cluster. c.loop-number.number < length (openings cluster)) (sym c.loop-number.invariant.0) (omega (arith, c.loop-number-test.true, c.count-number-end.ensures))

pub close_at_first-requires : goal.close_at_first-requires
close_at_first-requires g c =
    subst (λ cluster. c.loop-number.number ≤ length (openings cluster)) (sym (c.admit_at.ensures.cluster ∙ c.loop-number.invariant.0)) (omega (arith, c.loop-number-test.true, c.count-number-end.ensures))

pub loop-number-preserved : goal.loop-number-preserved
loop-number-preserved g c =
    let inv = c.loop-number.invariant in
    let n = c.loop-number.number in
    let call = Admit c.args.life c.args.tenant.now in (
      c.admit_at.ensures.cluster ∙ inv.0,
      c.admit_at.ensures.seat ∙ inv.1,
      calls_more c.args.self.now.cluster.now c.args.slot call (λ reply. reply ≡ Admitted) n c.args.self.now.seat.now c.loop-number.self.seat.now c.admit_at.new.self.seat.now Admitted inv.2
          (subst (λ cluster. IsHostCall cluster c.args.slot call n Admitted c.loop-number.self.seat.now c.admit_at.new.self.seat.now) inv.0 c.in_default.ensures.ok) refl,
    )

pub returns-in-Err-clause-refused : goal.returns-in-Err-clause-refused
returns-in-Err-clause-refused g c =
    let inv = c.loop-number.invariant in
    let n = c.loop-number.number in
    let call = Admit c.args.life c.args.tenant.now in
    let told = c.in-Err.ensures.refused in
    record {
      refuser = n;
      is_there = omega (arith, c.loop-number-test.true, c.count-number-end.ensures);
      tried = c.loop-number.self.seat.now;
      refused = c.admit_at.new.self.seat.now;
      answer = told.0;
      admitted = inv.2;
      refuses = subst (λ cluster. IsHostCall cluster c.args.slot call n (told_at_slot told.0) c.loop-number.self.seat.now c.admit_at.new.self.seat.now) inv.0 told.2;
      reason = told.1;
      closed = subst (λ cluster. IsClosedAtFirst cluster c.args.slot n c.admit_at.new.self.seat.now c.close_at_first.new.self.seat.now) (c.admit_at.ensures.cluster ∙ inv.0) c.close_at_first.ensures.closed;
    }

pub returns-clause-ok : goal.returns-clause-ok
returns-clause-ok g c =
    let done : c.loop-number.number ≡ length (openings c.args.self.now.cluster.now) = omega (arith, c.loop-number-test.false, c.count-number-end.ensures, c.loop-number.auto.number-end) in
    subst (λ n. CallsFirst c.args.self.now.cluster.now c.args.slot (Admit c.args.life c.args.tenant.now) (λ reply. reply ≡ Admitted) n c.args.self.now.seat.now c.loop-number.self.seat.now) done c.loop-number.invariant.2

use Rattle.std.proofs.Common.{◌≡◌, ◌<◌, ◌∙◌, arith, length, refl, sym, subst}
use Rattle.cops_node.specs.declared.hosted.SlotCall.TheVariants.{Close}
use Rattle.cops_service.specs.Gates.{openings}
use Rattle.cops_service.specs.HostedDesks.{IsClosedAtFirst, IsHostCall, told_at_slot}
use Rattle.cops_service.proofs.HostedDesks.{calls_more}
use Rattle.cops_service.proofs.hosted_desk.HostedDesk.close_at_first.Goals as goal

pub loop-number-init : goal.loop-number-init
loop-number-init g c = (refl, refl, refl)

pub tell-told-requires-clause-node : goal.tell-told-requires-clause-node
tell-told-requires-clause-node g c =
    subst (λ cluster. c.loop-number.number < length (openings cluster)) (sym c.loop-number.invariant.0) (omega (arith, c.loop-number-test.true, c.requires))

pub loop-number-preserved : goal.loop-number-preserved
loop-number-preserved g c =
    let inv = c.loop-number.invariant in
    let n = c.loop-number.number in
    let reply = told_at_slot c.tell-told.result in (
      c.tell-told.ensures.cluster ∙ inv.0,
      c.tell-told.ensures.seat ∙ inv.1,
      calls_more c.args.self.now.cluster.now c.args.slot Close (λ reply. Unit {0}) n c.args.self.now.seat.now c.loop-number.self.seat.now c.tell-told.new.self.seat.now reply inv.2
          (subst (λ cluster. IsHostCall cluster c.args.slot Close n reply c.loop-number.self.seat.now c.tell-told.new.self.seat.now) inv.0 c.tell-told.ensures.told) tt,
    )

pub returns-clause-closed : goal.returns-clause-closed
returns-clause-closed g c =
    let done : c.loop-number.number ≡ c.args.count = omega (arith, c.loop-number-test.false, c.loop-number.auto.number-end) in
    subst (λ n. IsClosedAtFirst c.args.self.now.cluster.now c.args.slot n c.args.self.now.seat.now c.loop-number.self.seat.now) done c.loop-number.invariant.2

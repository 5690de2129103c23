use Rattle.std.proofs.Common.{◌≡◌}
use Rattle.cops_node.specs.declared.hosted.SlotCall.TheVariants.{Admit}
use Rattle.cops_node.specs.declared.hosted.SlotReply.TheVariants.{Admitted}
use Rattle.cops_service.specs.HostedDesks.{CallsFirst}
use Rattle.cops_service.proofs.hosted_desk.HostedDesk.admit_at_all.Given as goal

abbrev pub invariant-loop-number : goal.invariant-loop-number
invariant-loop-number g l =
    (l.self.cluster.now ≡ l.fn.self.cluster.now)
    × (l.self.seat.ghost_name ≡ l.fn.self.seat.ghost_name)
    × CallsFirst l.fn.self.cluster.now l.slot (Admit l.life l.tenant) (λ reply. reply ≡ Admitted) l.number l.fn.self.seat.now l.self.seat.now

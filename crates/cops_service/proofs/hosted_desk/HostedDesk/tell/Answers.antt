use Rattle.std.proofs.Common.{refl}
use Rattle.cops_types.specs.declared.faults.Fault.TheVariants.{OutOfMemory}
use Rattle.cops_node.specs.declared.hosted.SlotReply.TheVariants.{Refused}
use Rattle.cops_node.specs.Hosting.{IsSlotTurn, host_in}
use Rattle.cops_node.specs.Lacking.{MayLackAtSlot}
use Rattle.cops_service.specs.Gates.{openings}
use Rattle.cops_service.specs.HostedDesks.{told_at_slot}
use Rattle.cops_service.proofs.Desks.{step_told}
use Rattle.cops_service.proofs.hosted_desk.HostedDesk.tell.Goals as goal

pub turn_at-requires-clause-fits : goal.turn_at-requires-clause-fits
turn_at-requires-clause-fits g c = λ first found. c.requires.fits (host_in first)

pub returns-clause-told : goal.returns-clause-told
returns-clause-told g c =
    let told = c.turn_at.ensures in
    step_told IsSlotTurn MayLackAtSlot (Refused OutOfMemory) Refused told_at_slot (λ reply. refl) refl c.args.slot 0 c.args.call (openings c.args.self.now.cluster.now) c.args.number c.args.self.now.seat.now c.turn_at.new.self
    c.turn_at.result c.reply_of.result c.reply_of.ensures told.refused told.reply told.blank told.lacks told.spent told.unspent told.same told.account told.room

use Rattle.std.proofs.Common.{refl}
use Rattle.cops_types.specs.declared.faults.Fault.TheVariants.{OutOfMemory}
use Rattle.cops_model.specs.Place.{node_number}
use Rattle.cops_node.specs.declared.hosted.SlotReply.TheVariants.{Refused}
use Rattle.cops_node.specs.Hosting.{IsSlotTurn}
use Rattle.cops_node.specs.Lacking.{MayLackAtSlot}
use Rattle.cops_service.specs.Gates.{openings}
use Rattle.cops_service.specs.HostedDesks.{told_at_slot}
use Rattle.cops_service.proofs.Desks.{step_told}
use Rattle.cops_service.proofs.HostedDesks.{fitting_slot, hosted_there}
use Rattle.cops_service.proofs.hosted_desk.HostedDesk.ask.Goals as goal

pub step-requires-clause-node : goal.step-requires-clause-node
step-requires-clause-node g c =
    hosted_there c.args.self.now.cluster.now c.args.id c.args.self.now.nodes c.requires.dc c.requires.shard

pub step-requires-clause-fits : goal.step-requires-clause-fits
step-requires-clause-fits g c =
    fitting_slot c.args.self.now.cluster.now c.args.id c.args.self.now.nodes c.requires.dc c.requires.shard c.args.slot c.args.call c.requires.fits

pub returns-clause-told : goal.returns-clause-told
returns-clause-told g c =
    let told = c.step.ensures in
    step_told IsSlotTurn MayLackAtSlot (Refused OutOfMemory) Refused told_at_slot (λ reply. refl) refl c.args.slot c.args.moment c.args.call (openings c.args.self.now.cluster.now) (node_number c.args.self.now.cluster.now.shards c.args.id) c.args.self.now.seat.now c.step.new.self
    c.step.result c.reply_of.result c.reply_of.ensures told.refused told.reply told.blank told.lacks told.spent told.unspent told.same told.account told.room

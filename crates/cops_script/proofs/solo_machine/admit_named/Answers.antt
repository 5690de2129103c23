use Rattle.std.proofs.Common.{refl}
use Rattle.cops_script.proofs.SoloMachine.{denied_takes, named_takes}
use Rattle.cops_script.proofs.solo_machine.admit_named.Goals as goal

pub returns-then-branch : goal.returns-then-branch
returns-then-branch g c =
    named_takes g.W.Tenancy.setup g.W.Tenancy.StandsFor c.args.run.now _ c.args.tenant c.in_ok-world.world c.in_ok-give_slot.field-0 c.if-branch.true c.in_ok-give_slot.ensures refl refl refl c.in_ok-world.ensures

pub returns-else-branch : goal.returns-else-branch
returns-else-branch g c =
    denied_takes g.W.Tenancy.setup g.W.Tenancy.StandsFor c.args.tenant.name c.args.run.now _ c.args.tenant c.in_ok-give_slot.field-0 c.if-branch.false c.in_ok-give_slot.ensures refl refl refl

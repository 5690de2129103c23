use Rattle.std.proofs.Common.{refl}
use Rattle.std.proofs.lemmas.Result.{on_ok_weaker}
use Rattle.cops_script.proofs.SoloMachine.{nobody_takes, world_takes}
use Rattle.cops_script.proofs.solo_machine.answer_named.Goals as goal

pub returns-in-Some : goal.returns-in-Some
returns-in-Some g c =
    on_ok_weaker c.answer_tenant.result
    (λ answers.
    world_takes g.W.Tenancy.setup g.W.Tenancy.StandsFor c.args.word.now c.args.line.now c.args.run.now _ c.in-Some.world c.answer_tenant.new.world c.args.out.now.items c.answer_tenant.new.out.items
    c.requires.word c.args.run.now.silent c.in-Some.is refl refl refl refl answers)
    c.answer_tenant.ensures

pub returns-in-None : goal.returns-in-None
returns-in-None g c = nobody_takes g.W.Tenancy.setup g.W.Tenancy.StandsFor c.args.word.now c.args.line.now c.args.run.now _ refl refl refl refl c.in-None.is c.requires.word c.args.out.now.items

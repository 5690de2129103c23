use Rattle.std.proofs.Common.{◌≡◌, ap, refl}
use Rattle.std.specs.Prelude.{Ok, Err}
use Rattle.cops_world.proofs.ActorSteps.{session_told}
use Rattle.cops_world.proofs.actors.step_session.Goals as goal

pub returns-in-Ok-clause-steps : goal.returns-in-Ok-clause-steps
returns-in-Ok-clause-steps g c = λ config solo stands.
    session_told (λ at id call reply. g.N.Nodes.Answers c.args.nodes.now id c.args.session.now.setting.slot at call reply c.step.new.nodes) (c.step.new.nodes ≡ c.args.nodes.now)
    config solo c.args.moment c.in-Some.handle (Ok c.in-Ok.progress) (Ok c.reply_of_progress.result) c.step.new.self (ap Ok c.reply_of_progress.ensures)
    (c.in-Ok.ensures.stepped config solo stands)

pub returns-in-Err-OutOfMemory-clause-steps : goal.returns-in-Err-OutOfMemory-clause-steps
returns-in-Err-OutOfMemory-clause-steps g c = λ config solo stands.
    session_told (λ at id call reply. g.N.Nodes.Answers c.args.nodes.now id c.args.session.now.setting.slot at call reply c.step.new.nodes) (c.step.new.nodes ≡ c.args.nodes.now)
    config solo c.args.moment c.in-Some.handle (Err (record {})) (Err (record {})) c.step.new.self refl
    ((rw c.in-Err-OutOfMemory.field-0-is at c.in-Err-OutOfMemory.ensures.stepped) config solo stands)

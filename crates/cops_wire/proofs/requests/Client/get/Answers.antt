use Rattle.cops_model.specs.Request.{Fetch}
use Rattle.cops_wire.specs.declared.messages.Message.TheVariants.{GetTrans}
use Rattle.cops_wire.specs.Requests.{KeepsShape, backend, number_in, reading_refusal}
use Rattle.cops_wire.specs.Running.{PutsFrame}
use Rattle.cops_wire.proofs.RequestLemmas.{answered_by_steps, few_read}
use Rattle.cops_wire.proofs.requests.Client.get.Goals as goal

pub returns-clause-answered : goal.returns-clause-answered
returns-clause-answered g c = λ lists are.
    let handle = c.args.handle.now in
    answered_by_steps (KeepsShape g.N.Nodes.shape g.N.Nodes.Answers) g.M.Moments.Gives (GetTrans handle lists) (λ config session. reading_refusal config handle lists session) (number_in handle) (Fetch lists)
    (λ config slot old new reply so. so) (λ config session none. few_read config handle lists session none) c.args.self.now.session.now c.begin_get-begun.new.session (backend c.run.new.self.session.now c.run.new.self.nodes.now c.run.new.self.moments.now) c.args.self.now.nodes.now c.args.self.now.moments.now
    c.begin_get-begun.result (PutsFrame c.run.result c.args.out.now.items c.run.new.out.items) c.begin_get-begun.ensures.setting c.run.ensures.setting (c.begin_get-begun.ensures.told lists are) (c.begin_get-begun.ensures.begun lists are) c.begin_get-begun.ensures.err c.run.ensures.ran

use Rattle.cops_model.specs.Request.{Write}
use Rattle.cops_wire.specs.declared.messages.Message.TheVariants.{Put}
use Rattle.cops_wire.specs.Requests.{KeepsShape, backend, number_in, writing_refusal}
use Rattle.cops_wire.specs.Running.{PutsFrame}
use Rattle.cops_wire.proofs.RequestLemmas.{answered_by_steps}
use Rattle.cops_wire.proofs.requests.Client.put.Goals as goal

pub returns-clause-answered : goal.returns-clause-answered
returns-clause-answered g c =
    let handle = c.args.put.handle in
    let key = c.args.put.key.now in
    let value = c.args.put.value.now in
    answered_by_steps (KeepsShape g.N.Nodes.shape g.N.Nodes.Answers) g.M.Moments.Gives (Put handle key value) (λ config session. writing_refusal config handle key value session) (number_in handle) (Write key value)
    (λ config slot old new reply so. so) (λ config session none. tt) c.args.self.now.session.now c.begin_put-begun.new.session (backend c.run.new.self.session.now c.run.new.self.nodes.now c.run.new.self.moments.now) c.args.self.now.nodes.now c.args.self.now.moments.now
    c.begin_put-begun.result (PutsFrame c.run.result c.args.out.now.items c.run.new.out.items) c.begin_put-begun.ensures.setting c.run.ensures.setting c.begin_put-begun.ensures.told c.begin_put-begun.ensures.begun c.begin_put-begun.ensures.err c.run.ensures.ran

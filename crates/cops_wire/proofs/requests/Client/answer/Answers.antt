use Rattle.std.proofs.Common.{◌≡◌, sym, subst}
use Rattle.cops_handles.specs.Wire.{wire_of}
use Rattle.cops_types.specs.declared.faults.Fault.TheVariants.{OutOfMemory}
use Rattle.cops_model.specs.Session.{context_created, context_deleted, create_refusal}
use Rattle.cops_wire.specs.declared.messages.Message.{Message}
use Rattle.cops_wire.specs.declared.messages.Message.TheVariants.{CreateContext, DeleteContext, Created, Deleted, Refused}
use Rattle.cops_wire.specs.Reading.{put_message_of}
use Rattle.cops_wire.specs.Requests.{KeepsShape, HasAnswered, backend, deletion_refusal, number_in}
use Rattle.cops_wire.specs.Running.{Asks, PutsFrame}
use Rattle.cops_wire.proofs.RequestLemmas.{answered_at_once, answered_by_lack}
use Rattle.cops_wire.proofs.requests.Client.answer.Goals as goal
use Rattle.cops_session.specs.Tags.{context_tag}

pub returns-in-Ok-clause-answered : goal.returns-in-Ok-clause-answered
returns-in-Ok-clause-answered g c = λ message asks.
    let is : message ≡ CreateContext = subst (λ r. Asks r c.args.keys.now message) c.in-Create.is asks in
    subst (λ request. (reply : Message) × HasAnswered (KeepsShape g.N.Nodes.shape g.N.Nodes.Answers) g.M.Moments.Gives (backend c.args.self.now.session.now c.args.self.now.nodes.now c.args.self.now.moments.now) request reply (backend c.create.new.session c.args.self.now.nodes.now c.args.self.now.moments.now)
    × PutsFrame c.encode.result c.args.out.now.items c.encode.new.out.items reply) (sym is) (
      c.in-Ok.reply,
      answered_at_once (KeepsShape g.N.Nodes.shape g.N.Nodes.Answers) g.M.Moments.Gives CreateContext (λ config session. create_refusal config session) context_created (λ session. Created (wire_of context_tag session.next_context))
          (λ config slot old new reply so. so) c.args.self.now.session.now c.create.new.session c.args.self.now.nodes.now c.args.self.now.moments.now c.in-Ok.reply c.create.ensures.setting c.in-Ok.ensures.created,
      (c.encode.ensures.ok, c.encode.ensures.err),
    )

pub returns-in-Err-clause-answered : goal.returns-in-Err-clause-answered
returns-in-Err-clause-answered g c = λ message asks. (
  Refused OutOfMemory,
  answered_by_lack (KeepsShape g.N.Nodes.shape g.N.Nodes.Answers) g.M.Moments.Gives message c.args.self.now.session.now c.create.new.session c.args.self.now.nodes.now c.args.self.now.moments.now c.in-Err.ensures.err,
  (rw c.from.ensures at c.push_failure.ensures.ok, c.push_failure.ensures.err),
)

pub returns-in-Delete-clause-answered : goal.returns-in-Delete-clause-answered
returns-in-Delete-clause-answered g c = λ message asks.
    let handle = c.in-Delete.handle in
    let is : message ≡ DeleteContext handle = subst (λ r. Asks r c.args.keys.now message) c.in-Delete.is asks in
    subst (λ request. (reply : Message) × HasAnswered (KeepsShape g.N.Nodes.shape g.N.Nodes.Answers) g.M.Moments.Gives (backend c.args.self.now.session.now c.args.self.now.nodes.now c.args.self.now.moments.now) request reply (backend c.delete.new.session c.args.self.now.nodes.now c.args.self.now.moments.now)
    × PutsFrame c.encode-in-Delete.result c.args.out.now.items c.encode-in-Delete.new.out.items reply) (sym is) (
      c.delete.result,
      answered_at_once (KeepsShape g.N.Nodes.shape g.N.Nodes.Answers) g.M.Moments.Gives (DeleteContext handle) (λ config session. deletion_refusal handle session) (context_deleted (number_in handle)) (λ session. Deleted)
          (λ config slot old new reply so. so) c.args.self.now.session.now c.delete.new.session c.args.self.now.nodes.now c.args.self.now.moments.now c.delete.result c.delete.ensures.setting c.delete.ensures.deleted,
      (c.encode-in-Delete.ensures.ok, c.encode-in-Delete.ensures.err),
    )

pub returns-in-Put-clause-answered : goal.returns-in-Put-clause-answered
returns-in-Put-clause-answered g c = λ message asks.
    let is : message ≡ put_message_of c.in-Put.put = subst (λ r. Asks r c.args.keys.now message) c.in-Put.is asks in
    subst (λ request. (reply : Message) × HasAnswered (KeepsShape g.N.Nodes.shape g.N.Nodes.Answers) g.M.Moments.Gives (backend c.args.self.now.session.now c.args.self.now.nodes.now c.args.self.now.moments.now) request reply (backend c.put.new.self.session.now c.put.new.self.nodes.now c.put.new.self.moments.now)
    × PutsFrame c.put.result c.args.out.now.items c.put.new.out.items reply) (sym is) c.put.ensures.answered

pub returns-in-Get-clause-answered : goal.returns-in-Get-clause-answered
returns-in-Get-clause-answered g c = λ message asks.
    let get = c.get in
    let so = subst (λ r. Asks r c.args.keys.now message) c.in-Get.is asks in
    subst (λ request. (reply : Message) × HasAnswered (KeepsShape g.N.Nodes.shape g.N.Nodes.Answers) g.M.Moments.Gives (backend c.args.self.now.session.now c.args.self.now.nodes.now c.args.self.now.moments.now) request reply (backend get.new.self.session.now get.new.self.nodes.now get.new.self.moments.now)
    × PutsFrame get.result c.args.out.now.items get.new.out.items reply) (sym so.1) (get.ensures.answered so.0 so.2)

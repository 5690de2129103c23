use Rattle.std.proofs.Common.{rules, ◌<◌, ◌∷◌, ◌∙◌, [], inl, inr, length, refl, sym, ap}
use Rattle.cops_types.specs.Sink.{sink_writer}
use Rattle.cops_wire.specs.Requests.{KeepsShape}
use Rattle.cops_wire.proofs.AnsweredRequests.{map_err, map_ok, on_err}
use Rattle.cops_wire.proofs.Conversations.{first_of}
use Rattle.cops_wire.proofs.Greetings.{if_err, stopped_later}
use Rattle.cops_wire.proofs.NewSessions.{conversed, conversed_in_part, greeted_in_part, new_sizes, there_is}
use Rattle.cops_wire.proofs.connections.Connection.converse.Goals as goal

pub serve-requires : goal.serve-requires
serve-requires g c =
    let lt : c.in_ok-slot.slot < length c.args.config.now.tenants = search rules in
    record { fits = new_sizes c.args.config.now _ c.new-session.result _ c.in_ok-slot.slot c.requires.nodes lt c.new-session.ensures.stands }

pub returns-clause-conversed : goal.returns-clause-conversed
returns-clause-conversed g c =
    let lt : c.in_ok-slot.slot < length c.args.config.now.tenants = search rules in
    let tenant = there_is c.args.config.now.tenants c.in_ok-slot.slot lt in
    let greets = c.in_ok-slot.ensures.greeted in
    let first = first_of c.args.config.now.tenants c.args.config.now.data_centres greets.messages _ _ greets.answer_is greets.waiting_are in
    map_ok c.serve.result (c.serve.ensures.served greets.came.input (first.0 ∷ []) greets.came.kept_is (sym greets.came.messages_are ∙ first.1)) (λ ended h.
    conversed (KeepsShape g.N.Nodes.shape g.N.Nodes.Answers) g.M.Moments.Gives c.args.config.now _ _ _ _ _ _ _ _ _ _ ended _ _ tenant.0 _ _ first.0 _ _ c.requires.sizes tenant.1 greets first.1 (c.new-session.ensures.stands tenant.0 tenant.1) c.new-session.ensures.slot h)

pub returns-clause-front : goal.returns-clause-front
returns-clause-front g c =
    let lt : c.in_ok-slot.slot < length c.args.config.now.tenants = search rules in
    let tenant = there_is c.args.config.now.tenants c.in_ok-slot.slot lt in
    let greets = c.in_ok-slot.ensures.greeted in
    let first = first_of c.args.config.now.tenants c.args.config.now.data_centres greets.messages _ _ greets.answer_is greets.waiting_are in
    map_err c.serve.result (c.serve.ensures.front greets.came.input (first.0 ∷ []) greets.came.kept_is (sym greets.came.messages_are ∙ first.1)) (λ h.
    conversed_in_part (KeepsShape g.N.Nodes.shape g.N.Nodes.Answers) g.M.Moments.Gives c.args.config.now _ _ _ _ _ _ _ _ _ _ _ tenant.0 _ _ first.0 _ _ c.requires.sizes tenant.1 greets first.1 (c.new-session.ensures.stands tenant.0 tenant.1) c.new-session.ensures.slot h)

pub returns-in_err-slot-clause-front : goal.returns-in_err-slot-clause-front
returns-in_err-slot-clause-front g c =
    on_err c.from_residual.result
    (inl (greeted_in_part c.args.config.now.tenants c.args.config.now.data_centres _ _ _ _ _ _ _ _ _ _ (λ same. ap (λ s. g.W.Write.contents (sink_writer s)) same) c.in_err-slot.ensures.refused, refl, refl))

pub returns-clause-err : goal.returns-clause-err
returns-clause-err g c = if_err c.serve.result _ _ c.serve.ensures.err (λ fault stopped.
    inr (stopped_later fault _ _ _ _ _ _ _ _ _ _ c.in_ok-slot.ensures.read_failures c.in_ok-slot.ensures.reads c.in_ok-slot.ensures.write_failures stopped))

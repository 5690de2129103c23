use Rattle.std.proofs.Common.{◌≡◌, ◌∙◌, ◌++◌, ◌∷◌, [], Bool, ap, max, refl, subst, sym, false}
use Rattle.std.specs.Prelude.{Some, Ok, Err}
use Rattle.std.proofs.lemmas.Result.{err_from_is_err_and}
use Rattle.cops_types.specs.declared.faults.Fault.TheVariants.{OutOfMemory}
use Rattle.cops_types.specs.declared.request_errors.RequestError.TheVariants as error
use Rattle.cops_model.specs.declared.calls.NodeReply.TheVariants.{Refused}
use Rattle.cops_model.specs.Log.{replies_of}
use Rattle.cops_model.specs.Request.{Fetch, attempt_of}
use Rattle.cops_session.specs.declared.ongoing.Reading.{Reading}
use Rattle.cops_session.specs.declared.reading.ReadStep.TheVariants as read_step
use Rattle.cops_session.specs.Reading.{is_gone, node_reply_of}
use Rattle.cops_session.specs.Rounds.{next_read}
use Rattle.cops_session.specs.Stands.{StandOrAreOver}
use Rattle.cops_session.proofs.ReadingLaws.{found_read, found_stays}
use Rattle.cops_session.proofs.TurnLaws.{called_turned, completes, fails, gone_turned, lacks, lacks_there, late_turned, works}
use Rattle.cops_session.proofs.ongoing.Reading.step.Goals as goal

pub returns-then-is_late-clause-turned : goal.returns-then-is_late-clause-turned
returns-then-is_late-clause-turned g c = λ config obs keys log setting_is stands.
    late_turned config c.args.setting obs keys log setting_is c.args.self.now stands
    (λ id call reply. g.N.Nodes.Answers c.args.nodes.now id c.args.setting.slot c.args.moment.now call reply c.args.nodes.now) (c.args.nodes.now ≡ c.args.nodes.now)
    c.args.moment.now c.begin_again.new.self c.begin_again.result refl (sym c.is_late.ensures ∙ c.if-is_late.true) c.begin_again.ensures.again

pub returns-in_err-reply-clause-turned : goal.returns-in_err-reply-clause-turned
returns-in_err-reply-clause-turned g c = λ config obs keys log setting_is stands.
    let failed = err_from_is_err_and c.from_residual.result c.from_residual.ensures.1 in
    rw (failed.1, failed.2) (
    called_turned config c.args.setting obs keys log setting_is c.args.self.now stands
    (λ id call reply. g.N.Nodes.Answers c.args.nodes.now id c.args.setting.slot c.args.moment.now call reply c.step.new.self) (c.step.new.self ≡ c.args.nodes.now)
    c.args.moment.now (Refused OutOfMemory) c.args.self.now c.args.moment.now (Err error.OutOfMemory) (sym c.is_late.ensures ∙ c.if-is_late.false)
    (rw (c.shard.ensures, c.next_key-key.ensures, c.wanted.ensures) at c.in_err-reply.ensures.answers)
    (lacks_there config c.args.setting obs keys log setting_is c.args.self.now stands c.args.moment.now (Refused OutOfMemory) c.args.self.now refl))

pub returns-in_err-found-clause-turned : goal.returns-in_err-found-clause-turned
returns-in_err-found-clause-turned g c = λ config obs keys log setting_is stands.
    let fault = c.in_err-found.field-0.0 in
    let failed = err_from_is_err_and c.from_residual-in_err-found.result c.from_residual-in_err-found.ensures.1 in
    let some = rw c.wanted-2.ensures at c.in_err-found.ensures (next_read c.args.self.now.rounds).key in
    rw (failed.1, failed.2) (
    called_turned config c.args.setting obs keys log setting_is c.args.self.now stands
    (λ id call reply. g.N.Nodes.Answers c.args.nodes.now id c.args.setting.slot c.args.moment.now call reply c.step.new.self) (c.step.new.self ≡ c.args.nodes.now)
    c.args.moment.now c.in_ok-reply.reply c.args.self.now c.args.moment.now (Err (error.Refused fault)) (sym c.is_late.ensures ∙ c.if-is_late.false)
    (rw (c.shard.ensures, c.next_key-key.ensures, c.wanted.ensures) at c.in_ok-reply.ensures.answers)
    (fails config c.args.setting obs keys log setting_is c.args.self.now stands c.args.moment.now c.in_ok-reply.reply c.args.self.now fault some))

pub returns-in_err-accept-in-Found-clause-turned : goal.returns-in_err-accept-in-Found-clause-turned
returns-in_err-accept-in-Found-clause-turned g c = λ config obs keys log setting_is stands.
    let old = c.args.self.now in
    let reply = c.in_ok-reply.reply in
    let replies = replies_of (attempt_of (Fetch keys) log).steps in
    let got = rw c.wanted-2.ensures at c.in_ok-found.ensures (next_read old.rounds).key in
    let gives : reply ≡ node_reply_of c.in_ok-found.field-0 = got.1 in
    let found_is = gives ∙ ap node_reply_of c.in-Found.is in
    let stays : is_gone reply ≡ false = ap is_gone found_is ∙ found_stays c.in-Found.found in
    let read_is = found_read c.next_key.result.now c.in-Found.found c.new-read.result reply c.new-read.ensures found_is in
    let after : Reading = record { restarts = old.restarts; start = Some c.unwrap_or.result; rounds = c.accept.new.self } in
    let failed = err_from_is_err_and c.from_residual-in_err-accept-in-Found.result c.from_residual-in_err-accept-in-Found.ensures.1 in
    let last = c.in_err-accept-in-Found.ensures.stands keys replies reply stands.distinct stands.rounds_are read_is in
    rw (failed.1, failed.2) (
    called_turned config c.args.setting obs keys log setting_is c.args.self.now stands
    (λ id call reply. g.N.Nodes.Answers c.args.nodes.now id c.args.setting.slot c.args.moment.now call reply c.step.new.self) (c.step.new.self ≡ c.args.nodes.now)
    c.args.moment.now c.in_ok-reply.reply after c.args.moment.now (Err error.OutOfMemory) (sym c.is_late.ensures ∙ c.if-is_late.false)
    (rw (c.shard.ensures, c.next_key-key.ensures, c.wanted.ensures) at c.in_ok-reply.ensures.answers)
    (lacks config c.args.setting obs keys log setting_is old stands c.args.moment.now reply got.0 stays after last))

pub returns-then-branch-clause-turned : goal.returns-then-branch-clause-turned
returns-then-branch-clause-turned g c = λ config obs keys log setting_is stands.
    let old = c.args.self.now in
    let reply = c.in_ok-reply.reply in
    let replies = replies_of (attempt_of (Fetch keys) log).steps in
    let got = rw c.wanted-2.ensures at c.in_ok-found.ensures (next_read old.rounds).key in
    let gives : reply ≡ node_reply_of c.in_ok-found.field-0 = got.1 in
    let found_is = gives ∙ ap node_reply_of c.in-Found.is in
    let stays : is_gone reply ≡ false = ap is_gone found_is ∙ found_stays c.in-Found.found in
    let read_is = found_read c.next_key.result.now c.in-Found.found c.new-read.result reply c.new-read.ensures found_is in
    let after : Reading = record { restarts = old.restarts; start = Some c.unwrap_or.result; rounds = c.accept.new.self } in
    let stand = subst (λ (b : Bool). StandOrAreOver keys (replies ++ reply ∷ []) c.accept.new.self b) c.if-branch.true (c.in_ok-accept-in-Found.ensures.stands keys replies reply stands.distinct stands.rounds_are read_is) in
    called_turned config c.args.setting obs keys log setting_is c.args.self.now stands
    (λ id call reply. g.N.Nodes.Answers c.args.nodes.now id c.args.setting.slot c.args.moment.now call reply c.step.new.self) (c.step.new.self ≡ c.args.nodes.now)
    c.args.moment.now c.in_ok-reply.reply after c.args.moment.now (Ok read_step.Working) (sym c.is_late.ensures ∙ c.if-is_late.false)
    (rw (c.shard.ensures, c.next_key-key.ensures, c.wanted.ensures) at c.in_ok-reply.ensures.answers)
    (works config c.args.setting obs keys log setting_is old stands c.args.moment.now reply got.0 stays c.accept.new.self c.unwrap_or.result c.unwrap_or.ensures stand)

pub returns-else-branch-clause-turned : goal.returns-else-branch-clause-turned
returns-else-branch-clause-turned g c = λ config obs keys log setting_is stands.
    let old = c.args.self.now in
    let reply = c.in_ok-reply.reply in
    let replies = replies_of (attempt_of (Fetch keys) log).steps in
    let got = rw c.wanted-2.ensures at c.in_ok-found.ensures (next_read old.rounds).key in
    let gives : reply ≡ node_reply_of c.in_ok-found.field-0 = got.1 in
    let found_is = gives ∙ ap node_reply_of c.in-Found.is in
    let stays : is_gone reply ≡ false = ap is_gone found_is ∙ found_stays c.in-Found.found in
    let read_is = found_read c.next_key.result.now c.in-Found.found c.new-read.result reply c.new-read.ensures found_is in
    let after : Reading = record { restarts = old.restarts; start = Some c.unwrap_or.result; rounds = c.accept.new.self } in
    let over = subst (λ (b : Bool). StandOrAreOver keys (replies ++ reply ∷ []) c.accept.new.self b) c.if-branch.false (c.in_ok-accept-in-Found.ensures.stands keys replies reply stands.distinct stands.rounds_are read_is) in
    called_turned config c.args.setting obs keys log setting_is c.args.self.now stands
    (λ id call reply. g.N.Nodes.Answers c.args.nodes.now id c.args.setting.slot c.args.moment.now call reply c.step.new.self) (c.step.new.self ≡ c.args.nodes.now)
    c.args.moment.now c.in_ok-reply.reply after c.args.moment.now (Ok read_step.Complete) (sym c.is_late.ensures ∙ c.if-is_late.false)
    (rw (c.shard.ensures, c.next_key-key.ensures, c.wanted.ensures) at c.in_ok-reply.ensures.answers)
    (completes config c.args.setting obs keys log setting_is old stands c.args.moment.now reply got.0 stays after over)

pub returns-in-Gone-clause-turned : goal.returns-in-Gone-clause-turned
returns-in-Gone-clause-turned g c = λ config obs keys log setting_is stands.
    let old = c.args.self.now in
    let reply = c.in_ok-reply.reply in
    let got = rw c.wanted-2.ensures at c.in_ok-found.ensures (next_read old.rounds).key in
    let gives : reply ≡ node_reply_of c.in_ok-found.field-0 = got.1 in
    rw c.max.ensures (
    called_turned config c.args.setting obs keys log setting_is c.args.self.now stands
    (λ id call reply. g.N.Nodes.Answers c.args.nodes.now id c.args.setting.slot c.args.moment.now call reply c.step.new.self) (c.step.new.self ≡ c.args.nodes.now)
    c.args.moment.now c.in_ok-reply.reply c.begin_again-in-Gone.new.self (max c.args.moment.now c.in-Gone.now) c.begin_again-in-Gone.result (sym c.is_late.ensures ∙ c.if-is_late.false)
    (rw (c.shard.ensures, c.next_key-key.ensures, c.wanted.ensures) at c.in_ok-reply.ensures.answers)
    (gone_turned config c.args.setting obs keys log setting_is old stands c.args.moment.now c.in-Gone.now reply c.begin_again-in-Gone.new.self c.begin_again-in-Gone.result (gives ∙ ap node_reply_of c.in-Gone.is) got.0 c.begin_again-in-Gone.ensures.again))

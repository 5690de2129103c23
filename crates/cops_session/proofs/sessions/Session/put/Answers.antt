use Rattle.std.proofs.Common.{◌≡◌, ◌∙◌, List, ap, sym, refl, subst}
use Rattle.std.specs.Prelude.{Some}
use Rattle.cops_model.specs.declared.requests.Answer.{Answer}
use Rattle.cops_types.specs.RequestErrors.{fault_told}
use Rattle.cops_model.specs.declared.requests.Answer.TheVariants as answer
use Rattle.cops_session.specs.declared.ongoing.Work.TheVariants.{Put}
use Rattle.cops_session.specs.Kept.{KeptSession}
use Rattle.cops_model.specs.Request.{next}
use Rattle.cops_model.specs.Session.{OpenContext, moment_at, request_of}
use Rattle.cops_session.specs.SessionStands.{ContextsStandFor, SessionStandsFor}
use Rattle.cops_session.specs.Stepping.{TellsNext}
use Rattle.cops_session.proofs.StepLaws.{put_steps, told_end, told_end_is, told_ended}
use Rattle.cops_session.proofs.ContextRows.{context_extended-nothing}
use Rattle.cops_session.proofs.sessions.Session.put.Goals as goal

pub returns-in-Err-clause-stepped : goal.returns-in-Err-clause-stepped
returns-in-Err-clause-stepped g c = λ number config session running stand is.
    let inside = c.self.inside in
    let now = c.max-self-inside.result in
    let kept : KeptSession = record { setting = inside.setting; moment = inside.moment; contexts = inside.contexts; next_request = inside.next_request; running = inside.running } in
    let after : KeptSession = record { setting = inside.setting; moment = now; contexts = inside.contexts; next_request = inside.next_request; running = inside.running } in
    let ended : Answer = answer.Refused (fault_told c.in-Err.error) in
    let called = c.in-Err.ensures.called in
    let stands = subst (λ (k : KeptSession). SessionStandsFor config (record k { running = Some (record { number = number; context = c.args.context; work = Put c.args.writing }) }) session) (sym c.self.view_is) stand in
    rw (c.end_by_error.ensures, told_ended c.in-Err.error) (subst
    (λ (k : KeptSession). TellsNext (λ id call reply. g.N.Nodes.Answers c.args.nodes.now id k.setting.slot (moment_at c.args.moment session) call reply c.write_step.new.nodes) (c.write_step.new.nodes ≡ c.args.nodes.now)
    config session running (moment_at c.args.moment session) (told_end c.in-Err.error) after (next config (request_of session running) running.log (moment_at c.args.moment session)))
    c.self.view_is
    (put_steps config kept after session running number c.args.context (λ t id call reply. g.N.Nodes.Answers c.args.nodes.now id inside.setting.slot t call reply c.write_step.new.nodes)
    (c.write_step.new.nodes ≡ c.args.nodes.now) c.args.writing c.args.moment now called.0 ended (told_end c.in-Err.error) (told_end_is c.in-Err.error) stands is c.max-self-inside.ensures called.1 called.2 refl refl
    (subst (λ (cs : List OpenContext). ContextsStandFor inside.contexts.rows cs) (sym (context_extended-nothing c.args.context session.contexts)) stands.contexts_are)
    refl refl refl (ap (λ k. k.running) c.self.view_is ∙ c.requires.idle)))

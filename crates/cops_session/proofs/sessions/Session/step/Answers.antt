use Rattle.std.proofs.Common.{◌≡◌, ◌∙◌, ap, refl, sym, subst, true}
use Rattle.std.specs.Prelude.{Option, Some, Ok, Err}
use Rattle.std.proofs.lemmas.Result.{MatchResult-weaker}
use Rattle.cops_model.specs.declared.requests.Answer.{Answer}
use Rattle.cops_model.specs.declared.requests.Progress.TheVariants.{Working, Restarted, Done}
use Rattle.cops_model.specs.Request.{next, values_or_full}
use Rattle.cops_model.specs.Session.{moment_at, request_of}
use Rattle.cops_session.specs.declared.ongoing.Ongoing.{Ongoing}
use Rattle.cops_session.specs.declared.ongoing.Work.TheVariants.{Put, Get}
use Rattle.cops_session.specs.declared.reading.ReadStep.TheVariants as read_step
use Rattle.cops_session.specs.Kept.{KeptSession, is_running}
use Rattle.cops_session.specs.SessionStands.{RunningStandsFor, SessionStandsFor, obs_in}
use Rattle.cops_session.specs.Stepping.{TellsNext, told_step}
use Rattle.cops_session.proofs.SessionLaws.{has_running, is_number}
use Rattle.cops_session.proofs.StepLaws.{completes, fails, get_told, lacks_reads, restarts, told_end, told_ended, works}
use Rattle.cops_session.proofs.sessions.Session.step.Goals as goal

pub returns-in-Working-clause-stepped : goal.returns-in-Working-clause-stepped
returns-in-Working-clause-stepped g c = λ config session stand.
    let inside = c.self.inside in
    let ongoing = c.in-Some.ongoing in
    let reading = c.in-Get.reading in
    let next_reading = c.step-outcome.new.self in
    let later = c.step-outcome.new.moment in
    let kept : KeptSession = record { setting = inside.setting; moment = inside.moment; contexts = inside.contexts; next_request = inside.next_request; running = inside.running } in
    let after : KeptSession = record kept { moment = later; running = Some (record { number = ongoing.number; context = ongoing.context; work = Get next_reading }) } in
    get_told config kept after session ongoing reading c.args.self.now c.self.view_is c.args.handle c.in-Some.is c.in-Get.is (sym c.runs.ensures ∙ c.if-not-runs.false) stand
    (λ slot t id call reply. g.N.Nodes.Answers c.args.nodes.now id slot t call reply c.step-outcome.new.nodes) (c.step-outcome.new.nodes ≡ c.args.nodes.now)
    c.args.moment c.max-later.result next_reading later c.step-outcome.result (Ok read_step.Working) (Ok Working) c.max-later.ensures c.step-outcome.ensures.turned (c.in-Ok.is ∙ ap Ok c.in-Working.is)
    (λ running stands keys step same number action has. works config kept after session running ongoing.number ongoing.context reading next_reading later keys step stands refl same number action has)

pub returns-in-Restarted-clause-stepped : goal.returns-in-Restarted-clause-stepped
returns-in-Restarted-clause-stepped g c = λ config session stand.
    let inside = c.self.inside in
    let ongoing = c.in-Some.ongoing in
    let reading = c.in-Get.reading in
    let next_reading = c.step-outcome.new.self in
    let later = c.step-outcome.new.moment in
    let kept : KeptSession = record { setting = inside.setting; moment = inside.moment; contexts = inside.contexts; next_request = inside.next_request; running = inside.running } in
    let after : KeptSession = record kept { moment = later; running = Some (record { number = ongoing.number; context = ongoing.context; work = Get next_reading }) } in
    get_told config kept after session ongoing reading c.args.self.now c.self.view_is c.args.handle c.in-Some.is c.in-Get.is (sym c.runs.ensures ∙ c.if-not-runs.false) stand
    (λ slot t id call reply. g.N.Nodes.Answers c.args.nodes.now id slot t call reply c.step-outcome.new.nodes) (c.step-outcome.new.nodes ≡ c.args.nodes.now)
    c.args.moment c.max-later.result next_reading later c.step-outcome.result (Ok read_step.Restarted) (Ok (Restarted next_reading.restarts)) c.max-later.ensures c.step-outcome.ensures.turned (c.in-Ok.is ∙ ap Ok c.in-Restarted.is)
    (λ running stands keys step same number action has. restarts config kept after session running ongoing.number ongoing.context reading next_reading later keys step stands refl same number action has)

pub returns-in-Ok-values-clause-stepped : goal.returns-in-Ok-values-clause-stepped
returns-in-Ok-values-clause-stepped g c = λ config session stand.
    let inside = c.self.inside in
    let ongoing = c.in-Some.ongoing in
    let reading = c.in-Get.reading in
    let next_reading = c.step-outcome.new.self in
    let later = c.step-outcome.new.moment in
    let kept : KeptSession = record { setting = inside.setting; moment = inside.moment; contexts = inside.contexts; next_request = inside.next_request; running = inside.running } in
    let after : KeptSession = c.values.new.self in
    let ended : Answer = c.in-Ok-values.answer in
    let values = c.in-Ok-values.ensures in
    get_told config kept after session ongoing reading c.args.self.now c.self.view_is c.args.handle c.in-Some.is c.in-Get.is (sym c.runs.ensures ∙ c.if-not-runs.false) stand
    (λ slot t id call reply. g.N.Nodes.Answers c.args.nodes.now id slot t call reply c.step-outcome.new.nodes) (c.step-outcome.new.nodes ≡ c.args.nodes.now)
    c.args.moment c.max-later.result next_reading later c.step-outcome.result (Ok read_step.Complete) (Ok (Done ended)) c.max-later.ensures c.step-outcome.ensures.turned (c.in-Ok.is ∙ ap Ok c.in-Complete.is)
    (λ running stands keys step same number action has. completes config kept after session running ongoing.number ongoing.context reading next_reading later ended keys step stands
    (values.answer session.contexts stands.contexts_are ∙ ap (values_or_full inside.setting.deps (obs_in ongoing.context session.contexts)) c.take_reads-reads.ensures)
    (values.stands session.contexts stands.contexts_are)
    (values.others ∙ (λ i. record { setting = inside.setting; moment = later; contexts = record inside.contexts { rows = after.contexts.rows }; next_request = inside.next_request; running = c.end.ensures i })) same action has)

pub returns-in-Err-values-clause-stepped : goal.returns-in-Err-values-clause-stepped
returns-in-Err-values-clause-stepped g c = λ config session stand.
    let inside = c.self.inside in
    let ongoing = c.in-Some.ongoing in
    let reading = c.in-Get.reading in
    let next_reading = c.step-outcome.new.self in
    let later = c.step-outcome.new.moment in
    let kept : KeptSession = record { setting = inside.setting; moment = inside.moment; contexts = inside.contexts; next_request = inside.next_request; running = inside.running } in
    let after : KeptSession = c.values.new.self in
    rw c.from.ensures (get_told config kept after session ongoing reading c.args.self.now c.self.view_is c.args.handle c.in-Some.is c.in-Get.is (sym c.runs.ensures ∙ c.if-not-runs.false) stand
    (λ slot t id call reply. g.N.Nodes.Answers c.args.nodes.now id slot t call reply c.step-outcome.new.nodes) (c.step-outcome.new.nodes ≡ c.args.nodes.now)
    c.args.moment c.max-later.result next_reading later c.step-outcome.result (Ok read_step.Complete) (Err (record {})) c.max-later.ensures c.step-outcome.ensures.turned (c.in-Ok.is ∙ ap Ok c.in-Complete.is)
    (λ running stands keys step same number action has. lacks_reads config kept after session running ongoing.number ongoing.context reading next_reading (record {}) later keys step stands
    (c.in-Err-values.ensures.err ∙ (λ i. record { setting = inside.setting; moment = later; contexts = inside.contexts; next_request = inside.next_request; running = c.end.ensures i })) action has))

pub returns-in-Err-clause-stepped : goal.returns-in-Err-clause-stepped
returns-in-Err-clause-stepped g c = λ config session stand.
    let inside = c.self.inside in
    let ongoing = c.in-Some.ongoing in
    let reading = c.in-Get.reading in
    let next_reading = c.step-outcome.new.self in
    let later = c.step-outcome.new.moment in
    let kept : KeptSession = record { setting = inside.setting; moment = inside.moment; contexts = inside.contexts; next_request = inside.next_request; running = inside.running } in
    let after : KeptSession = record kept { moment = later; running = c.end-in-Err.new.running } in
    rw (c.end_by_error.ensures, told_ended c.in-Err.error) (get_told config kept after session ongoing reading c.args.self.now c.self.view_is c.args.handle c.in-Some.is c.in-Get.is (sym c.runs.ensures ∙ c.if-not-runs.false) stand
    (λ slot t id call reply. g.N.Nodes.Answers c.args.nodes.now id slot t call reply c.step-outcome.new.nodes) (c.step-outcome.new.nodes ≡ c.args.nodes.now)
    c.args.moment c.max-later.result next_reading later c.step-outcome.result (Err c.in-Err.error) (told_end c.in-Err.error) c.max-later.ensures c.step-outcome.ensures.turned c.in-Err.is
    (λ running stands keys step same number action has. fails config kept after session running ongoing.number ongoing.context reading next_reading later c.in-Err.error keys step stands
    (λ i. record kept { moment = later; running = c.end-in-Err.ensures i }) action has))

pub returns-clause-stepped : goal.returns-clause-stepped
returns-clause-stepped g c = λ config session stand.
    let inside = c.self.inside in
    let ongoing = c.in-Some-take.ongoing in
    let kept : KeptSession = record { setting = inside.setting; moment = inside.moment; contexts = inside.contexts; next_request = inside.next_request; running = inside.running } in
    let stands : SessionStandsFor config kept session = subst (λ (k : KeptSession). SessionStandsFor config k session) (sym c.self.view_is) stand in
    let runs : inside.running ≡ Some ongoing = c.in-Some.is ∙ sym c.take.ensures.value ∙ c.in-Some-take.is in
    let found = has_running config session ongoing session.running (subst (λ (r : Option Ongoing). RunningStandsFor config session r session.running) runs stands.running_is) in
    let asked : is_running c.args.handle inside.running ≡ true = ap (λ (k : KeptSession). is_running c.args.handle k.running) c.self.view_is ∙ sym c.runs.ensures ∙ c.if-not-runs.false in
    let own : ongoing.number ≡ c.args.handle = is_number ongoing.number c.args.handle (sym (ap (is_running c.args.handle) runs) ∙ asked) in
    let with : SessionStandsFor config (record kept { running = Some (record { number = ongoing.number; context = ongoing.context; work = Put c.in-Put-work.writing }) }) session =
    subst (λ (r : Option Ongoing). SessionStandsFor config (record kept { running = r }) session) (runs ∙ ap (λ w. Some (record { number = ongoing.number; context = ongoing.context; work = w })) c.in-Put-work.is) stands in
    MatchResult-weaker (told_step c.put.result) (c.put.ensures.stepped ongoing.number config session found.0 with found.1)
    (λ told tells. (
      found.0,
      found.1,
      sym found.2 ∙ own,
      subst
          (λ (k : KeptSession). TellsNext (λ id call reply. g.N.Nodes.Answers c.args.nodes.now id k.setting.slot (moment_at c.args.moment session) call reply c.put.new.nodes) (c.put.new.nodes ≡ c.args.nodes.now)
          config session found.0 (moment_at c.args.moment session) told c.put.new.self (next config (request_of session found.0) found.0.log (moment_at c.args.moment session)))
          c.self.view_is
          tells,
    ))
    (λ fault none. absurd none)

use Rattle.std.proofs.Common.{◌≡◌, ap, refl, subst, sym}
use Rattle.std.specs.Prelude.{None, Some, Ok, Err}
use Rattle.cops_types.specs.declared.faults.Fault.TheVariants.{Idle}
use Rattle.cops_types.specs.declared.request_errors.RequestError.{RequestError}
use Rattle.cops_types.specs.declared.request_errors.RequestError.TheVariants.{OutOfMemory as Lacking, Refused as RefusedWith}
use Rattle.cops_types.specs.RequestErrors.{fault_told}
use Rattle.cops_types.specs.TenantConfig.{TenantConfig}
use Rattle.cops_model.specs.declared.requests.Answer.TheVariants.{Refused}
use Rattle.cops_model.specs.Session.{Running, Session}
use Rattle.cops_session.specs.SessionStands.{SessionStandsFor}
use Rattle.cops_session.specs.Stepping.{told_step}
use Rattle.cops_wire.specs.Requests.{KeepsShape, RequestGoesOn, backend}
use Rattle.cops_wire.specs.Running.{HasStepped}
use Rattle.cops_wire.proofs.StepLemmas.{has_number, runs_so, stepped, when_err, when_ok}
use Rattle.cops_wire.proofs.steps.step_once.Goals as goal

pub returns-in_default-clause-stepped : goal.returns-in_default-clause-stepped
returns-in_default-clause-stepped g c = (
  Some (Refused Idle),
  ((c.push_refusal.ensures.ok, c.push_refusal.ensures.err), tt),
  λ config solo running stands runs.
      absurd (has_number solo running runs (c.in_default.ensures config solo stands)),
)

pub returns-in-Done-clause-stepped : goal.returns-in-Done-clause-stepped
returns-in-Done-clause-stepped g c = (
  Some c.in-Done.answer,
  ((c.push_reply.ensures.ok, c.push_reply.ensures.err), c.push_reply.ensures.typed),
  λ config solo running stands runs.
      let does = when_ok _ _ (told_step c.step-stepped.result) (Ok c.in-Ok.shown) (ap told_step c.in-Ok.is) (c.step-stepped.ensures.stepped config solo stands) in
      stepped g.N.Nodes.Answers g.M.Moments.Gives config c.args.session.now.setting.slot g.N.Nodes.shape solo does.0 c.args.nodes.now c.step-stepped.new.nodes c.args.moments.now c.now-moment.new.self c.now-moment.result (Ok c.in-Ok.shown) c.step-stepped.new.self _
      does.1 c.now-moment.ensures c.step-stepped.ensures.shape does.3 c.in-Done.is,
)

pub returns-in-Working-clause-stepped : goal.returns-in-Working-clause-stepped
returns-in-Working-clause-stepped g c = (
  None,
  refl,
  λ config solo running stands runs.
      let does = when_ok _ _ (told_step c.step-stepped.result) (Ok c.in-Ok.shown) (ap told_step c.in-Ok.is) (c.step-stepped.ensures.stepped config solo stands) in
      stepped g.N.Nodes.Answers g.M.Moments.Gives config c.args.session.now.setting.slot g.N.Nodes.shape solo does.0 c.args.nodes.now c.step-stepped.new.nodes c.args.moments.now c.now-moment.new.self c.now-moment.result (Ok c.in-Ok.shown) c.step-stepped.new.self _
      does.1 c.now-moment.ensures c.step-stepped.ensures.shape does.3 (subst RequestGoesOn (sym c.in-Working.is) tt),
)

pub returns-in-Ok-clause-stepped : goal.returns-in-Ok-clause-stepped
returns-in-Ok-clause-stepped g c = (
  None,
  refl,
  λ config solo running stands runs.
      let does = when_ok _ _ (told_step c.step-stepped.result) (Ok c.in-Ok.shown) (ap told_step c.in-Ok.is) (c.step-stepped.ensures.stepped config solo stands) in
      stepped g.N.Nodes.Answers g.M.Moments.Gives config c.args.session.now.setting.slot g.N.Nodes.shape solo does.0 c.args.nodes.now c.step-stepped.new.nodes c.args.moments.now c.now-moment.new.self c.now-moment.result (Ok c.in-Ok.shown) c.step-stepped.new.self _
      does.1 c.now-moment.ensures c.step-stepped.ensures.shape does.3 (subst RequestGoesOn (sym c.in-Restarted.is) tt),
)

pub returns-clause-stepped : goal.returns-clause-stepped
returns-clause-stepped g c = (
  Some (Refused (fault_told c.in-Err.error)),
  ((c.push_failure.ensures.ok, c.push_failure.ensures.err), tt),
  λ config solo running stands runs. by config solo running stands runs c.in-Err.error c.in-Err.is,
)
  where
    by : (config : TenantConfig) (solo : Session) (running : Running) → SessionStandsFor config c.args.session.now solo → solo.running ≡ Some running → (error : RequestError) → c.step-stepped.result ≡ Err error →
        HasStepped (KeepsShape g.N.Nodes.shape g.N.Nodes.Answers) g.M.Moments.Gives config c.args.session.now.setting.slot (backend solo c.args.nodes.now c.args.moments.now) c.step-stepped.new.self c.step-stepped.new.nodes c.now-moment.new.self (Some (Refused (fault_told error)))
    by config solo running stands runs (RefusedWith fault) is =
        let idle = when_err _ _ (told_step c.step-stepped.result) fault (ap told_step is) (c.step-stepped.ensures.stepped config solo stands) in
        absurd (runs_so solo running c.in-Some.request runs (c.in-Some.ensures config solo stands) idle.1)
    by config solo running stands runs Lacking is =
        let does = when_ok _ _ (told_step c.step-stepped.result) (Err (record {})) (ap told_step is) (c.step-stepped.ensures.stepped config solo stands) in
        stepped g.N.Nodes.Answers g.M.Moments.Gives config c.args.session.now.setting.slot g.N.Nodes.shape solo does.0 c.args.nodes.now c.step-stepped.new.nodes c.args.moments.now c.now-moment.new.self c.now-moment.result (Err (record {})) c.step-stepped.new.self _
        does.1 c.now-moment.ensures c.step-stepped.ensures.shape does.3 refl

use Rattle.std.proofs.Common.{◌≡◌, ◌-◌, ◌^◌, subst, ap, ◌∙◌, arith}
use Rattle.std.specs.Prelude.{None, Some}
use Rattle.cops_types.specs.declared.faults.Fault.TheVariants.{Overrun}
use Rattle.cops_model.specs.declared.requests.Answer.TheVariants.{Refused}
use Rattle.cops_wire.specs.Requests.{KeepsShape, backend, message_of_answer}
use Rattle.cops_wire.specs.Running.{HasStepped, PutsFrame}
use Rattle.cops_wire.proofs.StepLemmas.{IsOngoing, ends_so, goes_on, none_gives, put_gives, too_many}
use Rattle.cops_wire.proofs.steps.finish.Goals as goal

pub returns-in-Some-clause-ended : goal.returns-in-Some-clause-ended
returns-in-Some-clause-ended g c =
    let done = c.in-Some.ensures.stepped in
    let gives = put_gives c.in-Some.put c.loop.out.items c.step_once.new.out.items done.0 done.1 in
    let answer = gives.0 in (
      answer,
      subst (λ old. PutsFrame c.in-Some.put old c.step_once.new.out.items (message_of_answer answer)) c.loop.invariant.out gives.2,
      gives.3,
      λ config solo running restarts stands runs none few.
          let h = c.loop.invariant.ongoing config solo running restarts stands runs none few in
          ends_so (KeepsShape g.N.Nodes.shape g.N.Nodes.Answers) g.M.Moments.Gives config c.args.session.now.setting.slot _ running.action c.loop.session c.step_once.new.session c.loop.nodes c.step_once.new.nodes c.loop.moments c.step_once.new.moments c.loop.counter answer h
          (subst (λ slot. HasStepped (KeepsShape g.N.Nodes.shape g.N.Nodes.Answers) g.M.Moments.Gives config slot (backend h.now c.loop.nodes c.loop.moments) c.step_once.new.session c.step_once.new.nodes c.step_once.new.moments (Some answer)) (ap (λ s. s.slot) c.loop.invariant.setting)
          (subst (λ a. HasStepped (KeepsShape g.N.Nodes.shape g.N.Nodes.Answers) g.M.Moments.Gives config c.loop.session.setting.slot (backend h.now c.loop.nodes c.loop.moments) c.step_once.new.session c.step_once.new.nodes c.step_once.new.moments a) gives.1
          (done.2 config h.now h.running h.stands h.runs))),
    )

pub loop-preserved : goal.loop-preserved
loop-preserved g c =
    let done = c.in_default.ensures.stepped in
    let gives = none_gives c.loop.out.items c.step_once.new.out.items done.0 done.1 in
    record {
      ongoing = λ config solo running restarts stands runs none few.
          let h = c.loop.invariant.ongoing config solo running restarts stands runs none few in
          goes_on (KeepsShape g.N.Nodes.shape g.N.Nodes.Answers) g.M.Moments.Gives config c.args.session.now.setting.slot _ running.action c.loop.session c.step_once.new.session c.loop.nodes c.step_once.new.nodes c.loop.moments c.step_once.new.moments c.loop.counter few h
          (subst (λ slot. HasStepped (KeepsShape g.N.Nodes.shape g.N.Nodes.Answers) g.M.Moments.Gives config slot (backend h.now c.loop.nodes c.loop.moments) c.step_once.new.session c.step_once.new.nodes c.step_once.new.moments None) (ap (λ s. s.slot) c.loop.invariant.setting)
          (subst (λ a. HasStepped (KeepsShape g.N.Nodes.shape g.N.Nodes.Answers) g.M.Moments.Gives config c.loop.session.setting.slot (backend h.now c.loop.nodes c.loop.moments) c.step_once.new.session c.step_once.new.nodes c.step_once.new.moments a) gives.0
          (done.2 config h.now h.running h.stands h.runs)));
      out = gives.1 ∙ c.loop.invariant.out;
      setting = c.step_once.ensures.setting ∙ c.loop.invariant.setting;
      shape = c.step_once.ensures.shape ∙ c.loop.invariant.shape;
    }

pub returns-clause-ended : goal.returns-clause-ended
returns-clause-ended g c = (
  Refused Overrun,
  subst (λ old. PutsFrame c.push_refusal.result old c.push_refusal.new.out.items (message_of_answer (Refused Overrun))) c.loop.invariant.out (c.push_refusal.ensures.ok, c.push_refusal.ensures.err),
  tt,
  λ config solo running restarts stands runs none few.
      let h = c.loop.invariant.ongoing config solo running restarts stands runs none few in
      let over : c.loop.counter ≡ 2 ^ 64 - 1 = omega arith in
      absurd (too_many (KeepsShape g.N.Nodes.shape g.N.Nodes.Answers) g.M.Moments.Gives config c.args.session.now.setting.slot _ running.action c.loop.session c.loop.nodes c.loop.moments restarts few
      (subst (λ n. IsOngoing (KeepsShape g.N.Nodes.shape g.N.Nodes.Answers) g.M.Moments.Gives config c.args.session.now.setting.slot (backend solo c.args.nodes.now c.args.moments.now) running.action c.loop.session c.loop.nodes c.loop.moments n) over h)),
)

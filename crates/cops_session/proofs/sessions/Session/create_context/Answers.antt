use Rattle.std.proofs.Common.{◌∙◌, ap, sym, subst}
use Rattle.cops_session.specs.Kept.{KeptSession}
use Rattle.cops_session.specs.SessionStands.{SessionStandsFor}
use Rattle.cops_session.proofs.SessionLaws.{create_refusal-idle, SessionStandsFor-created}
use Rattle.cops_session.proofs.sessions.Session.create_context.Goals as goal
use Rattle.cops_session.proofs.sessions.Session.create_context.Goals.{in-Ok, in-Err+in-Full-1, in-Err+in-Short-1}

pub returns-clause-created : goal.returns-clause-created
returns-clause-created c = λ config session stand.
    let stands = subst (λ (k : KeptSession). SessionStandsFor config k session) (sym c.self.view_is) stand in
    let idle = sym c.is_some.ensures ∙ c.if-is_some.false in
    elim c.match-open.branch [
      | in-Ok w ↦
          let opened = w.in-Ok.ensures.opened in
          rw w.result-is (
            w.in-Ok.ensures.number ∙ stands.next_context_is,
            SessionStandsFor-created config _ session stands _ c.new.result idle (record { all_is = ap (λ l. l.all) c.new.ensures; near_is = ap (λ l. l.near) c.new.ensures })
                (λ i. record { setting = c.self.inside.setting; moment = c.self.inside.moment; contexts = opened i; next_request = c.self.inside.next_request; running = c.self.inside.running }),
          )
      | in-Err+in-Full-1 w ↦ rw w.result-is tt
      | in-Err+in-Short-1 w ↦ rw w.result-is tt
    ]

pub returns-clause-told : goal.returns-clause-told
returns-clause-told c = λ config session stand.
    let stands = subst (λ (k : KeptSession). SessionStandsFor config k session) (sym c.self.view_is) stand in
    let idle = sym c.is_some.ensures ∙ c.if-is_some.false in
    elim c.match-open.branch [
      | in-Ok w ↦ rw w.result-is (create_refusal-idle config _ session stands idle ∙ w.in-Ok.ensures.told)
      | in-Err+in-Full-1 w ↦ rw w.result-is (create_refusal-idle config _ session stands idle ∙ w.in-Err.ensures.told.1)
      | in-Err+in-Short-1 w ↦ rw w.result-is (create_refusal-idle config _ session stands idle ∙ w.in-Err.ensures.told.1)
    ]

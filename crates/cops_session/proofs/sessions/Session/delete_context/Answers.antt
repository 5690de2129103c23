use Rattle.std.proofs.Common.{◌∙◌, ap, sym, subst}
use Rattle.std.specs.Prelude.{Some}
use Rattle.cops_session.specs.Kept.{KeptSession}
use Rattle.cops_session.specs.SessionStands.{SessionStandsFor}
use Rattle.cops_session.proofs.SessionLaws.{context_refusal-open, context_refusal-closed, SessionStandsFor-deleted}
use Rattle.cops_session.proofs.sessions.Session.delete_context.Goals as goal
use Rattle.cops_session.proofs.sessions.Session.delete_context.Goals.{in-Ok, in-Err}

pub returns-clause-deleted : goal.returns-clause-deleted
returns-clause-deleted c = λ config session stand.
    let stands = subst (λ (k : KeptSession). SessionStandsFor config k session) (sym c.self.view_is) stand in
    let idle = sym c.is_some.ensures ∙ c.if-is_some.false in
    elim c.match-close.branch [
      | in-Ok w ↦
          rw w.result-is (SessionStandsFor-deleted config _ session stands c.args.handle _ idle
          (λ i. record { setting = c.self.inside.setting; moment = c.self.inside.moment; contexts = w.in-Ok.ensures.closed i; next_request = c.self.inside.next_request; running = c.self.inside.running }))
      | in-Err w ↦ rw w.result-is tt
    ]

pub returns-clause-refused : goal.returns-clause-refused
returns-clause-refused c = λ config session stand.
    let stands = subst (λ (k : KeptSession). SessionStandsFor config k session) (sym c.self.view_is) stand in
    let idle = sym c.is_some.ensures ∙ c.if-is_some.false in
    elim c.match-close.branch [
      | in-Ok w ↦ rw w.result-is (context_refusal-open config _ session stands c.args.handle _ idle w.in-Ok.ensures.before)
      | in-Err w ↦ rw w.result-is (context_refusal-closed config _ session stands c.args.handle idle w.in-Err.ensures.before.1 ∙ ap Some (sym w.in-Err.ensures.before.0))
    ]

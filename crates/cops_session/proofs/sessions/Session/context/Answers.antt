use Rattle.std.proofs.Common.{◌∙◌, ap, sym, subst}
use Rattle.std.specs.Prelude.{Some}
use Rattle.cops_session.specs.Kept.{KeptSession}
use Rattle.cops_session.specs.SessionStands.{SessionStandsFor}
use Rattle.std.proofs.lemmas.Result.{MatchResult-weaker}
use Rattle.cops_session.proofs.ContextRows.{obs_in-stands}
use Rattle.cops_session.proofs.SessionLaws.{context_refusal-open, context_refusal-closed}
use Rattle.cops_session.proofs.sessions.Session.context.Goals as goal

pub returns-clause-stands : goal.returns-clause-stands
returns-clause-stands c = λ config session stand.
    let stands = subst (λ (k : KeptSession). SessionStandsFor config k session) (sym c.self.view_is) stand in
    MatchResult-weaker c.get.result c.get.ensures (λ row is. obs_in-stands c.args.handle _ session.contexts row.now stands.contexts_are is) (λ fault h. tt)

pub returns-clause-refused : goal.returns-clause-refused
returns-clause-refused c = λ config session stand.
    let stands = subst (λ (k : KeptSession). SessionStandsFor config k session) (sym c.self.view_is) stand in
    let idle = sym c.is_some.ensures ∙ c.if-is_some.false in
    MatchResult-weaker c.get.result c.get.ensures
    (λ row is. context_refusal-open config _ session stands c.args.handle row.now idle is)
    (λ fault h. context_refusal-closed config _ session stands c.args.handle idle h.1 ∙ ap Some (sym h.0))

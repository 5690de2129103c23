use Rattle.std.proofs.Common.{List, sym, subst}
use Rattle.cops_session.specs.Kept.{KeptSession}
use Rattle.cops_model.specs.Session.{OpenContext}
use Rattle.cops_session.specs.SessionStands.{ContextsStandFor}
use Rattle.cops_session.proofs.ContextRows.{context_extended-nothing}
use Rattle.cops_session.proofs.sessions.Session.values.Goals as goal

pub returns-in-Err-Refused-clause-stands : goal.returns-in-Err-Refused-clause-stands
returns-in-Err-Refused-clause-stands c = λ opens stand.
    let stands = subst (λ (k : KeptSession). ContextsStandFor k.contexts.rows opens) (sym c.self.view_is) stand in
    subst (λ (os : List OpenContext). ContextsStandFor c.see_reads.new.contexts.rows os) (sym (context_extended-nothing c.args.context opens))
    (subst (λ t. ContextsStandFor t.rows opens) (sym c.in-Err-Refused.ensures.err) stands)

pub returns-clause-stands : goal.returns-clause-stands
returns-clause-stands c = λ opens stand.
    let stands = subst (λ (k : KeptSession). ContextsStandFor k.contexts.rows opens) (sym c.self.view_is) stand in
    subst (λ (os : List OpenContext). ContextsStandFor c.see_reads.new.contexts.rows os) (sym (context_extended-nothing c.args.context opens))
    (subst (λ t. ContextsStandFor t.rows opens) (sym c.in-Err-OutOfMemory.ensures.err) stands)

use Rattle.std.proofs.Common.{◌≡◌, ◌∙◌, true, false, ap, sym, subst, arith}
use Rattle.std.specs.Prelude.{Some}
use Rattle.std.proofs.lemmas.Bool.Decides.{nat_tests}
use Rattle.cops_session.specs.Kept.{KeptSession}
use Rattle.cops_session.specs.SessionStands.{SessionStandsFor}
use Rattle.std.proofs.lemmas.Result.{err_from_is_err_and}
use Rattle.cops_session.proofs.ContextRows.{obs_in-stands}
use Rattle.cops_session.proofs.SessionLaws.{prepared_told, put_refusal-closed, put_refusal-open}
use Rattle.cops_model.specs.Session.{is_spent}
use Rattle.cops_session.proofs.sessions.Session.begin_put.Goals as goal

pub returns-in-Err-clause-told : goal.returns-in-Err-clause-told
returns-in-Err-clause-told c = λ config session stand.
    let stands = subst (λ (k : KeptSession). SessionStandsFor config k session) (sym c.self.view_is) stand in
    let idle = sym c.is_some.ensures ∙ c.if-is_some.false in
    put_refusal-closed config _ session stands c.args.handle c.args.key idle c.in-Err.ensures.1 ∙ ap Some (sym c.in-Err.ensures.0)

pub returns-then-can_put-clause-told : goal.returns-then-can_put-clause-told
returns-then-can_put-clause-told c = λ config session stand.
    let stands = subst (λ (k : KeptSession). SessionStandsFor config k session) (sym c.self.view_is) stand in
    let idle = sym c.is_some.ensures ∙ c.if-is_some.false in
    let can = sym (c.can_put.ensures _ (obs_in-stands c.args.handle _ session.contexts c.in-Ok.seen.now stands.contexts_are c.in-Ok.ensures)) ∙ c.if-can_put.true in
    put_refusal-open config _ session stands c.args.handle c.args.key c.in-Ok.seen.now true true idle c.in-Ok.ensures can (ap is_spent c.if-self.true)

pub returns-then-self-clause-told : goal.returns-then-self-clause-told
returns-then-self-clause-told c = λ config session stand.
    let stands = subst (λ (k : KeptSession). SessionStandsFor config k session) (sym c.self.view_is) stand in
    let idle = sym c.is_some.ensures ∙ c.if-is_some.false in
    let can = sym (c.can_put.ensures _ (obs_in-stands c.args.handle _ session.contexts c.in-Ok.seen.now stands.contexts_are c.in-Ok.ensures)) ∙ c.if-can_put.false in
    put_refusal-open config _ session stands c.args.handle c.args.key c.in-Ok.seen.now false true idle c.in-Ok.ensures can (ap is_spent c.if-self.true)

pub returns-in_err-deps-clause-told : goal.returns-in_err-deps-clause-told
returns-in_err-deps-clause-told c = λ config session stand.
    let stands = subst (λ (k : KeptSession). SessionStandsFor config k session) (sym c.self.view_is) stand in
    let idle = sym c.is_some.ensures ∙ c.if-is_some.false in
    let failed = err_from_is_err_and c.from_residual.result c.from_residual.ensures.1 in
    let left : is_spent c.self.inside.next_request ≡ false = let spare = c.if-self.false in grind (arith, nat_tests) in
    rw (failed.1, failed.2) (prepared_told _ _ _ (λ can. put_refusal-open config _ session stands c.args.handle c.args.key c.in-Ok.seen.now true false idle c.in-Ok.ensures can left)
    (λ can. put_refusal-open config _ session stands c.args.handle c.args.key c.in-Ok.seen.now false false idle c.in-Ok.ensures can left)
    (c.in_err-deps.ensures.told session.contexts stands.contexts_are))

pub returns-clause-told : goal.returns-clause-told
returns-clause-told c = λ config session stand.
    let stands = subst (λ (k : KeptSession). SessionStandsFor config k session) (sym c.self.view_is) stand in
    let idle = sym c.is_some.ensures ∙ c.if-is_some.false in
    prepared_told _ _ _ (λ can. put_refusal-open config _ session stands c.args.handle c.args.key c.in-Ok.seen.now true false idle c.in-Ok.ensures can c.begin.ensures.left)
    (λ can. put_refusal-open config _ session stands c.args.handle c.args.key c.in-Ok.seen.now false false idle c.in-Ok.ensures can c.begin.ensures.left)
    (c.in_ok-deps.ensures.told session.contexts stands.contexts_are)

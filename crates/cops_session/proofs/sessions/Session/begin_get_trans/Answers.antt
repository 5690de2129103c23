use Rattle.std.proofs.Common.{◌≡◌, ◌∙◌, ◌<◌, true, false, length, ap, sym, refl, subst, arith}
use Rattle.std.specs.Prelude.{Some, nat_lt}
use Rattle.std.proofs.lemmas.Bool.Decides.{nat_tests}
use Rattle.cops_handles.specs.Rows.{row_at}
use Rattle.cops_session.specs.Kept.{KeptSession}
use Rattle.cops_session.specs.SessionStands.{SessionStandsFor}
use Rattle.std.proofs.lemmas.Result.{err_from_is_err_and}
use Rattle.cops_session.proofs.RepeatLaws.{AreDistinct-no_repeats}
use Rattle.cops_session.proofs.RoundsStand.{begun_unfinished}
use Rattle.cops_session.proofs.SessionLaws.{answered_by, get_refusal-closed, get_refusal-open, SessionStandsFor-get_begun}
use Rattle.cops_model.specs.Session.{has_repeats, is_spent}
use Rattle.cops_session.proofs.sessions.Session.begin_get_trans.Goals as goal

pub returns-in-Err-clause-told : goal.returns-in-Err-clause-told
returns-in-Err-clause-told c = λ config session stand.
    let stands = subst (λ (k : KeptSession). SessionStandsFor config k session) (sym c.self.view_is) stand in
    let idle = sym c.is_some.ensures ∙ c.if-is_some.false in
    let some : nat_lt (length c.args.keys.now) 1 ≡ false = let h = c.is_empty.ensures in let e = c.if-is_empty.false in grind (arith, nat_tests) in
    get_refusal-closed config _ session stands c.args.handle c.args.keys.now some idle c.in-Err.ensures.1 ∙ ap Some (sym c.in-Err.ensures.0)

pub returns-then-keys-gt32-clause-told : goal.returns-then-keys-gt32-clause-told
returns-then-keys-gt32-clause-told c = λ config session stand.
    let stands = subst (λ (k : KeptSession). SessionStandsFor config k session) (sym c.self.view_is) stand in
    let idle = sym c.is_some.ensures ∙ c.if-is_some.false in
    let some : nat_lt (length c.args.keys.now) 1 ≡ false = let h = c.is_empty.ensures in let e = c.if-is_empty.false in grind (arith, nat_tests) in
    let row = answered_by _ c.get.result c.get.ensures c.in_default.not-Err in
    let many : nat_lt 32 (length c.args.keys.now) ≡ true = let h = c.if-keys-gt32.true in grind (arith, nat_tests) in
    get_refusal-open config _ session stands c.args.handle c.args.keys.now row.0.now true (has_repeats c.args.keys.now) (is_spent c.self.inside.next_request) some idle row.1 many refl refl

pub returns-then-has_repeats-clause-told : goal.returns-then-has_repeats-clause-told
returns-then-has_repeats-clause-told c = λ config session stand.
    let stands = subst (λ (k : KeptSession). SessionStandsFor config k session) (sym c.self.view_is) stand in
    let idle = sym c.is_some.ensures ∙ c.if-is_some.false in
    let some : nat_lt (length c.args.keys.now) 1 ≡ false = let h = c.is_empty.ensures in let e = c.if-is_empty.false in grind (arith, nat_tests) in
    let row = answered_by _ c.get.result c.get.ensures c.in_default.not-Err in
    let few : nat_lt 32 (length c.args.keys.now) ≡ false = let h = c.if-keys-gt32.false in grind (arith, nat_tests) in
    get_refusal-open config _ session stands c.args.handle c.args.keys.now row.0.now false true (is_spent c.self.inside.next_request) some idle row.1 few (sym c.has_repeats.ensures ∙ c.if-has_repeats.true) refl

pub returns-then-self-clause-told : goal.returns-then-self-clause-told
returns-then-self-clause-told c = λ config session stand.
    let stands = subst (λ (k : KeptSession). SessionStandsFor config k session) (sym c.self.view_is) stand in
    let idle = sym c.is_some.ensures ∙ c.if-is_some.false in
    let some : nat_lt (length c.args.keys.now) 1 ≡ false = let h = c.is_empty.ensures in let e = c.if-is_empty.false in grind (arith, nat_tests) in
    let row = answered_by _ c.get.result c.get.ensures c.in_default.not-Err in
    let few : nat_lt 32 (length c.args.keys.now) ≡ false = let h = c.if-keys-gt32.false in grind (arith, nat_tests) in
    get_refusal-open config _ session stands c.args.handle c.args.keys.now row.0.now false false true some idle row.1 few (sym c.has_repeats.ensures ∙ c.if-has_repeats.false) (ap is_spent c.if-self.true)

pub begin-requires-2-clause-ready : goal.begin-requires-2-clause-ready
begin-requires-2-clause-ready c =
    let row = answered_by _ c.get.result c.get.ensures c.in_default.not-Err in
    let some : 0 < length c.args.keys.now = let h = c.is_empty.ensures in let e = c.if-is_empty.false in grind (arith, nat_tests) in (
      (row.0.now, ap (λ (k : KeptSession). row_at c.args.handle k.contexts.rows) (sym c.self.view_is) ∙ row.1),
      begun_unfinished c.args.keys.now c.in_ok-begin.field-0 some c.in_ok-begin.ensures,
    )

pub returns-clause-begun : goal.returns-clause-begun
returns-clause-begun c = λ config session stand. (
  c.begin-2.ensures.number ∙ stand.next_request_is,
  SessionStandsFor-get_begun config _ session stand c.args.handle _ c.args.keys.now c.in_ok-begin.field-0 (AreDistinct-no_repeats c.args.keys.now (sym c.has_repeats.ensures ∙ c.if-has_repeats.false)) (let h = c.is_empty.ensures in let e = c.if-is_empty.false in grind (arith, nat_tests)) c.in_ok-begin.ensures c.begin-2.ensures.begun,
)

pub returns-clause-told : goal.returns-clause-told
returns-clause-told c = λ config session stand.
    let stands = subst (λ (k : KeptSession). SessionStandsFor config k session) (sym c.self.view_is) stand in
    let idle = sym c.is_some.ensures ∙ c.if-is_some.false in
    let some : nat_lt (length c.args.keys.now) 1 ≡ false = let h = c.is_empty.ensures in let e = c.if-is_empty.false in grind (arith, nat_tests) in
    let row = answered_by _ c.get.result c.get.ensures c.in_default.not-Err in
    let few : nat_lt 32 (length c.args.keys.now) ≡ false = let h = c.if-keys-gt32.false in grind (arith, nat_tests) in
    get_refusal-open config _ session stands c.args.handle c.args.keys.now row.0.now false false false some idle row.1 few (sym c.has_repeats.ensures ∙ c.if-has_repeats.false) (ap (λ (k : KeptSession). is_spent k.next_request) c.self.view_is ∙ c.begin-2.ensures.left)

pub returns-in_err-begin-clause-told : goal.returns-in_err-begin-clause-told
returns-in_err-begin-clause-told c = λ config session stand.
    let stands = subst (λ (k : KeptSession). SessionStandsFor config k session) (sym c.self.view_is) stand in
    let idle = sym c.is_some.ensures ∙ c.if-is_some.false in
    let some : nat_lt (length c.args.keys.now) 1 ≡ false = let h = c.is_empty.ensures in let e = c.if-is_empty.false in grind (arith, nat_tests) in
    let row = answered_by _ c.get.result c.get.ensures c.in_default.not-Err in
    let few : nat_lt 32 (length c.args.keys.now) ≡ false = let h = c.if-keys-gt32.false in grind (arith, nat_tests) in
    let lack = err_from_is_err_and c.from_residual.result c.from_residual.ensures.1 in
    rw (lack.1, lack.2) (get_refusal-open config _ session stands c.args.handle c.args.keys.now row.0.now false false false some idle row.1 few (sym c.has_repeats.ensures ∙ c.if-has_repeats.false) (let spare = c.if-self.false in grind (arith, nat_tests)))

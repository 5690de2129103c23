-- Requests that were begun or refused are answered as the definition says.
use Rattle.std.proofs.Common.{◌≡◌, ℕ, ◌≤◌, Bool, true, false, cond, List, [], ◌∷◌, length, inl, inr, refl, sym, ap, subst, ◌∙◌, arith}
use Rattle.std.specs.Prelude.{Option, Some, None, Result, Ok, Err, OnErr, OnOk, not, nat_lt}
use Rattle.std.specs.Option.{option_or}
use Rattle.std.proofs.lemmas.Bool.Decides.{nat_tests}
use Rattle.cops_types.specs.declared.faults.Fault.{Fault}
use Rattle.cops_types.specs.declared.faults.Fault.TheVariants.{BadKey, Busy, IdsSpent, NoContext, OutOfMemory, RepeatedKey, Syntax, TooManyKeys, ValueTooLong}
use Rattle.cops_types.specs.declared.request_errors.RequestError.{RequestError}
use Rattle.cops_types.specs.declared.request_errors.RequestError.TheVariants.{OutOfMemory as Lacking, Refused as RefusedWith}
use Rattle.cops_types.specs.Key.{is_key}
use Rattle.cops_types.specs.Refusal.{refused_if}
use Rattle.cops_types.specs.RequestErrors.{AnswersUnless, refusal_in}
use Rattle.cops_types.specs.Value.{is_too_long}
use Rattle.cops_types.specs.Search.{first_refusal}
use Rattle.cops_types.specs.TenantConfig.{TenantConfig}
use Rattle.cops_model.specs.declared.calls.NodeCall.{NodeCall}
use Rattle.cops_model.specs.declared.calls.NodeId.{NodeId}
use Rattle.cops_model.specs.declared.calls.NodeReply.{NodeReply}
use Rattle.cops_session.specs.Kept.{KeptSession}
use Rattle.cops_model.specs.Request.{Action}
use Rattle.cops_model.specs.Session.{Session, has_repeats, is_busy, is_open, request_begun, is_spent, session_put_refusal}
use Rattle.cops_session.specs.SessionStands.{SessionStandsFor}
use Rattle.cops_wire.specs.declared.messages.Message.{Message}
use Rattle.cops_wire.specs.declared.messages.Message.TheVariants.{Refused}
use Rattle.cops_wire.specs.Requests.{Answers, AnswersSo, Backend, Becomes, Ends, HasAnswered, HasFewRestarts, Runs, UnlessRefused, backend, message_of_answer, whole_message, naming_refusal, number_in, reading_refusal, writing_refusal}
use Rattle.cops_wire.specs.Running.{HasFewKeys, HasRun, IsRequestDone, IsTold}
use Rattle.cops_wire.proofs.WholeReplies.{ends_logged, whole_so}

-- ---- refusals

pub ok_if : {A E : Type 0} (b : Bool) (x y : A) (e : E) → Ok x ≡ cond b (Ok y) (Err e) → b ≡ true
ok_if true x y e is = refl
ok_if false x y e is = cc

pub ok_same : {A E : Type 0} (b : Bool) (x y : A) (e : E) → Ok x ≡ cond b (Ok y) (Err e) → x ≡ y
ok_same true x y e is = cc
ok_same false x y e is = cc

-- no refusal comes from either
or_none : {A : Type 0} (a b : Option A) → option_or a b ≡ None → (a ≡ None) × (b ≡ None)
or_none None b e = (refl, e)
or_none (Some x) b e = cc

-- a transaction that is not refused asks for at most 32 keys
pub few_read : (config : TenantConfig) (handle : List ℕ) (keys : List (List ℕ)) (session : Session) → reading_refusal config handle keys session ≡ None → length keys ≤ 32
few_read config handle keys session none =
    let other = or_none _ _ none in
    let own = or_none _ _ other.1 in
    by_count (nat_lt (length keys) 1) (is_busy session) (not (is_open (number_in handle) session)) (nat_lt 32 (length keys)) refl own.1
  where
    by_count : (a b c d : Bool) → nat_lt 32 (length keys) ≡ d
        → first_refusal ((a, Syntax) ∷ (b, Busy) ∷ (c, NoContext) ∷ (d, TooManyKeys) ∷ (has_repeats keys, RepeatedKey) ∷ (is_spent session.next_request, IdsSpent) ∷ []) ≡ None → length keys ≤ 32
    by_count true b c d is e = cc
    by_count false true c d is e = cc
    by_count false false true d is e = cc
    by_count false false false true is e = cc
    by_count false false false false is e = grind (arith, nat_tests)

-- what refuses a put of a good key and a good value is what the session says
pub put_told : (config : TenantConfig) (handle key value : List ℕ) (session : Session) (context : ℕ) (own : List ℕ) (error : RequestError) → Ok own ≡ cond (is_key key) (Ok key) (Err BadKey) → refused_if (is_too_long value) ValueTooLong ≡ None
    → naming_refusal handle session ≡ None → context ≡ number_in handle → session_put_refusal config context own session ≡ refusal_in error → AnswersUnless {A = Unit} (writing_refusal config handle key value session) (Err error)
put_told config handle key value session context own error made short named context_is told = by_error error (refusal ∙ told)
  where
    good : is_key key ≡ true
    good = ok_if (is_key key) own key BadKey made

    same : own ≡ key
    same = ok_same (is_key key) own key BadKey made

    fits : (b : Bool) → refused_if b ValueTooLong ≡ None → b ≡ false
    fits true is = cc
    fits false is = refl

    refusal : writing_refusal config handle key value session ≡ session_put_refusal config context own session
    refusal = λ i. option_or (first_refusal ((not (good i), BadKey) ∷ (fits (is_too_long value) short i, ValueTooLong) ∷ [])) (option_or (named i) (session_put_refusal config (sym context_is i) (sym same i) session))

    by_error : (error : RequestError) → writing_refusal config handle key value session ≡ refusal_in error → AnswersUnless {A = Unit} (writing_refusal config handle key value session) (Err error)
    by_error (RefusedWith fault) is = is
    by_error Lacking is = tt

-- ---- answers

module _ {N M : Type 0} (Calls : N → NodeId → ℕ → ℕ → NodeCall → NodeReply → N → Type 0) (GivesMoment : M → ℕ → M → Type 0) where
  told_so : (config : TenantConfig) (slot : ℕ) (refusal : Option Fault) (old then_be after : Session) (nodes : N) (moments : M) (told reply : Message) → IsTold refusal old then_be told after reply
      → UnlessRefused Calls GivesMoment config slot refusal (backend old nodes moments) reply (backend after nodes moments) (Becomes Calls GivesMoment config slot (backend old nodes moments) then_be told reply (backend after nodes moments))
  told_so config slot (Some fault) old then_be after nodes moments told reply is = (is.0, ap (λ (s : Session). backend s nodes moments) is.1)
  told_so config slot None old then_be after nodes moments told reply is = (is.0, ap (λ (s : Session). backend s nodes moments) is.1)

  -- a request that lacks memory changes nothing
  pub answered_by_lack : (request : Message) (old new : KeptSession) (nodes : N) (moments : M) → new ≡ old → HasAnswered Calls GivesMoment (backend old nodes moments) request (Refused OutOfMemory) (backend new nodes moments)
  answered_by_lack request old new nodes moments same = record {
    setting = ap (λ (k : KeptSession). k.setting) same;
    answers = λ config session restarts stands. (session, subst (λ (k : KeptSession). SessionStandsFor config k session) (sym same) stands, inl (refl, refl));
  }

  -- a request that has its effect at once
  pub answered_at_once : (request : Message) (refusal : TenantConfig → Session → Option Fault) (then_be : Session → Session) (tells : Session → Message)
      → ((config : TenantConfig) (slot : ℕ) (old new : Backend Session N M) (reply : Message)
      → UnlessRefused Calls GivesMoment config slot (refusal config old.session) old reply new (Becomes Calls GivesMoment config slot old (then_be old.session) (tells old.session) reply new)
      → AnswersSo Calls GivesMoment config slot old request reply new)
      → (old new : KeptSession) (nodes : N) (moments : M) (reply : Message) → new.setting ≡ old.setting
      → ((config : TenantConfig) (session : Session) → SessionStandsFor config old session → IsRequestDone config (refusal config session) session (then_be session) (tells session) new reply)
      → HasAnswered Calls GivesMoment (backend old nodes moments) request reply (backend new nodes moments)
  answered_at_once request refusal then_be tells so old new nodes moments reply same done = record {
    setting = same;
    answers = λ config session restarts stands.
        let d = done config session stands in (
          d.after,
          d.stands,
          inr (so config old.setting.slot (backend session nodes moments) (backend d.after nodes moments) reply
              (told_so config old.setting.slot (refusal config session) session (then_be session) d.after nodes moments (tells session) reply d.told_is)),
        );
  }

  -- a request that runs
  pub answered_by_steps : (request : Message) (refusal : TenantConfig → Session → Option Fault) (context : ℕ) (action : Action)
      → ((config : TenantConfig) (slot : ℕ) (old new : Backend Session N M) (reply : Message)
      → UnlessRefused Calls GivesMoment config slot (refusal config old.session) old reply new (Runs Calls GivesMoment config slot old context action reply new)
      → AnswersSo Calls GivesMoment config slot old request reply new)
      → ((config : TenantConfig) (session : Session) → refusal config session ≡ None → HasFewKeys action)
      → (old mid : KeptSession) (new : Backend KeptSession N M) (nodes : N) (moments : M) (begun : Result Unit RequestError) (IsPut : Message → Type 0)
      → mid.setting ≡ old.setting → new.session.setting ≡ mid.setting
      → ((config : TenantConfig) (session : Session) → SessionStandsFor config old session → AnswersUnless (refusal config session) begun)
      → ((config : TenantConfig) (session : Session) → SessionStandsFor config old session → OnOk begun (SessionStandsFor config mid (request_begun context action session)))
      → OnErr begun (mid ≡ old)
      → HasRun Calls GivesMoment (backend mid nodes moments) begun new IsPut
      → (reply : Message) × HasAnswered Calls GivesMoment (backend old nodes moments) request reply new × IsPut reply
  answered_by_steps request refusal context action so few old mid new nodes moments (Ok done) IsPut same later told begins err ran =
      (message_of_answer ran.0, record { setting = later ∙ same; answers = answers }, ran.1)
    where
      answers : (config : TenantConfig) (session : Session) → HasFewRestarts config → SessionStandsFor config old session → (after : Session) × SessionStandsFor config new.session after
          × Answers Calls GivesMoment config old.setting.slot (backend session nodes moments) request (message_of_answer ran.0) (backend after new.nodes new.moments)
      answers config session restarts stands =
          let none = told config session stands in
          let from = backend (request_begun context action session) nodes moments in
          let ended = ran.3 config (request_begun context action session) _ restarts (begins config session stands) refl refl (few config session none) in
          let ends : Ends Calls GivesMoment config old.setting.slot from ran.0 (backend ended.after new.nodes new.moments) =
          subst (λ slot. Ends Calls GivesMoment config slot from ran.0 (backend ended.after new.nodes new.moments)) (ap (λ s. s.slot) same) ended.ends in
          let whole : config.quota.deps ≤ 1024 → message_of_answer ran.0 ≡ whole_message ran.0 = λ small.
          whole_so config action ran.0 (few config session none) ran.2 small (ends_logged Calls GivesMoment config old.setting.slot ends.0 from ran.0 (backend ended.after new.nodes new.moments) _ refl ends.1) in (
            ended.after,
            ended.stands,
            inr (so config old.setting.slot (backend session nodes moments) (backend ended.after new.nodes new.moments) (message_of_answer ran.0)
                (subst (λ o. UnlessRefused Calls GivesMoment config old.setting.slot o (backend session nodes moments) (message_of_answer ran.0) (backend ended.after new.nodes new.moments)
                (Runs Calls GivesMoment config old.setting.slot (backend session nodes moments) context action (message_of_answer ran.0) (backend ended.after new.nodes new.moments))) (sym none) (ran.0, record { gives = refl; whole = whole }, ends))),
          )
  answered_by_steps request refusal context action so few old mid new nodes moments (Err (RefusedWith fault)) IsPut same later told begins err ran =
      (Refused fault, record { setting = ap (λ (b : Backend KeptSession N M). b.session.setting) ran.1 ∙ same; answers = answers }, ran.0)
    where
      stays : new ≡ backend old nodes moments
      stays = ran.1 ∙ ap (λ (k : KeptSession). backend k nodes moments) err

      answers : (config : TenantConfig) (session : Session) → HasFewRestarts config → SessionStandsFor config old session → (after : Session) × SessionStandsFor config new.session after
          × Answers Calls GivesMoment config old.setting.slot (backend session nodes moments) request (Refused fault) (backend after new.nodes new.moments)
      answers config session restarts stands =
          let same_backend : backend session new.nodes new.moments ≡ backend session nodes moments = ap (λ (b : Backend KeptSession N M). backend session b.nodes b.moments) stays in (
            session,
            subst (λ (b : Backend KeptSession N M). SessionStandsFor config b.session session) (sym stays) stands,
            inr (so config old.setting.slot (backend session nodes moments) (backend session new.nodes new.moments) (Refused fault)
                (subst (λ o. UnlessRefused Calls GivesMoment config old.setting.slot o (backend session nodes moments) (Refused fault) (backend session new.nodes new.moments)
                (Runs Calls GivesMoment config old.setting.slot (backend session nodes moments) context action (Refused fault) (backend session new.nodes new.moments))) (sym (told config session stands)) (refl, same_backend))),
          )
  answered_by_steps request refusal context action so few old mid new nodes moments (Err Lacking) IsPut same later told begins err ran = (
    Refused OutOfMemory,
    subst (λ b. HasAnswered Calls GivesMoment (backend old nodes moments) request (Refused OutOfMemory) b) (sym ran.1) (answered_by_lack request old mid nodes moments err),
    ran.0,
  )

-- Steps of a session that is kept are steps of each session of the definition that it stands for.
use Rattle.std.proofs.Common.{◌≡◌, ℕ, ◌+◌, ◌*◌, ◌-◌, ◌^◌, ◌≤◌, Bool, true, false, cond, List, [], ◌∷◌, ◌++◌, length, filter, zero, suc, refl, sym, ap, subst, ◌∙◌, arith, length-append, length-drop, inl, inr}
use Rattle.std.specs.Prelude.{Option, Some, None, Result, Ok, Err, MatchResult, ◌==◌}
use Rattle.std.specs.Option.{option_map}
use Rattle.std.specs.declared.alloc.AllocError.{AllocError}
use Rattle.std.proofs.lemmas.Bool.Decides.{nat_tests}
use Rattle.std.proofs.lemmas.List.{length-map}
use Rattle.cops_types.specs.TenantConfig.{TenantConfig}
use Rattle.cops_types.specs.Version.{version_lt}
use Rattle.cops_types.proofs.Elements.{fold-push}
use Rattle.cops_model.specs.declared.calls.NodeCall.{NodeCall}
use Rattle.cops_model.specs.declared.calls.NodeId.{NodeId}
use Rattle.cops_model.specs.declared.calls.NodeReply.{NodeReply}
use Rattle.cops_model.specs.Log.{Call, Ended, Late, LogStep, Next, Replied, Restart, replies_of}
use Rattle.cops_node.specs.declared.Shape.{Shape}
use Rattle.cops_model.specs.declared.requests.Answer.{Answer}
use Rattle.cops_model.specs.declared.requests.Progress.{Progress}
use Rattle.cops_model.specs.declared.requests.Progress.TheVariants.{Working, Restarted, Done}
use Rattle.cops_session.specs.declared.ongoing.Ongoing.{Ongoing}
use Rattle.cops_session.specs.declared.ongoing.Work.{Work}
use Rattle.cops_session.specs.declared.ongoing.Work.TheVariants.{Put, Get}
use Rattle.cops_session.specs.Kept.{KeptSession}
use Rattle.cops_session.specs.Reading.{IsReading}
use Rattle.cops_model.specs.Request.{Action, Fetch, Attempt, attempt_after, attempt_of, begins_again, next}
use Rattle.cops_session.specs.Rounds.{SecondReads, wishes_of}
use Rattle.cops_session.specs.Stands.{RoundsStandFor}
use Rattle.cops_model.specs.Session.{Running, Session, moment_at, request_of, session_after}
use Rattle.cops_session.specs.SessionStands.{RunningStandsFor, SessionStandsFor, WorkStandsFor}
use Rattle.cops_session.specs.Stepping as stepping
use Rattle.cops_session.specs.Stepping.{TellsNext, told_shown}
use Rattle.cops_session.proofs.StepLaws.{as_told}
use Rattle.cops_model.specs.Transaction.{outdated, reads_of, wanted_version}
use Rattle.cops_wire.specs.Limits.{IsHeldOrTyped}
use Rattle.cops_wire.specs.Requests.{Backend, DoesNext, Ends, HasFewRestarts, KeepsShape, RequestGoesOn, Steps, backend, message_of_answer}
use Rattle.cops_wire.specs.Running.{ShowsAnswer, HasEnded, HasFewKeys, HasStepped, PutsAnswer, PutsFrame}

-- ---- one step

module _ {N M : Type 0} (Calls : N → NodeId → ℕ → ℕ → NodeCall → NodeReply → N → Type 0) (GivesMoment : M → ℕ → M → Type 0) (config : TenantConfig) (slot : ℕ) where
  does_next : (Keeps : N → NodeId → ℕ → ℕ → NodeCall → NodeReply → N → Type 0) (session : Session) (running : Running) (moment : ℕ) (old new : N) (shown : Progress) (kept : KeptSession) (n : Next Answer)
      → ((id : NodeId) (call : NodeCall) (reply : NodeReply) → Calls old id slot moment call reply new → Keeps old id slot moment call reply new)
      → stepping.DoesNext (λ id call reply. Calls old id slot moment call reply new) (new ≡ old) config session running moment shown kept n
      → (after : Session) × SessionStandsFor config kept after × DoesNext Keeps GivesMoment config slot session running moment old n shown after new
  does_next Keeps session running moment old new shown kept (Call directed) keeps d =
      (session_after session running (record { moment = moment; outcome = Replied d.0 }) shown, d.2.stands, (d.0, keeps directed.node directed.call d.0 d.1, record { shown_is = d.2.shown_is; wants = d.2.wants; after_is = refl }))
  does_next Keeps session running moment old new shown kept Restart keeps d =
      (session_after session running (record { moment = moment; outcome = Late }) shown, d.1.stands, (d.0, record { shown_is = d.1.shown_is; wants = d.1.wants; after_is = refl }))
  does_next Keeps session running moment old new shown kept (Ended answer) keeps d = absurd d

  -- whatever the step has shown
  pub stepped : (shape : N → Shape) (session : Session) (running : Running) (old new : N) (old_moments new_moments : M) (given : ℕ) (told : Result Progress AllocError) (kept : KeptSession) (answer : Option Answer)
      → session.running ≡ Some running → GivesMoment old_moments given new_moments → shape new ≡ shape old
      → TellsNext (λ id call reply. Calls old id slot (moment_at given session) call reply new) (new ≡ old) config session running (moment_at given session) told kept (next config (request_of session running) running.log (moment_at given session))
      → ShowsAnswer (told_shown told) answer → HasStepped (KeepsShape shape Calls) GivesMoment config slot (backend session old old_moments) kept new new_moments answer
  stepped shape session running old new old_moments new_moments given told kept answer runs gives same tells is =
      let at = moment_at given session in
      let does = as_told (λ id call reply. Calls old id slot at call reply new) (new ≡ old) config session running at told kept (next config (request_of session running) running.log at) tells in
      let d = does_next (KeepsShape shape Calls) session running at old new (told_shown told) kept (next config (request_of session running) running.log at) (λ id call reply called. (called, same)) does in
      record {
        after = d.0;
        stands = d.1;
        shown = told_shown told;
        steps = record { running = running; runs = runs; given = given; gives = gives; does = d.2 };
        gives = is;
      }

  -- a step with which the request goes on is in its log
  pub logged : (session : Session) (running : Running) (moment : ℕ) (old new : N) (shown : Progress) (after : Session) (n : Next Answer) → RequestGoesOn shown
      → DoesNext Calls GivesMoment config slot session running moment old n shown after new → (step : LogStep) × (after.running ≡ Some (record running { log = running.log ++ step ∷ [] }))
  logged session running moment old new shown after (Call directed) goes d =
      let step : LogStep = record { moment = moment; outcome = Replied d.0 } in (step, ap (λ (s : Session). s.running) d.2.after_is ∙ still shown goes step)
    where
      still : (p : Progress) → RequestGoesOn p → (step : LogStep) → (session_after session running step p).running ≡ Some (record running { log = running.log ++ step ∷ [] })
      still Working goes step = refl
      still (Restarted times) goes step = refl
      still (Done answer) goes step = absurd goes
  logged session running moment old new shown after Restart goes d =
      let step : LogStep = record { moment = moment; outcome = Late } in (step, ap (λ (s : Session). s.running) d.1.after_is ∙ still shown goes step)
    where
      still : (p : Progress) → RequestGoesOn p → (step : LogStep) → (session_after session running step p).running ≡ Some (record running { log = running.log ++ step ∷ [] })
      still Working goes step = refl
      still (Restarted times) goes step = refl
      still (Done answer) goes step = absurd goes
  logged session running moment old new shown after (Ended answer) goes d = absurd d

-- ---- how many steps there may be

-- the steps so far, at least: those of the attempt, and 65 for each restart
pub spent : Action → List LogStep → ℕ
spent action log = (attempt_of action log).restarts * 65 + length (attempt_of action log).steps

spent-push : (action : Action) (log : List LogStep) (step : LogStep) → length (attempt_of action log).steps ≤ 64 → spent action log + 1 ≤ spent action (log ++ step ∷ [])
unfolding spent
spent-push action log step few =
    let attempt = attempt_of action log in
    let same = fold-push (attempt_after action) (record { restarts = 0; steps = [] }) log step in
    let P : Attempt → Type 0 = λ a. attempt.restarts * 65 + length attempt.steps + 1 ≤ a.restarts * 65 + length a.steps in
    subst P (sym same) (by_again attempt few (begins_again action (length attempt.steps) step.outcome))
  where
    by_again : (attempt : Attempt) → length attempt.steps ≤ 64 → (b : Bool) →
        let after = cond {A = Attempt} b (record { restarts = attempt.restarts + 1; steps = [] }) (record { restarts = attempt.restarts; steps = attempt.steps ++ step ∷ [] }) in
        attempt.restarts * 65 + length attempt.steps + 1 ≤ after.restarts * 65 + length after.steps
    by_again attempt few true = omega arith
    by_again attempt few false = let more = length-append attempt.steps (step ∷ []) in omega arith

-- the attempt of a request that has no answer yet
pub record IsWithin (config : TenantConfig) (action : Action) (log : List LogStep) : Type 0 where
  pub restarts : (attempt_of action log).restarts ≤ config.restarts
  pub steps : length (attempt_of action log).steps ≤ 64

filter-shorter : {A : Type 0} (test : A → Bool) (xs : List A) → length (filter test xs) ≤ length xs
filter-shorter test [] = omega arith
filter-shorter test (x ∷ xs) =
    let later = filter-shorter test xs in
    elim (test x) as (λ b. length (cond b (x ∷ filter test xs) (filter test xs)) ≤ length (x ∷ xs)) [ true ↦ omega arith | false ↦ omega arith ]

reads-shorter : (keys : List (List ℕ)) (rs : List NodeReply) → length (reads_of keys rs) ≤ length keys
reads-shorter [] rs = omega arith
reads-shorter (key ∷ keys) [] = omega arith
reads-shorter (key ∷ keys) (r ∷ rs) = let later = reads-shorter keys rs in omega arith

wishes-few : (keys : List (List ℕ)) (rs : List NodeReply) → length (wishes_of (reads_of keys rs)) ≤ length keys
wishes-few keys rs =
    let reads = reads_of keys rs in
    let all : length (wishes_of reads) ≡ length (outdated reads) = length-map (outdated reads) (λ read. record { key = read.key; version = wanted_version reads read }) in
    let some = filter-shorter (λ read. version_lt read.version (wanted_version reads read)) reads in
    let few = reads-shorter keys rs in
    omega arith

replies-few : (keys : List (List ℕ)) (rs : List NodeReply) (rounds : SecondReads) → length keys ≤ 32 → RoundsStandFor keys rs rounds → length rs ≤ 64
replies-few keys rs rounds few (inl is) = let more = is.stands.unfinished in omega arith
replies-few keys rs rounds few (inr is) =
    let left = ap length is.left_is in
    let dropped = length-drop (length rs - length keys) (wishes_of (reads_of keys rs)) in
    let most = wishes-few keys rs in
    let more = is.unfinished in
    let past = is.past_first in
    omega arith

module _ (config : TenantConfig) where
  work_within : (session : Session) (running : Running) (work : Work) → HasFewKeys running.action → WorkStandsFor config (request_of session running) running.log work → IsWithin config running.action running.log
  work_within session running (Put writing) few is =
      let none : attempt_of running.action running.log ≡ record { restarts = 0; steps = [] } = ap (attempt_of running.action) is.no_step in
      let P : Attempt → Type 0 = λ a. (a.restarts ≤ config.restarts) × (length a.steps ≤ 64) in
      let both : P (attempt_of running.action running.log) = subst P (sym none) (omega arith, omega arith) in
      record { restarts = both.0; steps = both.1 }
  work_within session running (Get reading) few is =
      let P : Action → Type 0 = λ a. IsWithin config a running.log in
      subst P (sym is.1) (reads_within is.0 (subst HasFewKeys is.1 few) is.2)
    where
      reads_within : (keys : List (List ℕ)) → length keys ≤ 32 → IsReading config (request_of session running) keys running.log reading → IsWithin config (Fetch keys) running.log
      reads_within keys few is =
          let replied = is.all_replied in
          let most = replies-few keys (replies_of (attempt_of (Fetch keys) running.log).steps) reading.rounds few is.rounds_are in
          record { restarts = (let within = is.few_restarts in grind (arith, nat_tests)); steps = omega arith }

  pub is_within : (kept : KeptSession) (session : Session) (running : Running) → SessionStandsFor config kept session → session.running ≡ Some running → HasFewKeys running.action → IsWithin config running.action running.log
  is_within kept session running stands runs few =
      by_kept kept.running (subst (λ (r : Option Running). RunningStandsFor config session kept.running r) runs stands.running_is)
    where
      by_kept : (o : Option Ongoing) → RunningStandsFor config session o (Some running) → IsWithin config running.action running.log
      by_kept (Some ongoing) is = work_within session running ongoing.work few is.2
      by_kept None is = absurd is

-- ---- a request that goes on

module _ {N M : Type 0} (Calls : N → NodeId → ℕ → ℕ → NodeCall → NodeReply → N → Type 0) (GivesMoment : M → ℕ → M → Type 0) (config : TenantConfig) (slot : ℕ) where
  -- after so many steps it is at this session, and what ends it from there ends it from the first one
  pub record IsOngoing (old : Backend Session N M) (action : Action) (kept : KeptSession) (nodes : N) (moments : M) (count : ℕ) : Type 0 where
    pub now : Session
    pub stands : SessionStandsFor config kept now
    pub running : Running
    pub runs : now.running ≡ Some running
    pub action_is : running.action ≡ action
    pub counted : count ≤ spent running.action running.log
    pub rest : (answer : Answer) (new : Backend Session N M) → Ends Calls GivesMoment config slot (backend now nodes moments) answer new → Ends Calls GivesMoment config slot old answer new

  pub begins : (session : Session) (running : Running) (kept : KeptSession) (nodes : N) (moments : M) → SessionStandsFor config kept session → session.running ≡ Some running → running.log ≡ [] → IsOngoing (backend session nodes moments) running.action kept nodes moments 0
  begins session running kept nodes moments stands runs none = record {
    now = session;
    stands = stands;
    running = running;
    runs = runs;
    action_is = refl;
    counted = omega arith;
    rest = λ answer new ends. ends;
  }

  pub same_running : (a b : Running) (o : Option Running) → o ≡ Some a → o ≡ Some b → a ≡ b
  same_running a b o p q = let both : Some a ≡ Some b = sym p ∙ q in cc

  pub goes_on : (old : Backend Session N M) (action : Action) (kept later : KeptSession) (nodes new_nodes : N) (moments new_moments : M) (count : ℕ) → HasFewKeys action
      → (h : IsOngoing old action kept nodes moments count) → HasStepped Calls GivesMoment config slot (backend h.now nodes moments) later new_nodes new_moments None → IsOngoing old action later new_nodes new_moments (count + 1)
  goes_on old action kept later nodes new_nodes moments new_moments count few h s =
      let same : s.steps.running ≡ h.running = same_running s.steps.running h.running h.now.running s.steps.runs h.runs in
      let in_log = logged Calls GivesMoment config slot h.now s.steps.running (moment_at s.steps.given h.now) nodes new_nodes s.shown s.after (next config (request_of h.now s.steps.running) s.steps.running.log (moment_at s.steps.given h.now)) s.gives s.steps.does in
      let within = is_within config kept h.now h.running h.stands h.runs (subst HasFewKeys (sym h.action_is) few) in
      let more = spent-push h.running.action h.running.log in_log.0 within.steps in
      record {
        now = s.after;
        stands = s.stands;
        running = record h.running { log = h.running.log ++ in_log.0 ∷ [] };
        runs = in_log.1 ∙ ap (λ (r : Running). Some (record r { log = r.log ++ in_log.0 ∷ [] })) same;
        action_is = h.action_is;
        counted = (let counted = h.counted in omega arith);
        rest = λ answer new ends. h.rest answer new (suc ends.0, (s.shown, backend s.after new_nodes new_moments, s.steps, s.gives, ends.1));
      }

  pub ends_so : (old : Backend Session N M) (action : Action) (kept later : KeptSession) (nodes new_nodes : N) (moments new_moments : M) (count : ℕ) (answer : Answer)
      → (h : IsOngoing old action kept nodes moments count) → HasStepped Calls GivesMoment config slot (backend h.now nodes moments) later new_nodes new_moments (Some answer) → HasEnded Calls GivesMoment config slot old later new_nodes new_moments answer
  ends_so old action kept later nodes new_nodes moments new_moments count answer h s =
      let last : Steps Calls GivesMoment config slot (backend h.now nodes moments) (Done answer) (backend s.after new_nodes new_moments) =
      subst (λ p. Steps Calls GivesMoment config slot (backend h.now nodes moments) p (backend s.after new_nodes new_moments)) s.gives s.steps in
      record { after = s.after; stands = s.stands; ends = h.rest answer (backend s.after new_nodes new_moments) (zero, last) }

  -- no request has so many steps
  pub too_many : (old : Backend Session N M) (action : Action) (kept : KeptSession) (nodes : N) (moments : M) → HasFewRestarts config → HasFewKeys action → IsOngoing old action kept nodes moments (2 ^ 64 - 1) → ⊥
  unfolding spent
  too_many old action kept nodes moments restarts few h =
      let within = is_within config kept h.now h.running h.stands h.runs (subst HasFewKeys (sym h.action_is) few) in
      let counted = h.counted in
      let a = within.restarts in
      let b = within.steps in
      omega arith

-- ---- what a step tells

pub when_ok : {A E : Type 0} (P : A → Type 0) (Q : E → Type 0) (result : Result A E) (value : A) → result ≡ Ok value → MatchResult result P Q → P value
when_ok P Q result value is so = subst (λ r. MatchResult r P Q) is so

pub when_err : {A E : Type 0} (P : A → Type 0) (Q : E → Type 0) (result : Result A E) (error : E) → result ≡ Err error → MatchResult result P Q → Q error
when_err P Q result error is so = subst (λ r. MatchResult r P Q) is so

none_some : {A : Type 0} (x : A) → None ≡ Some x → ⊥
none_some x e = cc

some_same : {A : Type 0} (x y : A) → Some x ≡ Some y → x ≡ y
some_same x y e = cc

true_false : true ≡ false → ⊥
true_false e = cc

-- a session at which a request runs tells its number
pub has_number : (session : Session) (running : Running) → session.running ≡ Some running → None ≡ option_map (λ (r : Running). r.number) session.running → ⊥
has_number session running is none = none_some running.number (none ∙ ap (option_map (λ (r : Running). r.number)) is)

-- and under that number it runs
pub runs_so : (session : Session) (running : Running) (request : ℕ) → session.running ≡ Some running → Some request ≡ option_map (λ (r : Running). r.number) session.running → stepping.runs request session ≡ false → ⊥
runs_so session running request is named idle =
    let same : request ≡ running.number = some_same request running.number (named ∙ ap (option_map (λ (r : Running). r.number)) is) in
    let told : stepping.runs request session ≡ (running.number == request) = rw is refl in
    let yes : (running.number == running.number) ≡ true = grind (arith, nat_tests) in
    true_false (sym yes ∙ ap (λ n. running.number == n) (sym same) ∙ sym told ∙ idle)

-- ---- replies

-- a reply that was put gives the answer
pub put_gives : (put : Result Unit AllocError) (old new : List ℕ) (answer : Option Answer) → PutsAnswer (Some put) old new answer → (given : Answer) × (answer ≡ Some given) × PutsFrame put old new (message_of_answer given) × IsHeldOrTyped given
put_gives put old new (Some given) puts = (given, refl, puts.0, puts.1)
put_gives put old new None puts = absurd puts

-- if none was put there is no answer
pub none_gives : (old new : List ℕ) (answer : Option Answer) → PutsAnswer None old new answer → (answer ≡ None) × (new ≡ old)
none_gives old new (Some given) puts = absurd puts
none_gives old new None puts = (refl, puts)

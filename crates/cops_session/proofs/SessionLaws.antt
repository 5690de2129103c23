-- A session stands for that of the definitions, after each call too.
use Rattle.std.proofs.Common.{◌≡◌, ℕ, ◌+◌, ◌<◌, ◌==◌, Bool, true, false, List, [], ◌∷◌, length, refl, sym, ◌∙◌, ap, subst, arith}
use Rattle.std.specs.Prelude.{MatchResult, Option, Some, None, Result, Ok, Err, is_some, nat_le, nat_lt, not}
use Rattle.std.proofs.lemmas.Bool.Decides.{nat_tests}
use Rattle.cops_types.specs.declared.faults.Fault.{Fault}
use Rattle.cops_types.specs.declared.faults.Fault.TheVariants.{Busy, NoContext, TooManyContexts, IdsSpent, DependenciesFull, TooManyKeys, RepeatedKey, Syntax}
use Rattle.cops_types.specs.Context.{all_of, near_of, can_put}
use Rattle.cops_types.specs.Refusal.{refused_if}
use Rattle.cops_types.specs.Search.{first_refusal}
use Rattle.cops_types.specs.TenantConfig.{TenantConfig}
use Rattle.cops_model.specs.Log.{Directed, first_fault}
use Rattle.cops_context.specs.Lists.{Lists, ListsStandFor}
use Rattle.cops_handles.specs.declared.tables.Open.{Open}
use Rattle.cops_handles.specs.Rows.{closed, open_refusal, opened, row_at}
use Rattle.cops_session.specs.declared.ongoing.Ongoing.{Ongoing}
use Rattle.cops_session.specs.declared.ongoing.Work.TheVariants.{Put, Get}
use Rattle.cops_session.specs.declared.ongoing.PendingPut.{PendingPut}
use Rattle.cops_session.specs.Kept.{KeptSession, is_running}
use Rattle.cops_session.specs.Reading.{IsReading}
use Rattle.cops_model.specs.Request.{Fetch, Request, Write, request_calls}
use Rattle.cops_session.specs.Rounds.{SecondReads}
use Rattle.cops_session.proofs.RoundsStand.{begun_stands}
use Rattle.cops_model.specs.Session.{Running, Session, context_created, context_deleted, context_refusal, create_refusal, get_refusal, has_repeats, obs_of, request_begun, session_put_refusal, is_spent}
use Rattle.cops_session.specs.SessionStands.{ContextsStandFor, RunningStandsFor, SessionStandsFor}
use Rattle.cops_session.specs.Stepping.{runs}
use Rattle.cops_session.specs.Stands.{AreDistinctKeys}
use Rattle.cops_session.proofs.ContextRows.{ContextsStandFor-closed, ContextsStandFor-opened, is_open-none, is_open-some, length-stands}

-- ---- idle

busy_in_both : (config : TenantConfig) (session : Session) (running : Option Ongoing) (begun : Option Running) → RunningStandsFor config session running begun → is_some begun ≡ is_some running
busy_in_both config session None None stand = refl
busy_in_both config session (Some ongoing) (Some running) stand = refl
busy_in_both config session None (Some running) stand = absurd stand
busy_in_both config session (Some ongoing) None stand = absurd stand

-- with nothing running it matters not what else the session is
idle_stands : (config : TenantConfig) (before after : Session) (running : Option Ongoing) (begun : Option Running) → is_some running ≡ false → RunningStandsFor config before running begun → RunningStandsFor config after running begun
idle_stands config before after None None idle stand = tt
idle_stands config before after (Some ongoing) begun idle stand = cc
idle_stands config before after None (Some running) idle stand = absurd stand

module _ (config : TenantConfig) (kept : KeptSession) (session : Session) (stands : SessionStandsFor config kept session) where
  busy_is : is_some session.running ≡ is_some kept.running
  busy_is = busy_in_both config session kept.running session.running stands.running_is

  pub create_refusal-busy : is_some kept.running ≡ true → create_refusal config session ≡ Some Busy
  create_refusal-busy busy = rw (busy_is ∙ busy) refl

  pub context_refusal-busy : (number : ℕ) → is_some kept.running ≡ true → context_refusal number session ≡ Some Busy
  context_refusal-busy number busy = rw (busy_is ∙ busy) refl

  -- ---- contexts

  pub create_refusal-idle : is_some kept.running ≡ false → create_refusal config session ≡ open_refusal kept.contexts
  create_refusal-idle idle = λ i. first_refusal (
      ((busy_is ∙ idle) i, Busy)
      ∷ (nat_le (sym stands.limit_is i) (sym (length-stands kept.contexts.rows session.contexts stands.contexts_are) i), TooManyContexts)
      ∷ (is_spent (sym stands.next_context_is i), IdsSpent)
      ∷ [])

  pub context_refusal-open : (number : ℕ) (lists : Lists) → is_some kept.running ≡ false → row_at number kept.contexts.rows ≡ Some lists → context_refusal number session ≡ None
  context_refusal-open number lists idle is = λ i. first_refusal (((busy_is ∙ idle) i, Busy) ∷ (not (is_open-some number kept.contexts.rows session.contexts lists stands.contexts_are is i), NoContext) ∷ [])

  pub context_refusal-closed : (number : ℕ) → is_some kept.running ≡ false → row_at number kept.contexts.rows ≡ None → context_refusal number session ≡ Some NoContext
  context_refusal-closed number idle is = λ i. first_refusal (((busy_is ∙ idle) i, Busy) ∷ (not (is_open-none number kept.contexts.rows session.contexts stands.contexts_are is i), NoContext) ∷ [])

  pub SessionStandsFor-created : (after : KeptSession) (empty : Lists) → is_some kept.running ≡ false → ListsStandFor empty [] → after ≡ record kept { contexts = opened empty kept.contexts } → SessionStandsFor config after (context_created session)
  SessionStandsFor-created after empty idle none is =
      subst (λ (k : KeptSession). SessionStandsFor config k (context_created session)) (sym is) (record {
        setting_is = stands.setting_is;
        dc_is = stands.dc_is;
        moment_is = stands.moment_is;
        contexts_are =
            ContextsStandFor-opened kept.contexts.rows session.contexts (record { number = kept.contexts.next; row = empty }) (record { number = session.next_context; obs = [] }) stands.contexts_are stands.next_context_is none;
        limit_is = stands.limit_is;
        next_context_is = ap (λ n. n + 1) stands.next_context_is;
        next_request_is = stands.next_request_is;
        running_is = idle_stands config session (context_created session) kept.running session.running idle stands.running_is;
      })

  pub SessionStandsFor-deleted : (number : ℕ) (after : KeptSession) → is_some kept.running ≡ false → after ≡ record kept { contexts = record kept.contexts { rows = closed number kept.contexts.rows } } →
      SessionStandsFor config after (context_deleted number session)
  SessionStandsFor-deleted number after idle is =
      subst (λ (k : KeptSession). SessionStandsFor config k (context_deleted number session)) (sym is) (record {
        setting_is = stands.setting_is;
        dc_is = stands.dc_is;
        moment_is = stands.moment_is;
        contexts_are = ContextsStandFor-closed number kept.contexts.rows session.contexts stands.contexts_are;
        limit_is = stands.limit_is;
        next_context_is = stands.next_context_is;
        next_request_is = stands.next_request_is;
        running_is = idle_stands config session (context_deleted number session) kept.running session.running idle stands.running_is;
      })

  -- ---- requests

  pub put_refusal-closed : (number : ℕ) (key : List ℕ) → is_some kept.running ≡ false → row_at number kept.contexts.rows ≡ None → session_put_refusal config number key session ≡ Some NoContext
  put_refusal-closed number key idle is = λ i. first_refusal (
      ((busy_is ∙ idle) i, Busy)
      ∷ (not (is_open-none number kept.contexts.rows session.contexts stands.contexts_are is i), NoContext)
      ∷ (not (can_put config.quota.deps (obs_of number session) key), DependenciesFull)
      ∷ (is_spent session.next_request, IdsSpent)
      ∷ [])

  pub put_refusal-open : (number : ℕ) (key : List ℕ) (lists : Lists) (can spent : Bool) → is_some kept.running ≡ false → row_at number kept.contexts.rows ≡ Some lists →
      can_put kept.setting.deps (obs_of number session) key ≡ can → is_spent kept.next_request ≡ spent →
      session_put_refusal config number key session ≡ first_refusal ((not can, DependenciesFull) ∷ (spent, IdsSpent) ∷ [])
  put_refusal-open number key lists can spent idle is can_is spent_is = λ i. first_refusal (
      ((busy_is ∙ idle) i, Busy)
      ∷ (not (is_open-some number kept.contexts.rows session.contexts lists stands.contexts_are is i), NoContext)
      ∷ (not ((ap (λ d. can_put d (obs_of number session) key) (sym stands.setting_is.deps) ∙ can_is) i), DependenciesFull)
      ∷ ((ap is_spent (sym stands.next_request_is) ∙ spent_is) i, IdsSpent)
      ∷ [])

  pub get_refusal-closed : (number : ℕ) (keys : List (List ℕ)) → nat_lt (length keys) 1 ≡ false → is_some kept.running ≡ false → row_at number kept.contexts.rows ≡ None → get_refusal config number keys session ≡ Some NoContext
  get_refusal-closed number keys some idle is = λ i. first_refusal (
      (some i, Syntax)
      ∷ ((busy_is ∙ idle) i, Busy)
      ∷ (not (is_open-none number kept.contexts.rows session.contexts stands.contexts_are is i), NoContext)
      ∷ (nat_lt 32 (length keys), TooManyKeys)
      ∷ (has_repeats keys, RepeatedKey)
      ∷ (is_spent session.next_request, IdsSpent)
      ∷ [])

  pub get_refusal-open : (number : ℕ) (keys : List (List ℕ)) (lists : Lists) (many repeats spent : Bool) → nat_lt (length keys) 1 ≡ false → is_some kept.running ≡ false → row_at number kept.contexts.rows ≡ Some lists →
      nat_lt 32 (length keys) ≡ many → has_repeats keys ≡ repeats → is_spent kept.next_request ≡ spent →
      get_refusal config number keys session ≡ first_refusal ((many, TooManyKeys) ∷ (repeats, RepeatedKey) ∷ (spent, IdsSpent) ∷ [])
  get_refusal-open number keys lists many repeats spent some idle is many_is repeats_is spent_is = λ i. first_refusal (
      (some i, Syntax)
      ∷ ((busy_is ∙ idle) i, Busy)
      ∷ (not (is_open-some number kept.contexts.rows session.contexts lists stands.contexts_are is i), NoContext)
      ∷ (many_is i, TooManyKeys)
      ∷ (repeats_is i, RepeatedKey)
      ∷ ((ap is_spent (sym stands.next_request_is) ∙ spent_is) i, IdsSpent)
      ∷ [])

  pub SessionStandsFor-put_begun : (number : ℕ) (after : KeptSession) (rows : List (Open Lists)) (writing : PendingPut) → ContextsStandFor rows session.contexts → writing.deps ≡ all_of (obs_of number session) → writing.near ≡ near_of (obs_of number session) →
      after ≡ record kept { contexts = record kept.contexts { rows = rows }; next_request = kept.next_request + 1; running = Some (record { number = kept.next_request; context = number; work = Put writing }) } →
      SessionStandsFor config after (request_begun number (Write writing.key writing.value) session)
  SessionStandsFor-put_begun number after rows writing stand deps near is =
      subst (λ (k : KeptSession). SessionStandsFor config k (request_begun number (Write writing.key writing.value) session)) (sym is) (record {
        setting_is = stands.setting_is;
        dc_is = stands.dc_is;
        moment_is = stands.moment_is;
        contexts_are = stand;
        limit_is = stands.limit_is;
        next_context_is = stands.next_context_is;
        next_request_is = ap (λ n. n + 1) stands.next_request_is;
        running_is = (stands.next_request_is, refl, record { action_is = refl; no_step = refl; deps_are = deps; near_are = near });
      })

  pub SessionStandsFor-get_begun : (number : ℕ) (after : KeptSession) (keys : List (List ℕ)) (rounds : SecondReads) → AreDistinctKeys keys → 0 < length keys → rounds ≡ record { keys = keys; left = []; reads = [] } →
      after ≡ record kept { next_request = kept.next_request + 1; running = Some (record { number = kept.next_request; context = number; work = Get (record { restarts = 0; start = None; rounds = rounds }) }) } →
      SessionStandsFor config after (request_begun number (Fetch keys) session)
  SessionStandsFor-get_begun number after keys rounds distinct some begun is =
      let request : Request = record { dc = session.dc; obs = obs_of number session; action = Fetch keys } in
      let few : nat_lt config.restarts 0 ≡ false = grind (arith, nat_tests) in
      let reading : IsReading config request keys [] (record { restarts = 0; start = None; rounds = rounds }) = record {
        distinct = distinct;
        restarts_are = refl;
        few_restarts = few;
        start_is = refl;
        all_replied = refl;
        no_fault = no_replies (request_calls config request [] (Fetch keys));
        rounds_are = begun_stands keys rounds some begun;
      } in
      subst (λ (k : KeptSession). SessionStandsFor config k (request_begun number (Fetch keys) session)) (sym is) (record {
        setting_is = stands.setting_is;
        dc_is = stands.dc_is;
        moment_is = stands.moment_is;
        contexts_are = stands.contexts_are;
        limit_is = stands.limit_is;
        next_context_is = stands.next_context_is;
        next_request_is = ap (λ n. n + 1) stands.next_request_is;
        running_is = (stands.next_request_is, refl, (keys, refl, reading));
      })
    where
      no_replies : (calls : List Directed) → first_fault calls [] ≡ None
      no_replies [] = refl
      no_replies (call ∷ calls) = refl

-- ---- answers

-- the refusal that remains is that of the prepared put
pub prepared_told : (can : Bool) (refusal told : Option Fault) → (can ≡ true → refusal ≡ None) → (can ≡ false → refusal ≡ Some DependenciesFull) → refused_if (not can) DependenciesFull ≡ told → refusal ≡ told
prepared_told true refusal told none full is = none refl ∙ is
prepared_told false refusal told none full is = full refl ∙ is

-- what is no error is an answer
pub answered_by : {A : Type 0} {P : A → Type 0} (Q : Fault → Type 0) (r : Result A Fault) → MatchResult r P Q → ((fault : Fault) → r ≡ Err fault → ⊥) → (a : A) × P a
answered_by Q (Ok a) is none = (a, is)
answered_by Q (Err fault) is none = absurd (none fault refl)

-- ---- the running request

pub has_running : (config : TenantConfig) (session : Session) (ongoing : Ongoing) (begun : Option Running) → RunningStandsFor config session (Some ongoing) begun → (running : Running) × (begun ≡ Some running) × (ongoing.number ≡ running.number)
has_running config session ongoing None stand = absurd stand
has_running config session ongoing (Some running) stand = (running, refl, stand.0)

pub runs_in_both : (config : TenantConfig) (session : Session) (number : ℕ) (running : Option Ongoing) → RunningStandsFor config session running session.running → runs number session ≡ is_running number running
runs_in_both config session number running stand = by running session.running stand
  where
    by : (running : Option Ongoing) (begun : Option Running) → RunningStandsFor config session running begun → runs number (record session { running = begun }) ≡ is_running number running
    by None None stand = refl
    by (Some ongoing) (Some running) stand = ap (λ n. n == number) (sym stand.0)
    by None (Some running) stand = absurd stand
    by (Some ongoing) None stand = absurd stand

pub is_number : (a b : ℕ) → (a == b) ≡ true → a ≡ b
is_number a b h = grind (arith, nat_tests)

-- the request that a number names if it runs
pub one_runs : (number : ℕ) (session : Session) → runs number session ≡ true → (running : Running) × (session.running ≡ Some running) × (running.number ≡ number)
one_runs number session h = by session.running h
  where
    by : (begun : Option Running) → runs number (record session { running = begun }) ≡ true → (running : Running) × (begun ≡ Some running) × (running.number ≡ number)
    by None h = cc
    by (Some running) h = (running, refl, is_number running.number number h)

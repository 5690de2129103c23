-- What a get returns is no older than what was in its data centre as it started: each move keeps that of its replies so far.
use Rattle.std.proofs.Common.{◌≡◌, ℕ, ◌<◌, Bool, true, false, cond, not, List, [], ◌∷◌, ◌++◌, map, length, refl, sym, ◌∙◌, ap, subst, arith}
use Rattle.std.specs.Prelude.{Option, Some, None, nat_le, nat_lt, slice_get}
use Rattle.std.specs.List.{list_all}
use Rattle.std.proofs.lemmas.Bool.Decides.{nat_tests}
use Rattle.cops_types.specs.declared.contexts.ReadParts.{ReadParts as Read}
use Rattle.cops_types.specs.declared.faults.Fault.{Fault}
use Rattle.cops_types.specs.declared.faults.Fault.TheVariants.{Busy, IdsSpent, NoContext, Overrun, RepeatedKey, Syntax, TooManyKeys}
use Rattle.cops_types.specs.declared.pairs.Pair.{Pair}
use Rattle.cops_types.specs.Context.{Observation}
use Rattle.cops_types.specs.Key.{key_eq}
use Rattle.cops_types.specs.Pairs.{version_of}
use Rattle.cops_types.specs.TenantConfig.{TenantConfig}
use Rattle.cops_types.specs.Version.{version_le}
use Rattle.cops_types.proofs.Elements.{Among, all_true, map-Among, slice_get-Among}
use Rattle.cops_types.proofs.KeyTests.{key_eq-true}
use Rattle.cops_types.proofs.VersionOrder.{version_le-trans, version_max-left}
use Rattle.cops_types.proofs.Zipped.{Zipped}
use Rattle.cops_model.specs.declared.calls.NodeCall.TheVariants as node_call
use Rattle.cops_model.specs.declared.calls.NodeReply.{NodeReply}
use Rattle.cops_model.specs.declared.calls.NodeReply.TheVariants.{Stored as StoredAt}
use Rattle.cops_model.specs.declared.requests.Answer.{Answer}
use Rattle.cops_model.specs.declared.requests.Answer.TheVariants as answer_is
use Rattle.cops_model.specs.declared.requests.Progress.TheVariants as session_progress
use Rattle.cops_model.specs.Log.{Call, Directed, Ended, Late, LogStep, Replied, Restart, call_or, first_fault, replies_of}
use Rattle.cops_model.specs.Place.{node_number, place_of}
use Rattle.cops_model.specs.Request.{Action, Fetch, Request, Write, answer, answer_in, attempt_of, begins_again, complete, next, request_calls, unless_fault}
use Rattle.cops_model.specs.Session.{Running, Session, get_refusal, has_repeats, is_busy, is_open, is_spent, obs_of, request_of, session_after}
use Rattle.cops_model.specs.SoloNode.{SoloNode}
use Rattle.cops_model.specs.Transaction.{ReadRequest, final_reads, gets, last_read, wanted_version}
use Rattle.cops_model.specs.Causal.{Traced, is_not_older}
use Rattle.cops_model.specs.Cluster.{Actor, OfCarrier, OfSession, SoloCluster, call_node, find_session, has_node}
use Rattle.cops_session.proofs.DistinctKeys.{IsDistinct, no_repeats}
use Rattle.cops_session.proofs.FreshReads.{IsFresh, first-above, firsts, last-is, laters}
use Rattle.cops_session.proofs.RequestReplies.{call_of, fewer_replies, get-answer, get-begun, get-late, get-stepped_if, put_request, replies_in}
use Rattle.cops_session.proofs.WantedVersions.{IsAskedFor, IsFirst, IsSecond, asked_for, deps_read}
use Rattle.cops_causal.proofs.ActorMoves.{CallLeaves, Leaves, Moves, as_before, moves_lead}
use Rattle.cops_causal.proofs.ActorsKeep.{Stands, actor_found, bare, session_actor}
use Rattle.cops_causal.proofs.Answering.{RepliesAreFresh, Stays, reply_fresh}
use Rattle.cops_causal.proofs.Closure.{IsHere, home_in}
use Rattle.cops_causal.proofs.Moves.{Both, Leads, head_passes}
use Rattle.cops_causal.proofs.NodeEffects.{call_changes, node_of}
use Rattle.cops_causal.proofs.Provenance.{IsSession}
use Rattle.cops_causal.proofs.ReadEntries.{carrier_there}
use Rattle.cops_causal.proofs.Readiness.{session_ready}
use Rattle.cops_causal.proofs.RequestSteps.{StepLeaves, by_call, by_late, history_with, none_runs, only_runs, run}
use Rattle.cops_causal.proofs.Sound.{IsSound}
use Rattle.cops_causal.proofs.TracedCalls.{pair_stays}
use Rattle.cops_causal.proofs.TracedIdle.{session_of}

-- ---- the last reads are no older than what the first were no older than

module _ (config : TenantConfig) (dc : ℕ) (past : List Pair) (keys : List (List ℕ)) (rs : List NodeReply) (distinct : IsDistinct keys) (done : nat_lt (length rs) (length keys) ≡ false)
    (fresh : Zipped (IsFresh past) (gets keys rs) rs) (no_fault : first_fault (map (call_of config dc) (gets keys rs)) rs ≡ None) (all : slice_get (map (call_of config dc) (gets keys rs)) (length rs) ≡ None) where
  abbrev reads : List Read
  reads = firsts config dc past keys rs distinct done fresh no_fault all

  abbrev last : Read → Read
  last r = last_read (laters config dc past keys rs distinct done fresh no_fault all) r

  last_fresh : (r : Read) → Among r reads → (p : Pair) → Among p past → p.key ≡ (last r).key → version_le p.version (last r).version ≡ true
  last_fresh r at_r p at_p same =
      let is = last-is config dc past keys rs distinct done fresh no_fault all r at_r in
      let first = first-above config dc past keys rs distinct done fresh no_fault all r at_r p at_p (same ∙ is.key_is) in
      version_le-trans p.version (wanted_version reads r) (last r).version
      (version_le-trans p.version r.version (wanted_version reads r) first (version_max-left r.version (version_of r.key (deps_read reads)))) is.new

  finals_fresh : list_all (is_not_older past) (final_reads keys rs) ≡ true
  finals_fresh =
      all_true (is_not_older past) (final_reads keys rs) (λ f at_f.
      all_true (λ p. cond (key_eq p.key f.key) (version_le p.version f.version) true) past (λ p at_p. by_key f at_f p at_p (key_eq p.key f.key) refl))
    where
      by_key : (f : Read) → Among f (final_reads keys rs) → (p : Pair) → Among p past → (b : Bool) → key_eq p.key f.key ≡ b → cond b (version_le p.version f.version) true ≡ true
      by_key f at_f p at_p false is = refl
      by_key f at_f p at_p true is =
          let from = map-Among last f reads at_f in
          subst (λ (x : Read). version_le p.version x.version ≡ true) from.2 (last_fresh from.0 from.1 p at_p (key_eq-true p.key f.key is ∙ ap (λ (x : Read). x.key) (sym from.2)))

-- a get that starts has read nothing
pub fresh_at_start : (config : TenantConfig) (s : Session) (number : ℕ) (keys : List (List ℕ)) (past : List Pair) → get_refusal config number keys s ≡ None → RepliesAreFresh past (Fetch keys) []
fresh_at_start config s number keys past ok =
    let sixth = (is_spent s.next_request, IdsSpent) ∷ [] in
    let fifth = (has_repeats keys, RepeatedKey) ∷ sixth in
    let fourth = (nat_lt 32 (length keys), TooManyKeys) ∷ fifth in
    let third = (not (is_open number s), NoContext) ∷ fourth in
    let first = head_passes (nat_lt (length keys) 1) Syntax ((is_busy s, Busy) ∷ third) ok in
    let second = head_passes (is_busy s) Busy third first.1 in
    let opened = head_passes (not (is_open number s)) NoContext fourth second.1 in
    let few = head_passes (nat_lt 32 (length keys)) TooManyKeys fifth opened.1 in
    let once = head_passes (has_repeats keys) RepeatedKey sixth few.1 in
    (no_repeats keys once.0, get-begun (IsFresh past) keys)

-- ---- the words

module _ (config : TenantConfig) (dc_of : List ℕ → ℕ) (since : List ℕ → List Pair) where
  -- of each session, what its data centre had shown is there
  abbrev pub AreSince : List SoloNode → List Traced → Type 0
  AreSince nodes ts = (name : List ℕ) (p : Pair) → Among p (since name) → IsHere config (bare nodes) (dc_of name) p

  -- and its get has read nothing older
  abbrev pub IsFreshSince : List SoloNode → List Traced → List ℕ → Actor → Type 0
  IsFreshSince nodes ts name (OfSession s) = s.dc ≡ dc_of name → (running : Running) → s.running ≡ Some running → RepliesAreFresh (since name) running.action running.log
  IsFreshSince nodes ts name (OfCarrier k) = Unit {0}

  abbrev pub IsSince : SoloCluster → List Traced → Type 0
  IsSince = Stands AreSince IsFreshSince

  module _ (some : 0 < config.shards) (c : SoloCluster) (ts : List Traced) (inv : IsSound config c ts) (fresh : IsSince c ts) where
    module _ (name : List ℕ) (s : Session) (found : find_session name c ≡ Some s) (placed : s.dc ≡ dc_of name) where
      abbrev this : IsSession config ts name s
      this = session_of config c ts inv.traced name s found

      since_here : (p : Pair) → Among p (since name) → IsHere config c s.dc p
      since_here p among = subst (λ d. IsHere config c d p) (sym placed) (fresh.nodes name p among)

      fresh_before : (running : Running) → s.running ≡ Some running → RepliesAreFresh (since name) running.action running.log
      fresh_before = actor_found (IsFreshSince c.nodes ts) c name (OfSession s) fresh.actors (session_actor c name s found) placed

      -- a version that is gone would begin another attempt
      staying : (keys : List (List ℕ)) (log : List LogStep) (q : ReadRequest) (reply : NodeReply) → slice_get (gets keys (replies_in keys log)) (length (replies_in keys log)) ≡ Some q →
          begins_again (Fetch keys) (length (attempt_of (Fetch keys) log).steps) (Replied reply) ≡ false → Stays config some c ts inv s.dc (since name) since_here q.key q.wanted reply
      staying keys log q reply at_q stays = by_case (asked_for keys (replies_in keys log) q (slice_get-Among (gets keys (replies_in keys log)) (length (replies_in keys log)) q at_q))
        where
          StaysAs : ReadRequest → Type 0
          StaysAs a = Stays config some c ts inv s.dc (since name) since_here a.key a.wanted reply

          by_case : IsAskedFor keys (replies_in keys log) q → StaysAs q
          by_case (IsFirst key among same) = subst StaysAs same tt
          by_case (IsSecond read past among same) = subst StaysAs same (λ m gone.
              let fewer = fewer_replies (attempt_of (Fetch keys) log).steps in
              let again : nat_le (length keys) (length (attempt_of (Fetch keys) log).steps) ≡ false = ap (λ r. begins_again (Fetch keys) (length (attempt_of (Fetch keys) log).steps) (Replied r)) (sym gone) ∙ stays in
              absurd (grind (arith, nat_tests)))

      -- the request with one more step
      abbrev FreshStep : Running → LogStep → Type 0
      FreshStep running step = RepliesAreFresh (since name) running.action (running.log ++ step ∷ [])

      pub called_fresh : (running : Running) (moment : ℕ) (directed : Directed) → s.running ≡ Some running → next config (request_of s running) running.log moment ≡ Call directed →
          FreshStep running (record { moment = moment; outcome = Replied (call_node config directed.node moment directed.call c).reply })
      called_fresh = by_call config ts name s this (λ running moment directed. FreshStep running (record { moment = moment; outcome = Replied (call_node config directed.node moment directed.call c).reply }))
          (λ number context key value moment runs is. tt)
          (λ number context keys log moment q runs is place e.
          let sent = call_of config s.dc q in
          let ready = session_ready config some c ts inv name s found (run number context (Fetch keys) log) moment sent runs e in
          let call = call_node config sent.node moment sent.call c in
          let n = node_number config.shards sent.node in
          let called = call_changes config c sent.node moment sent.call ready.there inv.traced.sized in
          let before = fresh_before (run number context (Fetch keys) log) runs in (
            before.0,
            get-stepped_if (IsFresh (since name)) keys log moment call.reply q before.1 place (λ stays.
                reply_fresh config some c ts inv s.dc (since name) since_here q.key (place_of config sent.node) q.wanted call.reply (node_of config call.after n) called.change ready.ready (staying keys log q call.reply place stays)),
          ))

      pub late_fresh : (running : Running) (moment : ℕ) → s.running ≡ Some running → next config (request_of s running) running.log moment ≡ Restart → FreshStep running (record { moment = moment; outcome = Late })
      late_fresh = by_late config ts name s this (λ running moment. FreshStep running (record { moment = moment; outcome = Late }))
          (λ number context keys log moment runs is. ((fresh_before (run number context (Fetch keys) log) runs).0, get-late (IsFresh (since name)) keys log moment))

    -- ---- steps

    module _ (name : List ℕ) (s : Session) (found : find_session name c ≡ Some s) where
      abbrev Leaving : List SoloNode → Session → List Traced → Type 0
      Leaving nodes = Leaves config AreSince IsFreshSince nodes ts name

      ended_leaves : (nodes : List SoloNode) (us : List Traced) (after : Session) → after.running ≡ None → Leaving nodes after us
      ended_leaves nodes us after idle =
          record { nodes_are = λ old. old; others_are = others; session_is = λ placed. none_runs (λ (r : Running). RepliesAreFresh (since name) r.action r.log) after.running idle }
        where
          others : (other : List ℕ) (a : Actor) → key_eq other name ≡ false → IsFreshSince nodes ts other a → IsFreshSince nodes us other a
          others other (OfSession r) apart p = p
          others other (OfCarrier k) apart p = tt

      -- a step whose replies are fresh leaves them so
      step_leaves : (nodes : List SoloNode) (running : Running) (step : LogStep) → (s.dc ≡ dc_of name → RepliesAreFresh (since name) running.action (running.log ++ step ∷ [])) → StepLeaves config ts name s (Leaving nodes) running step
      step_leaves nodes running step are =
          record {
            goes_on = λ open_still. as_before config AreSince IsFreshSince nodes ts name _ (λ placed. only_runs (λ (r : Running). RepliesAreFresh (since name) r.action r.log) (record running { log = running.log ++ step ∷ [] }) (are placed));
            ends = by_answer;
          }
        where
          by_answer : (a : Answer) → answer config (request_of s running) (running.log ++ step ∷ []) ≡ Some a → Leaving nodes (session_after s running step (session_progress.Done a)) (history_with ts name running.context a)
          by_answer a e = ended_leaves nodes (history_with ts name running.context a) (session_after s running step (session_progress.Done a)) refl

    -- ---- each move

    call_since : (moment : ℕ) (directed : Directed) → has_node config directed.node.dc directed.node.shard ≡ true → CallLeaves config AreSince IsFreshSince c ts moment directed
    call_since moment directed there =
        let called = call_changes config c directed.node moment directed.call there inv.traced.sized in
        record { nodes_are = λ name p among. pair_stays called (home_in config (dc_of name) p.key) p (fresh.nodes name p among); stays = same }
      where
        same : (name : List ℕ) (a : Actor) → IsFreshSince c.nodes ts name a → IsFreshSince (call_node config directed.node moment directed.call c).after.nodes ts name a
        same name (OfSession s) is = is
        same name (OfCarrier k) is = tt

    since_moves : Moves config AreSince IsFreshSince c ts
    since_moves =
        record {
          opened = λ name dc free exists placed. none_runs (λ (r : Running). RepliesAreFresh (since name) r.action r.log) None refl;
          carrier_begun = λ name stream is. tt;
          of_session = λ name s found. record {
            created = λ idle placed. none_runs (λ (r : Running). RepliesAreFresh (since name) r.action r.log) s.running idle;
            deleted = λ number idle placed. none_runs (λ (r : Running). RepliesAreFresh (since name) r.action r.log) s.running idle;
            put_begun = λ number key value ok placed. only_runs (λ (r : Running). RepliesAreFresh (since name) r.action r.log) (run s.next_request number (Write key value) []) tt;
            get_begun = λ number keys ok placed. only_runs (λ (r : Running). RepliesAreFresh (since name) r.action r.log) (run s.next_request number (Fetch keys) []) (fresh_at_start config s number keys (since name) ok);
            called = λ running moment directed runs e. call_since moment directed (session_ready config some c ts inv name s found running moment directed runs e).there;
            stepped = λ running moment directed runs e. step_leaves name s found _ running _ (λ placed. called_fresh name s found placed running moment directed runs e);
            late = λ running moment runs e. step_leaves name s found c.nodes running _ (λ placed. late_fresh name s found placed running moment runs e);
            dropped = λ moment placed. none_runs (λ (r : Running). RepliesAreFresh (since name) r.action r.log) None refl;
          };
          of_carrier = λ name k found. record { called = λ moment directed e. call_since moment directed (carrier_there config some c ts inv name k found moment directed e); stepped = λ moment directed e open_still. tt };
          collected = λ id moment there. call_since moment (record { node = id; call = node_call.Collect }) there;
        }

  pub since_kept : 0 < config.shards → Leads config (Both (IsSound config) IsSince) IsSince
  since_kept some = moves_lead config AreSince IsFreshSince (IsSound config) (λ c ts inv. inv.traced) (since_moves some)

-- ---- what a step returns

complete_never : (config : TenantConfig) (request : Request) (rs : List NodeReply) (key value : List ℕ) (reads : List Read) → complete config request rs (Write key value) ≡ answer_is.Values reads → ⊥
complete_never config request (StoredAt version ∷ rs) key value reads e = cc
complete_never config request rs key value reads e = cc

chosen_never : (spent : Bool) (fault : Option Fault) (found : Option Directed) (a : Answer) (reads : List Read) → (a ≡ answer_is.Values reads → ⊥) →
    answer_in (cond spent (Ended (answer_is.Refused Overrun)) (unless_fault fault (call_or found a))) ≡ Some (answer_is.Values reads) → ⊥
chosen_never true fault found a reads never e = cc
chosen_never false (Some fault) found a reads never e = cc
chosen_never false None (Some call) a reads never e = cc
chosen_never false None None a reads never e = never (let same : a ≡ answer_is.Values reads = cc in same)

-- a put returns no values
write_never : (config : TenantConfig) (dc : ℕ) (obs : List Observation) (key value : List ℕ) (log : List LogStep) (reads : List Read) → answer config (put_request dc obs key value) log ≡ Some (answer_is.Values reads) → ⊥
write_never config dc obs key value log reads e =
    let request = put_request dc obs key value in
    let attempt = attempt_of (Write key value) log in
    let rs = replies_of attempt.steps in
    let calls = request_calls config request rs (Write key value) in
    chosen_never (nat_lt config.restarts attempt.restarts) (first_fault calls rs) (slice_get calls (length rs)) (complete config request rs (Write key value)) reads (complete_never config request rs key value reads) e

-- a get with fresh replies returns nothing older
pub fresh_answer : (config : TenantConfig) (s : Session) (past : List Pair) (running : Running) (log : List LogStep) (reads : List Read) → RepliesAreFresh past running.action log →
    answer config (request_of s running) log ≡ Some (answer_is.Values reads) → list_all (is_not_older past) reads ≡ true
fresh_answer config s past running log reads fresh e = by_action running.context running.action fresh e
  where
    by_action : (context : ℕ) (action : Action) → RepliesAreFresh past action log → answer config (record { dc = s.dc; obs = obs_of context s; action = action }) log ≡ Some (answer_is.Values reads) → list_all (is_not_older past) reads ≡ true
    by_action context (Fetch keys) fresh e =
        let follows = get-answer config s.dc (obs_of context s) keys log (answer_is.Values reads) e in
        subst (λ rs. list_all (is_not_older past) rs ≡ true) (sym follows.0) (finals_fresh config s.dc past keys (replies_in keys log) fresh.0 follows.1 fresh.1 follows.2 follows.3)
    by_action context (Write key value) fresh e = absurd (write_never config s.dc (obs_of context s) key value log reads e)

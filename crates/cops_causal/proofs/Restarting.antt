-- A transaction begins again only if a timestamp was passed that is late for its attempt.
use Rattle.std.proofs.Common.{◌≡◌, ℕ, ◌+◌, ◌≤◌, ◌<◌, Bool, true, false, cond, not, ◌||◌, List, [], ◌∷◌, ◌++◌, map, length, inl, inr, refl, sym, ◌∙◌, ap, subst, arith}
use Rattle.std.specs.Prelude.{Option, Some, None, zero, suc, max, filter, nat_lt, slice_get}
use Rattle.std.specs.List.{AllByRecursion, list_all, list_any}
use Rattle.std.specs.Option.{option_and_then, option_map, option_map_or}
use Rattle.std.proofs.lemmas.Bool.Decides.{nat_tests}
use Rattle.std.proofs.lemmas.List.Elements.{filter_map-append}
use Rattle.cops_types.specs.declared.contexts.ReadParts.{ReadParts as Read}
use Rattle.cops_types.specs.declared.faults.Fault.{Fault}
use Rattle.cops_types.specs.declared.faults.Fault.TheVariants.{Overrun}
use Rattle.cops_types.specs.declared.records.EntryParts.{EntryParts as Entry}
use Rattle.cops_types.specs.declared.records.Record.{Record}
use Rattle.cops_types.specs.Key.{key_eq}
use Rattle.cops_types.specs.Records.{Tracked, ever, kept, of_key, exact}
use Rattle.cops_types.specs.TenantConfig.{TenantConfig}
use Rattle.cops_types.specs.Version.{Timestamp, version_lt}
use Rattle.cops_types.proofs.Elements.{Among, Every-at, Among-map, map-Among, filter-Among, slice_get-Among, and_true}
use Rattle.cops_types.proofs.KeyTests.{key_eq-refl}
use Rattle.cops_types.proofs.PairSets.{at}
use Rattle.cops_types.proofs.Zipped.{Zipped, Zipped-left}
use Rattle.cops_model.specs.declared.calls.NodeCall.TheVariants as node_call
use Rattle.cops_model.specs.declared.calls.NodeReply.{NodeReply}
use Rattle.cops_model.specs.declared.calls.NodeReply.TheVariants.{Gone}
use Rattle.cops_model.specs.declared.calls.Wanted.TheVariants.{Latest, Exactly}
use Rattle.cops_model.specs.Log.{Call, Directed, Ended, LogStep, Next, Replied, Restart, call_or, fault_in, first_fault, replies_of}
use Rattle.cops_model.specs.Place.{node_number, place_of}
use Rattle.cops_model.specs.SoloNode.{SoloNode}
use Rattle.cops_node.proofs.NodeTurns.{entries}
use Rattle.cops_model.specs.declared.requests.Answer.{Answer}
use Rattle.cops_model.specs.declared.requests.Answer.TheVariants as answer_is
use Rattle.cops_model.specs.Request.{Action, Attempt, Fetch, Write, answer, attempt_of, begins_again, call_after, complete, is_late, request_calls, unless_fault, unless_late}
use Rattle.cops_model.specs.Request as request
use Rattle.cops_model.specs.Session.{Session, Running, obs_of, request_of, has_restarted, moment_at}
use Rattle.cops_model.specs.Session as session
use Rattle.cops_model.specs.Transaction.{ReadRequest, gets, first_round, second_round, outdated, wanted_version, read_of, reads_of}
use Rattle.cops_session.proofs.DistinctKeys.{key-read_of}
use Rattle.cops_session.proofs.RequestReplies.{replies_in, get-next, call_of, put-next}
use Rattle.cops_session.proofs.WantedVersions.{IsAskedFor, IsFirst, IsSecond, asked_for, outdated-is, wanted-among}
use Rattle.cops_model.specs.declared.deliveries.Delivery.{Delivery}
use Rattle.cops_model.specs.Carrier.{Carrier, carrier_after}
use Rattle.cops_model.specs.Carrier as carrier
use Rattle.cops_model.specs.declared.acts.Act.{Act}
use Rattle.cops_model.specs.declared.acts.Act.TheVariants.{Step, Done}
use Rattle.cops_model.specs.Causal.{Traced}
use Rattle.cops_model.specs.Cluster.{SoloCluster, OfSession, OfCarrier, find_actor, find_session, call_node, reply_of_progress, reply_of_delivery, carrier_stepped, actor_step, goes_on, most_steps, new_cluster}
use Rattle.cops_model.specs.Restarts.{ActorStep, attempt_start, ends_attempt, ends_when_due, moment_in, steps_from, steps_of}
use Rattle.cops_causal.proofs.ActorsKeep.{actor_found, session_actor}
use Rattle.cops_causal.proofs.Attempts.{Every-front, IsTimed, IsActorTimed, IsReadSince, NewerRecordsAreSince, reads_before, timed_kept, timed_at_first}
use Rattle.cops_causal.proofs.Closure.{home_in, IsHere}
use Rattle.cops_causal.proofs.ClosureSteps.{mine}
use Rattle.cops_causal.proofs.ClusterMoments.{IsAscending, IsActorWithin, IsWithin, AreUpTo, actor_step_within, moments_in}
use Rattle.cops_causal.proofs.Convergence.{found_by}
use Rattle.cops_causal.proofs.Moves.{IsKept, Both, kept_both, actor_step_keeps, history_after}
use Rattle.cops_causal.proofs.NodeAnswers.{reply_asked}
use Rattle.cops_causal.proofs.NodeEffects.{node_of, call_changes}
use Rattle.cops_causal.proofs.NodeMoments.{AreLongThere, IsLongThere, get_gone}
use Rattle.cops_causal.proofs.Overruns.{IsOther, fault_other, IsFaultless, all_faultless, get_goes_on, put_other, ends_how, carrier_other}
use Rattle.cops_causal.proofs.Provenance.{IsRunning}
use Rattle.cops_causal.proofs.Readiness.{session_ready, carrier_served, deps_here}
use Rattle.cops_causal.proofs.Sound.{IsSound, sound_kept, sound_at_first}
use Rattle.cops_causal.proofs.StreamMoves.{stage_now, stream_is}
use Rattle.cops_causal.proofs.TracedIdle.{session_of}
use Rattle.cops_causal.proofs.RequestSteps.{by_call, never_ended, put_sent, run}
use Rattle.cops_causal.proofs.ActorSteps.{as_session, by_step}

-- ---- what is gone was removed

-- a record of the version that is not found was removed
missing_removed : (key : List ℕ) (version : Timestamp) (recs : List Tracked) → exact key version recs ≡ None → (t : Tracked) → Among t recs → t.record_of.entry.key ≡ key → t.record_of.entry.version ≡ version → t.removed ≡ true
missing_removed key version recs missing t at is_key is_version = by_removed t.removed refl
  where
    by_removed : (b : Bool) → t.removed ≡ b → t.removed ≡ true
    by_removed true is = is
    by_removed false is =
        let r = t.record_of in
        let stays : Among t (filter (λ (t : Tracked). not t.removed) recs) = filter-Among (λ (t : Tracked). not t.removed) t recs at (ap not is) in
        let there : Among r (of_key key (kept recs)) =
        filter-Among (λ (r : Record). key_eq r.entry.key key) r (kept recs) (Among-map (λ (t : Tracked). t.record_of) t (filter (λ (t : Tracked). not t.removed) recs) stays) (ap (λ k. key_eq k key) is_key ∙ key_eq-refl key) in
        let found = found_by version (of_key key (kept recs)) r there is_version in
        let both : Some found.0 ≡ None = sym found.1 ∙ missing in
        cc

-- a version that was committed at the node and is gone joined it long ago
gone_long : (trans_time : ℕ) (solo : SoloNode) (key : List ℕ) (version : Timestamp) → AreLongThere trans_time solo.recs solo.moment → exact key version solo.recs ≡ None → (e : Entry) → Among e (entries solo) → e.key ≡ key → e.version ≡ version →
    (r : Record) × Among r (ever solo.recs) × (r.entry ≡ e) × (r.at + trans_time < solo.moment)
gone_long trans_time solo key version long missing e at is_key is_version =
    let of = map-Among (λ (r : Record). r.entry) e (ever solo.recs) at in
    let t = map-Among (λ (t : Tracked). t.record_of) of.0 solo.recs of.1 in
    let entry_is : t.0.record_of.entry ≡ e = ap (λ (r : Record). r.entry) t.2 ∙ of.2 in
    let removed = missing_removed key version solo.recs missing t.0 t.1 (ap (λ (f : Entry). f.key) entry_is ∙ is_key) (ap (λ (f : Entry). f.version) entry_is ∙ is_version) in
    (of.0, of.1, of.2, subst (λ (r : Record). r.at + trans_time < solo.moment) t.2 (Every-at (IsLongThere trans_time solo.moment) t.0 solo.recs long t.1 removed))

-- ---- what the first round read

module _ (config : TenantConfig) (c : SoloCluster) (dc start : ℕ) where
  abbrev IsSince : Read → Type 0
  IsSince read = NewerRecordsAreSince (node_of config c (home_in config dc read.key)) start read.key read.version

  first_since : (keys : List (List ℕ)) (rs : List NodeReply) → Zipped (IsReadSince config c dc start) (first_round keys) rs → Zipped IsFaultless (first_round keys) rs → (read : Read) → Among read (reads_of keys rs) → IsSince read
  first_since [] rs z none read there = absurd there
  first_since (key ∷ keys) [] z none read there = absurd there
  first_since (key ∷ keys) (r ∷ rs) z none read (inr later) = first_since keys rs z.1 none.1 read later
  first_since (key ∷ keys) (r ∷ rs) z none read (inl same) =
      subst IsSince same (elim z.0 [
        | inl refused ↦ absurd (let never : Some refused.0 ≡ None = sym (ap (fault_in (node_call.Get key Latest)) refused.1) ∙ none.0 in cc)
        | inr is ↦ subst (λ k. NewerRecordsAreSince (node_of config c (home_in config dc k)) start k (read_of key r).version) (sym (key-read_of key r)) is.1
      ])

-- an attempt without steps has read nothing
unread : (keys : List (List ℕ)) → reads_of keys [] ≡ []
unread [] = refl
unread (key ∷ keys) = refl

-- ---- a step that ends an attempt

-- the timestamp of the first step, if there is one
abbrev first_moment : List LogStep → Option ℕ
first_moment steps = option_map (λ (first : LogStep). first.moment) (slice_get steps 0)

abbrev pub Timed : TenantConfig → SoloCluster → List Traced → Type 0
Timed config = Both (IsSound config) (IsTimed config)

-- the attempt has a start, and each bound of the cluster's timestamps and of this one is past it by more than the time
record IsDue (config : TenantConfig) (c : SoloCluster) (name : List ℕ) (moment : ℕ) : Type 0 where
  pub start : ℕ
  pub starts : attempt_start name c ≡ Some start
  pub past : (most : ℕ) → IsWithin config most c → moment ≤ most → start + config.trans_time < most

module _ (config : TenantConfig) (some : 0 < config.shards) (c : SoloCluster) (ts : List Traced) (inv : IsSound config c ts) (timed : IsTimed config c ts) where
  module _ (name : List ℕ) (s : Session) (found : find_session name c ≡ Some s) where
    abbrev running_is : (running : Running) → s.running ≡ Some running → IsRunning config ts s running
    running_is = (session_of config c ts inv.traced name s found).running_is

    starts_at : (running : Running) (steps : List LogStep) → s.running ≡ Some running → (attempt_of running.action running.log).steps ≡ steps → attempt_start name c ≡ first_moment steps
    starts_at running steps runs are =
        ap (λ o. option_and_then (λ (r : Running). first_moment (attempt_of r.action r.log).steps) (option_and_then (λ (s : Session). s.running) o)) found
        ∙ ap (option_and_then (λ (r : Running). first_moment (attempt_of r.action r.log).steps)) runs
        ∙ ap first_moment are

    -- the steps of an attempt ascend from its first
    ascending : (most : ℕ) → IsWithin config most c → (running : Running) → s.running ≡ Some running → IsAscending (attempt_of running.action running.log).steps s.moment
    ascending most within running runs = (actor_found (IsActorWithin most) c name (OfSession s) within.actors (session_actor c name s found)).1 running runs

    -- ---- a version that is gone

    module _ (number context : ℕ) (keys : List (List ℕ)) (log : List LogStep) (runs : s.running ≡ Some (run number context (Fetch keys) log)) where
      abbrev attempt : Attempt
      attempt = attempt_of (Fetch keys) log

      abbrev rs : List NodeReply
      rs = replies_in keys log

      -- a version that was wanted of a read, and is gone, was committed after the start and then was there for long
      gone_past : first_fault (map (call_of config s.dc) (gets keys rs)) rs ≡ None → nat_lt (length rs) (length keys) ≡ false → (read : Read) → Among read (outdated (reads_of keys rs)) →
          exact read.key (wanted_version (reads_of keys rs) read) (node_of config c (home_in config s.dc read.key)).recs ≡ None →
          (start : ℕ) → AllByRecursion (λ (st : LogStep). start ≤ st.moment) attempt.steps → start + config.trans_time < (node_of config c (home_in config s.dc read.key)).moment
      gone_past none done read among missing start first =
          let solo = node_of config c (home_in config s.dc read.key) in
          let reads = reads_of keys rs in
          let v = wanted_version reads read in
          let older = outdated-is reads read among in
          let is = running_is (run number context (Fetch keys) log) runs in
          let here : IsHere config c s.dc (at read.key v) =
          deps_here config some c ts inv s.dc keys rs is.replies_are ((mine config c ts inv.closed name s found).replies_here (run number context (Fetch keys) log) runs) (at read.key v) (wanted-among reads read older.1) in
          let e = map-Among carrier.pair_of_entry (at read.key v) (entries solo) here in
          let gone = gone_long config.trans_time solo read.key v (timed.nodes (home_in config s.dc read.key)) missing e.0 e.1 (ap (λ p. p.key) e.2) (ap (λ p. p.version) e.2) in
          let split = λ (R : ReadRequest → NodeReply → Type 0) (z : Zipped R (gets keys rs) rs). Zipped-left R (first_round keys) (second_round reads) rs (subst (λ b. Zipped R (cond b (first_round keys) (first_round keys ++ second_round reads)) rs) done z) in
          let since = first_since config c s.dc start keys rs
          (split (IsReadSince config c s.dc start) (reads_before config some c ts inv timed name s found (run number context (Fetch keys) log) runs start first))
          (split IsFaultless (all_faultless config s.dc (gets keys rs) rs none)) read older.0 in
          let key_is : gone.0.entry.key ≡ read.key = ap (λ (f : Entry). f.key) gone.2 ∙ ap (λ p. p.key) e.2 in
          let version_is : gone.0.entry.version ≡ v = ap (λ (f : Entry). f.version) gone.2 ∙ ap (λ p. p.version) e.2 in
          let low = since gone.0 gone.1 key_is (ap (version_lt read.version) version_is ∙ older.1) in
          let high = gone.3 in
          omega arith

      -- a reply that a version is gone comes in the second round, and late
      gone_due : (moment : ℕ) (directed : Directed) (now : ℕ) → request.next config (request_of s (run number context (Fetch keys) log)) log moment ≡ Call directed →
          (call_node config directed.node moment directed.call c).reply ≡ Gone now → IsDue config c name moment
      gone_due moment directed now e gone = by_asked (asked_for keys rs q (slice_get-Among (gets keys rs) (length rs) q chosen.1))
        where
          chosen : (q : ReadRequest) × (slice_get (gets keys rs) (length rs) ≡ Some q) × (directed ≡ call_of config s.dc q) × (first_fault (map (call_of config s.dc) (gets keys rs)) rs ≡ None)
          chosen = let n = get-next config s.dc (obs_of context s) keys log moment directed e in (n.asked, n.at, n.call, n.no_fault)

          q : ReadRequest
          q = chosen.0

          sent : Directed
          sent = call_of config s.dc q

          is_gone : (version : Timestamp) × (q.wanted ≡ Exactly version) × (exact q.key version (node_of config c (home_in config s.dc q.key)).recs ≡ None)
          is_gone =
              let replied : (call_node config sent.node moment sent.call c).reply ≡ Gone now = ap (λ (d : Directed). (call_node config d.node moment d.call c).reply) (sym chosen.2) ∙ gone in
              let is = get_gone (place_of config sent.node) moment q.key q.wanted (node_of config c (node_number config.shards sent.node)) now replied in
              (is.version, is.asked, is.missing)

          by_steps : (read : Read) → Among read (outdated (reads_of keys rs)) →
              ((start : ℕ) → AllByRecursion (λ (st : LogStep). start ≤ st.moment) attempt.steps → start + config.trans_time < (node_of config c (home_in config s.dc read.key)).moment) →
              (steps : List LogStep) → attempt.steps ≡ steps → IsDue config c name moment
          by_steps read among long [] are =
              let none : reads_of keys rs ≡ [] = ap (λ st. reads_of keys (replies_of st)) are ∙ unread keys in
              absurd (subst (λ reads. Among read (outdated reads)) none among)
          by_steps read among long (first ∷ rest) are =
              let running = run number context (Fetch keys) log in
              record {
                start = first.moment;
                starts = starts_at running (first ∷ rest) runs are;
                past = λ most within low.
                    let ascends = subst (λ st. IsAscending st s.moment) are (ascending most within running runs) in
                    let high = long first.moment (subst (AllByRecursion (λ (st : LogStep). first.moment ≤ st.moment)) (sym are) ascends.1) in
                    let at_most = within.nodes (home_in config s.dc read.key) in
                    omega (arith, high, at_most);
              }

          by_asked : IsAskedFor keys rs q → IsDue config c name moment
          by_asked (IsFirst key among same) = let never : Latest ≡ Exactly is_gone.0 = ap (λ (a : ReadRequest). a.wanted) same ∙ is_gone.1 in cc
          by_asked (IsSecond read done among same) =
              let v = wanted_version (reads_of keys rs) read in
              let key_is : q.key ≡ read.key = sym (ap (λ (a : ReadRequest). a.key) same) in
              let both : Exactly v ≡ Exactly is_gone.0 = ap (λ (a : ReadRequest). a.wanted) same ∙ is_gone.1 in
              let version_is : is_gone.0 ≡ v = cc in
              let missing = subst (λ k. exact k v (node_of config c (home_in config s.dc k)).recs ≡ None) key_is (subst (λ w. exact q.key w (node_of config c (home_in config s.dc q.key)).recs ≡ None) version_is is_gone.2) in
              by_steps read among (gone_past chosen.3 done read among missing) attempt.steps refl

      again_due : (moment : ℕ) (directed : Directed) (reply : NodeReply) → request.next config (request_of s (run number context (Fetch keys) log)) log moment ≡ Call directed →
          (call_node config directed.node moment directed.call c).reply ≡ reply → begins_again (Fetch keys) (length attempt.steps) (Replied reply) ≡ true → IsDue config c name moment
      again_due moment directed (Gone now) e is again = gone_due moment directed now e is
      again_due moment directed reply e is again = cc

    -- ---- a call

    abbrev ReplyTo : ℕ → Directed → NodeReply
    ReplyTo moment directed = (call_node config directed.node moment directed.call c).reply

    abbrev Shows : Running → ℕ → Directed → Type 0
    Shows running moment directed =
        ends_attempt (reply_of_progress (session.progress config (request_of s running) running.log (record { moment = moment; outcome = Replied (ReplyTo moment directed) }))) ≡ true → IsDue config c name moment

    other_fault : (running : Running) (moment : ℕ) (directed : Directed) → s.running ≡ Some running → request.next config (request_of s running) running.log moment ≡ Call directed → IsOther (fault_in directed.call (ReplyTo moment directed))
    other_fault running moment directed runs e =
        let ready = session_ready config some c ts inv name s found running moment directed runs e in
        let n = node_number config.shards directed.node in
        let call = call_node config directed.node moment directed.call c in
        let called = call_changes config c directed.node moment directed.call ready.there inv.traced.sized in
        fault_other directed.call call.reply (reply_asked (place_of config directed.node) (node_of config c n) call.reply directed.call (node_of config call.after n) called.change ready.ready)

    get_due : (number context : ℕ) (keys : List (List ℕ)) (log : List LogStep) (moment : ℕ) (directed : Directed) → s.running ≡ Some (run number context (Fetch keys) log) →
        request.next config (request_of s (run number context (Fetch keys) log)) log moment ≡ Call directed → Shows (run number context (Fetch keys) log) moment directed
    get_due number context keys log moment directed runs e ends =
        elim (ends_how (answer config (request_of s running) (log ++ step ∷ [])) (has_restarted (Fetch keys) log step) (attempt_of (Fetch keys) (log ++ step ∷ [])).restarts ends) [
          | inl again ↦ again_due number context keys log runs moment directed (ReplyTo moment directed) e refl again
          | inr overrun ↦ by_again (begins_again (Fetch keys) (length (attempt_of (Fetch keys) log).steps) (Replied (ReplyTo moment directed))) refl overrun
        ]
      where
        running : Running
        running = run number context (Fetch keys) log

        step : LogStep
        step = record { moment = moment; outcome = Replied (ReplyTo moment directed) }

        by_again : (b : Bool) → begins_again (Fetch keys) (length (attempt_of (Fetch keys) log).steps) (Replied (ReplyTo moment directed)) ≡ b →
            answer config (request_of s running) (log ++ step ∷ []) ≡ Some (answer_is.Refused Overrun) → IsDue config c name moment
        by_again true again overrun = again_due number context keys log runs moment directed (ReplyTo moment directed) e refl again
        by_again false stays overrun =
            absurd (get_goes_on config s.dc (obs_of context s) keys log moment directed (ReplyTo moment directed) (running_is running runs).unanswered e (other_fault running moment directed runs e) stays overrun)

    put_due : (number context : ℕ) (key value : List ℕ) (moment : ℕ) → let put = run number context (Write key value) [] in s.running ≡ Some put → IsRunning config ts s put → Shows put moment (put_sent config s context key value)
    put_due number context key value moment runs is ends =
        let put = run number context (Write key value) [] in
        let sent = put_sent config s context key value in
        let step : LogStep = record { moment = moment; outcome = Replied (ReplyTo moment sent) } in
        let ready = session_ready config some c ts inv name s found put moment sent runs (put-next config s.dc (obs_of context s) key value moment) in
        let n = node_number config.shards sent.node in
        let call = call_node config sent.node moment sent.call c in
        elim (ends_how (answer config (request_of s put) (step ∷ [])) false (attempt_of (Write key value) (step ∷ [])).restarts ends) [
          | inl never ↦ absurd (let both : false ≡ true = never in cc)
          | inr overrun ↦ absurd (put_other config s.dc (obs_of context s) key value moment (node_of config c n) (node_of config call.after n) call.reply (call_changes config c sent.node moment sent.call ready.there inv.traced.sized).change overrun)
        ]

    called_due : (running : Running) (moment : ℕ) (directed : Directed) → s.running ≡ Some running → request.next config (request_of s running) running.log moment ≡ Call directed → Shows running moment directed
    called_due = by_call config ts name s (session_of config c ts inv.traced name s found) Shows put_due (λ number context keys log moment q runs is at e. get_due number context keys log moment (call_of config s.dc q) runs e)

    -- ---- a late step

    late_test : (late : Bool) (n : Next Answer) → (n ≡ Restart → ⊥) → unless_late late n ≡ Restart → late ≡ true
    late_test true n never e = refl
    late_test false n never e = absurd (never e)

    calls_or_ends : (spent : Bool) (fault : Option Fault) (found : Option Directed) (a : Answer) → cond spent (Ended (answer_is.Refused Overrun)) (unless_fault fault (call_or found a)) ≡ Restart → ⊥
    calls_or_ends true fault found a e = cc
    calls_or_ends false (Some fault) found a e = cc
    calls_or_ends false None (Some call) a e = cc
    calls_or_ends false None None a e = cc

    first_late : (action : Action) (steps : List LogStep) (moment : ℕ) → is_late config.trans_time action steps moment ≡ true → (first : LogStep) × (rest : List LogStep) × (steps ≡ first ∷ rest) × (first.moment + config.trans_time < moment)
    first_late (Write key value) steps moment late = cc
    first_late (Fetch keys) [] moment late = cc
    first_late (Fetch keys) (first ∷ rest) moment late = (first, rest, refl, grind (arith, nat_tests))

    late_due : (running : Running) (moment : ℕ) → s.running ≡ Some running → request.next config (request_of s running) running.log moment ≡ Restart → IsDue config c name moment
    late_due running moment runs e =
        let attempt = attempt_of running.action running.log in
        let replies = replies_of attempt.steps in
        let request = request_of s running in
        let calls = request_calls config request replies running.action in
        let late = late_test (is_late config.trans_time running.action attempt.steps moment) (call_after config request attempt)
        (calls_or_ends (nat_lt config.restarts attempt.restarts) (first_fault calls replies) (slice_get calls (length replies)) (complete config request replies running.action)) e in
        let first = first_late running.action attempt.steps moment late in
        record { start = first.0.moment; starts = starts_at running (first.0 ∷ first.1) runs first.2; past = λ most within low. let high = first.3 in omega (arith, high, low) }

    -- a step uses the greatest timestamp so far
    later_due : (moment : ℕ) → IsDue config c name (moment_at moment s) → IsDue config c name moment
    later_due moment due =
        record {
          start = due.start;
          starts = due.starts;
          past = λ most within low.
              let at_most = (actor_found (IsActorWithin most) c name (OfSession s) within.actors (session_actor c name s found)).0 in
              due.past most within (omega (arith, at_most, low));
        }

  -- ---- carriers

  module _ (name : List ℕ) (k : Carrier) (found : find_actor name c ≡ Some (OfCarrier k)) where
    stepped_never : (after : Carrier) (n : Next Delivery) (next : SoloCluster) → ((ending : Delivery) → n ≡ Ended ending → ends_attempt (reply_of_delivery ending) ≡ true → ⊥) →
        ends_attempt (carrier_stepped name after (carrier.progress_of n) next).reply ≡ true → ⊥
    stepped_never after (Ended ending) next never ends = never ending refl ends
    stepped_never after (Call directed) next never ends = cc
    stepped_never after Restart next never ends = cc

    carrier_never : (moment : ℕ) (directed : Directed) → carrier.carrier_next config.shards k.stream k.log ≡ Call directed →
        let call = call_node config directed.node moment directed.call c in
        let step : LogStep = record { moment = moment; outcome = Replied call.reply } in
        ends_attempt (carrier_stepped name (carrier_after k step) (carrier.delivery_progress config.shards k step) call.after).reply ≡ true → ⊥
    carrier_never moment directed e ends =
        let call = call_node config directed.node moment directed.call c in
        let step : LogStep = record { moment = moment; outcome = Replied call.reply } in
        let served = carrier_served config some c ts inv k.stream (stream_is config some c ts inv.flowing inv.traced name k found) moment directed (stage_now config some c ts inv.flowing inv.traced name k found directed e) in
        let n = node_number config.shards directed.node in
        let called = call_changes config c directed.node moment directed.call served.calls.there inv.traced.sized in
        let other = fault_other directed.call call.reply (reply_asked (place_of config directed.node) (node_of config c n) call.reply directed.call (node_of config call.after n) called.change served.calls.ready) in
        stepped_never (carrier_after k step) (carrier.carrier_next config.shards k.stream (k.log ++ step ∷ [])) call.after (carrier_other config.shards k.stream k.log moment directed call.reply e other) ends

  -- ---- steps

  step_due : (name : List ℕ) (moment : ℕ) → ends_attempt (actor_step config name moment c).reply ≡ true → IsDue config c name moment
  step_due name moment = by_step config name moment c (λ turn. ends_attempt turn.reply ≡ true → IsDue config c name moment) (record {
    unknown = λ ends. cc;
    idle = λ ends. cc;
    called = λ s running directed found runs e ends. later_due name s (as_session name c s found) moment (called_due name s (as_session name c s found) running (moment_at moment s) directed runs e ends);
    late = λ s running found runs e ends. later_due name s (as_session name c s found) moment (late_due name s (as_session name c s found) running (moment_at moment s) runs e);
    ended = λ s running a found runs e ends. absurd (never_ended config ts name s (session_of config c ts inv.traced name s (as_session name c s found)) running (moment_at moment s) a runs e);
    carrier_called = λ k directed found e ends. absurd (carrier_never name k found (max k.moment moment) directed e ends);
    carrier_waits = λ k found e ends. cc;
    carrier_ended = λ k ending found e ends. absurd (actor_found (IsActorTimed config c.nodes ts) c name (OfCarrier k) timed.actors found ending e);
  })

-- ---- runs

-- if no timestamp is past this one, all are up to it
none_past : (config : TenantConfig) (most : ℕ) (moments : List ℕ) → list_any (nat_lt most) moments ≡ false → AreUpTo config most moments
none_past config most [] none = tt
none_past config most (m ∷ moments) none =
    let both = neither (nat_lt most m) (list_any (nat_lt most) moments) none in ((let low = both.0 in grind (arith, nat_tests)), none_past config most moments both.1)
  where
    neither : (a b : Bool) → (a || b) ≡ false → (a ≡ false) × (b ≡ false)
    neither true b e = cc
    neither false b e = (refl, e)

module _ (config : TenantConfig) (some : 0 < config.shards) where
  pub timed_whole : IsKept config (Timed config)
  timed_whole = kept_both (sound_kept config some) (timed_kept config some)

  module _ (moments : List ℕ) (name : List ℕ) (moment : ℕ) (given : (most : ℕ) → AreUpTo config most moments → moment ≤ most) where
    -- the timestamps of a cluster are within those that were passed
    abbrev HasReached : SoloCluster → Type 0
    HasReached c = (most : ℕ) → AreUpTo config most moments → IsWithin config most c

    abbrev has_passed : Option ℕ → Bool
    has_passed start = option_map_or (λ (start : ℕ). list_any (nat_lt (start + config.trans_time)) moments) start false

    one_due : (c : SoloCluster) (ts : List Traced) → Timed config c ts → HasReached c → ends_when_due config moments (record { name = name; moment = moment; from = c }) ≡ true
    one_due c ts inv reached = by_end (ends_attempt (actor_step config name moment c).reply) refl
      where
        passed : (due : IsDue config c name moment) → has_passed (Some due.start) ≡ true
        passed due = by_any (list_any (nat_lt (due.start + config.trans_time)) moments) refl
          where
            by_any : (b : Bool) → list_any (nat_lt (due.start + config.trans_time)) moments ≡ b → b ≡ true
            by_any true is = refl
            by_any false none =
                let most = due.start + config.trans_time in
                let low = none_past config most moments none in
                let high = due.past most (reached most low) (given most low) in
                absurd (omega (arith, high))

        by_end : (b : Bool) → ends_attempt (actor_step config name moment c).reply ≡ b → cond b (has_passed (attempt_start name c)) true ≡ true
        by_end false ends = refl
        by_end true ends = let due = step_due config some c ts inv.0 inv.1 name moment ends in ap has_passed due.starts ∙ passed due

    steps_due : (more : ℕ) (c : SoloCluster) (ts : List Traced) → Timed config c ts → HasReached c → list_all (ends_when_due config moments) (steps_from more config name moment c) ≡ true
    steps_due zero c ts inv reached = and_true (ends_when_due config moments (record { name = name; moment = moment; from = c })) true (one_due c ts inv reached) refl
    steps_due (suc more) c ts inv reached =
        let turn = actor_step config name moment c in
        let later = steps_due more turn.after (history_after ts c name turn.reply) (actor_step_keeps timed_whole c ts name moment inv) (λ most low. actor_step_within config most c name moment (given most low) (reached most low)) in
        and_true (ends_when_due config moments (record { name = name; moment = moment; from = c })) _ (one_due c ts inv reached) (by_goes (goes_on turn.reply) (steps_from more config name moment turn.after) later)
      where
        by_goes : (b : Bool) (rest : List ActorStep) → list_all (ends_when_due config moments) rest ≡ true → list_all (ends_when_due config moments) (let steps : List ActorStep = elim b [ true ↦ rest | false ↦ [] ] in steps) ≡ true
        by_goes true rest later = later
        by_goes false rest later = refl

  -- from any cluster that is timed, and has reached no timestamp past those that were passed
  pub act_due : (before : List Act) (act : Act) (c : SoloCluster) (ts : List Traced) → Timed config c ts → ((most : ℕ) → AreUpTo config most (moments_in before) → IsWithin config most c) →
      list_all (ends_when_due config (moments_in (before ++ act ∷ []))) (steps_of config act c) ≡ true
  act_due before act c ts inv reached = by_act act refl
    where
      moments : List ℕ
      moments = moments_in (before ++ act ∷ [])

      split : (most : ℕ) → AreUpTo config most moments → AreUpTo config most (moments_in before) × AreUpTo config most (moments_in (act ∷ []))
      split most low = Every-front (λ (m : ℕ). m ≤ most) (moments_in before) (moments_in (act ∷ [])) (subst (AreUpTo config most) (filter_map-append moment_in before (act ∷ [])) low)

      due : (more : ℕ) (name : List ℕ) (moment : ℕ) → ((most : ℕ) → AreUpTo config most (moments_in (act ∷ [])) → moment ≤ most) → list_all (ends_when_due config moments) (steps_from more config name moment c) ≡ true
      due more name moment given =
          steps_due moments name moment (λ most low. given most (split most low).1) more c ts inv (λ most low. reached most (split most low).0)

      by_act : (a : Act) → act ≡ a → list_all (ends_when_due config moments) (steps_of config a c) ≡ true
      by_act (Step name moment) is = due 0 name moment (λ most low. (subst (λ a. AreUpTo config most (moments_in (a ∷ []))) is low).0)
      by_act (Done name moment) is = due (most_steps config) name moment (λ most low. (subst (λ a. AreUpTo config most (moments_in (a ∷ []))) is low).0)
      by_act a is = refl

  pub timed_first : Timed config (new_cluster config) []
  timed_first = (sound_at_first config some, timed_at_first config)

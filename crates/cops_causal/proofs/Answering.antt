-- Each transaction answered consistently, each operation put what is new and returned what was put: each move keeps that.
use Rattle.std.proofs.Common.{◌≡◌, ℕ, ◌<◌, Bool, true, false, ◌&&◌, List, [], ◌∷◌, ◌++◌, map, length, inl, inr, refl, sym, ◌∙◌, ap, subst, arith}
use Rattle.std.specs.Prelude.{Option, Some, None, not, nat_lt, nat_le, slice_get, ◌==◌}
use Rattle.std.specs.List.{AllByRecursion}
use Rattle.std.proofs.lemmas.Bool.Decides.{nat_tests}
use Rattle.cops_types.specs.declared.contexts.ReadParts.{ReadParts as Read}
use Rattle.cops_types.specs.declared.faults.Fault.TheVariants.{Syntax, Busy, NoContext, TooManyKeys, RepeatedKey, IdsSpent}
use Rattle.cops_types.specs.declared.pairs.Pair.{Pair}
use Rattle.cops_types.specs.declared.records.Record.{Record}
use Rattle.cops_types.specs.Context.{all_of}
use Rattle.cops_types.specs.Key.{key_eq}
use Rattle.cops_types.specs.Records.{exact, latest}
use Rattle.cops_types.specs.TenantConfig.{TenantConfig}
use Rattle.cops_types.specs.Version.{Timestamp, version_le}
use Rattle.cops_model.specs.declared.calls.NodeCall.TheVariants as node_call
use Rattle.cops_model.specs.declared.calls.NodeReply.{NodeReply}
use Rattle.cops_model.specs.declared.calls.NodeReply.TheVariants.{Gone}
use Rattle.cops_model.specs.declared.calls.Wanted.{Wanted}
use Rattle.cops_model.specs.declared.calls.Wanted.TheVariants.{Latest, Exactly}
use Rattle.cops_model.specs.Log.{LogStep, Late, Replied, Directed, Call, Restart, first_fault}
use Rattle.cops_model.specs.Place.{Place, node_number, place_of}
use Rattle.cops_model.specs.SoloNode.{SoloNode}
use Rattle.cops_model.specs.Step.{was_committed, reply_latest, reply_exact}
use Rattle.cops_model.specs.Carrier.{pair_of_entry}
use Rattle.cops_model.specs.Request.{Action, Fetch, Write, attempt_of, begins_again, next}
use Rattle.cops_model.specs.Session.{Session, Running, is_open, is_busy, has_repeats, obs_of, request_of, request_begun, get_refusal, is_spent}
use Rattle.cops_model.specs.Transaction.{ReadRequest, gets, read_of, final_reads}
use Rattle.cops_model.specs.Causal.{Traced, Effect, Wrote, Returned, returned_by, answers_consistently}
use Rattle.cops_model.specs.Cluster.{SoloCluster, Actor, OfSession, OfCarrier, new_cluster, find_session, call_node}
use Rattle.cops_causal.proofs.ActorsKeep.{actor_found, session_actor, Stands}
use Rattle.cops_types.proofs.KeyTests.{key_eq-false}
use Rattle.cops_types.proofs.Elements.{slice_get-Among, Among, Every-append, Every-at, map-Among}
use Rattle.cops_causal.proofs.Closure.{home_in, IsHere}
use Rattle.cops_causal.proofs.ClosureSteps.{mine}
use Rattle.cops_causal.proofs.ContextPasts.{IsRead}
use Rattle.cops_causal.proofs.Convergence.{latest_of_some, of_entries, orderly_at}
use Rattle.cops_session.proofs.DistinctKeys.{IsDistinct, no_repeats}
use Rattle.cops_session.proofs.FreshReads.{IsFreshAs, IsFresh}
use Rattle.cops_causal.proofs.Histories.{pair_read, past_in, puts_of, flat_map-Among}
use Rattle.cops_causal.proofs.Moves.{Leads, Both, head_passes}
use Rattle.cops_causal.proofs.NodeAnswers.{IsReady}
use Rattle.cops_node.proofs.NodeTurns.{entries, Change, IsRefused, Answers, Joined, Taken, IsReply}
use Rattle.cops_causal.proofs.NodeEffects.{node_of, call_changes}
use Rattle.cops_types.proofs.PairSets.{at}
use Rattle.cops_causal.proofs.Provenance.{IsNew, IsFound, IsSession, past_in-other}
use Rattle.cops_causal.proofs.ReadPasts.{read_pair, valued_put, answer_consistent}
use Rattle.cops_causal.proofs.Readiness.{session_ready, read_put}
use Rattle.cops_session.proofs.RequestReplies.{replies_in, call_of, get-begun, get-late, get-stepped, get-stepped_if, fewer_replies}
use Rattle.cops_types.proofs.Successive.{EachAfter, each_after-push}
use Rattle.cops_types.proofs.Zipped.{Zipped}
use Rattle.cops_session.proofs.ReplyRounds.{Every-final_reads}
use Rattle.cops_causal.proofs.Sound.{IsSound}
use Rattle.cops_causal.proofs.TracedCalls.{exact-is, get_found, home-there, unput}
use Rattle.cops_causal.proofs.TracedIdle.{session_of}
use Rattle.cops_causal.proofs.TracedSteps.{context_of}
use Rattle.cops_session.proofs.WantedVersions.{IsAskedFor, IsFirst, IsSecond, asked_for}
use Rattle.cops_causal.proofs.RequestSteps.{StepLeaves, by_call, by_late, get_leaves, joining, none_runs, only_runs, put_leaves, put_sent, run}
use Rattle.cops_causal.proofs.ActorMoves.{CallLeaves, Leaves, Moves, as_before, moves_lead}

-- ---- the words

-- what an attempt has read is no older than what its context has seen
abbrev pub RepliesAreFresh : List Pair → Action → List LogStep → Type 0
RepliesAreFresh past (Write key value) log = Unit {0}
RepliesAreFresh past (Fetch keys) log = IsDistinct keys × Zipped (IsFresh past) (gets keys (replies_in keys log)) (replies_in keys log)

abbrev pub IsActorFresh : List SoloNode → List Traced → List ℕ → Actor → Type 0
IsActorFresh nodes ts name (OfSession s) = (running : Running) → s.running ≡ Some running → RepliesAreFresh (past_in ts name running.context) running.action running.log
IsActorFresh nodes ts name (OfCarrier k) = Unit {0}

abbrev pub IsTracedAnswer : Traced → Type 0
IsTracedAnswer t = answers_consistently t t.operation.effect ≡ true

-- an operation after these returned what they put, and put nothing that they did
pub record IsNext (before : List Traced) (t : Traced) : Type 0 where
  pub returned : (q : Pair) → Among q (returned_by t.operation.effect) → Among q (puts_of before)
  pub new : IsNew before t

-- each transaction was answered consistently, and each operation followed those before it
pub record AreAnswered (nodes : List SoloNode) (ts : List Traced) : Type 0 where
  pub answered : AllByRecursion IsTracedAnswer ts
  pub ordered : EachAfter IsNext [] ts

abbrev pub IsAnswering : TenantConfig → SoloCluster → List Traced → Type 0
IsAnswering config = Stands AreAnswered IsActorFresh

-- ---- what a node answers is fresh

module _ (config : TenantConfig) (some : 0 < config.shards) (c : SoloCluster) (ts : List Traced) (inv : IsSound config c ts) (dc : ℕ) (past : List Pair) (here : (p : Pair) → Among p past → IsHere config c dc p) (key : List ℕ) where
  abbrev solo : SoloNode
  solo = node_of config c (home_in config dc key)

  -- the latest version of the key is above all of the past
  latest_fresh : (o : Option Record) → latest key solo.recs ≡ o → IsFreshAs past key Latest (reply_latest o)
  latest_fresh o is p at_p same =
      let n = home_in config dc key in
      let at_home = subst (λ k. Among p (map pair_of_entry (entries (node_of config c (home_in config dc k))))) same (here p at_p) in
      let found = map-Among pair_of_entry p (entries solo) at_home in
      let e = found.0 in
      let of_key = of_entries key solo e found.1 (ap (λ (q : Pair). q.key) found.2 ∙ same) in
      let top = latest_of_some key solo (orderly_at config c inv.flowing.streamed n (inv.keeps n)) e of_key in
      subst (λ v. version_le v (read_of key (reply_latest o)).version ≡ true) (ap (λ (q : Pair). q.version) found.2)
      (subst (λ l. version_le e.version (read_of key (reply_latest l)).version ≡ true) (sym top.found ∙ is) (top.greatest_is e of_key))

  exact_fresh : (version : Timestamp) (now : ℕ) (was : Bool) (o : Option Record) → exact key version solo.recs ≡ o → was ≡ true → ((m : ℕ) → reply_exact now was o ≡ Gone m → ⊥) → IsFreshAs past key (Exactly version) (reply_exact now was o)
  exact_fresh version now was (Some r) is ready stays = (exact-is key version solo r is).2
  exact_fresh version now true None is ready stays = absurd (stays now refl)
  exact_fresh version now false None is ready stays = cc

  -- an exact version is found, as long as the attempt goes on
  abbrev pub Stays : Wanted → NodeReply → Type 0
  Stays Latest reply = Unit {0}
  Stays (Exactly version) reply = (m : ℕ) → reply ≡ Gone m → ⊥

  answer_fresh : (place : Place) (wanted : Wanted) (reply : NodeReply) → IsReply place (node_call.Get key wanted) solo reply → IsReady (node_call.Get key wanted) solo → Stays wanted reply → IsFreshAs past key wanted reply
  answer_fresh place Latest reply is ready stays = subst (IsFreshAs past key Latest) (sym is) (latest_fresh (latest key solo.recs) refl)
  answer_fresh place (Exactly version) reply is ready stays =
      subst (IsFreshAs past key (Exactly version)) (sym is.1)
      (exact_fresh version is.0 (was_committed version solo) (exact key version solo.recs) refl ready (λ m e. stays m (is.1 ∙ e)))

  pub reply_fresh : (place : Place) (wanted : Wanted) (reply : NodeReply) (after : SoloNode) → Change place (node_call.Get key wanted) solo reply after → IsReady (node_call.Get key wanted) solo → Stays wanted reply →
      IsFresh past (record { key = key; wanted = wanted }) reply
  reply_fresh place wanted reply after (IsRefused same acked is) ready stays = inl is
  reply_fresh place wanted reply after (Answers same acked is) ready stays = inr (answer_fresh place wanted reply is ready stays)
  reply_fresh place wanted reply after (Joined e more acked is) ready stays = absurd is
  reply_fresh place wanted reply after (Taken same is) ready stays = absurd is

-- ---- the history and the sessions

-- what an operation leaves that joins the history and ends the request of its session
operation_answers : (config : TenantConfig) (nodes : List SoloNode) (ts : List Traced) (name : List ℕ) (context : ℕ) (effect : Effect) (next : Session) → next.running ≡ None →
    IsTracedAnswer (joining ts name context effect) → IsNext ts (joining ts name context effect) → Leaves config AreAnswered IsActorFresh nodes ts name next (ts ++ joining ts name context effect ∷ [])
operation_answers config nodes ts name context effect next idle consistent is =
    record {
      nodes_are = λ old. record { answered = Every-append IsTracedAnswer ts (t ∷ []) old.answered (consistent, tt); ordered = each_after-push IsNext [] ts t old.ordered is };
      others_are = others;
      session_is = none_runs _ next.running idle;
    }
  where
    t : Traced
    t = joining ts name context effect

    others : (other : List ℕ) (a : Actor) → key_eq other name ≡ false → IsActorFresh nodes ts other a → IsActorFresh nodes (ts ++ t ∷ []) other a
    others other (OfSession r) apart p = λ running runs.
        subst (λ ps. RepliesAreFresh ps running.action running.log) (sym (past_in-other ts t is.new other running.context (ap (λ b. b && context == running.context) (key_eq-false other name apart)))) (p running runs)
    others other (OfCarrier k) apart p = tt

module _ (config : TenantConfig) (some : 0 < config.shards) (c : SoloCluster) (ts : List Traced) (inv : IsSound config c ts) (answering : IsAnswering config c ts) (name : List ℕ) (s : Session) (found : find_session name c ≡ Some s) where
  fresh_before : (running : Running) → s.running ≡ Some running → RepliesAreFresh (past_in ts name running.context) running.action running.log
  fresh_before running runs = actor_found (IsActorFresh c.nodes ts) c name (OfSession s) answering.actors (session_actor c name s found) running runs

  -- what the context has seen is in the data centre
  seen_here : (context : ℕ) → is_open context s ≡ true → (p : Pair) → Among p (past_in ts name context) → IsHere config c s.dc p
  seen_here context opened p there =
      let x = context_of s context opened in
      (mine config c ts inv.closed name s found).contexts_here x.0 x.1 p (subst (λ n. Among p (past_in ts name n)) (sym x.2) there)

  -- a request whose attempt has read nothing older than the past of its context
  abbrev IsFreshRun : Running → Type 0
  IsFreshRun r = RepliesAreFresh (past_in ts name r.context) r.action r.log

  -- what is to be shown of a step at these nodes
  abbrev Leaving : List SoloNode → Session → List Traced → Type 0
  Leaving nodes = Leaves config AreAnswered IsActorFresh nodes ts name

  -- ---- a step of a transaction

  module _ (nodes : List SoloNode) (number context : ℕ) (keys : List (List ℕ)) (log : List LogStep) (step : LogStep)
      (put : let rs = replies_in keys (log ++ step ∷ []) in Zipped (IsFound ts) (gets keys rs) rs) (fresh : RepliesAreFresh (past_in ts name context) (Fetch keys) (log ++ step ∷ [])) where
    get_answering : StepLeaves config ts name s (Leaving nodes) (run number context (Fetch keys) log) step
    get_answering =
        get_leaves config ts name s (Leaving nodes) number context keys log step
        (λ open_still. as_before config AreAnswered IsActorFresh nodes ts name _ (only_runs IsFreshRun (run number context (Fetch keys) (log ++ step ∷ [])) fresh))
        (λ fault. as_before config AreAnswered IsActorFresh nodes ts name _ (none_runs IsFreshRun None refl))
        (λ reads follows.
        let are : AllByRecursion (IsRead ts) reads = subst (AllByRecursion (IsRead ts)) (sym follows.0) (Every-final_reads (IsFound ts) (IsRead ts) (read_put ts) keys (replies_in keys (log ++ step ∷ [])) follows.1 put) in
        operation_answers config nodes ts name context (Returned reads) _ refl (consistent reads follows.0 follows.1 follows.2 follows.3) (record {
          returned = λ q there.
              let by = flat_map-Among pair_read reads q there in
              let pair = read_pair by.0 q by.2 in
              subst (λ p. Among p (puts_of ts)) (sym pair.0) (valued_put ts by.0 (Every-at (IsRead ts) by.0 reads are by.1) pair.1).was;
          new = λ p there was. there;
        }))
      where
        consistent : (reads : List Read) → reads ≡ final_reads keys (replies_in keys (log ++ step ∷ [])) → nat_lt (length (replies_in keys (log ++ step ∷ []))) (length keys) ≡ false →
            first_fault (map (call_of config s.dc) (gets keys (replies_in keys (log ++ step ∷ [])))) (replies_in keys (log ++ step ∷ [])) ≡ None →
            slice_get (map (call_of config s.dc) (gets keys (replies_in keys (log ++ step ∷ [])))) (length (replies_in keys (log ++ step ∷ []))) ≡ None →
            IsTracedAnswer (joining ts name context (Returned reads))
        consistent reads are done no_fault all =
            subst (λ rs. IsTracedAnswer (joining ts name context (Returned rs))) (sym are)
            (answer_consistent config s.dc ts inv.traced.history name context keys (replies_in keys (log ++ step ∷ [])) fresh.0 done put fresh.1 no_fault all)

  abbrev this : IsSession config ts name s
  this = session_of config c ts inv.traced name s found

  -- a version that is gone would begin another attempt
  staying : (context : ℕ) (opened : is_open context s ≡ true) (keys : List (List ℕ)) (log : List LogStep) (q : ReadRequest) (reply : NodeReply) → slice_get (gets keys (replies_in keys log)) (length (replies_in keys log)) ≡ Some q → begins_again (Fetch keys) (length (attempt_of (Fetch keys) log).steps) (Replied reply) ≡ false →
      Stays config some c ts inv s.dc (past_in ts name context) (seen_here context opened) q.key q.wanted reply
  staying context opened keys log q reply at_q stays = by_case (asked_for keys (replies_in keys log) q (slice_get-Among (gets keys (replies_in keys log)) (length (replies_in keys log)) q at_q))
    where
      StaysAs : ReadRequest → Type 0
      StaysAs a = Stays config some c ts inv s.dc (past_in ts name context) (seen_here context opened) a.key a.wanted reply

      by_case : IsAskedFor keys (replies_in keys log) q → StaysAs q
      by_case (IsFirst key among same) = subst StaysAs same tt
      by_case (IsSecond read past among same) = subst StaysAs same (λ m gone.
          let fewer = fewer_replies (attempt_of (Fetch keys) log).steps in
          let again : nat_le (length keys) (length (attempt_of (Fetch keys) log).steps) ≡ false = ap (λ r. begins_again (Fetch keys) (length (attempt_of (Fetch keys) log).steps) (Replied r)) (sym gone) ∙ stays in
          absurd (grind (arith, nat_tests)))

  -- a step that calls: of a put by what its node did, of a transaction by what it read
  stepped_answering : (running : Running) (moment : ℕ) (directed : Directed) → s.running ≡ Some running → next config (request_of s running) running.log moment ≡ Call directed →
      let call = call_node config directed.node moment directed.call c in StepLeaves config ts name s (Leaving call.after.nodes) running (record { moment = moment; outcome = Replied call.reply })
  stepped_answering = by_call config ts name s this
      (λ running moment directed. let call = call_node config directed.node moment directed.call c in StepLeaves config ts name s (Leaving call.after.nodes) running (record { moment = moment; outcome = Replied call.reply }))
      (λ number context key value moment runs is.
      let sent = put_sent config s context key value in
      let call = call_node config sent.node moment sent.call c in
      put_leaves config ts name s (Leaving call.after.nodes) c call.after number context key value moment call.reply (call_changes config c sent.node moment sent.call (home-there config s.dc key some this.placed) inv.traced.sized)
      (λ fault refused. as_before config AreAnswered IsActorFresh call.after.nodes ts name _ (none_runs IsFreshRun None refl))
      (λ e more stores. operation_answers config call.after.nodes ts name context (Wrote (at key stores.0)) _ refl refl (record {
        returned = λ q there. absurd there;
        new = λ p there was. elim there [
          | inl one ↦ unput config c ts inv.traced sent.node key (all_of (obs_of context s)) stores.0 stores.2 (subst (λ q. Among q (puts_of ts)) (sym one) was)
          | inr never ↦ absurd never
        ];
      })))
      (λ number context keys log moment q runs is at e.
      let sent = call_of config s.dc q in
      let ready = session_ready config some c ts inv name s found (run number context (Fetch keys) log) moment sent runs e in
      let call = call_node config sent.node moment sent.call c in
      let n = node_number config.shards sent.node in
      let called = call_changes config c sent.node moment sent.call ready.there inv.traced.sized in
      let reads : IsFound ts q call.reply = get_found ts q.key (node_of config c n) (inv.traced.entries_are n) (place_of config sent.node) q.wanted call.reply (node_of config call.after n) called.change in
      let before = fresh_before (run number context (Fetch keys) log) runs in
      let past = past_in ts name context in
      get_answering call.after.nodes number context keys log (record { moment = moment; outcome = Replied call.reply }) (get-stepped (IsFound ts) keys log moment call.reply q is.replies_are at reads) (
        before.0,
        get-stepped_if (IsFresh past) keys log moment call.reply q before.1 at (λ stays.
            reply_fresh config some c ts inv s.dc past (seen_here context is.in_open) q.key (place_of config sent.node) q.wanted call.reply (node_of config call.after n) called.change ready.ready
            (staying context is.in_open keys log q call.reply at stays)),
      ))

  -- a step that comes late reads nothing
  late_answering : (running : Running) (moment : ℕ) → s.running ≡ Some running → next config (request_of s running) running.log moment ≡ Restart → StepLeaves config ts name s (Leaving c.nodes) running (record { moment = moment; outcome = Late })
  late_answering = by_late config ts name s this (λ running moment. StepLeaves config ts name s (Leaving c.nodes) running (record { moment = moment; outcome = Late })) (λ number context keys log moment runs is.
      get_answering c.nodes number context keys log (record { moment = moment; outcome = Late }) (get-late (IsFound ts) keys log moment)
      ((fresh_before (run number context (Fetch keys) log) runs).0, get-late (IsFresh (past_in ts name context)) keys log moment))

  get_begun : (number : ℕ) (keys : List (List ℕ)) → get_refusal config number keys s ≡ None → IsActorFresh c.nodes ts name (OfSession (request_begun number (Fetch keys) s))
  get_begun number keys ok =
      let sixth = (is_spent s.next_request, IdsSpent) ∷ [] in
      let fifth = (has_repeats keys, RepeatedKey) ∷ sixth in
      let fourth = (nat_lt 32 (length keys), TooManyKeys) ∷ fifth in
      let third = (not (is_open number s), NoContext) ∷ fourth in
      let first = head_passes (nat_lt (length keys) 1) Syntax ((is_busy s, Busy) ∷ third) ok in
      let second = head_passes (is_busy s) Busy third first.1 in
      let opened = head_passes (not (is_open number s)) NoContext fourth second.1 in
      let few = head_passes (nat_lt 32 (length keys)) TooManyKeys fifth opened.1 in
      let once = head_passes (has_repeats keys) RepeatedKey sixth few.1 in
      only_runs IsFreshRun (run s.next_request number (Fetch keys) []) (no_repeats keys once.0, get-begun (IsFresh (past_in ts name number)) keys)

-- ---- each move

module _ (config : TenantConfig) (some : 0 < config.shards) (c : SoloCluster) (ts : List Traced) (inv : IsSound config c ts) (answering : IsAnswering config c ts) where
  -- a call takes nothing back
  call_answering : (moment : ℕ) (directed : Directed) → CallLeaves config AreAnswered IsActorFresh c ts moment directed
  call_answering moment directed = record { nodes_are = record { answered = answering.nodes.answered; ordered = answering.nodes.ordered }; stays = λ name a is. is }

  -- all moves
  answering_moves : Moves config AreAnswered IsActorFresh c ts
  answering_moves =
      record {
        opened = λ name dc free exists. none_runs _ None refl;
        carrier_begun = λ name stream is. tt;
        of_session = λ name s found. record {
          created = λ idle. none_runs _ s.running idle;
          deleted = λ number idle. none_runs _ s.running idle;
          put_begun = λ number key value ok. only_runs (λ (r : Running). RepliesAreFresh (past_in ts name r.context) r.action r.log) (run s.next_request number (Write key value) []) tt;
          get_begun = get_begun config some c ts inv answering name s found;
          called = λ running moment directed runs e. call_answering moment directed;
          stepped = stepped_answering config some c ts inv answering name s found;
          late = late_answering config some c ts inv answering name s found;
          dropped = λ moment. none_runs _ None refl;
        };
        of_carrier = λ name k found. record { called = λ moment directed e. call_answering moment directed; stepped = λ moment directed e open_still. tt };
        collected = λ id moment there. call_answering moment (record { node = id; call = node_call.Collect });
      }

pub answering_kept : (config : TenantConfig) → 0 < config.shards → Leads config (Both (IsSound config) (IsAnswering config)) (IsAnswering config)
answering_kept config some = moves_lead config AreAnswered IsActorFresh (IsSound config) (λ c ts inv. inv.traced) (answering_moves config some)

pub answering_at_first : (config : TenantConfig) → IsAnswering config (new_cluster config) []
answering_at_first config = record { nodes = record { answered = tt; ordered = tt }; actors = tt }

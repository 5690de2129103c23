-- The nodes are ready for what sessions and carriers ask of them.
use Rattle.std.proofs.Common.{◌≡◌, ℕ, ◌<◌, Bool, true, false, not, ◌||◌, List, length, refl, sym, ◌∙◌, ap, subst}
use Rattle.std.specs.Prelude.{Option, Some, None, slice_get, sum, ◌==◌}
use Rattle.std.proofs.lemmas.Bool.Decides.{Decides-eqb}
use Rattle.std.proofs.Math.Nat.{mod-lt}
use Rattle.cops_types.specs.declared.contexts.ReadParts.{ReadParts as Read}
use Rattle.cops_types.specs.declared.pairs.Pair.{Pair}
use Rattle.cops_types.specs.declared.records.EntryParts.{EntryParts as Entry}
use Rattle.cops_types.specs.Key.{shard_of}
use Rattle.cops_types.specs.TenantConfig.{TenantConfig}
use Rattle.cops_types.specs.Version.{Timestamp, version_le}
use Rattle.cops_model.specs.declared.calls.NodeCall.TheVariants as node_call
use Rattle.cops_model.specs.declared.calls.NodeReply.{NodeReply}
use Rattle.cops_model.specs.declared.calls.NodeReply.TheVariants.{Found}
use Rattle.cops_model.specs.Log.{Directed, Call}
use Rattle.cops_model.specs.Place.{node_number, place_of}
use Rattle.cops_model.specs.SoloNode.{SoloNode, queue, front}
use Rattle.cops_model.specs.Step.{was_committed, reply_pull}
use Rattle.cops_model.specs.Carrier.{Stream, ack_call, check, commit_call, is_foreign, pair_of_entry, pull}
use Rattle.cops_model.specs.Request.{Fetch, next}
use Rattle.cops_model.specs.Session.{Session, Running, request_of}
use Rattle.cops_model.specs.Transaction.{ReadRequest, gets, read_of, reads_of, wanted_version}
use Rattle.cops_model.specs.Causal.{Traced, past_of_put}
use Rattle.cops_model.specs.Cluster.{SoloCluster, find_session, call_node, has_node}
use Rattle.cops_node.proofs.Chains.{of_origin, mark-is, le-mark}
use Rattle.cops_types.proofs.Elements.{slice_get-Among, Among, Every-at, map-Among}
use Rattle.cops_repl.proofs.CarrierStages.{Stage}
use Rattle.cops_causal.proofs.Closure.{home_in, IsHere, IsFoundHere}
use Rattle.cops_causal.proofs.ClosureSteps.{mine}
use Rattle.cops_causal.proofs.ContextPasts.{IsRead}
use Rattle.cops_causal.proofs.Convergence.{Among-place, in_held}
use Rattle.cops_causal.proofs.Histories.{flat_map-Among}
use Rattle.cops_causal.proofs.Moves.{IsStream}
use Rattle.cops_causal.proofs.NodeAnswers.{IsReady, reply_expected, reply_asked}
use Rattle.cops_node.proofs.NodeTurns.{entries, Change, IsRefused, Answers, Joined, Taken}
use Rattle.cops_causal.proofs.NodeEffects.{node_of, call_changes}
use Rattle.cops_causal.proofs.Offers.{IsOffered, origin_of, of_origin-node, pulled-offered, never-out_of_order}
use Rattle.cops_types.proofs.PairSets.{at, greatest-within}
use Rattle.cops_causal.proofs.Provenance.{IsFound}
use Rattle.cops_types.proofs.Zipped.{Zipped}
use Rattle.cops_session.proofs.ReplyRounds.{Every-first_reads}
use Rattle.cops_causal.proofs.Settled.{at_origin}
use Rattle.cops_causal.proofs.Sound.{IsSound}
use Rattle.cops_causal.proofs.Streams.{Delivered}
use Rattle.cops_causal.proofs.TracedCalls.{home-there}
use Rattle.cops_causal.proofs.TracedIdle.{session_of}
use Rattle.cops_causal.proofs.Unbroken.{IsOwn, IsFineStep, step_fine}
use Rattle.cops_session.proofs.WantedVersions.{deps_read, IsAskedFor, IsFirst, IsSecond, asked_for, outdated-is, wanted-among, IsBare, reads_bare}
use Rattle.cops_causal.proofs.RequestSteps.{by_call, run}
use Rattle.cops_causal.proofs.StreamCalls.{by_stage}

-- a call at a node that is there and ready
pub record ReadyCall (config : TenantConfig) (c : SoloCluster) (directed : Directed) : Type 0 where
  pub there : has_node config directed.node.dc directed.node.shard ≡ true
  pub ready : IsReady directed.call (node_of config c (node_number config.shards directed.node))

-- what was read is in the data centre
abbrev IsValueHere : TenantConfig → SoloCluster → ℕ → Pair → Option (List ℕ) → Type 0
IsValueHere config c dc pair None = Unit {0}
IsValueHere config c dc pair (Some value) = IsHere config c dc pair

abbrev IsReadHere : TenantConfig → SoloCluster → ℕ → Read → Type 0
IsReadHere config c dc read = IsValueHere config c dc (at read.key read.version) read.value

read_here : (config : TenantConfig) (c : SoloCluster) (dc : ℕ) (q : ReadRequest) (reply : NodeReply) → IsFoundHere config c dc q reply → IsReadHere config c dc (read_of q.key reply)
read_here config c dc q (Found f) is = is
read_here config c dc q reply is = tt

pub read_put : (ts : List Traced) (q : ReadRequest) (reply : NodeReply) → IsFound ts q reply → IsRead ts (read_of q.key reply)
read_put ts q (Found f) is = is
read_put ts q reply is = tt

module _ (config : TenantConfig) (some : 0 < config.shards) (c : SoloCluster) (ts : List Traced) (inv : IsSound config c ts) where
  -- what is in a data centre was committed at the node of its key
  here_committed : (dc : ℕ) (key : List ℕ) (version : Timestamp) → IsHere config c dc (at key version) → was_committed version (node_of config c (home_in config dc key)) ≡ true
  here_committed dc key version here =
      let solo = node_of config c (home_in config dc key) in
      let found = map-Among pair_of_entry (at key version) (entries solo) here in
      let e = found.0 in
      let es = of_origin e.version.node (entries solo) in
      let place = Among-place es e (in_held solo e found.1) in
      subst (λ v. was_committed v solo ≡ true) (ap (λ (q : Pair). q.version) found.2) (ap (version_le e.version) (mark-is e.version.node solo) ∙ le-mark es place.0 e place.1)

  -- ---- transactions

  module _ (dc : ℕ) (keys : List (List ℕ)) (rs : List NodeReply) (put : Zipped (IsFound ts) (gets keys rs) rs) (here : Zipped (IsFoundHere config c dc) (gets keys rs) rs) where
    -- what a value read depends on is in the data centre
    dep_here : (key : List ℕ) (version : Timestamp) (deps : List Pair) (value : Option (List ℕ)) → IsRead ts (record { key = key; value = value; version = version; deps = deps }) → IsValueHere config c dc (at key version) value → IsBare value deps →
        (q : Pair) → Among q deps → IsHere config c dc q
    dep_here key version deps None is there bare q at_q = absurd (subst (Among q) bare at_q)
    dep_here key version deps (Some value) is there bare q at_q =
        let older = greatest-within (past_of_put ts (at key version)) q (subst (Among q) is.deps_are at_q) in
        let e = map-Among pair_of_entry (at key version) (entries (node_of config c (home_in config dc key))) there in
        inv.closed.nodes dc (shard_of key config.shards) (mod-lt (sum key) some) e.0 e.1 q (subst (λ p. Among q (past_of_put ts p)) (sym e.2) older)

    pub deps_here : (q : Pair) → Among q (deps_read (reads_of keys rs)) → IsHere config c dc q
    deps_here q at_q =
        let reads = reads_of keys rs in
        let by = flat_map-Among (λ (r : Read). r.deps) reads q at_q in
        let r = by.0 in
        dep_here r.key r.version r.deps r.value
        (Every-at (IsRead ts) r reads (Every-first_reads (IsFound ts) (IsRead ts) (read_put ts) keys rs put) by.1)
        (Every-at (IsReadHere config c dc) r reads (Every-first_reads (IsFoundHere config c dc) (IsReadHere config c dc) (read_here config c dc) keys rs here) by.1)
        (Every-at (λ (read : Read). IsBare read.value read.deps) r reads (reads_bare keys rs) by.1) q by.2

    -- so what is asked for exactly was committed at the node that is asked
    pub get_ready : (q : ReadRequest) → slice_get (gets keys rs) (length rs) ≡ Some q → IsReady (node_call.Get q.key q.wanted) (node_of config c (home_in config dc q.key))
    get_ready q place = by_case (asked_for keys rs q (slice_get-Among (gets keys rs) (length rs) q place))
      where
        Ready : ReadRequest → Type 0
        Ready a = IsReady (node_call.Get a.key a.wanted) (node_of config c (home_in config dc a.key))

        by_case : IsAskedFor keys rs q → Ready q
        by_case (IsFirst key among same) = subst Ready same tt
        by_case (IsSecond read past among same) =
            let reads = reads_of keys rs in
            subst Ready same (here_committed dc read.key (wanted_version reads read) (deps_here (at read.key (wanted_version reads read)) (wanted-among reads read (outdated-is reads read among).1)))

  -- ---- sessions

  module _ (name : List ℕ) (s : Session) (found : find_session name c ≡ Some s) where
    pub session_ready : (running : Running) (moment : ℕ) (directed : Directed) → s.running ≡ Some running → next config (request_of s running) running.log moment ≡ Call directed → ReadyCall config c directed
    session_ready =
        let this = session_of config c ts inv.traced name s found in
        by_call config ts name s this (λ running moment directed. ReadyCall config c directed)
        (λ number context key value moment runs is. record { there = home-there config s.dc key some this.placed; ready = tt })
        (λ number context keys log moment q runs is at e. record {
          there = home-there config s.dc q.key some this.placed;
          ready = get_ready s.dc keys _ is.replies_are ((mine config c ts inv.closed name s found).replies_here (run number context (Fetch keys) log) runs) q at;
        })

  -- ---- carriers

  module _ (stream : Stream) (is : IsStream config stream) where
    own : (e : Entry) → IsOffered config c stream e → is_foreign config.shards stream e ≡ false
    own e offered = foreign (shard_of e.key config.shards == stream.origin.shard) (e.version.node == node_number config.shards stream.origin)
        ((Decides-eqb (shard_of e.key config.shards) stream.origin.shard).1 (at_origin config some c ts ((inv.traced, inv.flowing), inv.equivalent) stream is e offered))
        ((Decides-eqb e.version.node (node_number config.shards stream.origin)).1 (of_origin-node (origin_of config stream) (entries (node_of config c (origin_of config stream))) offered.place e offered.at))
      where
        foreign : (a b : Bool) → a ≡ true → b ≡ true → (not a || not b) ≡ false
        foreign true true e f = refl
        foreign true false e f = cc
        foreign false b e f = cc

    -- the call is ready, and brings no unexpected end
    pub record ServedCall (moment : ℕ) (directed : Directed) : Type 0 where
      pub calls : ReadyCall config c directed
      pub brings : IsFineStep config.shards stream directed (call_node config directed.node moment directed.call c).reply

    called_at : (moment : ℕ) (directed : Directed) → ReadyCall config c directed → IsOwn config.shards stream directed.call (call_node config directed.node moment directed.call c).reply → ServedCall moment directed
    called_at moment directed calls own =
        let turn = call_node config directed.node moment directed.call c in
        let n = node_number config.shards directed.node in
        let called = call_changes config c directed.node moment directed.call calls.there inv.traced.sized in
        let place = place_of config directed.node in
        record {
          calls = calls;
          brings = step_fine config.shards stream directed.call turn.reply
              (reply_asked place (node_of config c n) turn.reply directed.call (node_of config turn.after n) called.change calls.ready)
              (reply_expected place (node_of config c n) turn.reply directed.call (node_of config turn.after n) called.change calls.ready) own;
        }

    pulled_own : (reply : NodeReply) (after : SoloNode) → Change (place_of config stream.origin) (node_call.Pull stream.to_dc) (node_of config c (origin_of config stream)) reply after → IsOwn config.shards stream (node_call.Pull stream.to_dc) reply
    pulled_own reply after (IsRefused same acked is') = subst (IsOwn config.shards stream (node_call.Pull stream.to_dc)) (sym is'.1) tt
    pulled_own reply after (Answers same acked is') = subst (IsOwn config.shards stream (node_call.Pull stream.to_dc)) (sym is') (by_front (front (queue (place_of config stream.origin) stream.to_dc (node_of config c (origin_of config stream)))) refl)
      where
        by_front : (o : Option Entry) → front (queue (place_of config stream.origin) stream.to_dc (node_of config c (origin_of config stream))) ≡ o → IsOwn config.shards stream (node_call.Pull stream.to_dc) (reply_pull o)
        by_front (Some e) at_front = own e (pulled-offered config c inv.flowing.streamed stream is e at_front)
        by_front None at_front = tt
    pulled_own reply after (Joined e more acked is') = absurd is'
    pulled_own reply after (Taken same is') = absurd is'

    pub carrier_served : (moment : ℕ) (directed : Directed) → Stage (Delivered config c stream) config.shards stream directed → ServedCall moment directed
    carrier_served moment = by_stage config some c stream is (ServedCall moment)
        (λ there.
        let turn = call_node config stream.origin moment (node_call.Pull stream.to_dc) c in
        let called = call_changes config c stream.origin moment (node_call.Pull stream.to_dc) there inv.traced.sized in
        called_at moment (pull stream) (record { there = there; ready = tt }) (pulled_own turn.reply (node_of config turn.after (origin_of config stream)) called.change))
        (record {
          checks = λ e near offered among there. called_at moment (check config.shards stream near) (record { there = there; ready = tt }) tt;
          commits = λ e offered checks there. called_at moment (commit_call stream e) (record { there = there; ready = never-out_of_order config c inv.flowing.streamed stream is e offered }) tt;
          acks = λ e r offered brought kind there. called_at moment (ack_call stream e) (record { there = there; ready = tt }) tt;
        })

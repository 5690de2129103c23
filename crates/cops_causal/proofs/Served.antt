-- No audit has an unexpected reply, and no request or carrier has had a reply that breaks it: each move keeps that.
use Rattle.std.proofs.Common.{◌≡◌, ℕ, ◌*◌, ◌<◌, true, List, [], ◌∷◌, ◌++◌, length, set, inl, inr, refl, sym, ◌∙◌, subst, arith, get_or-set_same, get_or-set_other, length-set}
use Rattle.std.specs.Prelude.{Some, None}
use Rattle.std.specs.List.{AllByRecursion}
use Rattle.std.proofs.lemmas.Bool.Decides.{eqb_tells, leb_tells}
use Rattle.std.proofs.lemmas.List.{get_or_past}
use Rattle.cops_types.specs.Context.{all_of, near_of}
use Rattle.cops_types.specs.TenantConfig.{TenantConfig}
use Rattle.cops_model.specs.declared.calls.AuditEntry.{AuditEntry}
use Rattle.cops_model.specs.declared.calls.NodeCall.{NodeCall}
use Rattle.cops_model.specs.declared.calls.NodeCall.TheVariants as node_call
use Rattle.cops_model.specs.declared.calls.NodeId.{NodeId}
use Rattle.cops_model.specs.declared.calls.NodeReply.{NodeReply}
use Rattle.cops_model.specs.Log.{LogStep, Late, Replied, Directed, Call, Restart}
use Rattle.cops_model.specs.Place.{node_number, place_of}
use Rattle.cops_model.specs.SoloNode.{SoloNode, new_node}
use Rattle.cops_model.specs.Step.{node_step}
use Rattle.cops_model.specs.declared.requests.Answer.{Answer}
use Rattle.cops_model.specs.declared.requests.Answer.TheVariants as answer_is
use Rattle.cops_model.specs.Request.{Fetch, Write, answer, key_home, next}
use Rattle.cops_model.specs.Session.{Session, Running, obs_of, request_of}
use Rattle.cops_model.specs.Carrier.{Carrier, carrier_after, stream_calls}
use Rattle.cops_model.specs.Carrier as carrier
use Rattle.cops_model.specs.Causal.{Traced}
use Rattle.cops_model.specs.Cluster.{SoloCluster, Actor, OfSession, OfCarrier, new_cluster, find_actor, find_session, call_node, has_node}
use Rattle.cops_model.specs.Laws.{is_expected_of_node}
use Rattle.cops_causal.proofs.ActorsKeep.{actor_found, session_actor, Stands, bare}
use Rattle.cops_repl.proofs.CarrierCalls.{carrier_replies, carrier-next}
use Rattle.cops_repl.proofs.CarrierStages.{carrier-stepped}
use Rattle.cops_types.proofs.Elements.{Every-append}
use Rattle.cops_causal.proofs.Moves.{Leads, Both}
use Rattle.cops_causal.proofs.NodeAnswers.{TrailAfter, turn_trail, reply_expected, reply_asked, fault_fine, node_fault_usual}
use Rattle.cops_node.proofs.NodeTurns.{Change, IsRefused, Answers, Joined, Taken}
use Rattle.cops_causal.proofs.NodeEffects.{node_of, Called, call_changes}
use Rattle.cops_causal.proofs.Past.{new_nodes}
use Rattle.cops_causal.proofs.Provenance.{IsSession}
use Rattle.cops_causal.proofs.Readiness.{ReadyCall, session_ready, ServedCall, carrier_served}
use Rattle.cops_session.proofs.RequestReplies.{put-next, put-stored, put-refused, get-stepped, get-late, get-begun, call_of}
use Rattle.cops_types.proofs.PairSets.{at}
use Rattle.cops_types.proofs.Zipped.{Zipped}
use Rattle.cops_causal.proofs.Sound.{IsSound}
use Rattle.cops_causal.proofs.StreamMoves.{stage_now, stream_is}
use Rattle.cops_causal.proofs.TracedIdle.{session_of}
use Rattle.cops_causal.proofs.Unbroken.{IsFineReply, RepliesAreFine, IsFineAnswer, answer_fine, IsFineStep}
use Rattle.cops_causal.proofs.RequestSteps.{StepLeaves, by_call, by_late, none_runs, only_runs, put_sent, run}
use Rattle.cops_causal.proofs.ActorMoves.{CallLeaves, Leaves, Moves, SessionMoves, moves_lead, plain_leaves}

abbrev pub IsExpectedEntry : AuditEntry → Type 0
IsExpectedEntry e = is_expected_of_node e.reply ≡ true

abbrev pub IsActorFine : TenantConfig → List SoloNode → List Traced → List ℕ → Actor → Type 0
IsActorFine config nodes ts name (OfSession s) = (running : Running) → s.running ≡ Some running → RepliesAreFine running.action running.log
IsActorFine config nodes ts name (OfCarrier k) = Zipped (IsFineStep config.shards k.stream) (stream_calls config.shards k.stream (carrier_replies k.log)) (carrier_replies k.log)

-- no audit has an unexpected reply
abbrev pub AreTrailsFine : TenantConfig → List SoloNode → List Traced → Type 0
AreTrailsFine config nodes ts = (n : ℕ) → AllByRecursion IsExpectedEntry (node_of config (bare nodes) n).trail

abbrev pub IsServed : TenantConfig → SoloCluster → List Traced → Type 0
IsServed config = Stands (AreTrailsFine config) (IsActorFine config)

-- ---- the audits

module _ (config : TenantConfig) (c : SoloCluster) (id : NodeId) (moment : ℕ) (call : NodeCall) where
  abbrev turn_after : SoloCluster
  turn_after = (call_node config id moment call c).after

  -- a reply as expected joins the audit of one node
  pub trails_called : is_expected_of_node (call_node config id moment call c).reply ≡ true → ((n : ℕ) → AllByRecursion IsExpectedEntry (node_of config c n).trail) →
      (n : ℕ) → AllByRecursion IsExpectedEntry (node_of config turn_after n).trail
  trails_called expected each n =
      elim (eqb_tells n number) [
        | inr other ↦ subst IsExpectedSolo (sym (get_or-set_other c.nodes number n next default other.1)) (each n)
        | inl here ↦ subst (λ m. IsExpectedSolo (node_of config turn_after m)) (sym here.1)
            (elim (leb_tells (length c.nodes) number) [
              | inr within ↦ subst IsExpectedSolo (sym (get_or-set_same c.nodes number next default within.1)) (joined (turn_trail (place_of config id) moment call (node_of config c number)))
              | inl past ↦
                  let after_past = get_or_past (set c.nodes number next) number default (let counted = length-set c.nodes number next in omega (arith, past.1)) in
                  subst IsExpectedSolo (get_or_past c.nodes number default past.1 ∙ sym after_past) (each number)
            ])
      ]
    where
      number : ℕ
      number = node_number config.shards id

      default : SoloNode
      default = new_node config.data_centres

      next : SoloNode
      next = (node_step (place_of config id) moment call (node_of config c number)).after

      IsExpectedSolo : SoloNode → Type 0
      IsExpectedSolo solo = AllByRecursion IsExpectedEntry solo.trail

      joined : TrailAfter (place_of config id) moment call (node_of config c number) (node_step (place_of config id) moment call (node_of config c number)) → AllByRecursion IsExpectedEntry next.trail
      joined (inl same) = subst (AllByRecursion IsExpectedEntry) (sym same) (each number)
      joined (inr more) =
          let entry : AuditEntry = record { moment = moment; call = call; reply = (call_node config id moment call c).reply } in
          subst (AllByRecursion IsExpectedEntry) (sym more) (Every-append IsExpectedEntry (node_of config c number).trail (entry ∷ []) (each number) (expected, tt))

-- a call for which the node is ready
module _ (config : TenantConfig) (c : SoloCluster) (ts : List Traced) (inv : IsSound config c ts) (served : IsServed config c ts) (moment : ℕ) (directed : Directed) (calls : ReadyCall config c directed) where
  abbrev reply_to : NodeReply
  reply_to = (call_node config directed.node moment directed.call c).reply

  abbrev after_it : SoloCluster
  after_it = (call_node config directed.node moment directed.call c).after

  pub called : Called config c directed.node directed.call reply_to after_it
  called = call_changes config c directed.node moment directed.call calls.there inv.traced.sized

  -- so it adds a reply as expected to an audit
  call_served : CallLeaves config (AreTrailsFine config) (IsActorFine config) c ts moment directed
  call_served =
      record {
        nodes_are = trails_called config c directed.node moment directed.call
            (reply_expected (place_of config directed.node) (node_of config c (node_number config.shards directed.node)) reply_to directed.call (node_of config after_it (node_number config.shards directed.node)) called.change calls.ready) served.nodes;
        stays = λ name a is. is;
      }

-- what a step of a session brings
pub record FineTurn (config : TenantConfig) (s : Session) (running : Running) (step : LogStep) : Type 0 where
  pub replies : RepliesAreFine running.action (running.log ++ step ∷ [])
  pub answers : (a : Answer) → answer config (request_of s running) (running.log ++ step ∷ []) ≡ Some a → IsFineAnswer a

module _ (config : TenantConfig) (some : 0 < config.shards) (c : SoloCluster) (ts : List Traced) (inv : IsSound config c ts) (served : IsServed config c ts) where
  module _ (name : List ℕ) (s : Session) (found : find_session name c ≡ Some s) where
    fine_before : (running : Running) → s.running ≡ Some running → RepliesAreFine running.action running.log
    fine_before running runs = actor_found (IsActorFine config c.nodes ts) c name (OfSession s) served.actors (session_actor c name s found) running runs

    abbrev CalledTurn : Running → ℕ → Directed → Type 0
    CalledTurn running moment directed = FineTurn config s running (record { moment = moment; outcome = Replied (call_node config directed.node moment directed.call c).reply })

    put_answers : (context : ℕ) (key value : List ℕ) (moment : ℕ) (solo after : SoloNode) (reply : NodeReply) → Change (place_of config (key_home config s.dc key)) (node_call.Put key value (all_of (obs_of context s)) (near_of (obs_of context s))) solo reply after →
        (a : Answer) → answer config (record { dc = s.dc; obs = obs_of context s; action = Write key value }) (record { moment = moment; outcome = Replied reply } ∷ []) ≡ Some a → IsFineAnswer a
    put_answers context key value moment solo after reply (IsRefused same acked is) a e =
        let refused = put-refused config s.dc (obs_of context s) key value moment is.0 in
        let with_it = subst (λ r. answer config (record { dc = s.dc; obs = obs_of context s; action = Write key value }) (record { moment = moment; outcome = Replied r } ∷ []) ≡ Some a) is.1 e in
        let ends : answer_is.Refused is.0 ≡ a = (let both : Some (answer_is.Refused is.0) ≡ Some a = sym refused ∙ with_it in cc) in
        subst IsFineAnswer ends (node_fault_usual is.0 is.2)
    put_answers context key value moment solo after reply (Joined f more acked is) a e =
        let stored = put-stored config s.dc (obs_of context s) key value moment is.0 in
        let with_it = subst (λ r. answer config (record { dc = s.dc; obs = obs_of context s; action = Write key value }) (record { moment = moment; outcome = Replied r } ∷ []) ≡ Some a) is.1 e in
        let ends : answer_is.Stored (at key is.0) ≡ a = (let both : Some (answer_is.Stored (at key is.0)) ≡ Some a = sym stored ∙ with_it in cc) in
        subst IsFineAnswer ends refl
    put_answers context key value moment solo after reply (Answers same acked is) a e = absurd is
    put_answers context key value moment solo after reply (Taken same is) a e = absurd is

    abbrev this : IsSession config ts name s
    this = session_of config c ts inv.traced name s found

    -- a step that calls
    pub session_turn : (running : Running) (moment : ℕ) (directed : Directed) → s.running ≡ Some running → next config (request_of s running) running.log moment ≡ Call directed → CalledTurn running moment directed
    session_turn = by_call config ts name s this CalledTurn
        (λ number context key value moment runs is.
        let sent = put_sent config s context key value in
        let ready = session_ready config some c ts inv name s found (run number context (Write key value) []) moment sent runs (put-next config s.dc (obs_of context s) key value moment) in
        let turn = call_node config sent.node moment sent.call c in
        let n = node_number config.shards sent.node in
        record { replies = tt; answers = put_answers context key value moment (node_of config c n) (node_of config turn.after n) turn.reply (called config c ts inv served moment sent ready).change })
        (λ number context keys log moment q runs is at e.
        let sent = call_of config s.dc q in
        let ready = session_ready config some c ts inv name s found (run number context (Fetch keys) log) moment sent runs e in
        let turn = call_node config sent.node moment sent.call c in
        let n = node_number config.shards sent.node in
        let new : IsFineReply q turn.reply = fault_fine sent.call turn.reply (reply_asked (place_of config sent.node) (node_of config c n) turn.reply sent.call (node_of config turn.after n) (called config c ts inv served moment sent ready).change ready.ready) in
        let step : LogStep = record { moment = moment; outcome = Replied turn.reply } in
        let are : RepliesAreFine (Fetch keys) (log ++ step ∷ []) = get-stepped IsFineReply keys log moment turn.reply q (fine_before (run number context (Fetch keys) log) runs) at new in
        record { replies = are; answers = λ a ends. answer_fine config s.dc (obs_of context s) keys (log ++ step ∷ []) a are ends })

    -- a step that comes late
    pub session_late_turn : (running : Running) (moment : ℕ) → s.running ≡ Some running → next config (request_of s running) running.log moment ≡ Restart → FineTurn config s running (record { moment = moment; outcome = Late })
    session_late_turn = by_late config ts name s this (λ running moment. FineTurn config s running (record { moment = moment; outcome = Late })) (λ number context keys log moment runs is.
        let are : RepliesAreFine (Fetch keys) (log ++ record { moment = moment; outcome = Late } ∷ []) = get-late IsFineReply keys log moment in
        record { replies = are; answers = λ a ends. answer_fine config s.dc (obs_of context s) keys (log ++ record { moment = moment; outcome = Late } ∷ []) a are ends })

    -- a request that had no reply which breaks it
    abbrev IsFineRun : Running → Type 0
    IsFineRun r = RepliesAreFine r.action r.log

    -- a step with fine replies leaves such a request, or none
    leaving : (nodes : List SoloNode) (running : Running) (step : LogStep) → FineTurn config s running step → StepLeaves config ts name s (Leaves config (AreTrailsFine config) (IsActorFine config) nodes ts name) running step
    leaving nodes running step fine =
        plain_leaves config (λ nodes. AreTrailsFine config nodes []) (λ nodes. IsActorFine config nodes []) nodes ts name s running step
        (λ open_still. only_runs IsFineRun (record running { log = running.log ++ step ∷ [] }) fine.replies) (λ a ends. none_runs IsFineRun None refl)

    -- the moves of a session
    session_served : SessionMoves config (AreTrailsFine config) (IsActorFine config) c ts name s
    session_served =
        record {
          created = λ idle. none_runs IsFineRun s.running idle;
          deleted = λ number idle. none_runs IsFineRun s.running idle;
          put_begun = λ number key value ok. only_runs IsFineRun (run s.next_request number (Write key value) []) tt;
          get_begun = λ number keys ok. only_runs IsFineRun (run s.next_request number (Fetch keys) []) (get-begun IsFineReply keys);
          called = λ running moment directed runs e. call_served config c ts inv served moment directed (session_ready config some c ts inv name s found running moment directed runs e);
          stepped = λ running moment directed runs e. leaving _ running _ (session_turn running moment directed runs e);
          late = λ running moment runs e. leaving _ running _ (session_late_turn running moment runs e);
          dropped = λ moment. none_runs IsFineRun None refl;
        }

  -- ---- carriers

  module _ (name : List ℕ) (k : Carrier) (found : find_actor name c ≡ Some (OfCarrier k)) where
    pub fine_carrier : IsActorFine config c.nodes ts name (OfCarrier k)
    fine_carrier = actor_found (IsActorFine config c.nodes ts) c name (OfCarrier k) served.actors found

    pub carrier_turn : (moment : ℕ) (directed : Directed) → carrier.carrier_next config.shards k.stream k.log ≡ Call directed →
        ServedCall config some c ts inv k.stream (stream_is config some c ts inv.flowing inv.traced name k found) moment directed
    carrier_turn moment directed e =
        carrier_served config some c ts inv k.stream (stream_is config some c ts inv.flowing inv.traced name k found) moment directed
        (stage_now config some c ts inv.flowing inv.traced name k found directed e)

    pub carrier_fine : (moment : ℕ) (directed : Directed) → carrier.carrier_next config.shards k.stream k.log ≡ Call directed →
        IsActorFine config c.nodes ts name (OfCarrier (carrier_after k (record { moment = moment; outcome = Replied (call_node config directed.node moment directed.call c).reply })))
    carrier_fine moment directed e =
        carrier-stepped (IsFineStep config.shards k.stream) config.shards k.stream k.log moment directed (call_node config directed.node moment directed.call c).reply fine_carrier (carrier-next config.shards k.stream k.log directed e)
        (carrier_turn moment directed e).brings

  pub collect_ready : (id : NodeId) → has_node config id.dc id.shard ≡ true → ReadyCall config c (record { node = id; call = node_call.Collect })
  collect_ready id there = record { there = there; ready = tt }

  -- all moves
  served_moves : Moves config (AreTrailsFine config) (IsActorFine config) c ts
  served_moves =
      record {
        opened = λ name dc free exists. none_runs _ None refl;
        carrier_begun = λ name stream is. tt;
        of_session = session_served;
        of_carrier = λ name k found. record {
          called = λ moment directed e. call_served config c ts inv served moment directed (carrier_turn name k found moment directed e).calls;
          stepped = λ moment directed e open_still. carrier_fine name k found moment directed e;
        };
        collected = λ id moment there. call_served config c ts inv served moment (record { node = id; call = node_call.Collect }) (collect_ready id there);
      }

pub served_kept : (config : TenantConfig) → 0 < config.shards → Leads config (Both (IsSound config) (IsServed config)) (IsServed config)
served_kept config some = moves_lead config (AreTrailsFine config) (IsActorFine config) (IsSound config) (λ c ts inv. inv.traced) (served_moves config some)

pub served_at_first : (config : TenantConfig) → IsServed config (new_cluster config) []
served_at_first config =
    record {
      nodes = λ n. subst (λ (solo : SoloNode). AllByRecursion IsExpectedEntry solo.trail) (sym (new_nodes (config.data_centres * config.shards) n (new_node config.data_centres))) tt;
      actors = tt;
    }

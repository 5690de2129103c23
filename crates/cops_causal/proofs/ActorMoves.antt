-- The moves of a cluster, from what they leave of its nodes, of the history, and of the one actor that moves: stated once for every layer.
use Rattle.std.proofs.Common.{◌≡◌, ℕ, true, false, List, [], ◌∷◌, ◌++◌}
use Rattle.std.specs.Prelude.{Some, None, nat_lt}
use Rattle.cops_types.specs.Key.{key_eq}
use Rattle.cops_types.specs.TenantConfig.{TenantConfig}
use Rattle.cops_types.proofs.Elements.{Every-weaker}
use Rattle.cops_model.specs.declared.calls.NodeCall.TheVariants as node_call
use Rattle.cops_model.specs.declared.calls.NodeId.{NodeId}
use Rattle.cops_model.specs.Log.{LogStep, Late, Replied, Directed, Next, Call, Restart, Ended}
use Rattle.cops_model.specs.SoloNode.{SoloNode}
use Rattle.cops_model.specs.declared.requests.Answer.{Answer}
use Rattle.cops_model.specs.declared.requests.Progress.TheVariants as session_progress
use Rattle.cops_model.specs.Request.{Write, Fetch, next, answer}
use Rattle.cops_model.specs.Session.{Running, Session, context_created, context_deleted, get_refusal, new_session, request_begun, request_of, session_put_refusal, session_after}
use Rattle.cops_model.specs.declared.deliveries.Delivery.{Delivery}
use Rattle.cops_model.specs.Carrier.{Carrier, Stream, carrier_after, new_carrier}
use Rattle.cops_model.specs.Carrier as carrier
use Rattle.cops_model.specs.Causal.{Traced}
use Rattle.cops_model.specs.Cluster.{Actor, NamedActor, OfCarrier, OfSession, SoloCluster, call_node, carrier_stepped, find_actor, find_session, has_node, session_stepped, with_actor}
use Rattle.cops_model.specs.Lacks.{request_dropped}
use Rattle.cops_causal.proofs.ActorsKeep.{each-with_actor, Stands, carried_to, changed, joined, left}
use Rattle.cops_causal.proofs.Moves.{Both, IsStream, Leads, history_after}
use Rattle.cops_causal.proofs.Provenance.{IsTraced}
use Rattle.cops_causal.proofs.RequestSteps.{StepLeaves, never_ended, step_leads}
use Rattle.cops_causal.proofs.TracedIdle.{session_of}

module _ (config : TenantConfig) (N : List SoloNode → List Traced → Type 0) (A : List SoloNode → List Traced → List ℕ → Actor → Type 0) where
  -- ---- what a layer shows of its nodes and its actors

  -- what a call leaves: the nodes, and what was said of each actor
  pub record CallLeaves (c : SoloCluster) (ts : List Traced) (moment : ℕ) (directed : Directed) : Type 0 where
    pub nodes_are : N (call_node config directed.node moment directed.call c).after.nodes ts
    pub stays : (name : List ℕ) (a : Actor) → A c.nodes ts name a → A (call_node config directed.node moment directed.call c).after.nodes ts name a

  -- what a step leaves at these nodes, if the history was this one: the nodes, the session of the name, and the other actors
  pub record Leaves (nodes : List SoloNode) (ts : List Traced) (name : List ℕ) (next : Session) (us : List Traced) : Type 0 where
    pub nodes_are : N nodes ts → N nodes us
    pub others_are : (other : List ℕ) (a : Actor) → key_eq other name ≡ false → A nodes ts other a → A nodes us other a
    pub session_is : A nodes us name (OfSession next)

  -- the moves of a session
  pub record SessionMoves (c : SoloCluster) (ts : List Traced) (name : List ℕ) (s : Session) : Type 0 where
    pub created : s.running ≡ None → A c.nodes ts name (OfSession (context_created s))
    pub deleted : (number : ℕ) → s.running ≡ None → A c.nodes ts name (OfSession (context_deleted number s))
    pub put_begun : (number : ℕ) (key value : List ℕ) → session_put_refusal config number key s ≡ None → A c.nodes ts name (OfSession (request_begun number (Write key value) s))
    pub get_begun : (number : ℕ) (keys : List (List ℕ)) → get_refusal config number keys s ≡ None → A c.nodes ts name (OfSession (request_begun number (Fetch keys) s))
    pub called : (running : Running) (moment : ℕ) (directed : Directed) → s.running ≡ Some running → next config (request_of s running) running.log moment ≡ Call directed → CallLeaves c ts moment directed
    pub stepped : (running : Running) (moment : ℕ) (directed : Directed) → s.running ≡ Some running → next config (request_of s running) running.log moment ≡ Call directed →
        let call = call_node config directed.node moment directed.call c in StepLeaves config ts name s (Leaves call.after.nodes ts name) running (record { moment = moment; outcome = Replied call.reply })
    pub late : (running : Running) (moment : ℕ) → s.running ≡ Some running → next config (request_of s running) running.log moment ≡ Restart →
        StepLeaves config ts name s (Leaves c.nodes ts name) running (record { moment = moment; outcome = Late })
    pub dropped : (moment : ℕ) → A c.nodes ts name (OfSession (request_dropped moment s))

  -- the moves of a carrier, which is gone once it has ended
  pub record CarrierMoves (c : SoloCluster) (ts : List Traced) (name : List ℕ) (k : Carrier) : Type 0 where
    pub called : (moment : ℕ) (directed : Directed) → carrier.carrier_next config.shards k.stream k.log ≡ Call directed → CallLeaves c ts moment directed
    pub stepped : (moment : ℕ) (directed : Directed) → carrier.carrier_next config.shards k.stream k.log ≡ Call directed →
        let call = call_node config directed.node moment directed.call c in
        let after = carrier_after k (record { moment = moment; outcome = Replied call.reply }) in
        ((ending : Delivery) → carrier.carrier_next config.shards after.stream after.log ≡ Ended ending → ⊥) → A call.after.nodes ts name (OfCarrier after)

  -- the moves of a cluster
  pub record Moves (c : SoloCluster) (ts : List Traced) : Type 0 where
    pub opened : (name : List ℕ) (dc : ℕ) → find_actor name c ≡ None → nat_lt dc config.data_centres ≡ true → A c.nodes ts name (OfSession (new_session dc 1))
    pub carrier_begun : (name : List ℕ) (stream : Stream) → IsStream config stream → A c.nodes ts name (OfCarrier (new_carrier stream))
    pub of_session : (name : List ℕ) (s : Session) → find_session name c ≡ Some s → SessionMoves c ts name s
    pub of_carrier : (name : List ℕ) (k : Carrier) → find_actor name c ≡ Some (OfCarrier k) → CarrierMoves c ts name k
    pub collected : (id : NodeId) (moment : ℕ) → has_node config id.dc id.shard ≡ true → CallLeaves c ts moment (record { node = id; call = node_call.Collect })

  -- a session changes, and the history does not
  pub as_before : (nodes : List SoloNode) (ts : List Traced) (name : List ℕ) (next : Session) → A nodes ts name (OfSession next) → Leaves nodes ts name next ts
  as_before nodes ts name next is = record { nodes_are = λ n. n; others_are = λ other a apart p. p; session_is = is }

  -- ---- what follows for the cluster

  module _ (c : SoloCluster) (ts : List Traced) (stands : Stands N A c ts) where
    -- a session after a step, with the history then
    stepped_to : (name : List ℕ) (next : Session) (us : List Traced) → Leaves c.nodes ts name next us → Stands N A (with_actor name (OfSession next) c) us
    stepped_to name next us leaves =
        record { nodes = leaves.nodes_are stands.nodes; actors = each-with_actor (A c.nodes ts) (A c.nodes us) c name (OfSession next) leaves.session_is leaves.others_are stands.actors }

    -- a call of any node
    called_stands : (moment : ℕ) (directed : Directed) → CallLeaves c ts moment directed → Stands N A (call_node config directed.node moment directed.call c).after ts
    called_stands moment directed leaves =
        let nodes = (call_node config directed.node moment directed.call c).after.nodes in
        record {
          nodes = leaves.nodes_are;
          actors = Every-weaker (λ (a : NamedActor). A c.nodes ts a.name a.actor) (λ (a : NamedActor). A nodes ts a.name a.actor) c.actors (λ a at is. leaves.stays a.name a.actor is) stands.actors;
        }

    -- a step of a session after its call, or without one
    session_steps : (name : List ℕ) (s : Session) → find_session name c ≡ Some s → (running : Running) (step : LogStep) → s.running ≡ Some running → StepLeaves config ts name s (Leaves c.nodes ts name) running step →
        let turn = session_stepped config name s running step c in Stands N A turn.after (history_after ts c name turn.reply)
    session_steps name s found running step runs leaves =
        step_leads config (Stands N A) c ts name s found running step runs (record { goes_on = λ e. stepped_to name _ _ (leaves.goes_on e); ends = λ a e. stepped_to name _ _ (leaves.ends a e) })

  -- a layer whose nodes and actors move so is led to by each move
  pub moves_lead : (B : SoloCluster → List Traced → Type 0) → ((c : SoloCluster) (ts : List Traced) → B c ts → IsTraced config c ts) → ((c : SoloCluster) (ts : List Traced) → B c ts → Stands N A c ts → Moves c ts) →
      Leads config (Both B (Stands N A)) (Stands N A)
  moves_lead B traced moves =
      record {
        opened = λ c ts name dc free exists inv. joined N A c ts inv.1 name (OfSession (new_session dc 1)) ((moves c ts inv.0 inv.1).opened name dc free exists);
        carrier_begun = λ c ts name stream free is inv. joined N A c ts inv.1 name (OfCarrier (new_carrier stream)) ((moves c ts inv.0 inv.1).carrier_begun name stream is);
        context_created = λ c ts name s found idle inv. changed N A c ts inv.1 name (OfSession (context_created s)) (((moves c ts inv.0 inv.1).of_session name s found).created idle);
        context_deleted = λ c ts name s number found idle inv. changed N A c ts inv.1 name (OfSession (context_deleted number s)) (((moves c ts inv.0 inv.1).of_session name s found).deleted number idle);
        put_begun = λ c ts name s number key value found ok is inv. changed N A c ts inv.1 name (OfSession (request_begun number (Write key value) s)) (((moves c ts inv.0 inv.1).of_session name s found).put_begun number key value ok);
        get_begun = λ c ts name s number keys found ok are inv. changed N A c ts inv.1 name (OfSession (request_begun number (Fetch keys) s)) (((moves c ts inv.0 inv.1).of_session name s found).get_begun number keys ok);
        called = λ c ts name s running moment directed found runs e inv.
            let of = (moves c ts inv.0 inv.1).of_session name s found in
            session_steps (call_node config directed.node moment directed.call c).after ts (called_stands c ts inv.1 moment directed (of.called running moment directed runs e)) name s found running _ runs
            (of.stepped running moment directed runs e);
        late = λ c ts name s running moment found runs e inv. session_steps c ts inv.1 name s found running _ runs (((moves c ts inv.0 inv.1).of_session name s found).late running moment runs e);
        ended = λ c ts name s running moment a found runs e inv. absurd (never_ended config ts name s (session_of config c ts (traced c ts inv.0) name s found) running moment a runs e);
        carrier_called = λ c ts name k moment directed found e inv.
            let of = (moves c ts inv.0 inv.1).of_carrier name k found in
            carried_to N A (call_node config directed.node moment directed.call c).after ts (called_stands c ts inv.1 moment directed (of.called moment directed e)) name _ _ (of.stepped moment directed e);
        collected = λ c ts id moment there inv. called_stands c ts inv.1 moment (record { node = id; call = node_call.Collect }) ((moves c ts inv.0 inv.1).collected id moment there);
        dropped = λ c ts name s running moment found runs inv. changed N A c ts inv.1 name (OfSession (request_dropped moment s)) (((moves c ts inv.0 inv.1).of_session name s found).dropped moment);
        read_dropped = λ c ts name s running moment directed keys found runs fetches e inv.
            let of = (moves c ts inv.0 inv.1).of_session name s found in
            let leaves = of.called running moment directed runs e in
            changed N A (call_node config directed.node moment directed.call c).after ts (called_stands c ts inv.1 moment directed leaves) name (OfSession (request_dropped moment s))
            (leaves.stays name (OfSession (request_dropped moment s)) (of.dropped moment));
        carrier_dropped = λ c ts name k found inv. left N A c ts inv.1 name;
      }

-- a step, of a layer that does not look at the history
pub plain_leaves : (config : TenantConfig) (N : List SoloNode → Type 0) (A : List SoloNode → List ℕ → Actor → Type 0) (nodes : List SoloNode) (ts : List Traced) (name : List ℕ) (s : Session) (running : Running) (step : LogStep) →
    (answer config (request_of s running) (running.log ++ step ∷ []) ≡ None → A nodes name (OfSession (session_after s running step session_progress.Working))) →
    ((a : Answer) → answer config (request_of s running) (running.log ++ step ∷ []) ≡ Some a → A nodes name (OfSession (session_after s running step (session_progress.Done a)))) →
    StepLeaves config ts name s (Leaves config (λ nodes ts. N nodes) (λ nodes ts. A nodes) nodes ts name) running step
plain_leaves config N A nodes ts name s running step goes_on ends =
    record {
      goes_on = λ e. record { nodes_are = λ n. n; others_are = λ other a apart p. p; session_is = goes_on e };
      ends = λ a e. record { nodes_are = λ n. n; others_are = λ other a apart p. p; session_is = ends a e };
    }

-- ---- a layer of the nodes alone

-- what calls leave of the nodes
pub record NodeMoves (config : TenantConfig) (N : List SoloNode → Type 0) (c : SoloCluster) : Type 0 where
  pub by_session : (name : List ℕ) (s : Session) → find_session name c ≡ Some s → (running : Running) (moment : ℕ) (directed : Directed) → s.running ≡ Some running → next config (request_of s running) running.log moment ≡ Call directed →
      N (call_node config directed.node moment directed.call c).after.nodes
  pub by_carrier : (name : List ℕ) (k : Carrier) → find_actor name c ≡ Some (OfCarrier k) → (moment : ℕ) (directed : Directed) → carrier.carrier_next config.shards k.stream k.log ≡ Call directed →
      N (call_node config directed.node moment directed.call c).after.nodes
  pub collected : (id : NodeId) (moment : ℕ) → has_node config id.dc id.shard ≡ true → N (call_node config id moment node_call.Collect c).after.nodes

-- each other move leaves the nodes as they were
pub nodes_lead : (config : TenantConfig) (N : List SoloNode → Type 0) (B : SoloCluster → List Traced → Type 0) → ((c : SoloCluster) (ts : List Traced) → B c ts → N c.nodes) → ((c : SoloCluster) (ts : List Traced) → B c ts → NodeMoves config N c) →
    Leads config B (λ c ts. N c.nodes)
nodes_lead config N B old moves =
    record {
      opened = λ c ts name dc free exists inv. old c ts inv;
      carrier_begun = λ c ts name stream free is inv. old c ts inv;
      context_created = λ c ts name s found idle inv. old c ts inv;
      context_deleted = λ c ts name s number found idle inv. old c ts inv;
      put_begun = λ c ts name s number key value found ok is inv. old c ts inv;
      get_begun = λ c ts name s number keys found ok are inv. old c ts inv;
      called = λ c ts name s running moment directed found runs e inv. (moves c ts inv).by_session name s found running moment directed runs e;
      late = λ c ts name s running moment found runs e inv. old c ts inv;
      ended = λ c ts name s running moment a found runs e inv. old c ts inv;
      carrier_called = λ c ts name k moment directed found e inv.
          let call = call_node config directed.node moment directed.call c in
          let after = carrier_after k (record { moment = moment; outcome = Replied call.reply }) in
          carried name after (carrier.carrier_next config.shards after.stream after.log) call.after ((moves c ts inv).by_carrier name k found moment directed e);
      collected = λ c ts id moment there inv. (moves c ts inv).collected id moment there;
      dropped = λ c ts name s running moment found runs inv. old c ts inv;
      read_dropped = λ c ts name s running moment directed keys found runs fetches e inv. (moves c ts inv).by_session name s found running moment directed runs e;
      carrier_dropped = λ c ts name k found inv. old c ts inv;
    }
  where
    carried : (name : List ℕ) (after : Carrier) (n : Next Delivery) (c : SoloCluster) → N c.nodes → N (carrier_stepped name after (carrier.progress_of n) c).after.nodes
    carried name after (Ended ending) c is = is
    carried name after (Call directed) c is = is
    carried name after Restart c is = is

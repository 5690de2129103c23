-- The moves of sessions and carriers keep the streams.
use Rattle.std.proofs.Common.{◌≡◌, ℕ, ◌+◌, ◌*◌, ◌<◌, ◌≤◌, ◌%◌, Bool, true, false, List, [], ◌∷◌, ◌++◌, length, ◌⊎◌, inl, inr, refl, sym, ◌∙◌, ap, subst, arith, length-append, replicate, append-nil}
use Rattle.std.specs.Prelude.{Option, Some, None, slice_index}
use Rattle.std.proofs.lemmas.List.{get_or-replicate, length-replicate, get_or_past}
use Rattle.cops_types.specs.declared.pairs.Pair.{Pair}
use Rattle.cops_types.specs.declared.records.EntryParts.{EntryParts as Entry}
use Rattle.cops_types.specs.Context.{all_of, near_of}
use Rattle.cops_types.specs.TenantConfig.{TenantConfig}
use Rattle.cops_types.specs.Version.{no_version}
use Rattle.cops_model.specs.declared.calls.NodeCall.{NodeCall}
use Rattle.cops_model.specs.declared.calls.NodeCall.TheVariants as node_call
use Rattle.cops_model.specs.declared.calls.NodeId.{NodeId}
use Rattle.cops_model.specs.declared.calls.NodeReply.{NodeReply}
use Rattle.cops_model.specs.declared.calls.NodeReply.TheVariants.{Checked, Committed, Already}
use Rattle.cops_model.specs.Log.{LogStep, Replied, Directed, Call}
use Rattle.cops_model.specs.Place.{node_number, place_of}
use Rattle.cops_model.specs.SoloNode.{SoloNode, queue, front, new_node}
use Rattle.cops_model.specs.Step.{was_committed, reply_pull}
use Rattle.cops_model.specs.declared.deliveries.Progress.{Progress}
use Rattle.cops_model.specs.declared.deliveries.Progress.TheVariants as carrier_progress
use Rattle.cops_model.specs.Carrier.{Carrier, ack_call, carrier_after, check, commit_call, new_carrier, pull}
use Rattle.cops_model.specs.Carrier as carrier
use Rattle.cops_model.specs.Request.{next}
use Rattle.cops_model.specs.Session.{Session, Running, obs_of, request_of}
use Rattle.cops_model.specs.Causal.{Traced}
use Rattle.cops_model.specs.Cluster.{SoloCluster, Actor, OfSession, OfCarrier, find_actor, with_actor, with_new_actor, without_actor, call_node, carrier_stepped, find_session, new_cluster}
use Rattle.cops_model.specs.Lacks.{request_dropped}
use Rattle.cops_causal.proofs.ActorsKeep.{actor_found, each-with_actor, each-with_new, each-without}
use Rattle.cops_repl.proofs.CarrierCalls.{carrier-next}
use Rattle.cops_repl.proofs.CarrierStages.{Stage, stage, carrier-stepped}
use Rattle.cops_node.proofs.Chains.{of_origin, IsChain, front-same, IsFront}
use Rattle.cops_causal.proofs.Moves.{IsStream, Leads, Both}
use Rattle.cops_node.proofs.NodeTurns.{entries, Change, IsRefused, Answers, Joined, Taken, Stores, Takes}
use Rattle.cops_causal.proofs.NodeEffects.{node_of, Called, call_changes, entries_grow}
use Rattle.cops_causal.proofs.Offers.{of_origin-node, IsOffered, IsArrived, origin_of, end_of, pulled-offered, committed-arrived, offered-joins, arrived-taken}
use Rattle.cops_causal.proofs.Provenance.{IsTraced, IsActor}
use Rattle.cops_causal.proofs.StreamNodes.{held, MayJoin, streamed_called, held-here}
use Rattle.cops_causal.proofs.TracedCalls.{home-there}
use Rattle.cops_causal.proofs.TracedIdle.{session_of}
use Rattle.cops_causal.proofs.Past.{new_nodes}
use Rattle.cops_causal.proofs.Streams.{DeliveredBy, Delivered, OnStream, IsFlowing, committed-grown, offered-grown, arrived-grown, still_at, carriers_called, carriers_same, put-joins, on_stream-grown}
use Rattle.std.proofs.lemmas.Bool.Decides.{leb_tells}
use Rattle.cops_causal.proofs.RequestSteps.{by_call, put_sent}
use Rattle.cops_causal.proofs.StreamCalls.{by_stage}
use Rattle.cops_session.proofs.RequestReplies.{call_of}

-- ---- the moves

module _ (config : TenantConfig) (some : 0 < config.shards) (c : SoloCluster) (ts : List Traced) (inv : IsFlowing config c ts) where
  pub flowing-session : (name : List ℕ) (s : Session) (us : List Traced) → IsFlowing config (with_actor name (OfSession s) c) us
  flowing-session name s us =
      record {
        streamed = record { chained = inv.streamed.chained; fronts = inv.streamed.fronts; acked_held = inv.streamed.acked_held };
        carriers = (let after = with_actor name (OfSession s) c in each-with_actor (OnStream config after) (OnStream config after) c name (OfSession s) tt (λ other a apart p. p) (carriers_same config c after.actors inv.carriers));
      }

  pub flowing-new : (name : List ℕ) (a : Actor) → OnStream config (with_new_actor name a c) name a → IsFlowing config (with_new_actor name a c) ts
  flowing-new name a is =
      record {
        streamed = record { chained = inv.streamed.chained; fronts = inv.streamed.fronts; acked_held = inv.streamed.acked_held };
        carriers = (let after = with_new_actor name a c in each-with_new (OnStream config after) c name a is (carriers_same config c after.actors inv.carriers));
      }

  pub flowing-without : (name : List ℕ) → IsFlowing config (without_actor name c) ts
  flowing-without name =
      record {
        streamed = record { chained = inv.streamed.chained; fronts = inv.streamed.fronts; acked_held = inv.streamed.acked_held };
        carriers = (let after = without_actor name c in each-without (OnStream config after) c name (carriers_same config c after.actors inv.carriers));
      }

  -- a call that stores nothing and takes nothing
  pub flowing-called : (after : SoloCluster) (id : NodeId) (call : NodeCall) (reply : NodeReply) → Called config c id call reply after →
      ((e : Entry) → Stores (place_of config id) call (node_of config c (node_number config.shards id)) reply e → MayJoin config c (node_number config.shards id) e) →
      ((acked : List ℕ) → Takes (place_of config id) call (node_of config c (node_number config.shards id)) reply acked → (dc : ℕ) → slice_index acked dc ≤ length (held config c (dc * config.shards + node_number config.shards id % config.shards) (node_number config.shards id))) →
      IsFlowing config after ts
  flowing-called after id call reply called joins takes = record { streamed = streamed_called called inv.streamed joins takes; carriers = carriers_called called inv.carriers }

  flowing-session_called : IsTraced config c ts → (name : List ℕ) (s : Session) → find_session name c ≡ Some s → (running : Running) (moment : ℕ) (directed : Directed) → s.running ≡ Some running →
      next config (request_of s running) running.log moment ≡ Call directed → IsFlowing config (call_node config directed.node moment directed.call c).after ts
  flowing-session_called traced name s found =
      let this = session_of config c ts traced name s found in
      by_call config ts name s this (λ running moment directed. IsFlowing config (call_node config directed.node moment directed.call c).after ts)
      (λ number context key value moment runs is.
      let sent = put_sent config s context key value in
      let after = call_node config sent.node moment sent.call c in
      flowing-called after.after sent.node sent.call after.reply (call_changes config c sent.node moment sent.call (home-there config s.dc key some this.placed) traced.sized)
      (λ e stores. put-joins config c inv.streamed sent.node key value (all_of (obs_of context s)) (near_of (obs_of context s)) after.reply e stores) (λ acked takes. absurd takes))
      (λ number context keys log moment q runs is at e.
      let sent = call_of config s.dc q in
      let after = call_node config sent.node moment sent.call c in
      flowing-called after.after sent.node sent.call after.reply (call_changes config c sent.node moment sent.call (home-there config s.dc q.key some this.placed) traced.sized) (λ e stores. absurd stores) (λ acked takes. absurd takes))

  -- ---- the calls of a carrier

  module _ (traced : IsTraced config c ts) (name : List ℕ) (k : Carrier) (found : find_actor name c ≡ Some (OfCarrier k)) where
    abbrev pub stream_is : IsStream config k.stream
    stream_is = (actor_found (IsActor config ts) c name (OfCarrier k) traced.actors_are found).stream_is

    abbrev replies_are : OnStream config c name (OfCarrier k)
    replies_are = actor_found (OnStream config c) c name (OfCarrier k) inv.carriers found

    -- what a call of the carrier is to show
    record Brings (moment : ℕ) (directed : Directed) : Type 0 where
      pub flows : IsFlowing config (call_node config directed.node moment directed.call c).after ts
      pub delivers : Delivered config (call_node config directed.node moment directed.call c).after k.stream directed (call_node config directed.node moment directed.call c).reply

    abbrev CalledAt : NodeId → NodeCall → NodeReply → SoloCluster → Type 0
    CalledAt id call reply after = Called config c id call reply after

    -- by the change at the node
    pull_delivers : (reply : NodeReply) (after : SoloCluster) → CalledAt k.stream.origin (node_call.Pull k.stream.to_dc) reply after → Delivered config after k.stream (pull k.stream) reply
    pull_delivers reply after called = by_change called.change
      where
        number : ℕ
        number = node_number config.shards k.stream.origin

        by_front : (o : Option Entry) → front (queue (place_of config k.stream.origin) k.stream.to_dc (node_of config c number)) ≡ o → DeliveredBy config after k.stream (node_call.Pull k.stream.to_dc) (reply_pull o)
        by_front (Some e) is = offered-grown config c after (entries_grow called) k.stream e (pulled-offered config c inv.streamed k.stream stream_is e is)
        by_front None is = tt

        by_change : Change (place_of config k.stream.origin) (node_call.Pull k.stream.to_dc) (node_of config c number) reply (node_of config after number) → DeliveredBy config after k.stream (node_call.Pull k.stream.to_dc) reply
        by_change (IsRefused same acked is) = subst (DeliveredBy config after k.stream (node_call.Pull k.stream.to_dc)) (sym is.1) tt
        by_change (Answers same acked is) = subst (DeliveredBy config after k.stream (node_call.Pull k.stream.to_dc)) (sym is) (by_front (front (queue (place_of config k.stream.origin) k.stream.to_dc (node_of config c number))) refl)
        by_change (Joined e more acked is) = absurd is
        by_change (Taken same is) = absurd is

    check_delivers : (near : Pair) (reply : NodeReply) (after : SoloCluster) → CalledAt (check config.shards k.stream near).node (node_call.DepCheck near.key near.version) reply after →
        Delivered config after k.stream (check config.shards k.stream near) reply
    check_delivers near reply after called = by_change called.change
      where
        number : ℕ
        number = node_number config.shards (check config.shards k.stream near).node

        by_was : (b : Bool) → was_committed near.version (node_of config c number) ≡ b → DeliveredBy config after k.stream (node_call.DepCheck near.key near.version) (Checked b)
        by_was true is = committed-grown config c after (entries_grow called) number near.version is
        by_was false is = tt

        by_change : Change (place_of config (check config.shards k.stream near).node) (node_call.DepCheck near.key near.version) (node_of config c number) reply (node_of config after number) → DeliveredBy config after k.stream (node_call.DepCheck near.key near.version) reply
        by_change (IsRefused same acked is) = subst (DeliveredBy config after k.stream (node_call.DepCheck near.key near.version)) (sym is.1) tt
        by_change (Answers same acked is) = subst (DeliveredBy config after k.stream (node_call.DepCheck near.key near.version)) (sym is) (by_was (was_committed near.version (node_of config c number)) refl)
        by_change (Joined e more acked is) = absurd is
        by_change (Taken same is) = absurd is

    commit_delivers : (e : Entry) → IsOffered config c k.stream e → (reply : NodeReply) (after : SoloCluster) → CalledAt (commit_call k.stream e).node (node_call.Commit e) reply after → Delivered config after k.stream (commit_call k.stream e) reply
    commit_delivers e offered reply after called = by_change called.change
      where
        number : ℕ
        number = end_of config k.stream

        origin : ℕ
        origin = origin_of config k.stream

        joined : (f : Entry) → entries (node_of config after number) ≡ entries (node_of config c number) ++ f ∷ [] → f ≡ e → was_committed e.version (node_of config c number) ≡ false → IsArrived config after k.stream e
        joined f more same new =
            let last : offered.place ≡ length (held config c number origin) = (offered-joins config c inv.streamed k.stream stream_is e offered new).1 offered in
            let here = subst (λ g. held config after number g.version.node ≡ held config c number g.version.node ++ g ∷ []) same (held-here config c after number called.others inv.streamed f more) in
            let there : held config after number origin ≡ held config c number origin ++ e ∷ [] =
            subst (λ m. held config after number m ≡ held config c number m ++ e ∷ []) (of_origin-node origin (entries (node_of config c origin)) offered.place e offered.at) here in
            let counted = ap length there ∙ length-append (held config c number origin) (e ∷ []) in
            record { place = offered.place; at = still_at config c after (entries_grow called) origin origin offered.place e offered.at; within = (let l = last in omega arith) }

        by_change : Change (place_of config (commit_call k.stream e).node) (node_call.Commit e) (node_of config c number) reply (node_of config after number) → DeliveredBy config after k.stream (node_call.Commit e) reply
        by_change (IsRefused same acked is) = subst (DeliveredBy config after k.stream (node_call.Commit e)) (sym is.1) tt
        by_change (Answers same acked (inl is)) = subst (DeliveredBy config after k.stream (node_call.Commit e)) (sym is.0) (arrived-grown config c after (entries_grow called) k.stream e (committed-arrived config c inv.streamed k.stream stream_is e offered is.1))
        by_change (Answers same acked (inr is)) = subst (DeliveredBy config after k.stream (node_call.Commit e)) (sym is.0) tt
        by_change (Joined f more acked is) = subst (DeliveredBy config after k.stream (node_call.Commit e)) (sym is.0) (joined f more is.1 is.2)
        by_change (Taken same is) = absurd is

    ack_delivers : (e : Entry) (reply : NodeReply) (after : SoloCluster) → Delivered config after k.stream (ack_call k.stream e) reply
    ack_delivers e reply after = tt

    arrived_by : (e : Entry) (r : NodeReply) → DeliveredBy config c k.stream (node_call.Commit e) r → (r ≡ Committed) ⊎ (r ≡ Already) → IsArrived config c k.stream e
    arrived_by e r is (inl same) = subst (DeliveredBy config c k.stream (node_call.Commit e)) same is
    arrived_by e r is (inr same) = subst (DeliveredBy config c k.stream (node_call.Commit e)) same is

    brings_by : (moment : ℕ) (directed : Directed) → Stage (Delivered config c k.stream) config.shards k.stream directed → Brings moment directed
    brings_by moment = by_stage config some c k.stream stream_is (Brings moment)
        (λ there.
        let sent = pull k.stream in
        let turn = call_node config sent.node moment sent.call c in
        let called = call_changes config c sent.node moment sent.call there traced.sized in
        record { flows = flowing-called turn.after sent.node sent.call turn.reply called (λ e stores. absurd stores) (λ acked takes. absurd takes); delivers = pull_delivers turn.reply turn.after called })
        (record {
          checks = λ e near offered among there.
              let sent = check config.shards k.stream near in
              let turn = call_node config sent.node moment sent.call c in
              let called = call_changes config c sent.node moment sent.call there traced.sized in
              record { flows = flowing-called turn.after sent.node sent.call turn.reply called (λ f stores. absurd stores) (λ acked takes. absurd takes); delivers = check_delivers near turn.reply turn.after called };
          commits = λ e offered checks there.
              let sent = commit_call k.stream e in
              let turn = call_node config sent.node moment sent.call c in
              let called = call_changes config c sent.node moment sent.call there traced.sized in
              record {
                flows = flowing-called turn.after sent.node sent.call turn.reply called (λ f stores. subst (MayJoin config c (end_of config k.stream)) (sym stores.1) (offered-joins config c inv.streamed k.stream stream_is e offered stores.2).0) (λ acked takes. absurd takes);
                delivers = commit_delivers e offered turn.reply turn.after called;
              };
          acks = λ e r offered brought kind there.
              let sent = ack_call k.stream e in
              let turn = call_node config sent.node moment sent.call c in
              let called = call_changes config c sent.node moment sent.call there traced.sized in
              record {
                flows = flowing-called turn.after sent.node sent.call turn.reply called (λ f stores. absurd stores) (λ acked takes dc. arrived-taken config c inv.streamed k.stream stream_is e (arrived_by e r brought kind) turn.reply acked takes dc);
                delivers = tt;
              };
        })

    pub stage_now : (directed : Directed) → carrier.carrier_next config.shards k.stream k.log ≡ Call directed → Stage (Delivered config c k.stream) config.shards k.stream directed
    stage_now directed e = stage (Delivered config c k.stream) config.shards k.stream k.log directed (carrier-next config.shards k.stream k.log directed e) replies_are

    -- after the call the carrier has one more reply, or is gone
    flowing-stepped : (after : SoloCluster) → IsFlowing config after ts → (next : Carrier) → OnStream config after name (OfCarrier next) → (shown : Progress) → IsFlowing config (carrier_stepped name next shown after).after ts
    flowing-stepped after flows next is carrier_progress.Working =
        record {
          streamed = record { chained = flows.streamed.chained; fronts = flows.streamed.fronts; acked_held = flows.streamed.acked_held };
          carriers = (
              let last = with_actor name (OfCarrier next) after in
              each-with_actor (OnStream config last) (OnStream config last) after name (OfCarrier next) (on_stream-grown config after last (λ n. ([], sym (append-nil (entries (node_of config after n))))) name (OfCarrier next) is)
              (λ other a apart p. p) (carriers_same config after last.actors flows.carriers));
        }
    flowing-stepped after flows next is (carrier_progress.Done ending) =
        record {
          streamed = record { chained = flows.streamed.chained; fronts = flows.streamed.fronts; acked_held = flows.streamed.acked_held };
          carriers = (let last = without_actor name after in each-without (OnStream config last) after name (carriers_same config after last.actors flows.carriers));
        }

    pub flowing-carrier_called : (moment : ℕ) (directed : Directed) → carrier.carrier_next config.shards k.stream k.log ≡ Call directed →
        let call = call_node config directed.node moment directed.call c in
        let step : LogStep = record { moment = moment; outcome = Replied call.reply } in
        IsFlowing config (carrier_stepped name (carrier_after k step) (carrier.delivery_progress config.shards k step) call.after).after ts
    flowing-carrier_called moment directed e =
        let brought = brings_by moment directed (stage_now directed e) in
        let call = call_node config directed.node moment directed.call c in
        let step : LogStep = record { moment = moment; outcome = Replied call.reply } in
        let old : OnStream config call.after name (OfCarrier k) = actor_found (OnStream config call.after) call.after name (OfCarrier k) brought.flows.carriers found in
        flowing-stepped call.after brought.flows (carrier_after k step)
        (carrier-stepped (Delivered config call.after k.stream) config.shards k.stream k.log moment directed call.reply old (carrier-next config.shards k.stream k.log directed e) brought.delivers)
        (carrier.delivery_progress config.shards k step)

pub flowing_kept : (config : TenantConfig) → 0 < config.shards → Leads config (Both (IsTraced config) (IsFlowing config)) (IsFlowing config)
flowing_kept config some =
    record {
      opened = λ c ts name dc free exists inv. flowing-new config some c ts inv.1 name (OfSession _) tt;
      carrier_begun = λ c ts name stream free is inv. flowing-new config some c ts inv.1 name (OfCarrier (new_carrier stream)) tt;
      context_created = λ c ts name s found idle inv. flowing-session config some c ts inv.1 name _ ts;
      context_deleted = λ c ts name s number found idle inv. flowing-session config some c ts inv.1 name _ ts;
      put_begun = λ c ts name s number key value found ok is inv. flowing-session config some c ts inv.1 name _ ts;
      get_begun = λ c ts name s number keys found ok are inv. flowing-session config some c ts inv.1 name _ ts;
      called = λ c ts name s running moment directed found runs e inv.
          flowing-session config some (call_node config directed.node moment directed.call c).after ts (flowing-session_called config some c ts inv.1 inv.0 name s found running moment directed runs e) name _ _;
      late = λ c ts name s running moment found runs e inv. flowing-session config some c ts inv.1 name _ _;
      ended = λ c ts name s running moment a found runs e inv. record { streamed = inv.1.streamed; carriers = inv.1.carriers };
      carrier_called = λ c ts name k moment directed found e inv. flowing-carrier_called config some c ts inv.1 inv.0 name k found moment directed e;
      collected = λ c ts id moment there inv.
          let call = call_node config id moment node_call.Collect c in
          flowing-called config some c ts inv.1 call.after id node_call.Collect call.reply (call_changes config c id moment node_call.Collect there inv.0.sized) (λ e stores. absurd stores) (λ acked takes. absurd takes);
      dropped = λ c ts name s running moment found runs inv. flowing-session config some c ts inv.1 name (request_dropped moment s) ts;
      read_dropped = λ c ts name s running moment directed keys found runs fetches e inv.
          flowing-session config some (call_node config directed.node moment directed.call c).after ts (flowing-session_called config some c ts inv.1 inv.0 name s found running moment directed runs e) name (request_dropped moment s) ts;
      carrier_dropped = λ c ts name k found inv. flowing-without config some c ts inv.1 name;
    }

no_entries : (config : TenantConfig) (n m : ℕ) → held config (new_cluster config) n m ≡ []
no_entries config n m = ap (λ solo. of_origin m (entries solo)) (new_nodes (config.data_centres * config.shards) n (new_node config.data_centres))

none_acked : (config : TenantConfig) (n dc : ℕ) → slice_index (node_of config (new_cluster config) n).acked dc ≡ 0
none_acked config n dc = ap (λ (solo : SoloNode). slice_index solo.acked dc) (new_nodes (config.data_centres * config.shards) n (new_node config.data_centres)) ∙ zeros config.data_centres
  where
    zeros : (k : ℕ) → slice_index (replicate k 0) dc ≡ 0
    zeros k = elim (leb_tells k dc) [
      | inl past ↦ get_or_past (replicate k 0) dc 0 (let counted = length-replicate {A = ℕ} k 0 in omega (arith, past.1, counted))
      | inr within ↦ get_or-replicate k dc 0 0 within.1
    ]

pub flowing_at_first : (config : TenantConfig) → IsFlowing config (new_cluster config) []
flowing_at_first config =
    record {
      streamed = record {
        chained = λ n. subst (IsChain no_version) (sym (no_entries config n n)) tt;
        fronts = λ n m. subst (IsFront (held config (new_cluster config) n m)) (no_entries config n m ∙ sym (no_entries config m m)) (front-same (held config (new_cluster config) n m));
        acked_held = λ n dc. (let none = none_acked config n dc in omega arith);
      };
      carriers = tt;
    }

-- What each move keeps holds after every run in which memory may be refused, over the operations that the tenant reads off it.
use Rattle.std.proofs.Common.{◌≡◌, ℕ, zero, suc, true, false, cond, not, List, [], ◌∷◌, map, inl, inr, refl, sym, ◌∙◌, ap, subst}
use Rattle.std.specs.Prelude.{Option, Some, None, filter, filter_map, ◌⊎◌, IsTrue}
use Rattle.std.specs.List.{cons_option}
use Rattle.std.specs.Option.{option_map}
use Rattle.cops_types.specs.declared.faults.Fault.TheVariants.{OutOfMemory}
use Rattle.cops_types.specs.TenantConfig.{TenantConfig}
use Rattle.cops_model.specs.Log.{Replied, Directed, Call}
use Rattle.cops_model.specs.Request.{Fetch, next}
use Rattle.cops_model.specs.Session.{Running, Session, moment_at, request_of}
use Rattle.cops_model.specs.declared.deliveries.Progress.TheVariants as carrier_progress
use Rattle.cops_model.specs.Carrier.{Carrier}
use Rattle.cops_types.specs.Key.{key_eq}
use Rattle.cops_types.proofs.KeyTests.{key_eq-refl}
use Rattle.cops_model.specs.declared.acts.Act.{Act}
use Rattle.cops_model.specs.declared.acts.Act.TheVariants.{Open, Create, Delete, Put, Get, Show, Carry, Step, Done, Collect}
use Rattle.cops_model.specs.declared.replies.Reply.{Reply}
use Rattle.cops_model.specs.declared.replies.Reply.TheVariants.{Refused}
use Rattle.cops_model.specs.Causal.{Operation, Traced, effect_of, traced_from}
use Rattle.cops_model.specs.Cluster.{Actor, NamedActor, OfCarrier, OfSession, SoloCluster, actor_step, call_node, cluster_step, find_actor, goes_on, most_steps, new_cluster, without_actor}
use Rattle.cops_model.specs.Goes.{Goes, Turns}
use Rattle.cops_model.specs.Lacks.{ActorStops, IsLastRead, Lacks, has_room, StepStops, StepsStop, request_dropped, without_request}
use Rattle.cops_model.specs.Restarts.{moment_in}
use Rattle.cops_model.specs.Told.{Contexts, contexts_after, history_told, operation_told, operations_told, operations_told_from}
use Rattle.cops_causal.proofs.ActorsKeep.{each-without}
use Rattle.cops_causal.proofs.ActorSteps.{as_session}
use Rattle.cops_causal.proofs.AfterActs.{cluster_step_keeps, step_goes_on, traced_more}
use Rattle.cops_causal.proofs.Moves.{IsKept, with_operation}
use Rattle.cops_causal.proofs.ToldHistories.{IsKnownTo, Knows, act_runs, knows_after, replaced_knows, step_knows, told_is}
use Rattle.cops_causal.proofs.ToldOperations.{act_told, map_cons, no_end}
use Rattle.cops_causal.proofs.EndedOperations.{operation_ended}

-- ---- an act without memory, taken apart once

module _ (config : TenantConfig) (name : List ℕ) (moment : ℕ) (Q : SoloCluster → Type 0) where
  -- what is kept if the steps of this actor at this timestamp stop
  pub record StopCases : Type 0 where
    pub dropped : (c : SoloCluster) (s : Session) (running : Running) → find_actor name c ≡ Some (OfSession s) → s.running ≡ Some running → Q c → Q (without_request name moment s c)
    pub read_dropped : (c : SoloCluster) (s : Session) (running : Running) (directed : Directed) (keys : List (List ℕ)) → find_actor name c ≡ Some (OfSession s) → s.running ≡ Some running →
        running.action ≡ Fetch keys → next config (request_of s running) running.log (moment_at moment s) ≡ Call directed →
        Q c → Q (without_request name moment s (call_node config directed.node (moment_at moment s) directed.call c).after)
    pub carrier_dropped : (c : SoloCluster) (k : Carrier) → find_actor name c ≡ Some (OfCarrier k) → Q c → Q (without_actor name c)
    pub goes : (c : SoloCluster) → Q c → goes_on (actor_step config name moment c).reply ≡ true → Q (actor_step config name moment c).after

  module _ (cases : StopCases) where
    by_stop : (c d : SoloCluster) → Q c → StepStops config name moment c d → Q d
    by_stop c d q stops = by_actor (find_actor name c) refl stops
      where
        by_left : (s : Session) (running : Running) (directed : Directed) → find_actor name c ≡ Some (OfSession s) → s.running ≡ Some running →
            next config (request_of s running) running.log (moment_at moment s) ≡ Call directed →
            (let turn = call_node config directed.node (moment_at moment s) directed.call c in
            (IsTrue (has_room config directed.node c) × (d ≡ without_request name moment s c)) ⊎ (IsLastRead config s running (record { moment = moment_at moment s; outcome = Replied turn.reply }) × (d ≡ without_request name moment s turn.after))) → Q d
        by_left s running directed found runs calls (inl (room, same)) = subst Q (sym same) (cases.dropped c s running found runs q)
        by_left s running directed found runs calls (inr (read, same)) = subst Q (sym same) (cases.read_dropped c s running directed read.0 found runs read.1 calls q)

        by_actor : (found : Option Actor) → find_actor name c ≡ found → ActorStops config name moment found c d → Q d
        by_actor (Some (OfSession s)) found stops = by_left s stops.running stops.directed found stops.runs stops.calls stops.left
        by_actor (Some (OfCarrier k)) found stops = subst Q (sym stops.3) (cases.carrier_dropped c k found q)
        by_actor None found stops = absurd stops

    pub by_stops : (more : ℕ) (c d : SoloCluster) → Q c → StepsStop more config name moment c d → Q d
    by_stops zero c d q stops = by_stop c d q stops
    by_stops (suc more) c d q (inl stops) = by_stop c d q stops
    by_stops (suc more) c d q (inr (goes, stops)) = by_stops more (actor_step config name moment c).after d (cases.goes c q goes) stops

pub by_lack : (config : TenantConfig) (Q : SoloCluster → Type 0) (act : Act) → ((name : List ℕ) (moment : ℕ) → moment_in act ≡ Some moment → StopCases config name moment Q) →
    (c d : SoloCluster) → Q c → Lacks config act c d → Q d
by_lack config Q (Step name moment) cases c d q lacks = by_stops config name moment Q (cases name moment refl) 0 c d q lacks
by_lack config Q (Done name moment) cases c d q lacks = by_stops config name moment Q (cases name moment refl) (most_steps config) c d q lacks
by_lack config Q (Open name dc) cases c d q (unrefused, same) = subst Q (sym same) q
by_lack config Q (Create name) cases c d q (unrefused, same) = subst Q (sym same) q
by_lack config Q (Delete name number) cases c d q never = absurd never
by_lack config Q (Put name number key value) cases c d q (good, same) = subst Q (sym same) q
by_lack config Q (Get name number keys) cases c d q (some, same) = subst Q (sym same) q
by_lack config Q (Show name number) cases c d q (unrefused, same) = subst Q (sym same) q
by_lack config Q (Carry name dc shard to_dc) cases c d q (unrefused, same) = subst Q (sym same) q
by_lack config Q (Collect dc shard moment) cases c d q (unrefused, same) = subst Q (sym same) q

-- ---- what a turn tells

-- that memory was refused names no context
lack_contexts : (act : Act) (contexts : Contexts) → contexts_after act (Refused OutOfMemory) contexts ≡ contexts
lack_contexts (Open name dc) contexts = refl
lack_contexts (Create name) contexts = refl
lack_contexts (Delete name number) contexts = refl
lack_contexts (Put name number key value) contexts = refl
lack_contexts (Get name number keys) contexts = refl
lack_contexts (Show name number) contexts = refl
lack_contexts (Carry name dc shard to_dc) contexts = refl
lack_contexts (Step name moment) contexts = refl
lack_contexts (Done name moment) contexts = refl
lack_contexts (Collect dc shard moment) contexts = refl

module _ (config : TenantConfig) (contexts : Contexts) (act : Act) where
  -- what each actor runs is known after an act without memory
  lack_knows : (c d : SoloCluster) → Knows contexts c → Lacks config act c d → Knows contexts d
  lack_knows = by_lack config (Knows contexts) act (λ name moment in_act. record {
    dropped = λ c s running found runs knows. replaced_knows config contexts name c (OfSession (request_dropped (moment_at moment s) s)) (λ n e. cc) knows;
    read_dropped = λ c s running directed keys found runs fetches calls knows.
        replaced_knows config contexts name (call_node config directed.node (moment_at moment s) directed.call c).after (OfSession (request_dropped (moment_at moment s) s)) (λ n e. cc) knows;
    carrier_dropped = λ c k found knows. each-without (IsKnownTo contexts) c name knows;
    goes = λ c knows goes. step_knows config contexts name moment c knows;
  })

  pub turn_knows : (c d : SoloCluster) (reply : Reply) → Knows contexts c → Turns config act c reply d → Knows (contexts_after act reply contexts) d
  turn_knows c d reply knows (inl (same, left)) =
      subst (Knows (contexts_after act reply contexts)) (sym left) (subst (λ r. Knows (contexts_after act r contexts) (cluster_step config act c).after) (sym same) (knows_after config contexts act c knows))
  turn_knows c d reply knows (inr (same, lacks)) =
      subst (λ r. Knows (contexts_after act r contexts) d) (sym same) (subst (λ k. Knows k d) (sym (lack_contexts act contexts)) (lack_knows c d knows lacks))

  -- the operation that is read off a turn is the one that it ended
  pub turn_told : (c d : SoloCluster) (reply : Reply) → Knows contexts c → Turns config act c reply d → operation_told contexts act reply ≡ operation_ended c act reply
  turn_told c d reply knows (inl (same, left)) = subst (λ r. operation_told contexts act r ≡ operation_ended c act r) (sym same) (told_is contexts c act (cluster_step config act c).reply knows (act_runs config act c))
  turn_told c d reply knows (inr (same, lacks)) =
      subst (λ r. operation_told contexts act r ≡ operation_ended c act r) (sym same) (told_is contexts c act (Refused OutOfMemory) knows (λ name steps. no_end c name (Refused OutOfMemory) refl))

  turn_effect : (c d : SoloCluster) (reply : Reply) → Knows contexts c → Turns config act c reply d → option_map (λ (o : Operation). o.effect) (operation_told contexts act reply) ≡ effect_of reply
  turn_effect c d reply knows turns = ap (option_map (λ (o : Operation). o.effect)) (turn_told c d reply knows turns) ∙ ended turns
    where
      ended : Turns config act c reply d → option_map (λ (o : Operation). o.effect) (operation_ended c act reply) ≡ effect_of reply
      ended (inl (same, left)) = subst (λ r. option_map (λ (o : Operation). o.effect) (operation_ended c act r) ≡ effect_of r) (sym same) (act_told config act c)
      ended (inr (same, lacks)) = subst (λ r. option_map (λ (o : Operation). o.effect) (operation_ended c act r) ≡ effect_of r) (sym same) refl

-- ---- runs

module _ (config : TenantConfig) where
  -- each effect in the replies has its operation
  effects_told : (acts : List Act) (told : List Reply) (contexts : Contexts) (c d : SoloCluster) → Knows contexts c → Goes config acts told c d →
      filter_map effect_of told ≡ map (λ (o : Operation). o.effect) (operations_told_from acts told contexts)
  effects_told [] [] contexts c d knows goes = refl
  effects_told [] (reply ∷ told) contexts c d knows goes = absurd goes
  effects_told (act ∷ acts) [] contexts c d knows goes = absurd goes
  effects_told (act ∷ acts) (reply ∷ told) contexts c d knows (between, turns, goes) =
      let rest = effects_told acts told (contexts_after act reply contexts) between d (turn_knows config contexts act c between reply knows turns) goes in
      (λ i. cons_option (sym (turn_effect config contexts act c between reply knows turns) i) (rest i))
      ∙ sym (map_cons (operation_told contexts act reply) (operations_told_from acts told (contexts_after act reply contexts)))

  pub has_told_effects : (acts : List Act) (told : List Reply) (d : SoloCluster) → Goes config acts told (new_cluster config) d → filter_map effect_of told ≡ map (λ (o : Operation). o.effect) (operations_told acts told)
  has_told_effects acts told d goes = effects_told acts told (λ name. None) (new_cluster config) d tt goes

module _ {config : TenantConfig} {P : SoloCluster → List Traced → Type 0} (kept : IsKept config P) where
  pub turn_keeps : (act : Act) (c d : SoloCluster) (reply : Reply) (ts : List Traced) → P c ts → Turns config act c reply d → P d (with_operation ts (operation_ended c act reply))
  turn_keeps act c d reply ts p (inl (same, left)) =
      subst (λ x. P x (with_operation ts (operation_ended c act reply))) (sym left)
      (subst (λ r. P (cluster_step config act c).after (with_operation ts (operation_ended c act r))) (sym same) (cluster_step_keeps kept act c ts p))
  turn_keeps act c d reply ts p (inr (same, lacks)) =
      subst (λ r. P d (with_operation ts (operation_ended c act r))) (sym same) (by_lack config (λ x. P x ts) act (λ name moment in_act. record {
        dropped = λ c s running found runs p. kept.dropped c ts name s running (moment_at moment s) (as_session name c s found) runs p;
        read_dropped = λ c s running directed keys found runs fetches calls p. kept.read_dropped c ts name s running (moment_at moment s) directed keys (as_session name c s found) runs fetches calls p;
        carrier_dropped = λ c k found p. kept.carrier_dropped c ts name k found p;
        goes = λ c p goes. step_goes_on kept c ts name moment p goes;
      }) c d p lacks)

  goes_keep : (acts : List Act) (told : List Reply) (contexts : Contexts) (c d : SoloCluster) (ts : List Traced) → Knows contexts c → P c ts → Goes config acts told c d → P d (traced_from ts (operations_told_from acts told contexts))
  goes_keep [] [] contexts c d ts knows p same = subst (λ x. P x ts) (sym same) p
  goes_keep [] (reply ∷ told) contexts c d ts knows p goes = absurd goes
  goes_keep (act ∷ acts) [] contexts c d ts knows p goes = absurd goes
  goes_keep (act ∷ acts) (reply ∷ told) contexts c d ts knows p (between, turns, goes) =
      let o = operation_told contexts act reply in
      let now : P between (with_operation ts o) = subst (λ x. P between (with_operation ts x)) (sym (turn_told config contexts act c between reply knows turns)) (turn_keeps act c between reply ts p turns) in
      subst (P d) (sym (traced_more kept ts o (operations_told_from acts told (contexts_after act reply contexts))))
      (goes_keep acts told (contexts_after act reply contexts) between d (with_operation ts o) (turn_knows config contexts act c between reply knows turns) now goes)

  -- after every run
  pub after_turns : (acts : List Act) (told : List Reply) (d : SoloCluster) → P (new_cluster config) [] → Goes config acts told (new_cluster config) d → P d (history_told acts told)
  after_turns acts told d p goes = goes_keep acts told (λ name. None) (new_cluster config) d [] tt p goes

-- ---- a carrier whose call was made and whose reply was lost

without_replaced : (name : List ℕ) (actor : Actor) (actors : List NamedActor) →
    filter (λ (a : NamedActor). not (key_eq a.name name)) (map (λ (a : NamedActor). cond (key_eq a.name name) (record { name = name; actor = actor }) a) actors) ≡ filter (λ (a : NamedActor). not (key_eq a.name name)) actors
without_replaced name actor [] = refl
without_replaced name actor (a ∷ actors) =
    elim (key_eq a.name name) as (λ b. key_eq a.name name ≡ b →
    filter (λ (a : NamedActor). not (key_eq a.name name)) (map (λ (a : NamedActor). cond (key_eq a.name name) (record { name = name; actor = actor }) a) (a ∷ actors)) ≡ filter (λ (a : NamedActor). not (key_eq a.name name)) (a ∷ actors)) [
      | true ↦ λ is. rw is (rw (key_eq-refl name) (without_replaced name actor actors))
      | false ↦ λ is. rw is (rw is (ap (λ others. a ∷ others) (without_replaced name actor actors)))
    ] refl

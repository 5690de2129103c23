-- The causal laws of every run of a tenant alone in which memory may be refused.
use Rattle.std.proofs.Common.{◌≡◌, ℕ, ◌<◌, ◌≤◌, ◌*◌, ◌+◌, true, length, take, List, [], ◌∷◌, inl, inr, refl, sym, subst}
use Rattle.std.specs.Prelude.{Some, None}
use Rattle.std.specs.List.{AllByRecursion, list_all}
use Rattle.cops_types.specs.TenantConfig.{TenantConfig}
use Rattle.cops_types.proofs.Elements.{Every-true, and_true}
use Rattle.cops_model.specs.declared.acts.Act.{Act}
use Rattle.cops_model.specs.declared.calls.AuditEntry.{AuditEntry}
use Rattle.cops_model.specs.declared.replies.Reply.{Reply}
use Rattle.cops_model.specs.Causal.{Traced, answers_consistently}
use Rattle.cops_model.specs.Cluster.{OfSession, SoloCluster, call_node, cluster_step, find_actor, new_cluster}
use Rattle.cops_model.specs.Goes.{Goes, Turns}
use Rattle.cops_model.specs.Lacks.{request_dropped, without_request}
use Rattle.cops_model.specs.Laws.{AllAreCausal, IsCausal, is_expected, is_expected_of_node, node_in}
use Rattle.cops_model.specs.Session.{Session, moment_at}
use Rattle.cops_model.specs.Told.{history_told, operations_told}
use Rattle.cops_causal.proofs.ActorsKeep.{left}
use Rattle.cops_causal.proofs.ActorSteps.{as_session}
use Rattle.cops_causal.proofs.AfterTurns.{after_turns, by_lack, has_told_effects, turn_keeps}
use Rattle.cops_causal.proofs.Answering.{IsAnswering, answering_at_first, answering_kept}
use Rattle.cops_causal.proofs.ClusterMoments.{AreActorsWithin, AreNodesWithin, HandsIn, IsWithin, act_within, actor_step_within, call_within, changed_within, handed_in, moment_within, within_at_first}
use Rattle.cops_causal.proofs.Committed.{committed_at}
use Rattle.cops_causal.proofs.Convergence.{IsOrderly, convergent_at, orderly_at}
use Rattle.cops_causal.proofs.EndingSteps.{bounded_at_first, bounded_kept, ends_at}
use Rattle.cops_causal.proofs.LeastPasts.{least_pasts_of}
use Rattle.cops_causal.proofs.Moves.{Both, kept_both, with_operation}
use Rattle.cops_causal.proofs.Never.{Whole, act_fine, fine_expected, whole_at_first, whole_kept}
use Rattle.cops_causal.proofs.NodeEffects.{node_of}
use Rattle.cops_causal.proofs.Past.{exact_deps_at}
use Rattle.cops_causal.proofs.RequestSteps.{none_runs}
use Rattle.cops_causal.proofs.Restarting.{act_due, timed_first, timed_whole}
use Rattle.cops_causal.proofs.Settled.{settled_at}
use Rattle.cops_causal.proofs.Sound.{IsSound, sound_at_first, sound_kept}
use Rattle.cops_causal.proofs.EndedOperations.{operation_ended}

module _ (config : TenantConfig) (some : 0 < config.shards) where
  -- ---- replies

  turn_fine : (act : Act) (c d : SoloCluster) (reply : Reply) (ts : List Traced) → Whole config c ts → Turns config act c reply d → is_expected reply ≡ true
  turn_fine act c d reply ts inv (inl (same, left)) = subst (λ r. is_expected r ≡ true) (sym same) (fine_expected (cluster_step config act c).reply (act_fine config some act c ts inv))
  turn_fine act c d reply ts inv (inr (same, lacks)) = subst (λ r. is_expected r ≡ true) (sym same) refl

  told_fine : (acts : List Act) (told : List Reply) (c d : SoloCluster) (ts : List Traced) → Whole config c ts → Goes config acts told c d → list_all is_expected told ≡ true
  told_fine [] [] c d ts inv goes = refl
  told_fine [] (reply ∷ told) c d ts inv goes = absurd goes
  told_fine (act ∷ acts) [] c d ts inv goes = absurd goes
  told_fine (act ∷ acts) (reply ∷ told) c d ts inv (between, turns, goes) =
      and_true (is_expected reply) (list_all is_expected told) (turn_fine act c between reply ts inv turns)
      (told_fine acts told between d (with_operation ts (operation_ended c act reply)) (turn_keeps (whole_kept config some) act c between reply ts inv turns) goes)

  -- ---- timestamps

  turn_within : (most : ℕ) (act : Act) (c d : SoloCluster) (reply : Reply) → HandsIn config most act → IsWithin config most c → Turns config act c reply d → IsWithin config most d
  turn_within most act c d reply low is (inl (same, left)) = subst (IsWithin config most) (sym left) (act_within config most act c low is)
  turn_within most act c d reply low is (inr (same, lacks)) = by_lack config (IsWithin config most) act (λ name moment in_act. record {
    dropped = λ c s running found runs is. dropped name moment (low moment in_act) c is c is s found;
    read_dropped = λ c s running directed keys found runs fetches calls is.
        let at = moment_within config most c is name s (as_session name c s found) moment (low moment in_act) in
        dropped name moment (low moment in_act) c is (call_node config directed.node (moment_at moment s) directed.call c).after (call_within config most c directed.node (moment_at moment s) directed.call at.1 is) s found;
    carrier_dropped = λ c k found is. left (AreNodesWithin config most) (AreActorsWithin most) c [] is name;
    goes = λ c is goes. actor_step_within config most c name moment (low moment in_act) is;
  }) c d is lacks
    where
      dropped : (name : List ℕ) (moment : ℕ) → moment ≤ most → (c : SoloCluster) → IsWithin config most c → (after : SoloCluster) → IsWithin config most after → (s : Session) → find_actor name c ≡ Some (OfSession s) →
          IsWithin config most (without_request name moment s after)
      dropped name moment low c is after is_after s found =
          let at = moment_within config most c is name s (as_session name c s found) moment low in
          changed_within config most after name (OfSession (request_dropped (moment_at moment s) s)) (at.1, none_runs _ None refl) is_after

  turns_within : (most : ℕ) (acts : List Act) (told : List Reply) (c d : SoloCluster) → AllByRecursion (HandsIn config most) acts → IsWithin config most c → Goes config acts told c d → IsWithin config most d
  turns_within most [] [] c d low is same = subst (IsWithin config most) (sym same) is
  turns_within most [] (reply ∷ told) c d low is goes = absurd goes
  turns_within most (act ∷ acts) [] c d low is goes = absurd goes
  turns_within most (act ∷ acts) (reply ∷ told) c d low is (between, turns, goes) = turns_within most acts told between d low.1 (turn_within most act c between reply low.0 is turns) goes

  -- ---- all laws

  module _ (acts : List Act) (told : List Reply) (d : SoloCluster) (goes : Goes config acts told (new_cluster config) d) where
    answering : Both (IsSound config) (IsAnswering config) d (history_told acts told)
    answering = after_turns (kept_both (sound_kept config some) (answering_kept config some)) acts told d (sound_at_first config some, answering_at_first config) goes

    served : Whole config d (history_told acts told)
    served = after_turns (whole_kept config some) acts told d (whole_at_first config some) goes

    orderly : (n : ℕ) → IsOrderly (node_of config d n)
    orderly n = orderly_at config d answering.0.flowing.streamed n (answering.0.keeps n)

    pub is_causal : IsCausal config acts told d
    is_causal = record {
      each = has_told_effects config acts told d goes;
      consistent = Every-true (λ (t : Traced). answers_consistently t t.operation.effect) (history_told acts told) answering.1.nodes.answered;
      least_pasts = least_pasts_of (operations_told acts told) answering.1.nodes.ordered;
      exact_deps = exact_deps_at config d (history_told acts told) answering.0.traced;
      committed = committed_at config d (history_told acts told) answering.0.closed.nodes;
      expected = told_fine acts told (new_cluster config) d [] (whole_at_first config some) goes;
      expected_of_nodes = λ dc shard in_dcs in_shards. Every-true (λ (e : AuditEntry). is_expected_of_node e.reply) (node_in config d dc shard).trail (served.1.nodes (dc * config.shards + shard));
      convergent = convergent_at config d orderly;
      settled = settled_at config some d answering.0.flowing.streamed answering.0.equivalent orderly;
      ends = ends_at config some d (history_told acts told) (after_turns (bounded_kept config some) acts told d (bounded_at_first config some) goes);
      restarts = λ before later act is from goes.
          let heard = take (length before) told in
          act_due config some before act from (history_told before heard) (after_turns (timed_whole config some) before heard from (timed_first config some) goes)
          (λ most low. turns_within most before heard (new_cluster config) from (handed_in config most before low) (within_at_first config most) goes);
    }

pub all_are_causal : (config : TenantConfig) → 0 < config.shards → AllAreCausal config
all_are_causal config some acts told cluster goes = is_causal config some acts told cluster goes

-- What a deed, a new actor, a step or a collection does to each tenant's part of the world.
use Rattle.std.proofs.Common.{◌≡◌, ◌≢◌, ℕ, false, cond, List, length, refl, sym, subst, ap, ◌∙◌}
use Rattle.std.specs.Prelude.{Option, Some, None, Result, Ok, find}
use Rattle.std.specs.declared.alloc.AllocError.{AllocError}
use Rattle.std.proofs.lemmas.Result.{IfOk-at_ok}
use Rattle.std.specs.Option.{option_map, option_and_then}
use Rattle.cops_types.specs.declared.faults.Fault.{Fault}
use Rattle.cops_types.specs.declared.faults.Fault.TheVariants.{UnknownName}
use Rattle.cops_types.specs.Context.{all_of, near_of}
use Rattle.cops_types.specs.Key.{key_eq}
use Rattle.cops_types.specs.TenantConfig.{TenantConfig}
use Rattle.cops_node.specs.Clusters.{Cluster, HasTenant, nodes_of}
use Rattle.cops_model.specs.Request.{Write, Fetch}
use Rattle.cops_model.specs.Session.{Session, context_created, context_deleted, context_refusal, create_refusal, get_refusal, obs_of, request_begun, session_put_refusal}
use Rattle.cops_model.specs.declared.replies.Reply.{Reply}
use Rattle.cops_model.specs.declared.replies.Reply.TheVariants.{Created, Deleted, Started, Lists, Refused}
use Rattle.cops_model.specs.Cluster.{ActEffect, Actor, NamedActor, OfCarrier, OfSession, SoloCluster, find_actor, on_session, reply_with, session_in, unless_refused, with_actor}
use Rattle.cops_model.specs.Lacks.{is_refusal}
use Rattle.cops_model.specs.Setups.{config_in}
use Rattle.cops_world.specs.declared.actors.Actor.{Actor as Kept}
use Rattle.cops_world.specs.declared.actors.ActorId.{ActorId}
use Rattle.cops_world.specs.declared.actors.Deed.{Deed}
use Rattle.cops_world.specs.declared.actors.Deed.TheVariants.{Create, Delete, Put, Get, Show}
use Rattle.cops_world.specs.Actors.{ActorsStandFor, AreSame, HaveDistinctNames}
use Rattle.cops_world.specs.ActorsStand.{ActorStandsFor, HasDone}
use Rattle.cops_world.specs.ActorTables.{same_actor}
use Rattle.cops_world.specs.ActorTurns.{ActorTurn, actor_turn, unless_actor_refused, actor_does, session_does}
use Rattle.cops_world.specs.Deeds.{deed_step, session_deed}
use Rattle.cops_world.specs.Worlds.{AnyReply, ClusterStandsAt, Moves, World}
use Rattle.cops_script.proofs.ToldActs.{if_answered}
use Rattle.cops_world.proofs.ActorMoves.{absent_too, found_too, put_in_place, with_actor-same, count-with_actor}
use Rattle.cops_world.proofs.ActorTableLemmas.{same_actor-refl, other_slot, other_name}

-- ---- a deed on the cluster

-- the turn is that of the actor, put in its place
record Agrees (name : List ℕ) (cluster : SoloCluster) (turn : ActEffect) (own : ActorTurn) : Type 0 where
  reply_is : turn.reply ≡ own.reply
  actors_are : turn.after.actors ≡ (with_actor name own.after cluster).actors
  nodes_stay : turn.after.nodes ≡ cluster.nodes

module _ (name : List ℕ) (cluster : SoloCluster) (distinct : HaveDistinctNames cluster.actors) (s : Session) (found : find_actor name cluster ≡ Some (OfSession s)) where
  same_again : (reply : Reply) → Agrees name cluster (reply_with reply cluster) (actor_turn reply (OfSession s))
  same_again reply = record { reply_is = refl; actors_are = sym (with_actor-same name (OfSession s) cluster distinct found); nodes_stay = refl }

  changes : (refusal : Option Fault) (reply : Reply) (after : Actor) →
      Agrees name cluster (unless_refused refusal cluster (reply_with reply (with_actor name after cluster))) (unless_actor_refused refusal (OfSession s) (actor_turn reply after))
  changes None reply after = record { reply_is = refl; actors_are = refl; nodes_stay = refl }
  changes (Some fault) reply after = same_again (Refused fault)

  shows : (refusal : Option Fault) (reply : Reply) → Agrees name cluster (unless_refused refusal cluster (reply_with reply cluster)) (unless_actor_refused refusal (OfSession s) (actor_turn reply (OfSession s)))
  shows None reply = same_again reply
  shows (Some fault) reply = same_again (Refused fault)

  deed_of_session : (config : TenantConfig) (deed : Deed) → Agrees name cluster (session_deed config name cluster deed s) (session_does config s deed)
  deed_of_session config Create = changes (create_refusal config s) (Created s.next_context) (OfSession (context_created s))
  deed_of_session config (Delete number) = changes (context_refusal number s) Deleted (OfSession (context_deleted number s))
  deed_of_session config (Put number key value) = changes (session_put_refusal config number key s) Started (OfSession (request_begun number (Write key value) s))
  deed_of_session config (Get number keys) = changes (get_refusal config number keys s) Started (OfSession (request_begun number (Fetch keys) s))
  deed_of_session config (Show number) = shows (context_refusal number s) (Lists (all_of (obs_of number s)) (near_of (obs_of number s)))

deed_found : (config : TenantConfig) (name : List ℕ) (deed : Deed) (cluster : SoloCluster) (actor : Actor) → HaveDistinctNames cluster.actors → find_actor name cluster ≡ Some actor →
    Agrees name cluster (deed_step config name deed cluster) (actor_does config deed actor)
deed_found config name deed cluster (OfSession s) distinct found =
    subst (λ o. Agrees name cluster (on_session (option_and_then session_in o) cluster (session_deed config name cluster deed)) (session_does config s deed)) (sym found)
    (deed_of_session name cluster distinct s found config deed)
deed_found config name deed cluster (OfCarrier c) distinct found =
    subst (λ o. Agrees name cluster (on_session (option_and_then session_in o) cluster (session_deed config name cluster deed)) (actor_turn (Refused UnknownName) (OfCarrier c))) (sym found)
    (record { reply_is = refl; actors_are = sym (with_actor-same name (OfCarrier c) cluster distinct found); nodes_stay = refl })

-- what is not refused of the actor is not refused of the cluster
pub deed_unrefused : (old : World) (slot : ℕ) (name : List ℕ) (deed : Deed) (before : Kept) → old.actors (record { slot = slot; name = name }) ≡ Some before → (cluster : SoloCluster) → ClusterStandsAt old slot cluster →
    ((solo : Actor) → ActorStandsFor (config_in old.setup slot) before solo → is_refusal (actor_does (config_in old.setup slot) deed solo).reply ≡ false) → is_refusal (deed_step (config_in old.setup slot) name deed cluster).reply ≡ false
deed_unrefused old slot name deed before there cluster h unrefused =
    let config = config_in old.setup slot in
    let kept : List ℕ → Option Kept = λ n. old.actors (record { slot = slot; name = n }) in
    let solo = found_too (ActorStandsFor config) name kept kept cluster h.actors_are before there in
    ap is_refusal (deed_found config name deed cluster solo.0 h.actors_are.distinct solo.1).reply_is ∙ unrefused solo.0 solo.2

deed_absent : (config : TenantConfig) (name : List ℕ) (deed : Deed) (cluster : SoloCluster) → find_actor name cluster ≡ None → deed_step config name deed cluster ≡ reply_with (Refused UnknownName) cluster
deed_absent config name deed cluster none = ap (λ o. on_session (option_and_then session_in o) cluster (session_deed config name cluster deed)) none

-- ---- what is not touched

-- the actors of a cluster are all that their standing looks at
pub actors_alone : {A : Type 0} (Stands : A → Actor → Type 0) (kept : List ℕ → Option A) (one other : SoloCluster) → one.actors ≡ other.actors → ActorsStandFor Stands kept one → ActorsStandFor Stands kept other
actors_alone Stands kept one other same h = record {
  same = λ name. subst (λ (actors : List NamedActor). AreSame Stands (kept name) (option_map (λ a. a.actor) (find (λ a. key_eq a.name name) actors))) same (h.same name);
  distinct = subst HaveDistinctNames same h.distinct;
}

-- the same actors by name
pub kept_alike : {A : Type 0} (Stands : A → Actor → Type 0) (one other : List ℕ → Option A) (cluster : SoloCluster) → ((name : List ℕ) → other name ≡ one name) → ActorsStandFor Stands one cluster → ActorsStandFor Stands other cluster
kept_alike Stands one other cluster same h = record { same = λ name. subst (λ o. AreSame Stands o (find_actor name cluster)) (sym (same name)) (h.same name); distinct = h.distinct }

-- the actors of another tenant stay where one tenant's change
pub others_stay : (old : World) (nodes : Cluster) (actors : ActorId → Option Kept) (count : ℕ → ℕ) (slot other : ℕ) → slot ≢ other →
    ((config : TenantConfig) → nodes_of config other nodes ≡ nodes_of config other old.nodes) → ((config : TenantConfig) → HasTenant config other old.nodes → HasTenant config other nodes) →
    ((q : ActorId) → slot ≢ q.slot → actors q ≡ old.actors q) → count other ≡ old.count other →
    (cluster : SoloCluster) → ClusterStandsAt old other cluster → ClusterStandsAt (record old { nodes = nodes; actors = actors; count = count }) other cluster
others_stay old nodes actors count slot other differ same_nodes keeps same_actors same_count cluster h = record {
  open_there = h.open_there;
  has = keeps (config_in old.setup other) h.has;
  nodes_are = same_nodes (config_in old.setup other) ∙ h.nodes_are;
  actors_are = kept_alike (ActorStandsFor (config_in old.setup other)) (λ name. old.actors (record { slot = other; name = name })) (λ name. actors (record { slot = other; name = name })) cluster
      (λ name. same_actors (record { slot = other; name = name }) differ) h.actors_are;
  count_is = same_count ∙ h.count_is;
}

-- ---- a deed on the world

abbrev id_of : ℕ → List ℕ → ActorId
id_of slot name = record { slot = slot; name = name }

same_answer : (answered : Result Reply AllocError) (one other : Reply) → answered ≡ Ok one → answered ≡ Ok other → one ≡ other
same_answer answered one other is too = cc

-- what was done in the tables
pub record DoneAt (old : World) (id : ActorId) (actors : ActorId → Option Kept) (count : ℕ → ℕ) (deed : Deed) (answered : Result Reply AllocError) : Type 0 where
  pub found : (before : Kept) → old.actors id ≡ Some before → (after : Kept) × (((q : ActorId) → actors q ≡ cond (same_actor id q) (Some after) (old.actors q))
      × ((config : TenantConfig) (solo : Actor) → ActorStandsFor config before solo → HasDone config (actor_does config deed solo) answered after))
  pub absent : old.actors id ≡ None → (answered ≡ Ok (Refused UnknownName)) × (actors ≡ old.actors)
  pub counts : (slot : ℕ) → count slot ≡ old.count slot

module _ (old : World) (slot : ℕ) (name : List ℕ) (actors : ActorId → Option Kept) (count : ℕ → ℕ) (deed : Deed) (answered : Result Reply AllocError) (done : DoneAt old (id_of slot name) actors count deed answered) where
  abbrev new_world : World
  new_world = record old { actors = actors; count = count }

  deed_own : (reply : Reply) → answered ≡ Ok reply → (cluster : SoloCluster) → ClusterStandsAt old slot cluster →
      (reply ≡ (deed_step (config_in old.setup slot) name deed cluster).reply) × ClusterStandsAt new_world slot (deed_step (config_in old.setup slot) name deed cluster).after
  deed_own reply is cluster h = by_actor (old.actors (id_of slot name)) refl
    where
      config : TenantConfig
      config = config_in old.setup slot

      Own : ActEffect → Type 0
      Own turn = (reply ≡ turn.reply) × ClusterStandsAt new_world slot turn.after

      by_actor : (o : Option Kept) → old.actors (id_of slot name) ≡ o → Own (deed_step config name deed cluster)
      by_actor None none =
          let gone = absent_too (ActorStandsFor config) name (λ n. old.actors (id_of slot n)) (λ n. actors (id_of slot n)) cluster h.actors_are none in
          let same = done.absent none in
          subst Own (sym (deed_absent config name deed cluster gone)) (
            same_answer answered reply (Refused UnknownName) is same.0,
            record {
              open_there = h.open_there;
              has = h.has;
              nodes_are = h.nodes_are;
              actors_are = kept_alike (ActorStandsFor config) (λ n. old.actors (id_of slot n)) (λ n. actors (id_of slot n)) cluster (λ n. ap (λ f. f (id_of slot n)) same.1) h.actors_are;
              count_is = done.counts slot ∙ h.count_is;
            },
          )
      by_actor (Some before) there =
          let solo = found_too (ActorStandsFor config) name (λ n. old.actors (id_of slot n)) (λ n. actors (id_of slot n)) cluster h.actors_are before there in
          let did = done.found before there in
          let turn = deed_found config name deed cluster solo.0 h.actors_are.distinct solo.1 in
          let own = IfOk-at_ok (λ reply. (reply ≡ (actor_does config deed solo.0).reply) × ActorStandsFor config did.0 (actor_does config deed solo.0).after) is (did.1.1 config solo.0 solo.2) in
          let here : actors (id_of slot name) ≡ Some did.0 = did.1.0 (id_of slot name) ∙ rw (same_actor-refl (id_of slot name)) refl in
          let placed = put_in_place (ActorStandsFor config) name (λ n. old.actors (id_of slot n)) (λ n. actors (id_of slot n)) cluster h.actors_are did.0 (actor_does config deed solo.0).after solo.0 solo.1 here
          (λ other apart. did.1.0 (id_of slot other) ∙ rw (other_name slot name other apart) refl) own.1 in (
            own.0 ∙ sym turn.reply_is,
            record {
              open_there = h.open_there;
              has = h.has;
              nodes_are = h.nodes_are ∙ sym turn.nodes_stay;
              actors_are = actors_alone (ActorStandsFor config) (λ n. actors (id_of slot n)) (with_actor name (actor_does config deed solo.0).after cluster) (deed_step config name deed cluster).after (sym turn.actors_are) placed;
              count_is = done.counts slot ∙ h.count_is ∙ sym (count-with_actor name (actor_does config deed solo.0).after cluster) ∙ ap length (sym turn.actors_are);
            },
          )

  deed_actors : (q : ActorId) → slot ≢ q.slot → actors q ≡ old.actors q
  deed_actors q differ = by_actor (old.actors (id_of slot name)) refl
    where
      by_actor : (o : Option Kept) → old.actors (id_of slot name) ≡ o → actors q ≡ old.actors q
      by_actor None none = ap (λ f. f q) (done.absent none).1
      by_actor (Some before) there = (done.found before there).1.0 q ∙ rw (other_slot (id_of slot name) q differ) refl

  pub deed_moves : Moves AnyReply (λ config. deed_step config name deed) old slot answered new_world
  deed_moves = record {
    same = refl;
    own = if_answered (λ reply. AnyReply reply → (cluster : SoloCluster) → ClusterStandsAt old slot cluster →
        (reply ≡ (deed_step (config_in old.setup slot) name deed cluster).reply) × ClusterStandsAt new_world slot (deed_step (config_in old.setup slot) name deed cluster).after) answered
        (λ reply is exact. deed_own reply is);
    others = λ other differ. others_stay old old.nodes actors count slot other differ (λ config. refl) (λ config has. has) deed_actors (done.counts other);
  }

-- A new actor in the world, and a refusal.
use Rattle.std.proofs.Common.{◌≡◌, ◌≢◌, ℕ, ◌+◌, Bool, true, false, cond, not, List, [], ◌∷◌, length, refl, sym, subst, ap, ◌∙◌}
use Rattle.std.specs.Prelude.{Option, Some, None, Result, Ok, Err, is_some, nat_le}
use Rattle.std.specs.declared.alloc.AllocError.{AllocError}
use Rattle.std.proofs.lemmas.Result.{IfOk-weaker}
use Rattle.cops_types.specs.declared.faults.Fault.{Fault}
use Rattle.cops_types.specs.declared.faults.Fault.TheVariants.{NoSuchPlace, NameTaken, ActorsFull}
use Rattle.cops_types.specs.Search.{first_refusal}
use Rattle.cops_types.specs.TenantConfig.{TenantConfig}
use Rattle.cops_model.specs.declared.replies.Reply.{Reply}
use Rattle.cops_model.specs.declared.replies.Reply.TheVariants.{Refused}
use Rattle.cops_model.specs.Cluster.{ActEffect, Actor, SoloCluster, actor_refusal, reply_with, unless_refused, with_new_actor}
use Rattle.cops_model.specs.Lacks.{is_refusal}
use Rattle.cops_model.specs.Setups.{config_in}
use Rattle.cops_world.specs.declared.actors.Actor.{Actor as Kept}
use Rattle.cops_world.specs.declared.actors.ActorId.{ActorId}
use Rattle.cops_world.specs.ActorsStand.{ActorStandsFor}
use Rattle.cops_world.specs.ActorTables.{same_actor}
use Rattle.cops_world.specs.Worlds.{AnyReply, ClusterStandsAt, Moves, World, join_step}
use Rattle.cops_world.proofs.ActorMoves.{absent_too, found_too, joins, count-joined}
use Rattle.cops_world.proofs.ActorTableLemmas.{same_actor-refl, other_slot, other_name}
use Rattle.cops_world.proofs.WorldMoves.{others_stay}

abbrev id_of : ℕ → List ℕ → ActorId
id_of slot name = record { slot = slot; name = name }

-- ---- refusals

-- an act that is refused leaves the world
pub refused_moves : (Exact : Reply → Type 0) (turn_of : TenantConfig → SoloCluster → ActEffect) (old : World) (slot : ℕ) (fault : Fault) →
    ((cluster : SoloCluster) → ClusterStandsAt old slot cluster → turn_of (config_in old.setup slot) cluster ≡ reply_with (Refused fault) cluster) → Moves Exact turn_of old slot (Ok (Refused fault)) old
refused_moves Exact turn_of old slot fault refuses = record {
  same = refl;
  own = λ exact cluster h.
      let is = refuses cluster h in
      (ap (λ (t : ActEffect). t.reply) (sym is), subst (λ (t : ActEffect). ClusterStandsAt old slot t.after) (sym is) h);
  others = λ other differ cluster h. h;
}

-- any act may run out of memory and leave the world as it is
pub lack_moves : (Exact : Reply → Type 0) (turn_of : TenantConfig → SoloCluster → ActEffect) (old : World) (slot : ℕ) (error : AllocError) (new : World) → new ≡ old → Moves Exact turn_of old slot (Err error) new
lack_moves Exact turn_of old slot error new same = subst (Moves Exact turn_of old slot (Err error)) (sym same) (record { same = refl; own = tt; others = λ other differ cluster h. h })

-- the same turns by another name
pub same_moves : (Exact : Reply → Type 0) (one other : TenantConfig → SoloCluster → ActEffect) (old : World) (slot : ℕ) (answered : Result Reply AllocError) (new : World) →
    ((cluster : SoloCluster) → one (config_in old.setup slot) cluster ≡ other (config_in old.setup slot) cluster) → Moves Exact one old slot answered new → Moves Exact other old slot answered new
same_moves Exact one other old slot answered new same h = record {
  same = h.same;
  own = IfOk-weaker answered _ _ (λ reply own exact cluster stands.
      subst (λ (t : ActEffect). (reply ≡ t.reply) × ClusterStandsAt new slot t.after) (same cluster) (own exact cluster stands)) h.own;
  others = h.others;
}

-- ---- a new actor

module _ (old : World) (slot : ℕ) (name : List ℕ) (solo : Actor) (reply : Reply) where
  taken_refuses : (kept : Kept) → old.actors (id_of slot name) ≡ Some kept → (cluster : SoloCluster) → ClusterStandsAt old slot cluster → join_step name solo reply (config_in old.setup slot) cluster ≡ reply_with (Refused NameTaken) cluster
  taken_refuses kept there cluster h =
      let found = found_too (ActorStandsFor (config_in old.setup slot)) name (λ n. old.actors (id_of slot n)) (λ n. old.actors (id_of slot n)) cluster h.actors_are kept there in
      ap (λ o. unless_refused (first_refusal ((not true, NoSuchPlace) ∷ (is_some o, NameTaken) ∷ (nat_le (config_in old.setup slot).quota.actors (length cluster.actors), ActorsFull) ∷ [])) cluster (reply_with reply (with_new_actor name solo cluster))) found.1

  pub room_joins : old.actors (id_of slot name) ≡ None → nat_le (config_in old.setup slot).quota.actors (old.count slot) ≡ false → (cluster : SoloCluster) → ClusterStandsAt old slot cluster →
      join_step name solo reply (config_in old.setup slot) cluster ≡ reply_with reply (with_new_actor name solo cluster)
  room_joins none room cluster h =
      let gone = absent_too (ActorStandsFor (config_in old.setup slot)) name (λ n. old.actors (id_of slot n)) (λ n. old.actors (id_of slot n)) cluster h.actors_are none in
      (λ i. unless_refused (first_refusal ((not true, NoSuchPlace) ∷ (is_some (gone i), NameTaken) ∷ (nat_le (config_in old.setup slot).quota.actors (sym h.count_is i), ActorsFull) ∷ [])) cluster (reply_with reply (with_new_actor name solo cluster)))
      ∙ ap (λ b. unless_refused (first_refusal ((not true, NoSuchPlace) ∷ (false, NameTaken) ∷ (b, ActorsFull) ∷ [])) cluster (reply_with reply (with_new_actor name solo cluster))) room

  pub taken_moves : (kept : Kept) → old.actors (id_of slot name) ≡ Some kept → Moves AnyReply (join_step name solo reply) old slot (Ok (Refused NameTaken)) old
  taken_moves kept there = refused_moves AnyReply (join_step name solo reply) old slot NameTaken (taken_refuses kept there)

  pub join_moves : (kept : Kept) (actors : ActorId → Option Kept) (count : ℕ → ℕ) → ActorStandsFor (config_in old.setup slot) kept solo → old.actors (id_of slot name) ≡ None →
      nat_le (config_in old.setup slot).quota.actors (old.count slot) ≡ false → count slot ≡ old.count slot + 1 → ((other : ℕ) → slot ≢ other → count other ≡ old.count other) →
      ((q : ActorId) → actors q ≡ cond (same_actor (id_of slot name) q) (Some kept) (old.actors q)) →
      Moves AnyReply (join_step name solo reply) old slot (Ok reply) (record old { actors = actors; count = count })
  join_moves kept actors count stands none room more others_count updates = record {
    same = refl;
    own = λ exact cluster h.
        let is = room_joins none room cluster h in
        let here : actors (id_of slot name) ≡ Some kept = updates (id_of slot name) ∙ rw (same_actor-refl (id_of slot name)) refl in
        let joined = joins (ActorStandsFor (config_in old.setup slot)) name (λ n. old.actors (id_of slot n)) (λ n. actors (id_of slot n)) cluster h.actors_are kept solo none here
        (λ other apart. updates (id_of slot other) ∙ rw (other_name slot name other apart) refl) stands in (
          ap (λ (t : ActEffect). t.reply) (sym is),
          subst (λ (t : ActEffect). ClusterStandsAt (record old { actors = actors; count = count }) slot t.after) (sym is) (record {
            open_there = h.open_there;
            has = h.has;
            nodes_are = h.nodes_are;
            actors_are = joined;
            count_is = more ∙ ap (λ n. n + 1) h.count_is ∙ sym (count-joined name solo cluster);
          }),
        );
    others = λ other differ. others_stay old old.nodes actors count slot other differ (λ config. refl) (λ config has. has)
        (λ q apart. updates q ∙ rw (other_slot (id_of slot name) q apart) refl) (others_count other differ);
  }

-- a new actor for which memory was refused is one that may join
pub join_leaves : (old : World) (slot : ℕ) (name : List ℕ) (exists : TenantConfig → Bool) (solo : Actor) (told : Reply) → is_refusal told ≡ false → exists (config_in old.setup slot) ≡ true → old.actors (id_of slot name) ≡ None →
    nat_le (config_in old.setup slot).quota.actors (old.count slot) ≡ false → (cluster : SoloCluster) → ClusterStandsAt old slot cluster →
    is_refusal (unless_refused (actor_refusal (config_in old.setup slot) (exists (config_in old.setup slot)) name cluster) cluster (reply_with told (with_new_actor name solo cluster))).reply ≡ false
join_leaves old slot name exists solo told fine there none room cluster h =
    ap (λ b. is_refusal (unless_refused (actor_refusal (config_in old.setup slot) b name cluster) cluster (reply_with told (with_new_actor name solo cluster))).reply) there
    ∙ ap (λ (t : ActEffect). is_refusal t.reply) (room_joins old slot name solo told none room cluster h) ∙ fine

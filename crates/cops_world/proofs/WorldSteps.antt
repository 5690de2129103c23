-- A step of an actor, steps in a row, and a collection, in the world.
use Rattle.std.proofs.Common.{◌≡◌, ◌≢◌, ◌⊎◌, inl, inr, ℕ, zero, suc, ◌+◌, Bool, true, false, cond, List, length, refl, sym, subst, ap, ◌∙◌, arith}
use Rattle.std.specs.Prelude.{Option, Some, None, Result, Ok, nat_lt, slice_index_or, slice_set}
use Rattle.std.specs.declared.alloc.AllocError.{AllocError}
use Rattle.std.proofs.lemmas.Result.{IfOk-at_ok, IfOk-weaker}
use Rattle.cops_types.specs.declared.faults.Fault.TheVariants.{AuditFull, OutOfMemory, UnknownName}
use Rattle.cops_types.specs.TenantConfig.{TenantConfig}
use Rattle.cops_model.specs.declared.calls.NodeCall.{NodeCall}
use Rattle.cops_model.specs.declared.calls.NodeCall.TheVariants as node_call
use Rattle.cops_model.specs.declared.calls.NodeId.{NodeId}
use Rattle.cops_model.specs.declared.calls.NodeReply.{NodeReply}
use Rattle.cops_model.specs.declared.calls.NodeReply.TheVariants as node_reply
use Rattle.cops_node.specs.Clusters.{Cluster, HasTenant, nodes_of, IsCall, IsTurnOf, solo_at}
use Rattle.cops_model.specs.Log.{Next, Call, Restart, Ended}
use Rattle.cops_model.specs.Place.{node_number, place_of}
use Rattle.cops_model.specs.SoloNode.{SoloNode, new_node}
use Rattle.cops_model.specs.Step.{node_step}
use Rattle.cops_model.specs.declared.requests.Answer.{Answer}
use Rattle.cops_model.specs.declared.requests.Progress.{Progress}
use Rattle.cops_session.specs.Kept.{KeptSession}
use Rattle.cops_model.specs.Request.{next}
use Rattle.cops_model.specs.Session.{Session, Running, request_of, moment_at}
use Rattle.cops_session.specs.Stepping.{TellsNext}
use Rattle.cops_model.specs.declared.replies.Reply.{Reply}
use Rattle.cops_model.specs.declared.replies.Reply.TheVariants.{Refused}
use Rattle.cops_model.specs.Cluster.{ActEffect, Actor, OfCarrier, OfSession, SoloCluster, actor_step, actor_steps, collect_at, find_actor, goes_on, reply_of_collect, step_of, with_actor, without_actor}
use Rattle.cops_model.specs.Events.{is_out_of_memory}
use Rattle.cops_model.specs.Setups.{Setup, config_in}
use Rattle.cops_world.specs.declared.actors.Actor.{Actor as Kept}
use Rattle.cops_world.specs.declared.actors.Actor.TheVariants as kept
use Rattle.cops_world.specs.declared.actors.ActorId.{ActorId}
use Rattle.cops_world.specs.Actors.{ActorsStandFor}
use Rattle.cops_world.specs.ActorsStand.{ActorStandsFor, ActorSteps, SessionSteps, NodesTurn, IsAfter, StepsCluster, Stepped}
use Rattle.cops_world.specs.ActorTables.{same_actor}
use Rattle.cops_script.specs.Acting.{IsSparedReply, told_act}
use Rattle.cops_script.proofs.ToldActs.{if_answered, if_told, of_told}
use Rattle.cops_world.specs.Worlds.{AnyReply, ClusterStandsAt, IsWorld, Moves, World}
use Rattle.cops_world.proofs.ActorMoves.{absent_too, found_too, put_in_place, leaves, count-with_actor, count-without}
use Rattle.cops_world.proofs.ActorTableLemmas.{same_actor-refl, other_slot, other_name}
use Rattle.cops_world.proofs.ClusterSteps.{actor_turn}
use Rattle.cops_world.proofs.WorldJoins.{refused_moves}
use Rattle.cops_world.proofs.WorldMoves.{actors_alone, others_stay}

abbrev id_of : ℕ → List ℕ → ActorId
id_of slot name = record { slot = slot; name = name }

-- ---- calls at the nodes

-- memory is refused only to a call that the audit has room for
pub room_for : (config : TenantConfig) (old new : Cluster) (slot at : ℕ) (id : NodeId) (call : NodeCall) (reply : NodeReply) → config.shards ≡ old.shape.shards → HasTenant config slot old →
    IsCall old id slot at call reply new → reply ≡ node_reply.Refused OutOfMemory → nat_lt (length (solo_at config id slot old).trail) config.quota.audit ≡ true
room_for config old new slot at id call reply shards has h lack = by (nat_lt (length (solo_at config id slot old).trail) config.quota.audit) refl
  where
    by : (b : Bool) → nat_lt (length (solo_at config id slot old).trail) config.quota.audit ≡ b → b ≡ true
    by true is = refl
    by false is = let clash : node_reply.Refused OutOfMemory ≡ node_reply.Refused AuditFull = sym lack ∙ h.full config shards has is in absurd cc

-- what a call does for its tenant
call_turns : (config : TenantConfig) (old new : Cluster) (slot at : ℕ) (id : NodeId) (call : NodeCall) (reply : NodeReply) → config.shards ≡ old.shape.shards → HasTenant config slot old →
    IsCall old id slot at call reply new → NodesTurn config (nodes_of config slot old) (nodes_of config slot new) at id call reply
call_turns config old new slot at id call reply shards has h = elim h.turn [
  | inl lack ↦ inl (lack.0, room_for config old new slot at id call reply shards has h lack.0, ap (nodes_of config slot) lack.1)
  | inr turn ↦ let is = turn config shards has in inr (is.reply_is, is.after)
]

-- a weaker word for what was called serves a step as well
module _ (called weaker : ℕ → NodeId → NodeCall → NodeReply → Type 0) (stays lasts : Type 0) (weakens : (at : ℕ) (id : NodeId) (call : NodeCall) (reply : NodeReply) → called at id call reply → weaker at id call reply) (outlasts : stays → lasts) where
  tells_weaker : (config : TenantConfig) (session : Session) (running : Running) (at : ℕ) (told : Result Progress AllocError) (after : KeptSession) (n : Next Answer) →
      TellsNext (called at) stays config session running at told after n → TellsNext (weaker at) lasts config session running at told after n
  tells_weaker config session running at told after (Call d) (reply, made, stepped) = (reply, weakens at d.node d.call reply made, stepped)
  tells_weaker config session running at told after Restart (stood, stepped) = (outlasts stood, stepped)
  tells_weaker config session running at told after (Ended a) none = absurd none

  session_weaker : (config : TenantConfig) (session : Session) (moment : ℕ) (answered : Result Reply AllocError) (after : KeptSession) (running : Option Running) →
      SessionSteps called stays config session moment answered after running → SessionSteps weaker lasts config session moment answered after running
  session_weaker config session moment answered after None (is, stood, stands) = (is, outlasts stood, stands)
  session_weaker config session moment answered after (Some running) (told, is, tells) =
      (told, is, tells_weaker config session running (moment_at moment session) told after (next config (request_of session running) running.log (moment_at moment session)) tells)

  steps_weaker : (config : TenantConfig) (moment : ℕ) (stepped : Stepped) (solo : Actor) (after : Kept) → ActorSteps called stays config moment stepped solo after → ActorSteps weaker lasts config moment stepped solo after
  steps_weaker config moment stepped (OfSession session) (kept.OfSession after) (steps, is) = (session_weaker config session moment stepped.answered after session.running steps, is)
  steps_weaker config moment stepped (OfCarrier carrier) (kept.OfCarrier after) p = record {
    directed = p.directed;
    reply = p.reply;
    told = p.told;
    made = weakens _ p.directed.node p.directed.call p.reply p.made;
    step_of = p.step_of;
    answer_is = p.answer_is;
    over_is = p.over_is;
  }
  steps_weaker config moment stepped (OfSession session) (kept.OfCarrier after) none = absurd none
  steps_weaker config moment stepped (OfCarrier carrier) (kept.OfSession after) none = absurd none

-- ---- one step

-- the nodes stay, or one call was made for this tenant
abbrev pub CalledOnce : Cluster → ℕ → Cluster → Type 0
CalledOnce old slot new = (new ≡ old) ⊎ ((node : NodeId) × (at : ℕ) × (call : NodeCall) × (reply : NodeReply) × IsCall old node slot at call reply new)

once_nodes : (old new : Cluster) (slot other : ℕ) → slot ≢ other → CalledOnce old slot new → (config : TenantConfig) → nodes_of config other new ≡ nodes_of config other old
once_nodes old new slot other differ (inl same) config = ap (nodes_of config other) same
once_nodes old new slot other differ (inr (node, at, call, reply, h)) config = h.others config other (λ same. differ (sym same))

once_tenants : (old new : Cluster) (slot other : ℕ) → CalledOnce old slot new → (config : TenantConfig) → HasTenant config other old → HasTenant config other new
once_tenants old new slot other (inl same) config has = subst (HasTenant config other) (sym same) has
once_tenants old new slot other (inr (node, at, call, reply, h)) config has = h.tenants config other has

-- the table after a step: the actor is put in its place, or taken out where it is over
abbrev pub table_after : Bool → (ActorId → Option Kept) → ActorId → Kept → ActorId → Option Kept
table_after false actors id after q = cond (same_actor id q) (Some after) (actors q)
table_after true actors id after q = cond (same_actor id q) None (actors q)

-- how many actors each slot has then: one less where it is over
pub record CountsAfter (over : Bool) (old : ℕ → ℕ) (slot : ℕ) (new : ℕ → ℕ) : Type 0 where
  pub own : new slot + cond over 1 0 ≡ old slot
  pub others : (other : ℕ) → slot ≢ other → new other ≡ old other

-- what a step was
pub record HasSteppedAt (old : World) (slot : ℕ) (name : List ℕ) (moment : ℕ) (stepped : Stepped) (nodes : Cluster) (before after : Kept) : Type 0 where
  pub there : old.actors (id_of slot name) ≡ Some before
  pub steps : (config : TenantConfig) (solo : Actor) → ActorStandsFor config before solo →
      ActorSteps (λ at node call reply. IsCall old.nodes node slot at call reply nodes) (nodes ≡ old.nodes) config moment stepped solo after
  pub once : CalledOnce old.nodes slot nodes

module _ (old : World) (whole : IsWorld old) (slot : ℕ) (name : List ℕ) (moment : ℕ) (stepped : Stepped) (nodes : Cluster) (before after : Kept) (h : HasSteppedAt old slot name moment stepped nodes before after)
    (actors : ActorId → Option Kept) (updates : (q : ActorId) → actors q ≡ table_after stepped.is_over old.actors (id_of slot name) after q)
    (count : ℕ → ℕ) (counts : CountsAfter stepped.is_over old.count slot count) where
  abbrev config_of_slot : TenantConfig
  config_of_slot = config_in old.setup slot

  abbrev stepped_world : World
  stepped_world = record old { nodes = nodes; actors = actors; count = count }

  table_elsewhere : (over : Bool) (q : ActorId) → same_actor (id_of slot name) q ≡ false → table_after over old.actors (id_of slot name) after q ≡ old.actors q
  table_elsewhere false q apart = rw apart refl
  table_elsewhere true q apart = rw apart refl

  table_here : (over : Bool) → table_after over old.actors (id_of slot name) after (id_of slot name) ≡ cond over None (Some after)
  table_here false = rw (same_actor-refl (id_of slot name)) refl
  table_here true = rw (same_actor-refl (id_of slot name)) refl

  -- the tenant's own cluster
  pub stands_after : (cluster : SoloCluster) (solo : Actor) (turn : ActEffect) → ClusterStandsAt old slot cluster → find_actor name cluster ≡ Some solo → StepsCluster config_of_slot name cluster (nodes_of config_of_slot slot nodes) turn stepped after →
      ClusterStandsAt stepped_world slot turn.after
  stands_after cluster solo turn stood found took = record {
    open_there = stood.open_there;
    has = once_tenants old.nodes nodes slot slot h.once config_of_slot stood.has;
    nodes_are = sym took.nodes_are;
    actors_are = by_end stepped.is_over refl;
    count_is = count_end stepped.is_over refl;
  }
    where
      others : (other : List ℕ) → same_actor (id_of slot name) (id_of slot other) ≡ false → actors (id_of slot other) ≡ old.actors (id_of slot other)
      others other apart = updates (id_of slot other) ∙ table_elsewhere stepped.is_over (id_of slot other) apart

      by_end : (over : Bool) → stepped.is_over ≡ over → ActorsStandFor (ActorStandsFor config_of_slot) (λ n. actors (id_of slot n)) turn.after
      by_end false e =
          let is = subst (IsAfter config_of_slot name cluster turn.after after) e took.actors_are in
          actors_alone (ActorStandsFor config_of_slot) (λ n. actors (id_of slot n)) (with_actor name is.0 cluster) turn.after (sym is.1)
          (put_in_place (ActorStandsFor config_of_slot) name (λ n. old.actors (id_of slot n)) (λ n. actors (id_of slot n)) cluster stood.actors_are after is.0 solo found
          (updates (id_of slot name) ∙ table_here stepped.is_over ∙ ap (λ b. cond b None (Some after)) e)
          (λ other apart. others other (other_name slot name other apart)) is.2)
      by_end true e =
          let is = subst (IsAfter config_of_slot name cluster turn.after after) e took.actors_are in
          actors_alone (ActorStandsFor config_of_slot) (λ n. actors (id_of slot n)) (without_actor name cluster) turn.after (sym is)
          (leaves (ActorStandsFor config_of_slot) name (λ n. old.actors (id_of slot n)) (λ n. actors (id_of slot n)) cluster stood.actors_are
          (updates (id_of slot name) ∙ table_here stepped.is_over ∙ ap (λ b. cond b None (Some after)) e)
          (λ other apart. others other (other_name slot name other apart)))

      count_end : (over : Bool) → stepped.is_over ≡ over → count slot ≡ length turn.after.actors
      count_end false e =
          let is = subst (IsAfter config_of_slot name cluster turn.after after) e took.actors_are in
          let same = subst (λ b. count slot + cond b 1 0 ≡ old.count slot) e counts.own in
          none_less ∙ same ∙ stood.count_is ∙ sym (count-with_actor name is.0 cluster) ∙ ap length (sym is.1)
        where
          none_less : count slot ≡ count slot + 0
          none_less = omega arith
      count_end true e =
          let is = subst (IsAfter config_of_slot name cluster turn.after after) e took.actors_are in
          let one_less = count-without name cluster solo stood.actors_are.distinct found in
          let same = subst (λ b. count slot + cond b 1 0 ≡ old.count slot) e counts.own in
          one_more (count slot) (length (without_actor name cluster).actors) (same ∙ stood.count_is ∙ sym one_less) ∙ ap length (sym is)
        where
          one_more : (n m : ℕ) → n + 1 ≡ m + 1 → n ≡ m
          one_more n m h = omega arith

  -- the actor of the tenant's own cluster takes this step
  pub solo_steps : config_of_slot.shards ≡ old.nodes.shape.shards → (cluster : SoloCluster) → ClusterStandsAt old slot cluster → (solo : Actor) × (find_actor name cluster ≡ Some solo)
      × ActorSteps (NodesTurn config_of_slot cluster.nodes (nodes_of config_of_slot slot nodes)) (nodes_of config_of_slot slot nodes ≡ cluster.nodes) config_of_slot moment stepped solo after
  solo_steps shards cluster stood =
      let solo = found_too (ActorStandsFor config_of_slot) name (λ n. old.actors (id_of slot n)) (λ n. actors (id_of slot n)) cluster stood.actors_are before h.there in (
        solo.0,
        solo.1,
        steps_weaker (λ at node call reply. IsCall old.nodes node slot at call reply nodes) (NodesTurn config_of_slot cluster.nodes (nodes_of config_of_slot slot nodes))
            (nodes ≡ old.nodes) (nodes_of config_of_slot slot nodes ≡ cluster.nodes)
            (λ at node call reply made. subst (λ ns. NodesTurn config_of_slot ns (nodes_of config_of_slot slot nodes) at node call reply) stood.nodes_are (call_turns config_of_slot old.nodes nodes slot at node call reply shards stood.has made))
            (λ stays. ap (nodes_of config_of_slot slot) stays ∙ stood.nodes_are)
            config_of_slot moment stepped solo.0 after (h.steps config_of_slot solo.0 solo.2),
      )

  pub step_moves : (config_in old.setup slot).shards ≡ old.nodes.shape.shards → Moves IsSparedReply (λ config. actor_step config name moment) old slot stepped.answered stepped_world
  step_moves shards = record {
    same = refl;
    own = if_told (λ reply. (cluster : SoloCluster) → ClusterStandsAt old slot cluster →
        let turn = actor_step config_of_slot name moment cluster in (reply ≡ turn.reply) × ClusterStandsAt stepped_world slot turn.after) stepped.answered
        (λ spared cluster stood.
        let solo = solo_steps shards cluster stood in
        let took = actor_turn config_of_slot name cluster (nodes_of config_of_slot slot nodes) moment solo.0 after stepped stood.actors_are.distinct solo.1 spared solo.2 in
        (took.reply_is, stands_after cluster solo.0 (actor_step config_of_slot name moment cluster) stood solo.1 took));
    others = λ other differ. others_stay old nodes actors count slot other differ
        (once_nodes old.nodes nodes slot other differ h.once) (once_tenants old.nodes nodes slot other h.once)
        (λ q apart. updates q ∙ table_elsewhere stepped.is_over q (other_slot (id_of slot name) q apart)) (counts.others other differ);
  }

-- nobody of the name is there
pub absent_step : (old : World) (slot : ℕ) (name : List ℕ) (moment : ℕ) → old.actors (id_of slot name) ≡ None → Moves IsSparedReply (λ config. actor_step config name moment) old slot (Ok (Refused UnknownName)) old
absent_step old slot name moment none = refused_moves IsSparedReply (λ config. actor_step config name moment) old slot UnknownName (λ cluster h.
    let gone = absent_too (ActorStandsFor (config_in old.setup slot)) name (λ n. old.actors (id_of slot n)) (λ n. old.actors (id_of slot n)) cluster h.actors_are none in
    ap (step_of (config_in old.setup slot) name moment cluster) gone)

-- ---- steps in a row

pub goes_on-spared : (reply : Reply) → goes_on reply ≡ true → is_out_of_memory reply ≡ false
goes_on-spared reply e = by (is_out_of_memory reply) refl
  where
    by : (t : Bool) → is_out_of_memory reply ≡ t → t ≡ false
    by false is = refl
    by true is = lack reply is e
      where
        lack : (r : Reply) → is_out_of_memory r ≡ true → goes_on r ≡ true → true ≡ false
        lack (Refused fault) is e = sym e
        lack r is e = sym is

-- a step after which the actor goes on is the definition's
pub stepped_on : (name : List ℕ) (moment : ℕ) (old : World) (slot : ℕ) (first : Result Reply AllocError) (mid : World) → goes_on (told_act first) ≡ true → Moves IsSparedReply (λ config. actor_step config name moment) old slot first mid →
    (cluster : SoloCluster) → ClusterStandsAt old slot cluster → let turn = actor_step (config_in old.setup slot) name moment cluster in (told_act first ≡ turn.reply) × ClusterStandsAt mid slot turn.after
stepped_on name moment old slot first mid goes h =
    of_told IsSparedReply (λ reply. (cluster : SoloCluster) → ClusterStandsAt old slot cluster → let turn = actor_step (config_in old.setup slot) name moment cluster in (reply ≡ turn.reply) × ClusterStandsAt mid slot turn.after)
    first (λ reply spared. spared) h.own (goes_on-spared (told_act first) goes)

-- the first step was the last
pub steps_end : (more : ℕ) (name : List ℕ) (moment : ℕ) (old : World) (slot : ℕ) (answered : Result Reply AllocError) (new : World) → goes_on (told_act answered) ≡ false → Moves IsSparedReply (λ config. actor_step config name moment) old slot answered new →
    Moves IsSparedReply (λ config. actor_steps more config name moment) old slot answered new
steps_end zero name moment old slot answered new ends h = h
steps_end (suc more) name moment old slot answered new ends h = record {
  same = h.same;
  own = if_answered (λ reply. IsSparedReply reply → (cluster : SoloCluster) → ClusterStandsAt old slot cluster →
      let turn = actor_steps (suc more) (config_in old.setup slot) name moment cluster in (reply ≡ turn.reply) × ClusterStandsAt new slot turn.after) answered
      (λ reply is spared cluster stands.
      let turn = actor_step (config_in old.setup slot) name moment cluster in
      let one = IfOk-at_ok (λ reply. IsSparedReply reply → (cluster : SoloCluster) → ClusterStandsAt old slot cluster →
      let turn = actor_step (config_in old.setup slot) name moment cluster in (reply ≡ turn.reply) × ClusterStandsAt new slot turn.after) is h.own spared cluster stands in
      let last : goes_on turn.reply ≡ false = ap goes_on (sym one.0) ∙ ap (λ a. goes_on (told_act a)) (sym is) ∙ ends in
      subst (λ (t : ActEffect). (reply ≡ t.reply) × ClusterStandsAt new slot t.after)
      (sym (ap (λ b. elim b [ true ↦ actor_steps more (config_in old.setup slot) name moment turn.after | false ↦ turn ]) last)) one);
  others = h.others;
}

-- the first step goes on, and the others follow it
pub steps_on : (more : ℕ) (name : List ℕ) (moment : ℕ) (old : World) (slot : ℕ) (first : Result Reply AllocError) (mid : World) (answered : Result Reply AllocError) (new : World) → goes_on (told_act first) ≡ true →
    Moves IsSparedReply (λ config. actor_step config name moment) old slot first mid → Moves IsSparedReply (λ config. actor_steps more config name moment) mid slot answered new →
    Moves IsSparedReply (λ config. actor_steps (suc more) config name moment) old slot answered new
steps_on more name moment old slot first mid answered new goes h later = record {
  same = later.same ∙ h.same;
  own = IfOk-weaker answered _ _ (λ reply later_own spared cluster stands.
      let one = stepped_on name moment old slot first mid goes h cluster stands in
      let turn = actor_step (config_in old.setup slot) name moment cluster in
      let on : goes_on turn.reply ≡ true = ap goes_on (sym one.0) ∙ goes in
      let rest = later_own spared turn.after one.1 in
      subst (λ (t : ActEffect). (reply ≡ t.reply) × ClusterStandsAt new slot t.after)
      (ap (λ (c : Setup). actor_steps more (config_in c slot) name moment turn.after) h.same
      ∙ sym (ap (λ b. elim b [ true ↦ actor_steps more (config_in old.setup slot) name moment turn.after | false ↦ turn ]) on)) rest) later.own;
  others = λ other differ cluster stands. later.others other differ cluster (h.others other differ cluster stands);
}

-- ---- a collection

pub collect_moves : (old : World) (slot : ℕ) (id : NodeId) (moment : ℕ) (answered : NodeReply) (nodes : Cluster) (reply : Reply) → (config_in old.setup slot).shards ≡ old.nodes.shape.shards →
    IsCall old.nodes id slot moment node_call.Collect answered nodes →
    ((config : TenantConfig) → config.shards ≡ old.nodes.shape.shards → HasTenant config slot old.nodes → IsTurnOf config id slot moment node_call.Collect answered old.nodes nodes) →
    reply ≡ reply_of_collect answered → Moves AnyReply (λ config. collect_at config id moment) old slot (Ok reply) (record old { nodes = nodes })
collect_moves old slot id moment answered nodes reply shards made turns is = record {
  same = refl;
  own = λ exact cluster stood. by_turn cluster stood (subst (λ ns. SoloTurn ns) stood.nodes_are (turns_at (turns (config_in old.setup slot) shards stood.has)));
  others = λ other differ. others_stay old nodes old.actors old.count slot other differ (λ config. made.others config other (λ same. differ (sym same))) (λ config. made.tenants config other) (λ q apart. refl) refl;
}
  where
    config : TenantConfig
    config = config_in old.setup slot

    SoloTurn : List SoloNode → Type 0
    SoloTurn before =
        let turn = node_step (place_of config id) moment node_call.Collect (slice_index_or before (node_number config.shards id) (new_node config.data_centres)) in
        (answered ≡ turn.reply) × (nodes_of config slot nodes ≡ slice_set before (node_number config.shards id) turn.after)

    turns_at : IsTurnOf config id slot moment node_call.Collect answered old.nodes nodes → SoloTurn (nodes_of config slot old.nodes)
    turns_at turn = (turn.reply_is, turn.after)

    by_turn : (cluster : SoloCluster) → ClusterStandsAt old slot cluster → SoloTurn cluster.nodes →
        (reply ≡ (collect_at config id moment cluster).reply) × ClusterStandsAt (record old { nodes = nodes }) slot (collect_at config id moment cluster).after
    by_turn cluster stood (reply_is, moved) = (
      is ∙ ap reply_of_collect reply_is,
      record {
        open_there = stood.open_there;
        has = made.tenants config slot stood.has;
        nodes_are = moved;
        actors_are = actors_alone (ActorStandsFor config) (λ n. old.actors (id_of slot n)) cluster (collect_at config id moment cluster).after refl stood.actors_are;
        count_is = stood.count_is;
      },
    )

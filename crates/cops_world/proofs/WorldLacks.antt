-- What is left of a tenant's cluster in the world where memory was refused.
use Rattle.std.proofs.Common.{◌≡◌, inl, inr, ℕ, zero, suc, true, false, not, cond, max, List, [], ◌∷◌, length, refl, sym, subst, ap, ◌∙◌, true≢false}
use Rattle.std.specs.Prelude.{◌≢◌, IsTrue, OnErr, Option, Result, Ok, Err, nat_lt, slice_index_or}
use Rattle.std.specs.declared.alloc.AllocError.{AllocError}
use Rattle.cops_types.specs.declared.faults.Fault.{Fault}
use Rattle.cops_types.specs.declared.faults.Fault.TheVariants.{AuditFull, NoSuchPlace, OutOfMemory}
use Rattle.cops_types.specs.Search.{first_refusal}
use Rattle.cops_types.specs.TenantConfig.{TenantConfig}
use Rattle.cops_model.specs.declared.calls.NodeCall.TheVariants as node_call
use Rattle.cops_model.specs.declared.calls.NodeId.{NodeId}
use Rattle.cops_model.specs.declared.calls.NodeReply.{NodeReply}
use Rattle.cops_model.specs.declared.calls.NodeReply.TheVariants as node_reply
use Rattle.cops_node.specs.Clusters.{Cluster, HasTenant, IsCall, IsTurnOf, nodes_of, solo_at}
use Rattle.cops_model.specs.Place.{Place, node_number, place_of}
use Rattle.cops_node.specs.declared.Shape.{Shape}
use Rattle.cops_model.specs.SoloNode.{SoloNode, new_node}
use Rattle.cops_model.specs.Step.{node_step, effect, audited, unchanged}
use Rattle.cops_model.specs.declared.acts.Act.{Act}
use Rattle.cops_model.specs.declared.replies.Reply.{Reply}
use Rattle.cops_model.specs.declared.acts.Act.TheVariants as acts
use Rattle.cops_model.specs.declared.replies.Reply.TheVariants.{Refused}
use Rattle.cops_model.specs.Session.{Session}
use Rattle.cops_model.specs.Cluster.{SoloCluster, actor_step, collect_at, find_session, goes_on, has_node, reply_of_collect, unless_refused}
use Rattle.cops_model.specs.Events.{is_out_of_memory}
use Rattle.cops_model.specs.Setups.{Setup, config_in, is_open_at}
use Rattle.cops_world.specs.declared.actors.Actor.{Actor as Kept}
use Rattle.cops_world.specs.declared.actors.ActorId.{ActorId}
use Rattle.cops_world.specs.declared.actors.Deed.{Deed}
use Rattle.cops_world.specs.declared.actors.Deed.TheVariants.{Create, Delete, Get, Put, Show}
use Rattle.cops_world.specs.ActorsStand.{ActorStandsFor, Stepped}
use Rattle.cops_world.specs.Deeds.{DeedLacks, deed_step, needs_memory, session_deed}
use Rattle.cops_script.specs.Acting.{IsSparedReply, told_act}
use Rattle.cops_model.specs.Lacks.{Lacks, StepStops, StepsStop, is_refusal}
use Rattle.cops_world.specs.Worlds.{AnyReply, ClusterStandsAt, IsWorld, Leaves, Moves, World}
use Rattle.cops_model.proofs.SparedActs.{collect_spared, create_spared, delete_spared, found_spared, get_spared, put_spared, show_spared}
use Rattle.cops_world.proofs.Stops.{actor_stops}
use Rattle.cops_world.proofs.WorldKeeps.{sizes_in}
use Rattle.cops_world.proofs.WorldMoves.{kept_alike}
use Rattle.cops_world.proofs.WorldSteps.{CountsAfter, HasSteppedAt, room_for, solo_steps, stands_after, stepped_on, table_after}

abbrev id_of : ℕ → List ℕ → ActorId
id_of slot name = record { slot = slot; name = name }

-- ---- nothing to say, or nothing changed

-- the reply does not say that memory was refused
pub spared_leaves : (Left : TenantConfig → SoloCluster → SoloCluster → Type 0) (old : World) (slot : ℕ) (answered : Result Reply AllocError) (new : World) → is_out_of_memory (told_act answered) ≡ false → Leaves Left old slot answered new
spared_leaves Left old slot answered new spared = λ lack. absurd (true≢false (sym lack ∙ spared))

-- memory was refused, and the world is as it was
pub stayed_leaves : (Left : TenantConfig → SoloCluster → SoloCluster → Type 0) (old : World) (slot : ℕ) (answered : Result Reply AllocError) (new : World) → new ≡ old →
    ((cluster : SoloCluster) → ClusterStandsAt old slot cluster → Left (config_in old.setup slot) cluster cluster) → Leaves Left old slot answered new
stayed_leaves Left old slot answered new same left = λ lack cluster stands. (cluster, left cluster stands, subst (λ w. ClusterStandsAt w slot cluster) (sym same) stands)

-- a reply that refuses with another fault
pub fault_spared : (fault : Fault) → fault ≢ OutOfMemory → is_out_of_memory (Refused fault) ≡ false
fault_spared OutOfMemory apart = absurd (apart refl)
fault_spared fault apart = refl

pub on_lack : {P : Type 0} (answered : Result Reply AllocError) → (IsTrue (is_out_of_memory (told_act answered)) → P) → OnErr answered P
on_lack {P} (Ok reply) holds = tt
on_lack {P} (Err error) holds = holds refl

pub on_err_then : {P Q : Type 0} (answered : Result Reply AllocError) → OnErr answered P → (P → Q) → OnErr answered Q
on_err_then {P} {Q} (Ok reply) holds more = tt
on_err_then {P} {Q} (Err error) holds more = more holds

-- ---- deeds

-- the definition never tells that memory was refused
deed_spared : (config : TenantConfig) (name : List ℕ) (deed : Deed) (cluster : SoloCluster) → is_out_of_memory (deed_step config name deed cluster).reply ≡ false
deed_spared config name deed cluster = found_spared (find_session name cluster) cluster (session_deed config name cluster deed) (by_deed deed)
  where
    by_deed : (deed : Deed) (s : Session) → is_out_of_memory (session_deed config name cluster deed s).reply ≡ false
    by_deed Create s = create_spared config name cluster s
    by_deed (Delete number) s = delete_spared config name cluster s number
    by_deed (Put number key value) s = put_spared config name cluster s number key value
    by_deed (Get number keys) s = get_spared config name cluster s number keys
    by_deed (Show number) s = show_spared config name cluster s number

-- each actor is as it was
pub deed_leaves : (old : World) (slot : ℕ) (name : List ℕ) (deed : Deed) (answered : Result Reply AllocError) (actors : ActorId → Option Kept) (count : ℕ → ℕ) →
    Moves AnyReply (λ config. deed_step config name deed) old slot answered (record old { actors = actors; count = count }) → OnErr answered (needs_memory deed ≡ true) →
    OnErr answered ((cluster : SoloCluster) → ClusterStandsAt old slot cluster → is_refusal (deed_step (config_in old.setup slot) name deed cluster).reply ≡ false) →
    OnErr answered ((q : ActorId) → actors q ≡ old.actors q) → count slot ≡ old.count slot → Leaves (DeedLacks name deed) old slot answered (record old { actors = actors; count = count })
deed_leaves old slot name deed (Ok reply) actors count moves needs unrefused stay same = λ lack cluster stands.
    absurd (true≢false (sym lack ∙ ap is_out_of_memory (moves.own tt cluster stands).0 ∙ deed_spared (config_in old.setup slot) name deed cluster))
deed_leaves old slot name deed (Err error) actors count moves needs unrefused stay same = λ lack cluster stands. (
  cluster,
  (needs, unrefused cluster stands, refl),
  record {
    open_there = stands.open_there;
    has = stands.has;
    nodes_are = stands.nodes_are;
    actors_are = kept_alike (ActorStandsFor (config_in old.setup slot)) (λ n. old.actors (id_of slot n)) (λ n. actors (id_of slot n)) cluster (λ n. stay (id_of slot n)) stands.actors_are;
    count_is = same ∙ stands.count_is;
  },
)

-- a deletion is never told that memory was refused
pub delete_leaves : (old : World) (slot : ℕ) (name : List ℕ) (number : ℕ) (answered : Result Reply AllocError) (new : World) → Leaves (DeedLacks name (Delete number)) old slot answered new →
    Leaves (λ config before after. ⊥) old slot answered new
delete_leaves old slot name number answered new left = λ lack cluster stands. let is = left lack cluster stands in absurd (true≢false (sym is.1.0))

-- what is left of a cluster, by another word
pub leaves_too : (one other : TenantConfig → SoloCluster → SoloCluster → Type 0) (old : World) (slot : ℕ) (answered : Result Reply AllocError) (new : World) →
    ((config : TenantConfig) (before after : SoloCluster) → one config before after → other config before after) → Leaves one old slot answered new → Leaves other old slot answered new
leaves_too one other old slot answered new weaker left = λ lack cluster stands. let is = left lack cluster stands in (is.0, weaker (config_in old.setup slot) cluster is.0 is.1, is.2)

-- ---- a collection

-- the definition doesn't refuse it if its audit has room
collect_unrefused : (place : Place) (moment : ℕ) (solo : SoloNode) → nat_lt (length solo.trail) place.quota.audit ≡ true → is_refusal (reply_of_collect (node_step place moment node_call.Collect solo).reply) ≡ false
collect_unrefused place moment solo room =
    ap (λ t. is_refusal (reply_of_collect (cond t (audited moment node_call.Collect (effect place node_call.Collect (record solo { moment = max solo.moment moment }))) (unchanged (node_reply.Refused AuditFull) solo)).reply)) room

module _ (old : World) (slot : ℕ) (id : NodeId) (moment : ℕ) (nodes : Cluster) (shards : (config_in old.setup slot).shards ≡ old.nodes.shape.shards) where
  abbrev collects : TenantConfig → SoloCluster → SoloCluster → Type 0
  collects config before after = Lacks config (acts.Collect id.dc id.shard moment) before after

  pub collect_leaves : (answered : NodeReply) (reply : Reply) →
      ((config : TenantConfig) → config.shards ≡ old.nodes.shape.shards → HasTenant config slot old.nodes → IsTurnOf config id slot moment node_call.Collect answered old.nodes nodes) → reply ≡ reply_of_collect answered →
      Leaves collects old slot (Ok reply) (record old { nodes = nodes })
  collect_leaves answered reply turns is = λ lack cluster stands.
      let config = config_in old.setup slot in
      let turned = (turns config shards stands.has).reply_is in
      absurd (true≢false (sym lack ∙ ap is_out_of_memory (is ∙ ap reply_of_collect turned) ∙ collect_spared (place_of config id) moment (solo_at config id slot old.nodes)))

  pub collect_stops : (error : AllocError) → IsCall old.nodes id slot moment node_call.Collect (node_reply.Refused OutOfMemory) nodes → nodes ≡ old.nodes → has_node (config_in old.setup slot) id.dc id.shard ≡ true →
      Leaves collects old slot (Err error) (record old { nodes = nodes })
  collect_stops error made same there = λ lack cluster stands.
      let config = config_in old.setup slot in
      let room = subst (λ (ns : List SoloNode). nat_lt (length (slice_index_or ns (node_number config.shards id) (new_node config.data_centres)).trail) config.quota.audit ≡ true) stands.nodes_are
      (room_for config old.nodes nodes slot moment id node_call.Collect (node_reply.Refused OutOfMemory) shards stands.has made refl) in (
        cluster,
        (
          ap (λ b. is_refusal (unless_refused (first_refusal ((not b, NoSuchPlace) ∷ [])) cluster (collect_at config id moment cluster)).reply) there
              ∙ collect_unrefused (place_of config id) moment (slice_index_or cluster.nodes (node_number config.shards id) (new_node config.data_centres)) room,
          refl,
        ),
        subst (λ ns. ClusterStandsAt (record old { nodes = ns }) slot cluster) (sym same) stands,
      )

-- ---- steps

-- the step of an actor stopped
step_leaves : (old : World) (whole : IsWorld old) (slot : ℕ) (name : List ℕ) (moment : ℕ) (stepped : Stepped) (nodes : Cluster) (before after : Kept) (h : HasSteppedAt old slot name moment stepped nodes before after)
    (actors : ActorId → Option Kept) (updates : (q : ActorId) → actors q ≡ table_after stepped.is_over old.actors (id_of slot name) after q) (count : ℕ → ℕ) (counts : CountsAfter stepped.is_over old.count slot count) → (config_in old.setup slot).shards ≡ old.nodes.shape.shards →
    Leaves (λ config. StepStops config name moment) old slot stepped.answered (record old { nodes = nodes; actors = actors; count = count })
step_leaves old whole slot name moment stepped nodes before after h actors updates count counts shards = λ lack cluster stands.
    let config = config_in old.setup slot in
    let solo = solo_steps old whole slot name moment stepped nodes before after h actors updates count counts shards cluster stands in
    let left = actor_stops config name cluster (nodes_of config slot nodes) moment solo.0 after stepped solo.1 lack solo.2 in (
      left.0,
      left.1,
      stands_after old whole slot name moment stepped nodes before after h actors updates count counts cluster solo.0 (record { reply = told_act stepped.answered; after = left.0 }) stands solo.1 left.2,
    )

pub steps_world_leaves : (old : World) → IsWorld old → (slot : ℕ) (name : List ℕ) (moment : ℕ) (stepped : Stepped) (nodes : Cluster) (before after : Kept) → HasSteppedAt old slot name moment stepped nodes before after →
    (new : World) → ((q : ActorId) → new.actors q ≡ table_after stepped.is_over old.actors (id_of slot name) after q) → new.setup ≡ old.setup → new.nodes ≡ nodes → CountsAfter stepped.is_over old.count slot new.count →
    IsTrue (is_open_at old.setup slot) → Leaves (λ config. StepStops config name moment) old slot stepped.answered new
steps_world_leaves old whole slot name moment stepped nodes before after h new actors setup_is nodes_are counts within =
    let sizes = sizes_in old.setup slot within in
    subst (Leaves (λ config. StepStops config name moment) old slot stepped.answered) (λ i. record { setup = sym setup_is i; nodes = sym nodes_are i; actors = new.actors; count = new.count })
    (step_leaves old whole slot name moment stepped nodes before after h new.actors actors new.count counts (sizes.shards ∙ sym (ap (λ (s : Shape). s.shards) whole.shape_is)))

-- the first step stopped
pub steps_end_leaves : (more : ℕ) (name : List ℕ) (moment : ℕ) (old : World) (slot : ℕ) (answered : Result Reply AllocError) (new : World) → Leaves (λ config. StepStops config name moment) old slot answered new →
    Leaves (λ config. StepsStop more config name moment) old slot answered new
steps_end_leaves zero name moment old slot answered new h = h
steps_end_leaves (suc more) name moment old slot answered new h = λ lack cluster stands.
    let left = h lack cluster stands in
    (left.0, inl left.1, left.2)

-- the first step goes on, and one of the others stopped
pub steps_on_leaves : (more : ℕ) (name : List ℕ) (moment : ℕ) (old : World) (slot : ℕ) (first : Result Reply AllocError) (mid : World) (answered : Result Reply AllocError) (new : World) → goes_on (told_act first) ≡ true →
    Moves IsSparedReply (λ config. actor_step config name moment) old slot first mid → Leaves (λ config. StepsStop more config name moment) mid slot answered new →
    Leaves (λ config. StepsStop (suc more) config name moment) old slot answered new
steps_on_leaves more name moment old slot first mid answered new goes h later = λ lack cluster stands.
    let one = stepped_on name moment old slot first mid goes h cluster stands in
    let turn = actor_step (config_in old.setup slot) name moment cluster in
    let left = later lack turn.after one.1 in (
      left.0,
      inr (ap goes_on (sym one.0) ∙ goes, subst (λ (c : Setup). StepsStop more (config_in c slot) name moment turn.after left.0) h.same left.1),
      left.2,
    )

-- ---- acts

-- the same act by another name
pub acted_leaves : (old : World) (slot : ℕ) (act other : Act) → act ≡ other → (answered : Result Reply AllocError) (new : World) → Leaves (λ config. Lacks config other) old slot answered new → Leaves (λ config. Lacks config act) old slot answered new
acted_leaves old slot act other same answered new = subst (λ (a : Act). Leaves (λ config. Lacks config a) old slot answered new) (sym same)

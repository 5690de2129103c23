-- The definition never replies that memory ran out to an act that takes no step.
use Rattle.std.proofs.Common.{◌≡◌, ℕ, Bool, true, false, not, cond, ◌&&◌, max, List, [], ◌∷◌, length, refl, sym, true≢false}
use Rattle.std.specs.List.{list_all}
use Rattle.std.specs.Prelude.{Option, Some, None, is_some, nat_le, nat_lt, slice_index_or}
use Rattle.cops_types.specs.declared.faults.Fault.{Fault}
use Rattle.cops_types.specs.declared.faults.Fault.TheVariants.{ActorsFull, AuditFull, BadKey, Busy, DependenciesFull, IdsSpent, NameTaken, NoContext, NoSuchPlace, RepeatedKey, Syntax, TooManyContexts, TooManyKeys, ValueTooLong}
use Rattle.cops_types.specs.Context.{all_of, can_put, near_of}
use Rattle.cops_types.specs.Key.{is_key}
use Rattle.cops_types.specs.Search.{first_refusal}
use Rattle.cops_types.specs.TenantConfig.{TenantConfig}
use Rattle.cops_types.specs.Value.{is_value}
use Rattle.cops_model.specs.declared.acts.Act.{Act}
use Rattle.cops_model.specs.declared.acts.Act.TheVariants.{Open, Create, Delete, Put, Get, Show, Carry, Step, Done, Collect}
use Rattle.cops_model.specs.declared.calls.NodeCall.TheVariants as node_call
use Rattle.cops_model.specs.declared.calls.NodeId.{NodeId}
use Rattle.cops_model.specs.declared.calls.NodeReply.TheVariants as node_reply
use Rattle.cops_model.specs.declared.replies.Reply.TheVariants.{Created, Deleted, Lists, Opened, Refused, Started}
use Rattle.cops_model.specs.Place.{Place, node_number, place_of}
use Rattle.cops_model.specs.SoloNode.{SoloNode, new_node}
use Rattle.cops_model.specs.Step.{audited, effect, node_step, unchanged}
use Rattle.cops_model.specs.Request.{Fetch, Write}
use Rattle.cops_model.specs.Session.{Session, context_created, context_deleted, context_refusal, create_refusal, get_refusal, has_repeats, is_busy, is_open, is_spent, new_session, obs_of, request_begun, session_put_refusal}
use Rattle.cops_model.specs.Carrier.{new_carrier}
use Rattle.cops_model.specs.Causal.{stepped_actor}
use Rattle.cops_model.specs.Cluster.{ActEffect, OfCarrier, OfSession, SoloCluster, actor_refusal, cluster_step, collect_at, find_actor, find_session, has_node, has_stream, on_session, reply_of_collect, reply_with, session_acts, unless_refused, with_actor, with_new_actor}
use Rattle.cops_model.specs.Events.{is_out_of_memory}

abbrev pub lack_of : Option Fault → Bool
lack_of (Some fault) = is_out_of_memory (Refused fault)
lack_of None = false

both_hold : (a b : Bool) → (a && b) ≡ true → (a ≡ true) × (b ≡ true)
both_hold true b h = (refl, h)
both_hold false b h = absurd (true≢false (sym h))

not_holds : (b : Bool) → not b ≡ true → b ≡ false
not_holds true h = absurd (true≢false (sym h))
not_holds false h = refl

-- of checks none of which is for memory
pub checks_spared : (checks : List (Bool × Fault)) → list_all (λ (check : Bool × Fault). not (is_out_of_memory (Refused check.1))) checks ≡ true → lack_of (first_refusal checks) ≡ false
checks_spared [] all = refl
checks_spared (check ∷ checks) all =
    let Spares : Bool × Fault → Bool = λ (one : Bool × Fault). not (is_out_of_memory (Refused one.1)) in
    let parts = both_hold (Spares check) (list_all Spares checks) all in
    by (not_holds (is_out_of_memory (Refused check.1)) parts.0) (checks_spared checks parts.1) check.0
  where
    by : is_out_of_memory (Refused check.1) ≡ false → lack_of (first_refusal checks) ≡ false → (b : Bool) → lack_of (cond b (Some check.1) (first_refusal checks)) ≡ false
    by first rest true = first
    by first rest false = rest

pub unless_spared : (refusal : Option Fault) (cluster : SoloCluster) (turn : ActEffect) → lack_of refusal ≡ false → is_out_of_memory turn.reply ≡ false → is_out_of_memory (unless_refused refusal cluster turn).reply ≡ false
unless_spared (Some fault) cluster turn spared rest = spared
unless_spared None cluster turn spared rest = rest

pub found_spared : (found : Option Session) (cluster : SoloCluster) (act : Session → ActEffect) → ((s : Session) → is_out_of_memory (act s).reply ≡ false) → is_out_of_memory (on_session found cluster act).reply ≡ false
found_spared None cluster act spared = refl
found_spared (Some s) cluster act spared = spared s

-- ---- what a session is asked

module _ (config : TenantConfig) (name : List ℕ) (cluster : SoloCluster) (s : Session) where
  context_spared : (number : ℕ) → lack_of (context_refusal number s) ≡ false
  context_spared number = checks_spared ((is_busy s, Busy) ∷ (not (is_open number s), NoContext) ∷ []) refl

  pub create_spared : is_out_of_memory (session_acts name cluster (create_refusal config s) (Created s.next_context) (context_created s)).reply ≡ false
  create_spared =
      unless_spared (create_refusal config s) cluster (reply_with (Created s.next_context) (with_actor name (OfSession (context_created s)) cluster))
      (checks_spared ((is_busy s, Busy) ∷ (nat_le config.quota.contexts (length s.contexts), TooManyContexts) ∷ (is_spent s.next_context, IdsSpent) ∷ []) refl) refl

  pub delete_spared : (number : ℕ) → is_out_of_memory (session_acts name cluster (context_refusal number s) Deleted (context_deleted number s)).reply ≡ false
  delete_spared number = unless_spared (context_refusal number s) cluster (reply_with Deleted (with_actor name (OfSession (context_deleted number s)) cluster)) (context_spared number) refl

  pub put_spared : (number : ℕ) (key value : List ℕ) → is_out_of_memory (session_acts name cluster (session_put_refusal config number key s) Started (request_begun number (Write key value) s)).reply ≡ false
  put_spared number key value =
      unless_spared (session_put_refusal config number key s) cluster (reply_with Started (with_actor name (OfSession (request_begun number (Write key value) s)) cluster))
      (checks_spared ((is_busy s, Busy) ∷ (not (is_open number s), NoContext) ∷ (not (can_put config.quota.deps (obs_of number s) key), DependenciesFull) ∷ (is_spent s.next_request, IdsSpent) ∷ []) refl) refl

  pub get_spared : (number : ℕ) (keys : List (List ℕ)) → is_out_of_memory (session_acts name cluster (get_refusal config number keys s) Started (request_begun number (Fetch keys) s)).reply ≡ false
  get_spared number keys =
      unless_spared (get_refusal config number keys s) cluster (reply_with Started (with_actor name (OfSession (request_begun number (Fetch keys) s)) cluster))
      (checks_spared ((nat_lt (length keys) 1, Syntax) ∷ (is_busy s, Busy) ∷ (not (is_open number s), NoContext) ∷ (nat_lt 32 (length keys), TooManyKeys) ∷ (has_repeats keys, RepeatedKey) ∷ (is_spent s.next_request, IdsSpent) ∷ []) refl) refl

  pub show_spared : (number : ℕ) → is_out_of_memory (unless_refused (context_refusal number s) cluster (reply_with (Lists (all_of (obs_of number s)) (near_of (obs_of number s))) cluster)).reply ≡ false
  show_spared number = unless_spared (context_refusal number s) cluster (reply_with (Lists (all_of (obs_of number s)) (near_of (obs_of number s))) cluster) (context_spared number) refl

-- ---- actors and collections

joined_spared : (config : TenantConfig) (exists : Bool) (name : List ℕ) (c : SoloCluster) (turn : ActEffect) → is_out_of_memory turn.reply ≡ false → is_out_of_memory (unless_refused (actor_refusal config exists name c) c turn).reply ≡ false
joined_spared config exists name c turn =
    unless_spared (actor_refusal config exists name c) c turn
    (checks_spared ((not exists, NoSuchPlace) ∷ (is_some (find_actor name c), NameTaken) ∷ (nat_le config.quota.actors (length c.actors), ActorsFull) ∷ []) refl)

pub collect_spared : (place : Place) (moment : ℕ) (solo : SoloNode) → is_out_of_memory (reply_of_collect (node_step place moment node_call.Collect solo).reply) ≡ false
collect_spared place moment solo = by (nat_lt (length solo.trail) place.quota.audit)
  where
    by : (t : Bool) → is_out_of_memory (reply_of_collect (cond t (audited moment node_call.Collect (effect place node_call.Collect (record solo { moment = max solo.moment moment }))) (unchanged (node_reply.Refused AuditFull) solo)).reply) ≡ false
    by true = refl
    by false = refl

-- ---- any act

-- of an act that steps nobody
pub act_spared : (config : TenantConfig) (act : Act) (c : SoloCluster) → stepped_actor act ≡ None → is_out_of_memory (cluster_step config act c).reply ≡ false
act_spared config (Open name dc) c none = joined_spared config (nat_lt dc config.data_centres) name c (reply_with Opened (with_new_actor name (OfSession (new_session dc 1)) c)) refl
act_spared config (Create name) c none = found_spared (find_session name c) c (λ s. session_acts name c (create_refusal config s) (Created s.next_context) (context_created s)) (create_spared config name c)
act_spared config (Delete name number) c none = found_spared (find_session name c) c (λ s. session_acts name c (context_refusal number s) Deleted (context_deleted number s)) (λ s. delete_spared config name c s number)
act_spared config (Put name number key value) c none =
    unless_spared (first_refusal ((not (is_key key), BadKey) ∷ (not (is_value value), ValueTooLong) ∷ [])) c (on_session (find_session name c) c (λ s. session_acts name c (session_put_refusal config number key s) Started (request_begun number (Write key value) s)))
    (checks_spared ((not (is_key key), BadKey) ∷ (not (is_value value), ValueTooLong) ∷ []) refl)
    (found_spared (find_session name c) c (λ s. session_acts name c (session_put_refusal config number key s) Started (request_begun number (Write key value) s)) (λ s. put_spared config name c s number key value))
act_spared config (Get name number keys) c none =
    unless_spared (first_refusal ((nat_lt (length keys) 1, Syntax) ∷ (not (list_all is_key keys), BadKey) ∷ [])) c (on_session (find_session name c) c (λ s. session_acts name c (get_refusal config number keys s) Started (request_begun number (Fetch keys) s)))
    (checks_spared ((nat_lt (length keys) 1, Syntax) ∷ (not (list_all is_key keys), BadKey) ∷ []) refl)
    (found_spared (find_session name c) c (λ s. session_acts name c (get_refusal config number keys s) Started (request_begun number (Fetch keys) s)) (λ s. get_spared config name c s number keys))
act_spared config (Show name number) c none = found_spared (find_session name c) c (λ s. unless_refused (context_refusal number s) c (reply_with (Lists (all_of (obs_of number s)) (near_of (obs_of number s))) c)) (λ s. show_spared config name c s number)
act_spared config (Carry name dc shard to_dc) c none =
    joined_spared config (has_stream config dc shard to_dc) name c (reply_with Started (with_new_actor name (OfCarrier (new_carrier (record { origin = record { dc = dc; shard = shard }; to_dc = to_dc }))) c)) refl
act_spared config (Step name moment) c none = absurd cc
act_spared config (Done name moment) c none = absurd cc
act_spared config (Collect dc shard moment) c none =
    let id : NodeId = record { dc = dc; shard = shard } in
    unless_spared (first_refusal ((not (has_node config dc shard), NoSuchPlace) ∷ [])) c (collect_at config id moment c) (checks_spared ((not (has_node config dc shard), NoSuchPlace) ∷ []) refl)
    (collect_spared (place_of config id) moment (slice_index_or c.nodes (node_number config.shards id) (new_node config.data_centres)))

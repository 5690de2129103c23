-- What an act does to a cluster that the tenant has to itself is what its actor did.
use Rattle.std.proofs.Common.{◌≡◌, ◌⊎◌, ℕ, suc, ◌≤◌, ◌<◌, Bool, true, false, cond, not, IsTrue, List, [], ◌∷◌, length, inl, inr, refl, sym, ◌∙◌, ap, subst, arith}
use Rattle.std.specs.Prelude.{Option, Some, None, is_some, max, nat_le, nat_lt}
use Rattle.std.specs.List.{list_all}
use Rattle.std.specs.Option.{option_and_then}
use Rattle.std.proofs.lemmas.Bool.{lt-leb}
use Rattle.cops_types.specs.declared.faults.Fault.{Fault}
use Rattle.cops_types.specs.declared.faults.Fault.TheVariants.{AuditFull, Syntax, BadKey, ValueTooLong, NoSuchPlace, OutOfMemory}
use Rattle.cops_types.specs.Key.{is_key}
use Rattle.cops_types.specs.Search.{first_refusal}
use Rattle.cops_types.specs.TenantConfig.{TenantConfig}
use Rattle.cops_types.specs.Value.{is_value}
use Rattle.cops_model.specs.declared.acts.Act.{Act}
use Rattle.cops_model.specs.declared.acts.Act.TheVariants.{Step}
use Rattle.cops_model.specs.declared.calls.NodeCall.TheVariants as node_call
use Rattle.cops_model.specs.declared.calls.NodeReply.{NodeReply}
use Rattle.cops_model.specs.declared.calls.NodeReply.TheVariants as node_reply
use Rattle.cops_model.specs.Goes.{Turns}
use Rattle.cops_model.specs.Lacks.{ActorStops, IsLastRead, SessionStops, has_room, is_refusal, request_dropped, without_request}
use Rattle.cops_model.specs.Log.{LogStep, Late, Replied, Next, Call, Restart}
use Rattle.cops_model.specs.Place.{node_number, place_of}
use Rattle.cops_model.specs.SoloNode.{SoloNode}
use Rattle.cops_model.specs.Step.{audited, effect, unchanged}
use Rattle.cops_model.specs.declared.requests.Answer.{Answer}
use Rattle.cops_model.specs.Request.{next, Fetch, Write}
use Rattle.cops_model.specs.Session.{Running, Session, context_created, context_deleted, context_refusal, create_refusal, get_refusal, moment_at, new_session, progress, request_begun, request_of, session_after, session_put_refusal}
use Rattle.cops_model.specs.declared.deliveries.Progress.{Progress as CarrierProgress}
use Rattle.cops_model.specs.declared.deliveries.Progress.TheVariants as carrier_progress
use Rattle.cops_model.specs.Carrier.{Carrier, carrier_after, carrier_next, delivery_progress, new_carrier}
use Rattle.cops_model.specs.declared.replies.Reply.{Reply}
use Rattle.cops_model.specs.declared.replies.Reply.TheVariants.{Opened, Created, Deleted, Started, Refused}
use Rattle.cops_model.specs.Cluster.{ActEffect, Actor, OfCarrier, OfSession, SoloCluster, actor_refusal, call_node, carrier_does, carrier_stepped, cluster_step, collect_at, find_actor, find_session, has_node, has_stream, on_session, reply_of_collect, reply_of_progress, reply_with, request_does, running_step, session_acts, session_in, session_stepped, step_of, unless_refused, with_actor, with_new_actor, without_actor}
use Rattle.cops_history.specs.Turns.{Turn, IsReplyOf, IsRun, effect_at, has_audit_left, node_numbered, nodes_after_turn, nodes_left}
use Rattle.cops_history.specs.Commands.{Command, Opens, Creates, Deletes, Puts, Gets, Begins, StepsLate, Steps, StepsUnread, Carries, Collects, Does, IsAsked, IsStepped, act_of, carrier_left, reply_of_carrier, turn_made_by}
use Rattle.cops_history.proofs.Actors.{Locals, Stands, changed, joined, left, stayed, with_local}
use Rattle.cops_history.proofs.RefusedCalls.{after_refused, after_replied, carrier_refused, session_ends, session_left}

-- the reply is this one, and the cluster then has these nodes and actors
abbrev pub Led : ℕ → Locals → List SoloNode → Reply → ActEffect → Type 0
Led count locals nodes reply turn = (turn.reply ≡ reply) × Stands count locals nodes turn.after

-- the act's turn is the definition's or memory was refused, and the cluster then has these nodes and actors
pub record Moved (count : ℕ) (locals : Locals) (nodes : List SoloNode) (config : TenantConfig) (act : Act) (c : SoloCluster) (reply : Reply) : Type 0 where
  pub after : SoloCluster
  pub turns : Turns config act c reply after
  pub stands : Stands count locals nodes after

exactly : (count : ℕ) (locals : Locals) (nodes : List SoloNode) (config : TenantConfig) (act : Act) (c : SoloCluster) (reply : Reply) → Led count locals nodes reply (cluster_step config act c) → Moved count locals nodes config act c reply
exactly count locals nodes config act c reply led = record { after = (cluster_step config act c).after; turns = inl (sym led.0, refl); stands = led.1 }

-- ---- a call

-- the node's turn
node_called : (config : TenantConfig) (t : Turn) (moment : ℕ) (nodes : List SoloNode) (c : SoloCluster) → c.nodes ≡ nodes → t.moment ≡ moment
    → t.reply ≡ (effect_at config t (node_numbered config (node_number config.shards t.node) nodes)).reply
    → call_node config t.node moment t.call c ≡ record { reply = t.reply; after = record { nodes = nodes_after_turn config t nodes; actors = c.actors } }
node_called config t moment nodes c same at reply =
    (λ i. call_node config t.node (sym at i) t.call (record { nodes = same i; actors = c.actors }))
    ∙ (λ i. record { reply = sym reply i; after = record { nodes = sym (after_replied config t nodes reply) i; actors = c.actors } })

module _ (count : ℕ) (locals : Locals) (nodes : List SoloNode) (c : SoloCluster) (stands : Stands count locals nodes c) (config : TenantConfig) where
  -- the nodes are others
  with_nodes : (after : List SoloNode) → Stands count locals after (record { nodes = after; actors = c.actors })
  with_nodes after = record { nodes_are = refl; actors_are = stands.actors_are; few = stands.few }

  -- ---- new actors

  free : (exists : Bool) (name : List ℕ) → exists ≡ true → find_actor name c ≡ None → count < config.quota.actors → actor_refusal config exists name c ≡ None
  free exists name there none room =
      let few : length c.actors ≤ count = stands.few in
      let full : nat_le config.quota.actors (length c.actors) ≡ false = lt-leb config.quota.actors (length c.actors) (omega (arith, few, room)) in
      let free_name : is_some (find_actor name c) ≡ false = ap is_some none in
      rw (there, free_name, full) refl

  begun : (exists : Bool) (actor : List ℕ) (new : Actor) (told : Reply) → exists ≡ true → locals actor ≡ None → count < config.quota.actors →
      Led (suc count) (with_local actor (Some new) locals) nodes told (unless_refused (actor_refusal config exists actor c) c (reply_with told (with_new_actor actor new c)))
  begun exists actor new told there none room =
      subst (λ r. Led (suc count) (with_local actor (Some new) locals) nodes told (unless_refused r c (reply_with told (with_new_actor actor new c))))
      (sym (free exists actor there (stands.actors_are actor ∙ none) room)) (refl, joined count locals nodes c stands actor new none)

  -- ---- what is asked of a session

  asked : (refusal : Session → Option Fault) (answer : Session → Reply) (later : Session → Session) (actor : List ℕ) (reply : Reply) (new : Option Actor) → IsAsked refusal answer later (locals actor) reply new →
      Led (suc count) (with_local actor new locals) nodes reply (on_session (find_session actor c) c (λ s. session_acts actor c (refusal s) (answer s) (later s)))
  asked refusal answer later actor reply new (s, old_is, allowed, reply_is, new_is) =
      let base : Led (suc count) (with_local actor (Some (OfSession (later s))) locals) nodes (answer s) (reply_with (answer s) (with_actor actor (OfSession (later s)) c)) =
      (refl, changed count locals nodes c stands actor (OfSession s) (OfSession (later s)) old_is) in
      let passed : Led (suc count) (with_local actor (Some (OfSession (later s))) locals) nodes (answer s) (session_acts actor c (refusal s) (answer s) (later s)) =
      subst (λ r. Led (suc count) (with_local actor (Some (OfSession (later s))) locals) nodes (answer s) (unless_refused r c (reply_with (answer s) (with_actor actor (OfSession (later s)) c)))) (sym allowed) base in
      let found : Led (suc count) (with_local actor (Some (OfSession (later s))) locals) nodes (answer s) (on_session (find_session actor c) c (λ s. session_acts actor c (refusal s) (answer s) (later s))) =
      subst (λ o. Led (suc count) (with_local actor (Some (OfSession (later s))) locals) nodes (answer s) (on_session (option_and_then session_in o) c (λ s. session_acts actor c (refusal s) (answer s) (later s)))) (sym (stands.actors_are actor ∙ old_is)) passed in
      subst (λ n. Led (suc count) (with_local actor n locals) nodes reply (on_session (find_session actor c) c (λ s. session_acts actor c (refusal s) (answer s) (later s)))) (sym new_is)
      (subst (λ r. Led (suc count) (with_local actor (Some (OfSession (later s))) locals) nodes r (on_session (find_session actor c) c (λ s. session_acts actor c (refusal s) (answer s) (later s)))) (sym reply_is) found)

  -- ---- steps

  -- the step of a session, once its call was made or none was
  stepped : (actor : List ℕ) (s : Session) (running : Running) (step : LogStep) (reply : Reply) (new : Option Actor) → locals actor ≡ Some (OfSession s) → IsStepped config s running step reply new →
      Led (suc count) (with_local actor new locals) nodes reply (session_stepped config actor s running step c)
  stepped actor s running step reply new old_is (reply_is, new_is) =
      let shown = progress config (request_of s running) running.log step in
      subst (λ n. Led (suc count) (with_local actor n locals) nodes reply (session_stepped config actor s running step c)) (sym new_is)
      (sym reply_is, changed count locals nodes c stands actor (OfSession s) (OfSession (session_after s running step shown)) old_is)

  -- what the request does next is what the step does
  by_next : (actor : List ℕ) (s : Session) (running : Running) (given : ℕ) (n : Next Answer) (G : ActEffect → Type 0) → locals actor ≡ Some (OfSession s) → s.running ≡ Some running →
      next config (request_of s running) running.log (moment_at given s) ≡ n → G (request_does config actor s running (moment_at given s) c n) → G (cluster_step config (Step actor given) c)
  by_next actor s running given n G old_is runs is led =
      let at_next : G (request_does config actor s running (moment_at given s) c (next config (request_of s running) running.log (moment_at given s))) =
      subst (λ m. G (request_does config actor s running (moment_at given s) c m)) (sym is) led in
      let at_running : G (running_step config actor s given c s.running) = subst (λ r. G (running_step config actor s given c r)) (sym runs) at_next in
      subst (λ o. G (step_of config actor given c o)) (sym (stands.actors_are actor ∙ old_is)) at_running

  -- the step of a carrier, once its call was made
  carried : (actor : List ℕ) (k after : Carrier) (shown : CarrierProgress) → locals actor ≡ Some (OfCarrier k) →
      Led (suc count) (with_local actor (carrier_left after shown) locals) nodes (reply_of_carrier shown) (carrier_stepped actor after shown c)
  carried actor k after carrier_progress.Working old_is = (refl, changed count locals nodes c stands actor (OfCarrier k) (OfCarrier after) old_is)
  carried actor k after (carrier_progress.Done ending) old_is = (refl, left count locals nodes c stands actor)

-- ---- each command

module _ (config : TenantConfig) (count : ℕ) (locals : Locals) (nodes : List SoloNode) (c : SoloCluster) (stands : Stands count locals nodes c) (actor : List ℕ) where
  -- a step of a session whose node replied
  session_calls : (given : ℕ) (t : Turn) (reply : Reply) (new : Option Actor) → Does config (locals actor) (Steps given t) reply new →
      t.reply ≡ (effect_at config t (node_numbered config (node_number config.shards t.node) nodes)).reply →
      Led (suc count) (with_local actor new locals) (nodes_after_turn config t nodes) reply (cluster_step config (act_of actor (Steps given t)) c)
  session_calls given t reply new (s, running, old_is, runs, is, at, step_is) replied =
      let call_is = node_called config t (moment_at given s) nodes c stands.nodes_are at replied in
      let base : Led (suc count) (with_local actor new locals) (nodes_after_turn config t nodes) reply
      (session_stepped config actor s running (record { moment = moment_at given s; outcome = Replied t.reply }) (record { nodes = nodes_after_turn config t nodes; actors = c.actors })) =
      stepped count locals (nodes_after_turn config t nodes) (record { nodes = nodes_after_turn config t nodes; actors = c.actors }) (with_nodes count locals nodes c stands config (nodes_after_turn config t nodes)) config
      actor s running (record { moment = moment_at given s; outcome = Replied t.reply }) reply new old_is step_is in
      by_next count locals nodes c stands config actor s running given (Call (record { node = t.node; call = t.call })) (Led (suc count) (with_local actor new locals) (nodes_after_turn config t nodes) reply) old_is runs is
      (subst (λ (call : record { reply : NodeReply; after : SoloCluster }). Led (suc count) (with_local actor new locals) (nodes_after_turn config t nodes) reply
      (session_stepped config actor s running (record { moment = moment_at given s; outcome = Replied call.reply }) call.after)) (sym call_is) base)

  -- the audit had room, in the cluster too
  room_there : (t : Turn) → IsTrue (has_audit_left config (node_numbered config (node_number config.shards t.node) nodes)) → IsTrue (has_room config t.node c)
  room_there t room = subst (λ ns. IsTrue (has_audit_left config (node_numbered config (node_number config.shards t.node) ns))) (sym stands.nodes_are) room

  -- a session whose call was refused memory
  session_stops : (given : ℕ) (t : Turn) (s : Session) (running : Running) (new : Option Actor) → locals actor ≡ Some (OfSession s) → s.running ≡ Some running →
      next config (request_of s running) running.log (moment_at given s) ≡ Call (record { node = t.node; call = t.call }) → new ≡ Some (OfSession (request_dropped (moment_at given s) s)) →
      t.reply ≡ node_reply.Refused OutOfMemory → IsTrue (has_audit_left config (node_numbered config (node_number config.shards t.node) nodes)) →
      Moved (suc count) (with_local actor new locals) (nodes_after_turn config t nodes) config (Step actor given) c (Refused OutOfMemory)
  session_stops given t s running new old_is runs is new_is lack room =
      let after : SoloCluster = without_request actor given s c in
      let stops : SessionStops config actor given s c after =
      record { running = running; directed = record { node = t.node; call = t.call }; runs = runs; calls = is; left = inl (room_there t room, refl) } in
      record {
        after = after;
        turns = inr (refl, subst (λ o. ActorStops config actor given o c after) (sym (stands.actors_are actor ∙ old_is)) stops);
        stands = subst (λ ns. Stands (suc count) (with_local actor new locals) ns after) (sym (after_refused config t nodes lack))
            (subst (λ n. Stands (suc count) (with_local actor n locals) nodes after) (sym new_is)
            (changed count locals nodes c stands actor (OfSession s) (OfSession (request_dropped (moment_at given s) s)) old_is));
      }

  -- a session whose node replied, and that then ran out of memory
  session_drops : (given : ℕ) (t : Turn) (s : Session) (running : Running) (new : Option Actor) → locals actor ≡ Some (OfSession s) → s.running ≡ Some running →
      next config (request_of s running) running.log (moment_at given s) ≡ Call (record { node = t.node; call = t.call }) → t.moment ≡ moment_at given s →
      IsLastRead config s running (record { moment = moment_at given s; outcome = Replied t.reply }) → new ≡ Some (OfSession (request_dropped (moment_at given s) s)) →
      t.reply ≡ (effect_at config t (node_numbered config (node_number config.shards t.node) nodes)).reply →
      Moved (suc count) (with_local actor new locals) (nodes_after_turn config t nodes) config (Step actor given) c (Refused OutOfMemory)
  session_drops given t s running new old_is runs is at last new_is replied =
      let moved : SoloCluster = record { nodes = nodes_after_turn config t nodes; actors = c.actors } in
      let after : SoloCluster = without_request actor given s moved in
      let call_is = node_called config t (moment_at given s) nodes c stands.nodes_are at replied in
      let stops : SessionStops config actor given s c after = record {
        running = running;
        directed = record { node = t.node; call = t.call };
        runs = runs;
        calls = is;
        left = subst (λ (call : record { reply : NodeReply; after : SoloCluster }).
            (IsTrue (has_room config t.node c) × (after ≡ without_request actor given s c))
            ⊎ (IsLastRead config s running (record { moment = moment_at given s; outcome = Replied call.reply }) × (after ≡ without_request actor given s call.after)))
            (sym call_is) (inr (last, refl));
      } in
      record {
        after = after;
        turns = inr (refl, subst (λ o. ActorStops config actor given o c after) (sym (stands.actors_are actor ∙ old_is)) stops);
        stands = subst (λ n. Stands (suc count) (with_local actor n locals) (nodes_after_turn config t nodes) after) (sym new_is)
            (changed count locals (nodes_after_turn config t nodes) moved (with_nodes count locals nodes c stands config (nodes_after_turn config t nodes)) actor
            (OfSession s) (OfSession (request_dropped (moment_at given s) s)) old_is);
      }

  session_is_late : (given : ℕ) (reply : Reply) (new : Option Actor) → Does config (locals actor) (StepsLate given) reply new →
      Led (suc count) (with_local actor new locals) nodes reply (cluster_step config (act_of actor (StepsLate given)) c)
  session_is_late given reply new (s, running, old_is, runs, is, step_is) =
      by_next count locals nodes c stands config actor s running given Restart (Led (suc count) (with_local actor new locals) nodes reply) old_is runs is
      (stepped count locals nodes c stands config actor s running (record { moment = moment_at given s; outcome = Late }) reply new old_is step_is)

  carrier_calls : (given : ℕ) (t : Turn) (reply : Reply) (new : Option Actor) → Does config (locals actor) (Carries given t) reply new →
      t.reply ≡ (effect_at config t (node_numbered config (node_number config.shards t.node) nodes)).reply →
      Led (suc count) (with_local actor new locals) (nodes_after_turn config t nodes) reply (cluster_step config (act_of actor (Carries given t)) c)
  carrier_calls given t reply new (k, old_is, is, at, (reply_is, new_is)) replied =
      let step : LogStep = record { moment = max k.moment given; outcome = Replied t.reply } in
      let shown : CarrierProgress = delivery_progress config.shards k step in
      let after : Carrier = carrier_after k step in
      let G : ActEffect → Type 0 = Led (suc count) (with_local actor (carrier_left after shown) locals) (nodes_after_turn config t nodes) (reply_of_carrier shown) in
      let call_is = node_called config t (max k.moment given) nodes c stands.nodes_are at replied in
      let base : G (carrier_stepped actor after shown (record { nodes = nodes_after_turn config t nodes; actors = c.actors })) =
      carried count locals (nodes_after_turn config t nodes) (record { nodes = nodes_after_turn config t nodes; actors = c.actors }) (with_nodes count locals nodes c stands config (nodes_after_turn config t nodes)) config actor k after shown old_is in
      let called : G (carrier_does config actor k (max k.moment given) c (Call (record { node = t.node; call = t.call }))) =
      subst (λ (call : record { reply : NodeReply; after : SoloCluster }).
      let taken : LogStep = record { moment = max k.moment given; outcome = Replied call.reply } in
      G (carrier_stepped actor (carrier_after k taken) (delivery_progress config.shards k taken) call.after)) (sym call_is) base in
      let at_next : G (carrier_does config actor k (max k.moment given) c (carrier_next config.shards k.stream k.log)) =
      subst (λ n. G (carrier_does config actor k (max k.moment given) c n)) (sym is) called in
      let done : G (cluster_step config (act_of actor (Carries given t)) c) = subst (λ o. G (step_of config actor given c o)) (sym (stands.actors_are actor ∙ old_is)) at_next in
      subst (λ n. Led (suc count) (with_local actor n locals) (nodes_after_turn config t nodes) reply (cluster_step config (act_of actor (Carries given t)) c)) (sym new_is)
      (subst (λ r. Led (suc count) (with_local actor (carrier_left after shown) locals) (nodes_after_turn config t nodes) r (cluster_step config (act_of actor (Carries given t)) c)) (sym reply_is) done)

  -- a carrier whose call was refused memory
  carrier_stops : (given : ℕ) (t : Turn) (reply : Reply) (new : Option Actor) → Does config (locals actor) (Carries given t) reply new →
      t.reply ≡ node_reply.Refused OutOfMemory → IsTrue (has_audit_left config (node_numbered config (node_number config.shards t.node) nodes)) →
      Moved (suc count) (with_local actor new locals) (nodes_after_turn config t nodes) config (Step actor given) c reply
  carrier_stops given t reply new (k, old_is, is, at, (reply_is, new_is)) lack room =
      let after : SoloCluster = without_actor actor c in
      let step : LogStep = record { moment = max k.moment given; outcome = Replied t.reply } in
      let ends = carrier_refused config.shards k (max k.moment given) (record { node = t.node; call = t.call }) t.reply OutOfMemory lack is in
      let gone : new ≡ None = new_is ∙ ap (carrier_left (carrier_after k step)) ends in
      let stops : ActorStops config actor given (Some (OfCarrier k)) c after = (record { node = t.node; call = t.call }, is, room_there t room, refl) in
      record {
        after = after;
        turns = inr (reply_is ∙ ap reply_of_carrier ends, subst (λ o. ActorStops config actor given o c after) (sym (stands.actors_are actor ∙ old_is)) stops);
        stands = subst (λ ns. Stands (suc count) (with_local actor new locals) ns after) (sym (after_refused config t nodes lack))
            (subst (λ n. Stands (suc count) (with_local actor n locals) nodes after) (sym gone) (left count locals nodes c stands actor));
      }

  collects : (t : Turn) (reply : Reply) (new : Option Actor) → Does config (locals actor) (Collects t) reply new → has_node config t.node.dc t.node.shard ≡ true →
      t.reply ≡ (effect_at config t (node_numbered config (node_number config.shards t.node) nodes)).reply →
      Led (suc count) (with_local actor new locals) (nodes_after_turn config t nodes) reply (cluster_step config (act_of actor (Collects t)) c)
  collects t reply new (call_is, reply_is, new_is) there replied =
      let G : ActEffect → Type 0 = Led (suc count) (with_local actor new locals) (nodes_after_turn config t nodes) reply in
      let turn_is = node_called config t t.moment nodes c stands.nodes_are refl replied in
      let base : G (reply_with (reply_of_collect t.reply) (record { nodes = nodes_after_turn config t nodes; actors = c.actors })) =
      (sym reply_is, stayed count locals (nodes_after_turn config t nodes) (record { nodes = nodes_after_turn config t nodes; actors = c.actors }) (with_nodes count locals nodes c stands config (nodes_after_turn config t nodes)) actor new new_is) in
      let called : G (reply_with (reply_of_collect (call_node config t.node t.moment t.call c).reply) (call_node config t.node t.moment t.call c).after) =
      subst (λ (call : record { reply : NodeReply; after : SoloCluster }). G (reply_with (reply_of_collect call.reply) call.after)) (sym turn_is) base in
      let collected : G (reply_with (reply_of_collect (call_node config t.node t.moment node_call.Collect c).reply) (call_node config t.node t.moment node_call.Collect c).after) =
      subst (λ k. G (reply_with (reply_of_collect (call_node config t.node t.moment k c).reply) (call_node config t.node t.moment k c).after)) call_is called in
      let passes : first_refusal ((not (has_node config t.node.dc t.node.shard), NoSuchPlace) ∷ []) ≡ None = rw there refl in
      subst (λ r. G (unless_refused r c (reply_with (reply_of_collect (call_node config t.node t.moment node_call.Collect c).reply) (call_node config t.node t.moment node_call.Collect c).after))) (sym passes) collected

  -- a collection that was refused memory
  collects_not : (t : Turn) (reply : Reply) (new : Option Actor) → Does config (locals actor) (Collects t) reply new → has_node config t.node.dc t.node.shard ≡ true →
      t.reply ≡ node_reply.Refused OutOfMemory → IsTrue (has_audit_left config (node_numbered config (node_number config.shards t.node) nodes)) →
      Moved (suc count) (with_local actor new locals) (nodes_after_turn config t nodes) config (act_of actor (Collects t)) c reply
  collects_not t reply new (call_is, reply_is, new_is) there lack room =
      let solo : SoloNode = node_numbered config (node_number config.shards t.node) c.nodes in
      let collected : is_refusal (collect_at config t.node t.moment c).reply ≡ false =
      ap (λ b. is_refusal (reply_of_collect (cond b (audited t.moment node_call.Collect (effect (place_of config t.node) node_call.Collect (record solo { moment = max solo.moment t.moment })))
      (unchanged (node_reply.Refused AuditFull) solo)).reply)) (room_there t room) in
      let passes : first_refusal ((not (has_node config t.node.dc t.node.shard), NoSuchPlace) ∷ []) ≡ None = rw there refl in
      record {
        after = c;
        turns = inr (reply_is ∙ ap reply_of_collect lack, (subst (λ r. is_refusal (unless_refused r c (collect_at config t.node t.moment c)).reply ≡ false) (sym passes) collected, refl));
        stands = subst (λ ns. Stands (suc count) (with_local actor new locals) ns c) (sym (after_refused config t nodes lack)) (stayed count locals nodes c stands actor new new_is);
      }

  abbrev Moves : Command → Reply → Option Actor → Type 0
  Moves command reply new = Moved (suc count) (with_local actor new locals) (nodes_left config (turn_made_by command) nodes) config (act_of actor command) c reply

  as_led : (command : Command) (reply : Reply) (new : Option Actor) → Led (suc count) (with_local actor new locals) (nodes_left config (turn_made_by command) nodes) reply (cluster_step config (act_of actor command) c) → Moves command reply new
  as_led command reply new led = exactly (suc count) (with_local actor new locals) (nodes_left config (turn_made_by command) nodes) config (act_of actor command) c reply led

  -- so the act of each command does what its actor did
  pub command_leads : (command : Command) (reply : Reply) (new : Option Actor) → count < config.quota.actors → Does config (locals actor) command reply new → IsRun config (turn_made_by command) nodes →
      Moved (suc count) (with_local actor new locals) (nodes_left config (turn_made_by command) nodes) config (act_of actor command) c reply
  command_leads (Opens dc) reply new room (none, there, reply_is, new_is) run =
      as_led (Opens dc) reply new (subst (λ n. Led (suc count) (with_local actor n locals) nodes reply (cluster_step config (act_of actor (Opens dc)) c)) (sym new_is)
      (subst (λ r. Led (suc count) (with_local actor (Some (OfSession (new_session dc 1))) locals) nodes r (cluster_step config (act_of actor (Opens dc)) c)) (sym reply_is)
      (begun count locals nodes c stands config (nat_lt dc config.data_centres) actor (OfSession (new_session dc 1)) Opened there none room)))
  command_leads Creates reply new room does run = as_led Creates reply new (asked count locals nodes c stands config (create_refusal config) (λ s. Created s.next_context) context_created actor reply new does)
  command_leads (Deletes number) reply new room does run = as_led (Deletes number) reply new (asked count locals nodes c stands config (context_refusal number) (λ s. Deleted) (context_deleted number) actor reply new does)
  command_leads (Puts number key value) reply new room (key_is, value_is, does) run =
      let passes : first_refusal ((not (is_key key), BadKey) ∷ (not (is_value value), ValueTooLong) ∷ []) ≡ None = rw (key_is, value_is) refl in
      as_led (Puts number key value) reply new
      (subst (λ r. Led (suc count) (with_local actor new locals) nodes reply (unless_refused r c (on_session (find_session actor c) c (λ s. session_acts actor c (session_put_refusal config number key s) Started (request_begun number (Write key value) s))))) (sym passes)
      (asked count locals nodes c stands config (session_put_refusal config number key) (λ s. Started) (request_begun number (Write key value)) actor reply new does))
  command_leads (Gets number keys) reply new room (some, are, does) run =
      let passes : first_refusal ((nat_lt (length keys) 1, Syntax) ∷ (not (list_all is_key keys), BadKey) ∷ []) ≡ None = rw (some, are) refl in
      as_led (Gets number keys) reply new
      (subst (λ r. Led (suc count) (with_local actor new locals) nodes reply (unless_refused r c (on_session (find_session actor c) c (λ s. session_acts actor c (get_refusal config number keys s) Started (request_begun number (Fetch keys) s))))) (sym passes)
      (asked count locals nodes c stands config (get_refusal config number keys) (λ s. Started) (request_begun number (Fetch keys)) actor reply new does))
  command_leads (Begins stream) reply new room (none, there, reply_is, new_is) run =
      as_led (Begins stream) reply new (subst (λ n. Led (suc count) (with_local actor n locals) nodes reply (cluster_step config (act_of actor (Begins stream)) c)) (sym new_is)
      (subst (λ r. Led (suc count) (with_local actor (Some (OfCarrier (new_carrier stream))) locals) nodes r (cluster_step config (act_of actor (Begins stream)) c)) (sym reply_is)
      (begun count locals nodes c stands config (has_stream config stream.origin.dc stream.origin.shard stream.to_dc) actor (OfCarrier (new_carrier stream)) Started there none room)))
  command_leads (StepsLate given) reply new room does run = as_led (StepsLate given) reply new (session_is_late given reply new does)
  command_leads (Steps given t) reply new room does run = by does run.1
    where
      by : Does config (locals actor) (Steps given t) reply new → IsReplyOf config t (node_numbered config (node_number config.shards t.node) nodes) → Moves (Steps given t) reply new
      by does (inl replied) = as_led (Steps given t) reply new (session_calls given t reply new does replied)
      by (s, running, old_is, runs, is, at, (reply_is, new_is)) (inr (lack, left_room)) =
          let step : LogStep = record { moment = moment_at given s; outcome = Replied t.reply } in
          let ends = session_ends config s running (moment_at given s) (record { node = t.node; call = t.call }) t.reply lack is in
          let dropped = new_is ∙ ap (λ p. Some (OfSession (session_after s running step p))) ends ∙ ap (λ (r : Session). Some (OfSession r)) (session_left config s running (moment_at given s) (record { node = t.node; call = t.call }) t.reply lack) in
          subst (λ r. Moves (Steps given t) r new) (sym (reply_is ∙ ap reply_of_progress ends)) (session_stops given t s running new old_is runs is dropped lack left_room)
  command_leads (StepsUnread given t) reply new room does run = by does run.1
    where
      by : Does config (locals actor) (StepsUnread given t) reply new → IsReplyOf config t (node_numbered config (node_number config.shards t.node) nodes) → Moves (StepsUnread given t) reply new
      by (s, running, old_is, runs, is, at, last, reply_is, new_is) (inl replied) =
          subst (λ r. Moves (StepsUnread given t) r new) (sym reply_is) (session_drops given t s running new old_is runs is at last new_is replied)
      by (s, running, old_is, runs, is, at, last, reply_is, new_is) (inr (lack, left_room)) =
          subst (λ r. Moves (StepsUnread given t) r new) (sym reply_is) (session_stops given t s running new old_is runs is new_is lack left_room)
  command_leads (Carries given t) reply new room does run = by run.1
    where
      by : IsReplyOf config t (node_numbered config (node_number config.shards t.node) nodes) → Moves (Carries given t) reply new
      by (inl replied) = as_led (Carries given t) reply new (carrier_calls given t reply new does replied)
      by (inr (lack, left_room)) = carrier_stops given t reply new does lack left_room
  command_leads (Collects t) reply new room does run = by run.1
    where
      by : IsReplyOf config t (node_numbered config (node_number config.shards t.node) nodes) → Moves (Collects t) reply new
      by (inl replied) = as_led (Collects t) reply new (collects t reply new does run.0 replied)
      by (inr (lack, left_room)) = collects_not t reply new does run.0 lack left_room

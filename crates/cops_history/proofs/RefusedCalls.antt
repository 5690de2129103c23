-- What remains of an actor whose call was refused memory.
use Rattle.std.proofs.Common.{◌≡◌, ℕ, Bool, true, false, cond, set, List, [], ◌∷◌, ◌++◌, length, refl, ◌∙◌, ap}
use Rattle.std.specs.Prelude.{Option, Some, None, slice_get}
use Rattle.std.specs.Option.{option_or}
use Rattle.std.proofs.lemmas.List.{set-get_or}
use Rattle.std.proofs.lemmas.List.Elements.{filter_map-append}
use Rattle.cops_types.specs.declared.faults.Fault.{Fault}
use Rattle.cops_types.specs.declared.faults.Fault.TheVariants.{OutOfMemory}
use Rattle.cops_types.specs.TenantConfig.{TenantConfig}
use Rattle.cops_model.specs.declared.calls.NodeReply.{NodeReply}
use Rattle.cops_model.specs.declared.calls.NodeReply.TheVariants as node_reply
use Rattle.cops_model.specs.declared.requests.Answer.TheVariants as answer
use Rattle.cops_model.specs.declared.requests.Progress.TheVariants as session_progress
use Rattle.cops_model.specs.declared.deliveries.Delivery.{Delivery}
use Rattle.cops_model.specs.declared.deliveries.Delivery.TheVariants as delivery
use Rattle.cops_model.specs.declared.deliveries.Progress.TheVariants as carrier_progress
use Rattle.cops_model.specs.Lacks.{request_dropped}
use Rattle.cops_model.specs.Log.{LogStep, Replied, Call, Directed, Ended, call_or, reply_in, replies_of}
use Rattle.cops_model.specs.Place.{node_number, place_of}
use Rattle.cops_model.specs.Request.{next}
use Rattle.cops_model.specs.Session.{Running, Session, has_restarted, moment_after, progress, request_of, session_after}
use Rattle.cops_model.specs.SoloNode.{SoloNode, new_node}
use Rattle.cops_model.specs.Carrier.{Carrier, Stream, carrier_next, delivery_progress, end_of, finished_delivery, first_end, next_after, progress_of, stream_calls, pull, unless_end}
use Rattle.cops_session.proofs.ContextRows.{context_extended-nothing}
use Rattle.cops_session.proofs.RefusedRequests.{request_refused}
use Rattle.cops_history.specs.Turns.{Turn, effect_at, node_numbered, nodes_after_turn, was_refused_memory}
use Rattle.cops_history.proofs.SparedNodes.{node_spared}

-- ---- nodes

-- the nodes after a turn that had its reply from the node
pub after_replied : (config : TenantConfig) (t : Turn) (nodes : List SoloNode) → t.reply ≡ (effect_at config t (node_numbered config (node_number config.shards t.node) nodes)).reply →
    nodes_after_turn config t nodes ≡ set nodes (node_number config.shards t.node) (effect_at config t (node_numbered config (node_number config.shards t.node) nodes)).after
after_replied config t nodes reply =
    let solo : SoloNode = node_numbered config (node_number config.shards t.node) nodes in
    let spared : was_refused_memory t.reply ≡ false = ap was_refused_memory reply ∙ node_spared (place_of config t.node) t.moment t.call solo in
    ap (λ b. set nodes (node_number config.shards t.node) (cond b solo (effect_at config t solo).after)) spared

-- and after one to which memory was refused
pub after_refused : (config : TenantConfig) (t : Turn) (nodes : List SoloNode) → t.reply ≡ node_reply.Refused OutOfMemory → nodes_after_turn config t nodes ≡ nodes
after_refused config t nodes lack =
    let solo : SoloNode = node_numbered config (node_number config.shards t.node) nodes in
    ap (λ b. set nodes (node_number config.shards t.node) (cond b solo (effect_at config t solo).after)) (ap was_refused_memory lack)
    ∙ set-get_or nodes (node_number config.shards t.node) (new_node config.data_centres)

-- ---- sessions

either_same : (t : Bool) (n : ℕ) → cond t n n ≡ n
either_same true n = refl
either_same false n = refl

module _ (config : TenantConfig) (s : Session) (running : Running) (moment : ℕ) (d : Directed) (reply : NodeReply) (lack : reply ≡ node_reply.Refused OutOfMemory) where
  abbrev step : LogStep
  step = record { moment = moment; outcome = Replied reply }

  -- the request has ended so
  pub session_ends : next config (request_of s running) running.log moment ≡ Call d → progress config (request_of s running) running.log (record { moment = moment; outcome = Replied reply }) ≡ session_progress.Done (answer.Refused OutOfMemory)
  session_ends is =
      ap (λ r. progress config (request_of s running) running.log (record { moment = moment; outcome = Replied r })) lack
      ∙ request_refused config (request_of s running) running.log moment moment d OutOfMemory is

  -- and the session goes on without it
  pub session_left : session_after s running (record { moment = moment; outcome = Replied reply }) (session_progress.Done (answer.Refused OutOfMemory)) ≡ request_dropped moment s
  session_left = λ i. record s { moment = same i; contexts = context_extended-nothing running.context s.contexts i; running = None }
    where
      same : moment_after running step ≡ moment
      same =
          ap (λ r. moment_after running (record { moment = moment; outcome = Replied r })) lack
          ∙ either_same (has_restarted running.action running.log (record { moment = moment; outcome = Replied (node_reply.Refused OutOfMemory) })) moment

-- ---- carriers

module _ (shards : ℕ) (stream : Stream) (fault : Fault) where
  none_of : (a b : Option Delivery) → option_or a b ≡ None → (a ≡ None) × (b ≡ None)
  none_of None b e = (refl, e)
  none_of (Some x) b e = cc

  goes_on : (ending : Option Delivery) (o : Option Directed) (last : Delivery) (d : Directed) → unless_end ending (call_or o last) ≡ Call d → (ending ≡ None) × (o ≡ Some d)
  goes_on None None last d e = cc
  goes_on None (Some c) last d e = (refl, let same : c ≡ d = cc in ap Some same)
  goes_on (Some x) o last d e = cc

  -- the refusal of the next call is the first end
  refused_end : (calls : List Directed) (replies : List NodeReply) (d : Directed) → first_end shards stream calls replies ≡ None → slice_get calls (length replies) ≡ Some d →
      first_end shards stream calls (replies ++ node_reply.Refused fault ∷ []) ≡ Some (delivery.Refused fault)
  refused_end [] replies d none at = cc
  refused_end (c ∷ calls) [] d none at = refl
  refused_end (c ∷ calls) (r ∷ replies) d none at =
      let parts = none_of (end_of shards stream c.call r) (first_end shards stream calls replies) none in
      ap (λ x. option_or x (first_end shards stream calls (replies ++ node_reply.Refused fault ∷ []))) parts.0 ∙ refused_end calls replies d parts.1 at

  refused_next : (replies : List NodeReply) (d : Directed) → next_after shards stream replies ≡ Call d → next_after shards stream (replies ++ node_reply.Refused fault ∷ []) ≡ Ended (delivery.Refused fault)
  refused_next [] d e = refl
  refused_next (node_reply.Pulled entry ∷ rest) d e =
      let replies : List NodeReply = node_reply.Pulled entry ∷ rest in
      let more : List NodeReply = replies ++ node_reply.Refused fault ∷ [] in
      let calls : List Directed = stream_calls shards stream replies in
      let parts = goes_on (first_end shards stream calls replies) (slice_get calls (length replies)) (finished_delivery replies) d e in
      ap (λ o. unless_end o (call_or (slice_get calls (length more)) (finished_delivery more))) (refused_end calls replies d parts.0 parts.1)
  refused_next (r ∷ rest) d e =
      let parts = goes_on (first_end shards stream (pull stream ∷ []) (r ∷ rest)) (slice_get (pull stream ∷ []) (length (r ∷ rest))) (finished_delivery (r ∷ rest)) d e in
      absurd (let never : None ≡ Some d = parts.1 in cc)

-- a carrier whose call was refused has ended so
pub carrier_refused : (shards : ℕ) (k : Carrier) (moment : ℕ) (d : Directed) (reply : NodeReply) (fault : Fault) → reply ≡ node_reply.Refused fault → carrier_next shards k.stream k.log ≡ Call d →
    delivery_progress shards k (record { moment = moment; outcome = Replied reply }) ≡ carrier_progress.Done (delivery.Refused fault)
carrier_refused shards k moment d reply fault refused is =
    ap (λ r. delivery_progress shards k (record { moment = moment; outcome = Replied r })) refused
    ∙ ap (λ rs. progress_of (next_after shards k.stream rs)) (filter_map-append (λ (s : LogStep). reply_in s.outcome) k.log (record { moment = moment; outcome = Replied (node_reply.Refused fault) } ∷ []))
    ∙ ap progress_of (refused_next shards k.stream fault (replies_of k.log) d is)

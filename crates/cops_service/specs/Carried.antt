-- A carrier at nodes, from its first call to its end.
use Rattle.std.specs.Prelude.{◌≡◌, ℕ, zero, suc, max, Result, Ok, Err}
use Rattle.std.specs.declared.alloc.AllocError.{AllocError}
use Rattle.cops_types.specs.declared.configs.Config.{Config}
use Rattle.cops_types.specs.declared.faults.Fault.TheVariants.{OutOfMemory}
use Rattle.cops_model.specs.Carrier.{Carrier, Stream, carrier_after, carrier_next, new_carrier}
use Rattle.cops_model.specs.Log.{Call, Directed, Ended, Replied}
use Rattle.cops_model.specs.declared.calls.NodeCall.{NodeCall}
use Rattle.cops_model.specs.declared.calls.NodeId.{NodeId}
use Rattle.cops_model.specs.declared.calls.NodeReply.{NodeReply}
use Rattle.cops_model.specs.declared.deliveries.Delivery.{Delivery}
use Rattle.cops_model.specs.declared.deliveries.Delivery.TheVariants.{Refused}
use Rattle.cops_service.specs.Noted.{IsStream}
use Rattle.cops_service.specs.declared.notes.Stream.{Stream as Noted}

-- the stream of a work item
abbrev pub carried_stream : Noted → Stream
carried_stream noted = record { origin = noted.from.id; to_dc = noted.to_dc }

-- how a carrier ended: memory that was refused to a node is a refusal
abbrev pub told_delivery : Result Delivery AllocError → Delivery
told_delivery (Ok delivery) = delivery
told_delivery (Err error) = Refused OutOfMemory

module _ {N : Type 0} (answers : N → NodeId → ℕ → ℕ → NodeCall → NodeReply → N → Type 0) (shards slot : ℕ) where
  -- the carrier makes the call that comes next, for the tenant of this slot, and goes on with the reply
  abbrev pub TakesStep : N → Carrier → N → Carrier → Type 0
  TakesStep old before new after =
      (directed : Directed) × (moment : ℕ) × (reply : NodeReply)
      × (carrier_next shards before.stream before.log ≡ Call directed)
      × answers old directed.node slot (max before.moment moment) directed.call reply new
      × (after ≡ carrier_after before (record { moment = max before.moment moment; outcome = Replied reply }))

  -- it takes this many steps
  abbrev pub TakesSteps : ℕ → N → Carrier → N → Carrier → Type 0
  TakesSteps zero old before new after = (new ≡ old) × (after ≡ before)
  TakesSteps (suc count) old before new after = (between : N) × (middle : Carrier) × TakesSteps count old before between middle × TakesStep between middle new after

  -- a new carrier of the stream takes its steps to its end, and this is how it ends
  abbrev pub Delivers : Stream → N → N → Delivery → Type 0
  Delivers stream old new ending =
      (count : ℕ) × (last : Carrier) × TakesSteps count old (new_carrier stream) new last × (carrier_next shards last.stream last.log ≡ Ended ending)

-- a new carrier of the stream of this work item takes its steps to its end
abbrev pub DeliversStream : {N : Type 0} → (N → NodeId → ℕ → ℕ → NodeCall → NodeReply → N → Type 0) → ℕ → Noted → N → N → Type 0
DeliversStream answers shards stream old new = (ending : Delivery) × Delivers answers shards stream.from.slot (carried_stream stream) old new ending

module _ {N : Type 0} (answers : N → NodeId → ℕ → ℕ → NodeCall → NodeReply → N → Type 0) (config : Config) where
  -- a new carrier of a stream of the configuration takes its steps to its end
  abbrev pub DeliversSome : N → N → Type 0
  DeliversSome old new = (stream : Noted) × (ending : Delivery) × IsStream config stream × Delivers answers config.shards stream.from.slot (carried_stream stream) old new ending

  -- this many carriers do, one after another
  abbrev pub DeliverAll : ℕ → N → N → Type 0
  DeliverAll zero old new = new ≡ old
  DeliverAll (suc count) old new = (between : N) × DeliverAll count old between × DeliversSome between new

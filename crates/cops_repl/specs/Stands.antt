-- The state of a carrier, and the carriers of the definition that it represents.
use Rattle.std.specs.Prelude.{◌≡◌, ◌≢◌, ℕ, ◌<◌, ◌≤◌, Bool, true, false, List, [], ◌∷◌, ◌++◌, length, replicate, Result, Ok, Err, if◌then◌else◌}
use Rattle.std.specs.declared.alloc.AllocError.{AllocError}
use Rattle.cops_types.specs.declared.faults.Fault.TheVariants.{OutOfMemory}
use Rattle.cops_types.specs.declared.records.EntryParts.{EntryParts as Entry}
use Rattle.cops_model.specs.declared.calls.NodeReply.{NodeReply}
use Rattle.cops_model.specs.declared.calls.NodeReply.TheVariants.{Checked, Pulled, Committed, Already, Acked, NotFront}
use Rattle.cops_model.specs.Log.{Call, Directed, Ended, LogStep, replies_of}
use Rattle.cops_node.specs.declared.Shape.{Shape}
use Rattle.cops_model.specs.declared.deliveries.Delivery.TheVariants.{Refused}
use Rattle.cops_model.specs.declared.deliveries.Progress.{Progress}
use Rattle.cops_model.specs.declared.deliveries.Progress.TheVariants.{Working, Done}
use Rattle.cops_repl.specs.declared.stages.After.{After}
use Rattle.cops_repl.specs.declared.stages.After.TheVariants.{Goes, Ends}
use Rattle.cops_repl.specs.declared.stages.Route.{Route}
use Rattle.cops_repl.specs.declared.stages.Stage.{Stage}
use Rattle.cops_repl.specs.declared.stages.Stage.TheVariants.{Pulling, Carrying, Stored, Over}
use Rattle.cops_model.specs.Carrier.{Carrier, Stream, carrier_after, carrier_next, delivery_progress, is_foreign, next_after, pair_of_entry}

-- ---- a carrier as contracts see it

-- its stream, the number of shards, the greatest timestamp so far, and its stage
pub record KeptCarrier : Type 0 where
  pub stream : Stream
  pub shards : ℕ
  pub moment : ℕ
  pub stage : Stage

abbrev pub stage_is_over : Stage → Bool
stage_is_over Over = true
stage_is_over stage = false

abbrev pub has_ended : KeptCarrier → Bool
has_ended carrier = stage_is_over carrier.stage

-- the number of shards is that of the cluster, the stream's node and data centre exist, and it leads to another data centre
pub record RunsIn (shape : Shape) (shards : ℕ) (stream : Stream) : Type 0 where
  pub shards_are : shards ≡ shape.shards
  pub dc_exists : stream.origin.dc < shape.data_centres
  pub shard_exists : stream.origin.shard < shape.shards
  pub to_dc_exists : stream.to_dc < shape.data_centres
  pub to_another : stream.to_dc ≢ stream.origin.dc

abbrev pub stream_of : Route → Stream
stream_of route = record { origin = route.origin; to_dc = route.to_dc }

-- ---- the replies behind a stage

abbrev pub reply_of_commit : Bool → NodeReply
reply_of_commit fresh = if fresh then Committed else Already

abbrev pub reply_of_ack : Bool → NodeReply
reply_of_ack acked = if acked then Acked else NotFront

-- the replies that lead to a stage: none; an entry of the stream, whose first near pairs are committed at the destination; or all of these and
-- the commit of the entry there
abbrev pub LeadTo : ℕ → Stream → List NodeReply → Stage → Type 0
LeadTo shards stream replies Pulling = replies ≡ []
LeadTo shards stream replies (Carrying entry checked) =
    (is_foreign shards stream entry ≡ false) × (checked ≤ length entry.near) × (replies ≡ Pulled entry ∷ replicate checked (Checked true))
LeadTo shards stream replies (Stored pair fresh) =
    (entry : Entry) × (is_foreign shards stream entry ≡ false) × (pair ≡ pair_of_entry entry)
    × (replies ≡ Pulled entry ∷ (replicate (length entry.near) (Checked true) ++ reply_of_commit fresh ∷ []))
LeadTo shards stream replies Over = ⊥

-- the invariant of each carrier's stage: an entry that it carries is of the stream
abbrev pub IsSound : ℕ → Stream → Stage → Type 0
IsSound shards stream (Carrying entry checked) = (is_foreign shards stream entry ≡ false) × (checked ≤ length entry.near)
IsSound shards stream stage = Unit {0}

-- ---- a step

abbrev pub is_done : Progress → Bool
is_done Working = false
is_done (Done ending) = true

-- what a step counts as having shown: if the node ran out of memory, the end that says so
abbrev pub told_progress : Result Progress AllocError → Progress
told_progress (Ok progress) = progress
told_progress (Err error) = Done (Refused OutOfMemory)

-- what follows these replies: they lead to the next stage, or they are at an end
abbrev pub FollowsFrom : ℕ → Stream → List NodeReply → After → Type 0
FollowsFrom shards stream replies (Goes stage) = LeadTo shards stream replies stage
FollowsFrom shards stream replies (Ends ending) = next_after shards stream replies ≡ Ended ending

-- whatever replies led to the stage, this follows from one more
abbrev pub FollowsReply : ℕ → Stream → Stage → NodeReply → After → Type 0
FollowsReply shards stream stage reply after =
    (replies : List NodeReply) → LeadTo shards stream replies stage → FollowsFrom shards stream (replies ++ reply ∷ []) after

-- whatever replies led to the stage, this call comes next
abbrev pub AsksNext : ℕ → Stream → Stage → Directed → Type 0
AsksNext shards stream stage directed =
    (replies : List NodeReply) → LeadTo shards stream replies stage → next_after shards stream replies ≡ Call directed

-- the stage makes this call, and this follows from its reply
abbrev pub IsStepFrom : ℕ → Stream → Stage → Directed → NodeReply → After → Type 0
IsStepFrom shards stream stage directed reply after = AsksNext shards stream stage directed × FollowsReply shards stream stage reply after

-- what follows if the node ran out of memory: the end that says so
abbrev pub told_after : Result After AllocError → After
told_after (Ok after) = after
told_after (Err error) = Ends (Refused OutOfMemory)

abbrev pub IsSoundAfter : ℕ → Stream → After → Type 0
IsSoundAfter shards stream (Goes stage) = IsSound shards stream stage × (stage_is_over stage ≡ false)
IsSoundAfter shards stream (Ends ending) = Unit {0}

-- ---- carriers

-- a carrier that goes on represents those of its stream and timestamp whose replies lead to its stage
pub record CarrierStandsFor (shards : ℕ) (carrier : KeptCarrier) (solo : Carrier) : Type 0 where
  pub shards_are : carrier.shards ≡ shards
  pub stream_is : carrier.stream ≡ solo.stream
  pub moment_is : carrier.moment ≡ solo.moment
  pub led_here : LeadTo shards solo.stream (replies_of solo.log) carrier.stage

-- a carrier that still works represents the carrier of the definition; one that is done has ended
abbrev pub StandsIfWorking : ℕ → KeptCarrier → Carrier → Progress → Type 0
StandsIfWorking shards carrier solo Working = CarrierStandsFor shards carrier solo
StandsIfWorking shards carrier solo (Done ending) = has_ended carrier ≡ true

-- the call was the next one of the carrier `solo`; its step shows what the definition's does, and the carrier then represents what the
-- definition's step leaves
pub record IsStepOf (shards : ℕ) (solo : Carrier) (directed : Directed) (step : LogStep) (shows : Progress) (after : KeptCarrier) : Type 0 where
  pub asked : carrier_next shards solo.stream solo.log ≡ Call directed
  pub shown : shows ≡ delivery_progress shards solo step
  pub stands : StandsIfWorking shards after (carrier_after solo step) shows

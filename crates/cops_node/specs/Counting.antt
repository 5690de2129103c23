-- A node of one tenant that counts its calls, and the solo nodes that it represents.
use Rattle.std.specs.Prelude.{◌≡◌, ℕ, length}
use Rattle.cops_store.specs.Contents.{Contents}
use Rattle.cops_outbox.specs.Queues.{Queues}
use Rattle.cops_model.specs.declared.calls.NodeCall.{NodeCall}
use Rattle.cops_model.specs.declared.calls.NodeReply.{NodeReply}
use Rattle.cops_model.specs.Place.{Place}
use Rattle.cops_model.specs.SoloNode.{SoloNode}
use Rattle.cops_model.specs.Step.{CallEffect, node_step}
use Rattle.cops_node.specs.declared.Home.{Home}
use Rattle.cops_node.specs.declared.parts.Part.{Part}
use Rattle.cops_node.specs.Parts.{StandsAt, place_under}

-- its home, its tenant's part, the number of calls, the records and the queues
pub record Counting : Type 0 where
  pub home : Home
  pub part : Part
  pub calls : ℕ
  pub store : Contents
  pub outbox : Queues

-- the place of its tenant
abbrev pub place_of_counting : Counting → Place
place_of_counting node = place_under node.home node.part.terms

-- the node has the state of this solo node, and has counted as many calls as are in its trail
pub record RepresentsSolo (node : Counting) (solo : SoloNode) : Type 0 where
  pub stands : StandsAt 0 (place_of_counting node) node.part.counters node.store node.outbox solo
  pub moment : solo.moment ≡ node.part.moment
  pub counted : length solo.trail ≡ node.calls

-- the reply is that of a turn of this solo node, and the new node represents what the turn leaves
pub record IsCountedTurn (moment : ℕ) (call : NodeCall) (reply : NodeReply) (old : Counting) (solo : SoloNode) (new : Counting) : Type 0 where
  pub reply_is : reply ≡ (node_step (place_of_counting old) moment call solo).reply
  pub after : RepresentsSolo new (node_step (place_of_counting old) moment call solo).after

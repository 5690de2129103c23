-- A replay in progress: one tenant's nodes after the records so far.
use Rattle.std.specs.Prelude.{◌≡◌, ℕ, ◌*◌, ◌<◌, ◌≤◌, ◌⊎◌, Bool, true, false, List, length, slice_index_or, Option, Some, None}
use Rattle.cops_types.specs.Counts.{counted}
use Rattle.cops_types.specs.Layout.{NODES}
use Rattle.cops_types.specs.TenantConfig.{TenantConfig}
use Rattle.cops_model.specs.declared.calls.NodeReply.{NodeReply}
use Rattle.cops_model.specs.Place.{place_of}
use Rattle.cops_model.specs.SoloNode.{SoloNode, new_node}
use Rattle.cops_node.specs.Clusters.{id_of}
use Rattle.cops_node.specs.Counting.{Counting, RepresentsSolo, place_of_counting}
use Rattle.cops_node.specs.declared.Shape.{Shape}
use Rattle.cops_replay.specs.declared.layouts.Layout.{Layout}
use Rattle.cops_replay.specs.declared.reading.Asked.{Asked}
use Rattle.cops_replay.specs.declared.Record.{Record}
use Rattle.cops_replay.specs.declared.Replayed.{Replayed}
use Rattle.cops_replay.specs.declared.Replayed.TheVariants.{Same, FirstDifference}
use Rattle.cops_replay.specs.RecordLines.{record_told, record_with}
use Rattle.cops_replay.specs.Replaying.{Agrees, fresh_nodes, nodes_after}
use Rattle.cops_replay.specs.ReplayText.{told_of}

-- ---- the nodes

-- the sizes of the cluster, and the nodes by number
pub record Lone : Type 0 where
  pub shape : Shape
  pub nodes : List Counting

-- there are as many nodes as the cluster has
pub record AreAll (shape : Shape) (nodes : List Counting) : Type 0 where
  pub all : length nodes ≡ shape.data_centres * shape.shards
  pub numbers_fit : shape.data_centres * shape.shards ≤ NODES

-- the node has its place, and represents this solo node
pub record IsNodeAt (config : TenantConfig) (number : ℕ) (node : Counting) (solo : SoloNode) : Type 0 where
  pub place : place_of_counting node ≡ place_of config (id_of config.shards number)
  pub represents : RepresentsSolo node solo

-- the nodes are those of a tenant with this configuration, and represent these solo nodes
pub record AreLoneNodes (config : TenantConfig) (nodes : Lone) (solos : List SoloNode) : Type 0 where
  pub data_centres : config.data_centres ≡ nodes.shape.data_centres
  pub shards : config.shards ≡ nodes.shape.shards
  pub all : length solos ≡ length nodes.nodes
  pub each : (number : ℕ) (node : Counting) → number < length nodes.nodes → node ≡ slice_index_or nodes.nodes number node →
      IsNodeAt config number node (slice_index_or solos number (new_node config.data_centres))

-- the record agrees, and the nodes took its turn; or it does not agree
abbrev pub IsReplayed : TenantConfig → Record → List SoloNode → Bool → Lone → Type 0
IsReplayed config told solos true new = Agrees config told solos × AreLoneNodes config new (nodes_after config told solos)
IsReplayed config told solos false new = Agrees config told solos → ⊥

-- the record of the call with this reply agrees, and the nodes took its turn; or no record of the call agrees
abbrev pub IsReplied : TenantConfig → Asked → List SoloNode → Option NodeReply → Lone → Type 0
IsReplied config asked solos (Some reply) new = IsReplayed config (record_with asked reply) solos true new
IsReplied config asked solos None new = (reply : NodeReply) → Agrees config (record_with asked reply) solos → ⊥

-- ---- the lines so far

-- the layout of the records, the nodes, the number of records that agreed, and the place of the first that does not
pub record Standing : Type 0 where
  pub layout : Layout
  pub nodes : Lone
  pub passed : ℕ
  pub found : Option ℕ

-- no record has been replayed
pub record IsBeforeRecords (config : TenantConfig) (replay : Standing) : Type 0 where
  pub nodes_are : AreLoneNodes config replay.nodes (fresh_nodes config)
  pub passed_is : replay.passed ≡ 0
  pub found_is : replay.found ≡ None

-- the line's meaning in today's layout, if it is not too long, is that in its own; or the line has none
abbrev pub MayAgree : Layout → List ℕ → Bool → Type 0
MayAgree layout line true = told_of layout line ≡ record_told line
MayAgree layout line false = told_of layout line ≡ None

-- the line is a record that agrees, and the nodes took its turn; or it is not
abbrev pub IsLineReplayed : TenantConfig → List ℕ → List SoloNode → Bool → Lone → Type 0
IsLineReplayed config line solos true new = (told : Record) × (record_told line ≡ Some told) × IsReplayed config told solos true new
IsLineReplayed config line solos false new = (told : Record) → record_told line ≡ Some told → Agrees config told solos → ⊥

-- the line's record agreed, and the nodes took its turn
pub record Passes (config : TenantConfig) (line : List ℕ) (solos : List SoloNode) (old new : Standing) : Type 0 where
  pub told : Record
  pub told_is : told_of old.layout line ≡ Some told
  pub agrees : Agrees config told solos
  pub after : AreLoneNodes config new.nodes (nodes_after config told solos)
  pub passed_is : new.passed ≡ counted old.passed
  pub found_is : new.found ≡ None

-- the line is no record that agrees, and this is its place
pub record Differs (config : TenantConfig) (line : List ℕ) (solos : List SoloNode) (old new : Standing) : Type 0 where
  pub differs : (told : Record) → told_of old.layout line ≡ Some told → Agrees config told solos → ⊥
  pub found_is : new.found ≡ Some (counted old.passed)

-- one line was replayed; after a difference no line is
pub record IsReplayedLine (line : List ℕ) (old new : Standing) : Type 0 where
  pub layout : new.layout ≡ old.layout
  pub over : (place : ℕ) → old.found ≡ Some place → new ≡ old
  pub goes : old.found ≡ None → (config : TenantConfig) (solos : List SoloNode) → AreLoneNodes config old.nodes solos → Passes config line solos old new ⊎ Differs config line solos old new

-- the next record's place is recorded: one more has passed, or it is the first that differs
abbrev pub IsRecordCounted : Bool → Standing → Standing → Type 0
IsRecordCounted true old new = (new.layout ≡ old.layout) × (new.nodes ≡ old.nodes) × (new.passed ≡ counted old.passed) × (new.found ≡ old.found)
IsRecordCounted false old new = (new.layout ≡ old.layout) × (new.found ≡ Some (counted old.passed))

-- the result so far
abbrev pub found_so_far : ℕ → Option ℕ → Replayed
found_so_far passed None = Same passed
found_so_far passed (Some place) = FirstDifference place

abbrev pub found_of : Standing → Replayed
found_of replay = found_so_far replay.passed replay.found

-- The turns of one tenant's calls at the nodes of a cluster, and when they are legal.
use Rattle.std.specs.Prelude.{◌≡◌, ◌⊎◌, ℕ, Bool, true, false, IsTrue, ◌==◌, ◌*◌, nat_lt, List, [], ◌∷◌, filter, length, replicate, slice_index_or, slice_set, if◌then◌else◌}
use Rattle.cops_types.specs.declared.faults.Fault.TheVariants.{OutOfMemory}
use Rattle.cops_types.specs.TenantConfig.{TenantConfig}
use Rattle.cops_model.specs.declared.calls.NodeCall.{NodeCall}
use Rattle.cops_model.specs.declared.calls.NodeId.{NodeId}
use Rattle.cops_model.specs.declared.calls.NodeReply.{NodeReply}
use Rattle.cops_model.specs.declared.calls.NodeReply.TheVariants.{Refused}
use Rattle.cops_model.specs.Cluster.{has_node}
use Rattle.cops_model.specs.Place.{node_number, place_of}
use Rattle.cops_model.specs.SoloNode.{SoloNode, new_node}
use Rattle.cops_model.specs.Step.{CallEffect, node_step}

-- a call at a node, with its timestamp and its reply
pub record Turn : Type 0 where
  pub node : NodeId
  pub moment : ℕ
  pub call : NodeCall
  pub reply : NodeReply

-- the effect of the call on the tenant's part of its node
abbrev pub effect_at : TenantConfig → Turn → SoloNode → CallEffect
effect_at config t solo = node_step (place_of config t.node) t.moment t.call solo

-- memory was refused to the call
abbrev pub was_refused_memory : NodeReply → Bool
was_refused_memory (Refused OutOfMemory) = true
was_refused_memory reply = false

-- a full audit refuses each call, whatever memory there is
abbrev pub has_audit_left : TenantConfig → SoloNode → Bool
has_audit_left config solo = nat_lt (length solo.trail) config.quota.audit

-- the reply is the node's, or memory was refused to a call that the audit has room for
abbrev pub IsReplyOf : TenantConfig → Turn → SoloNode → Type 0
IsReplyOf config t solo = (t.reply ≡ (effect_at config t solo).reply) ⊎ ((t.reply ≡ Refused OutOfMemory) × IsTrue (has_audit_left config solo))

-- the tenant's part of the node after the turn; refused memory leaves it
abbrev pub left_by_turn : TenantConfig → Turn → SoloNode → SoloNode
left_by_turn config t solo = if was_refused_memory t.reply then solo else (effect_at config t solo).after

-- ---- one node by itself

abbrev pub is_at : TenantConfig → ℕ → Turn → Bool
is_at config number t = node_number config.shards t.node == number

-- the turns at the node of this number
abbrev pub turns_at : TenantConfig → ℕ → List Turn → List Turn
turns_at config number turns = filter (is_at config number) turns

-- each reply is one of the node after the turns before it, and each turn is at a node of the cluster
abbrev pub IsLegal : TenantConfig → SoloNode → List Turn → Type 0
IsLegal config solo [] = Unit {0}
IsLegal config solo (t ∷ turns) = (has_node config t.node.dc t.node.shard ≡ true) × IsReplyOf config t solo × IsLegal config (left_by_turn config t solo) turns

-- the node after the turns
abbrev pub left_of : TenantConfig → SoloNode → List Turn → SoloNode
left_of config solo [] = solo
left_of config solo (t ∷ turns) = left_of config (left_by_turn config t solo) turns

-- ---- all nodes

abbrev pub all_new : TenantConfig → List SoloNode
all_new config = replicate (config.data_centres * config.shards) (new_node config.data_centres)

abbrev pub node_numbered : TenantConfig → ℕ → List SoloNode → SoloNode
node_numbered config number nodes = slice_index_or nodes number (new_node config.data_centres)

-- legal at each node, from these nodes on
abbrev pub IsLegalAtEach : TenantConfig → List SoloNode → List Turn → Type 0
IsLegalAtEach config nodes turns = (number : ℕ) → IsLegal config (node_numbered config number nodes) (turns_at config number turns)

-- all nodes after a turn
abbrev pub nodes_after_turn : TenantConfig → Turn → List SoloNode → List SoloNode
nodes_after_turn config t nodes = let number = node_number config.shards t.node in slice_set nodes number (left_by_turn config t (node_numbered config number nodes))

abbrev pub nodes_left : TenantConfig → List Turn → List SoloNode → List SoloNode
nodes_left config [] nodes = nodes
nodes_left config (t ∷ turns) nodes = nodes_left config turns (nodes_after_turn config t nodes)

-- the turns are a run of all nodes as one machine
abbrev pub IsRun : TenantConfig → List Turn → List SoloNode → Type 0
IsRun config [] nodes = Unit {0}
IsRun config (t ∷ turns) nodes =
    (has_node config t.node.dc t.node.shard ≡ true) × IsReplyOf config t (node_numbered config (node_number config.shards t.node) nodes) × IsRun config turns (nodes_after_turn config t nodes)

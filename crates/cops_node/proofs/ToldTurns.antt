-- A turn of a node, by its reply.
use Rattle.std.proofs.Common.{◌≡◌, ◌≢◌, ◌<◌, List, ap, get_or, inl, inr, length, refl, set}
use Rattle.std.specs.Prelude.{ℕ, false, IsSome, IfOk, OnErr, Result, Ok, Err, Some}
use Rattle.std.specs.declared.alloc.AllocError.{AllocError}
use Rattle.cops_types.specs.declared.faults.Fault.TheVariants.{AuditFull}
use Rattle.cops_model.specs.declared.calls.NodeCall.{NodeCall}
use Rattle.cops_model.specs.declared.calls.NodeReply.{NodeReply}
use Rattle.cops_model.specs.declared.calls.NodeReply.TheVariants.{Refused}
use Rattle.cops_model.specs.declared.calls.NodeId.{NodeId}
use Rattle.cops_model.specs.Place.{Place, node_number}
use Rattle.cops_types.specs.TenantConfig.{TenantConfig}
use Rattle.cops_node.specs.declared.Shape.{Shape}
use Rattle.cops_node.specs.Clusters.{HasTenant, IsTurnOf}
use Rattle.cops_node.proofs.Clusters.{turned}
use Rattle.cops_node.specs.Parts.{IsAudited, IsSoloTurn, IsTurn, JoinsTrail, Shared, has_audit_room, place_at, trail_of}
use Rattle.cops_node.specs.ToldReplies.{told_reply}

module _ (slot moment : ℕ) (call : NodeCall) (old new : Shared) where
  pub turn_told : (result : Result NodeReply AllocError) → IfOk result (λ reply. (place : Place) → place_at slot old ≡ Some place → IsSoloTurn slot moment call reply place old new) → OnErr result (new ≡ old)
      → (place : Place) → place_at slot old ≡ Some place → IsTurn slot moment call (told_reply result) place old new
  turn_told (Ok reply) turn same place at = inr (turn place at)
  turn_told (Err error) turn same place at = inl (refl, same)

  pub full_told : (result : Result NodeReply AllocError) → ((place : Place) → place_at slot old ≡ Some place → has_audit_room slot place old ≡ false → result ≡ Ok (Refused AuditFull))
      → (place : Place) → place_at slot old ≡ Some place → has_audit_room slot place old ≡ false → told_reply result ≡ Refused AuditFull
  full_told result full place at closed = ap told_reply (full place at closed)

  noted_told : (reply : NodeReply) → JoinsTrail slot moment call reply old new → IsAudited slot moment call reply old new
  noted_told reply (inl full) = inl (inr full.0, full.1)
  noted_told reply (inr more) = inr more

  pub audited_told : (result : Result NodeReply AllocError) → IfOk result (λ reply. IsSome (place_at slot old) → JoinsTrail slot moment call reply old new) → OnErr result (new ≡ old)
      → IsSome (place_at slot old) → IsAudited slot moment call (told_reply result) old new
  audited_told (Ok reply) noted same some = noted_told reply (noted some)
  audited_told (Err error) noted same some = inl (inl refl, same)

-- an answer is the turn of the solo node of the slot's tenant
module _ (shape : Shape) (nodes : List Shared) (id : NodeId) (slot moment : ℕ) (call : NodeCall) (node next : Shared)
    (within : node_number shape.shards id < length nodes) (read : node ≡ get_or nodes (node_number shape.shards id) node) (here : node.home.id ≡ id)
    (stay : (other : ℕ) → other ≢ slot → trail_of other next.audit ≡ trail_of other node.audit)
    (home : next.home ≡ node.home) (terms : next.terms ≡ node.terms) where
  pub ok_turned : (result : Result NodeReply AllocError)
      → IfOk result (λ reply. (place : Place) → place_at slot node ≡ Some place → IsSoloTurn slot moment call reply place node next)
      → ((place : Place) → place_at slot node ≡ Some place → IsTurn slot moment call (told_reply result) place node next)
      → ((place : Place) → place_at slot node ≡ Some place → has_audit_room slot place node ≡ false → told_reply result ≡ Refused AuditFull)
      → IfOk result (λ reply. (config : TenantConfig) → config.shards ≡ shape.shards → HasTenant config slot (record { shape = shape; nodes = nodes })
      → IsTurnOf config id slot moment call reply (record { shape = shape; nodes = nodes }) (record { shape = shape; nodes = set nodes (node_number shape.shards id) next }))
  ok_turned (Ok reply) done turn full = turned shape nodes id slot moment call reply node next within read here turn full stay home terms done
  ok_turned (Err error) done turn full = tt

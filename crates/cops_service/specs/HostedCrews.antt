-- The work of threads of a service whose tenants come and go: work items are carried and collected in their lives, and lines of the host are followed.
use Rattle.std.specs.Prelude.{◌≡◌, ◌⊎◌, ℕ, ◌<◌, ◌≤◌, Option, Some, None, IsSomeAnd}
use Rattle.cops_types.specs.declared.configs.Config.{Config}
use Rattle.cops_types.specs.declared.configs.Tenant.{Tenant}
use Rattle.cops_types.specs.declared.faults.Fault.TheVariants.{Syntax}
use Rattle.cops_types.specs.OpenSlots.{open_slot_of_name}
use Rattle.cops_types.specs.Version.{last_clock}
use Rattle.cops_model.specs.declared.calls.NodeCall.{NodeCall}
use Rattle.cops_model.specs.declared.calls.NodeId.{NodeId}
use Rattle.cops_model.specs.declared.calls.NodeReply.{NodeReply}
use Rattle.cops_model.specs.declared.replies.HostReply.{HostReply}
use Rattle.cops_model.specs.declared.replies.HostReply.TheVariants.{Denied}
use Rattle.cops_node.specs.Hosting.{Hosted}
use Rattle.cops_service.specs.Calling.{Collects}
use Rattle.cops_service.specs.Carried.{DeliversStream}
use Rattle.cops_service.specs.Gates.{Gates}
use Rattle.cops_service.specs.HostedDesks.{HostedSeat, IsLifeCall}
use Rattle.cops_service.specs.Noted.{IsBetweenCentres, IsNodeThere}
use Rattle.cops_service.specs.Repeated.{IsRepeated}
use Rattle.cops_service.specs.Rosters.{IsAdmissionTold, IsCloseTold, Roster}
use Rattle.cops_service.specs.declared.host_lines.HostLine.{HostLine}
use Rattle.cops_service.specs.declared.host_lines.HostLine.TheVariants as line
use Rattle.cops_service.specs.declared.notes.Stream.{Stream}
use Rattle.cops_service.specs.declared.notes.TenantNode.{TenantNode}
use Rattle.cops_service.specs.declared.roster.Life.{Life}

-- the life of a work item
abbrev pub life_of_place : TenantNode → Life
life_of_place place = record { slot = place.slot; number = place.life }

-- a call in this life. The slot that a session or a carrier names is ignored
abbrev pub CallsInLife : Gates Hosted → Life → HostedSeat → NodeId → ℕ → ℕ → NodeCall → NodeReply → HostedSeat → Type 0
CallsInLife cluster life old id named moment call reply new = IsLifeCall cluster old id life.slot life.number moment call reply new

module _ (config : Config) (cluster : Gates Hosted) where
  -- ---- carrier

  -- a stream is carried in its life, from its first call to its end
  abbrev pub DeliversInLife : Stream → HostedSeat → HostedSeat → Type 0
  DeliversInLife stream = DeliversStream (CallsInLife cluster (life_of_place stream.from)) config.shards stream

  -- no carrier of this stream, or some, if it goes from an existing node to another data centre, and otherwise no call is made
  abbrev pub CarriesInLife : Stream → HostedSeat → HostedSeat → Type 0
  CarriesInLife stream first last =
      (IsBetweenCentres config stream × IsRepeated (DeliversInLife stream) first last)
      ⊎ ((IsBetweenCentres config stream → ⊥) × (last ≡ first))

  abbrev pub DeliversSomeLife : HostedSeat → HostedSeat → Type 0
  DeliversSomeLife first last = (stream : Stream) × IsBetweenCentres config stream × DeliversInLife stream first last

  -- a carrier's seat: such streams are carried, each in its life
  abbrev pub CarriesLives : HostedSeat → HostedSeat → Type 0
  CarriesLives first last = IsRepeated DeliversSomeLife first last

  -- ---- collector

  -- the tenant's part of a node is collected in its life
  abbrev pub CollectsPlace : TenantNode → HostedSeat → HostedSeat → Type 0
  CollectsPlace place = Collects (CallsInLife cluster (life_of_place place)) place

  -- the same if the node exists, and otherwise no call is made
  abbrev pub CollectsInLife : TenantNode → HostedSeat → HostedSeat → Type 0
  CollectsInLife place first last =
      (IsNodeThere config place × CollectsPlace place first last)
      ⊎ ((IsNodeThere config place → ⊥) × (last ≡ first))

  abbrev pub CollectsSomePlace : HostedSeat → HostedSeat → Type 0
  CollectsSomePlace first last = (place : TenantNode) × IsNodeThere config place × CollectsPlace place first last

  -- a collector's seat: places are collected, each in its life
  abbrev pub CollectsLives : HostedSeat → HostedSeat → Type 0
  CollectsLives first last = IsRepeated CollectsSomePlace first last

-- ---- host

-- the tenants that are open, and the host's seat
pub record Hosting : Type 0 where
  pub roster : Roster
  pub seat : HostedSeat

module _ (cluster : Gates Hosted) where
  -- a tenant whose first clock is one that a clock has is admitted at all nodes or at none; another is bad syntax
  abbrev pub IsTenantLineTold : Tenant → Hosting → HostReply → Hosting → Type 0
  IsTenantLineTold tenant old reply new =
      ((tenant.first_clock ≤ last_clock) × IsAdmissionTold cluster tenant old.roster old.seat reply new.roster new.seat)
      ⊎ ((last_clock < tenant.first_clock) × (reply ≡ Denied Syntax) × (new ≡ old))

  -- the reply to a line of the host, and what is done. A line that asks for the end has no reply
  abbrev pub IsLineTold : HostLine → Hosting → Option HostReply → Hosting → Type 0
  IsLineTold (line.Admit tenant) old told new = IsSomeAnd told (λ reply. IsTenantLineTold tenant old reply new)
  IsLineTold (line.Close name) old told new =
      IsSomeAnd told (λ reply. IsCloseTold cluster name (open_slot_of_name old.roster.tenants name) old.roster old.seat reply new.roster new.seat)
  IsLineTold line.Unknown old told new = (told ≡ Some (Denied Syntax)) × (new ≡ old)
  IsLineTold line.End old told new = (told ≡ None) × (new ≡ old)

  -- a line of the host is followed
  pub record FollowsLine (said : HostLine) (old new : Hosting) : Type 0 where
    pub told : Option HostReply
    pub is_told : IsLineTold said old told new

-- What a thread of a service does, as actors of its tenants.
use Rattle.std.specs.Prelude.{ℕ, List}
use Rattle.std.specs.List.{AllByRecursion}
use Rattle.cops_types.specs.declared.configs.Config.{Config}
use Rattle.cops_model.specs.declared.calls.NodeCall.{NodeCall}
use Rattle.cops_model.specs.declared.calls.NodeId.{NodeId}
use Rattle.cops_model.specs.declared.calls.NodeReply.{NodeReply}
use Rattle.cops_whole.specs.Seats.{BehavesInSlot, MakesAll, SlotActor}

-- all calls that were made at the nodes are those of actors, one after another, which each behave
pub record AreCallsOfActors {N : Type 0} (Calls : N → NodeId → ℕ → ℕ → NodeCall → NodeReply → N → Type 0) (config : Config) (old new : N) : Type 0 where
  pub actors : List SlotActor
  pub behave : AllByRecursion (BehavesInSlot config) actors
  pub made : MakesAll Calls old actors new

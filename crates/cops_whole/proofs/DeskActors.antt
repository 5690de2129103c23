-- The calls of actors at a desk, as calls of its seat.
use Rattle.std.proofs.Common.{◌≡◌, ℕ, List, [], ◌∷◌, ◌∙◌, ap, subst}
use Rattle.cops_types.specs.declared.configs.Config.{Config}
use Rattle.cops_model.specs.declared.calls.NodeCall.{NodeCall}
use Rattle.cops_model.specs.declared.calls.NodeId.{NodeId}
use Rattle.cops_model.specs.declared.calls.NodeReply.{NodeReply}
use Rattle.cops_node.specs.Parts.{Shared}
use Rattle.cops_service.specs.Connections.{IsDesk}
use Rattle.cops_service.specs.Desks.{IsDeskCall, NodeSeat}
use Rattle.cops_service.specs.Gates.{Gates}
use Rattle.cops_history.specs.Turns.{Turn}
use Rattle.cops_served.specs.Conversations.{MakesTurns, turns_of_told}
use Rattle.cops_whole.specs.Seats.{MakesAll, SlotActor}
use Rattle.cops_whole.specs.Threads.{AreCallsOfActors}

module _ {N : Type 0} (Calls : N → NodeId → ℕ → ℕ → NodeCall → NodeReply → N → Type 0) (cluster : N → Gates Shared) (seat : N → NodeSeat) (desk : IsDesk Calls cluster seat) (here : Gates Shared) where
  by_one : (slot : ℕ) (turns : List Turn) (old new : N) → cluster old ≡ here → MakesTurns Calls slot old turns new → (cluster new ≡ here) × MakesTurns (IsDeskCall here) slot (seat old) turns (seat new)
  by_one slot [] old new is same = (ap cluster same ∙ is, ap seat same)
  by_one slot (t ∷ turns) old new is (mid, call, later) =
      let rest = by_one slot turns mid new (desk.stays old mid t.node slot t.moment t.call t.reply call ∙ is) later in
      (rest.0, (seat mid, subst (λ c. IsDeskCall c (seat old) t.node slot t.moment t.call t.reply (seat mid)) is (desk.call old mid t.node slot t.moment t.call t.reply call), rest.1))

  by_all : (actors : List SlotActor) (old new : N) → cluster old ≡ here → MakesAll Calls old actors new → MakesAll (IsDeskCall here) (seat old) actors (seat new)
  by_all [] old new is same = ap seat same
  by_all (a ∷ actors) old new is (mid, made, later) =
      let one = by_one a.slot (turns_of_told a.did) old mid is made in
      (seat mid, one.1, by_all actors mid new one.0 later)

  pub by_seat : (config : Config) (old new : N) → cluster old ≡ here → AreCallsOfActors Calls config old new → AreCallsOfActors (IsDeskCall here) config (seat old) (seat new)
  by_seat config old new is calls = record { actors = calls.actors; behave = calls.behave; made = by_all calls.actors old new is calls.made }

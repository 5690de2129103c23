-- The calls of a seat's actors.
use Rattle.std.proofs.Common.{◌≡◌, ℕ, List, [], ◌∷◌, ◌++◌, map, refl, ◌∙◌, ap, subst}
use Rattle.std.specs.List.{flat_map}
use Rattle.std.proofs.lemmas.List.{map-append}
use Rattle.cops_types.specs.declared.configs.Config.{Config}
use Rattle.cops_types.specs.declared.faults.Fault.TheVariants.{OutOfMemory}
use Rattle.cops_gate.specs.declared.history.Turn.{Turn as GateTurn}
use Rattle.cops_gate.specs.History.{entry}
use Rattle.cops_model.specs.declared.calls.NodeCall.{NodeCall}
use Rattle.cops_model.specs.declared.calls.NodeId.{NodeId}
use Rattle.cops_model.specs.declared.calls.NodeReply.{NodeReply}
use Rattle.cops_model.specs.declared.calls.NodeReply.TheVariants.{Refused}
use Rattle.cops_model.specs.Place.{node_number}
use Rattle.cops_node.specs.Lacking.{MayLack}
use Rattle.cops_node.specs.Parts.{Shared, IsMachineTurn}
use Rattle.cops_service.specs.Desks.{NodeSeat}
use Rattle.cops_service.specs.Gates.{Gates, openings}
use Rattle.cops_history.specs.Turns.{Turn}
use Rattle.cops_served.specs.Conversations.{MakesTurns, turns_of_told}
use Rattle.cops_whole.specs.Seats.{MakesAll, SlotActor, turn_by, turns_by_actor}
use Rattle.cops_whole.specs.Services.{IsTurnAtNode, IsTurnAtShard, logged_entry}
use Rattle.cops_whole.specs.Whole.{WholeTurn, whole_turn}
use Rattle.cops_whole.proofs.SeatTurns.{CallAt, MakesCalls, makes_both, turn_by as turn_by_seat, turns_by}
use Rattle.cops_whole.proofs.SeenMore.{seen_same}

-- a gate's turn as one of a log
abbrev pub logged_turn : GateTurn NodeCall NodeReply → WholeTurn
logged_turn t = whole_turn t.seat t.node (logged_entry t.entry)

abbrev pub NodeCalls : Type 0
NodeCalls = List (CallAt NodeCall NodeReply)

module _ (config : Config) where
  abbrev pub call_of : ℕ → Turn → CallAt NodeCall NodeReply
  call_of slot t = record { node = node_number config.shards t.node; entry = entry slot t.moment t.call t.reply }

  abbrev pub calls_of_actor : SlotActor → NodeCalls
  calls_of_actor actor = map (call_of actor.slot) (turns_of_told actor.did)

  abbrev pub calls_of : List SlotActor → NodeCalls
  calls_of actors = flat_map calls_of_actor actors

  -- as turns of the seat
  turns_of_slot : (seat slot : ℕ) (ts : List Turn) → map logged_turn (turns_by seat (map (call_of slot) ts)) ≡ map (turn_by config seat slot) ts
  turns_of_slot seat slot [] = refl
  turns_of_slot seat slot (t ∷ ts) = ap (λ ws. turn_by config seat slot t ∷ ws) (turns_of_slot seat slot ts)

  pub turns_of_actors : (seat : ℕ) (actors : List SlotActor) → map logged_turn (turns_by seat (calls_of actors)) ≡ flat_map (turns_by_actor config seat) actors
  turns_of_actors seat [] = refl
  turns_of_actors seat (a ∷ actors) =
      ap (map logged_turn) (map-append (turn_by_seat seat) (calls_of_actor a) (calls_of actors)) ∙ map-append logged_turn (turns_by seat (calls_of_actor a)) (turns_by seat (calls_of actors))
      ∙ (λ i. turns_of_slot seat a.slot (turns_of_told a.did) i ++ turns_of_actors seat actors i)

-- a turn at the node of an id
abbrev pub IsTurnByNumber : Gates Shared → NodeSeat → NodeId → ℕ → ℕ → NodeCall → NodeReply → NodeSeat → Type 0
IsTurnByNumber cluster old id slot moment call reply new = IsTurnAtNode cluster (node_number cluster.shards id) old slot moment call reply new

module _ (config : Config) (cluster : Gates Shared) (shards : cluster.shards ≡ config.shards) where
  abbrev pub Makes : NodeSeat → NodeCalls → NodeSeat → Type 0
  Makes old calls new = MakesCalls IsMachineTurn MayLack (Refused OutOfMemory) (openings cluster) old calls new

  one_made : (slot : ℕ) (ts : List Turn) (old new : NodeSeat) → MakesTurns (IsTurnAtShard config cluster) slot old ts new → Makes old (map (call_of config slot) ts) new
  one_made slot [] old new same = seen_same old new same
  one_made slot (t ∷ ts) old new (mid, call, later) =
      (mid, subst (λ n. IsTurnAtNode cluster (node_number n t.node) old slot t.moment t.call t.reply mid) shards call.1, one_made slot ts mid new later)

  pub all_made : (actors : List SlotActor) (old new : NodeSeat) → MakesAll (IsTurnAtShard config cluster) old actors new → Makes old (calls_of config actors) new
  all_made [] old new same = seen_same old new same
  all_made (a ∷ actors) old new (mid, made, later) =
      makes_both IsMachineTurn MayLack (Refused OutOfMemory) (openings cluster) (calls_of_actor config a) (calls_of config actors) old mid new (one_made a.slot (turns_of_told a.did) old mid made) (all_made actors mid new later)

-- The turns that a seat's actors add.
use Rattle.std.proofs.Common.{◌≡◌, ℕ, Bool, List, [], ◌∷◌, ◌++◌, map, sym, ap, subst, ◌∙◌, append_assoc, append-nil}
use Rattle.std.specs.List.{flat_map}
use Rattle.cops_types.specs.declared.configs.Config.{Config}
use Rattle.cops_model.specs.declared.calls.NodeCall.{NodeCall}
use Rattle.cops_model.specs.declared.calls.NodeId.{NodeId}
use Rattle.cops_model.specs.declared.calls.NodeReply.{NodeReply}
use Rattle.cops_history.specs.Turns.{Turn}
use Rattle.cops_served.specs.Conversations.{AreRecorded, MakesTurns, turns_of_told}
use Rattle.cops_whole.specs.Whole.{WholeTurn}
use Rattle.cops_whole.specs.Seats.{AddsTurns, AllRecorded, MakesAll, SlotActor, turn_by, turns_by_actor}

module _ {N : Type 0} (Calls : N → NodeId → ℕ → ℕ → NodeCall → NodeReply → N → Type 0) (lost : NodeReply → Bool) (config : Config) (seat : ℕ) (Holds : N → Type 0) (seen : N → List WholeTurn) (adds : AddsTurns lost Calls config seat Holds seen) where
  -- the turns of one actor
  one_made : (slot : ℕ) (turns : List Turn) (old new : N) → Holds old → AreRecorded lost turns → MakesTurns Calls slot old turns new → Holds new × (seen new ≡ seen old ++ map (turn_by config seat slot) turns)
  one_made slot [] old new holds all same = (subst Holds (sym same) holds, ap seen same ∙ sym (append-nil (seen old)))
  one_made slot (t ∷ turns) old new holds all (mid, called, later) =
      let one = adds old mid t.node slot t.moment t.call t.reply holds called in
      let rest = one_made slot turns mid new one.0 all.1 later in
      (rest.0, rest.1 ∙ ap (λ ts. ts ++ map (turn_by config seat slot) turns) (one.1 all.0) ∙ append_assoc (seen old) (turn_by config seat slot t ∷ []) (map (turn_by config seat slot) turns))

  pub all_made : (actors : List SlotActor) (old new : N) → Holds old → AllRecorded lost actors → MakesAll Calls old actors new → seen new ≡ seen old ++ flat_map (turns_by_actor config seat) actors
  all_made [] old new holds all same = ap seen same ∙ sym (append-nil (seen old))
  all_made (a ∷ actors) old new holds all (mid, made, later) =
      let one = one_made a.slot (turns_of_told a.did) old mid holds all.0 made in
      all_made actors mid new one.0 all.1 later ∙ ap (λ ts. ts ++ flat_map (turns_by_actor config seat) actors) one.1
      ∙ append_assoc (seen old) (turns_by_actor config seat a) (flat_map (turns_by_actor config seat) actors)

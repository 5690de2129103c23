-- Seats that keep their number, the nodes at which they met the last ticket, and what they have seen.
use Rattle.std.proofs.Common.{◌≡◌, ℕ, List, [], ◌∷◌, ◌++◌, inl, inr, ◌∙◌, sym, subst, append_assoc, append-nil}
use Rattle.std.specs.Prelude.{Option}
use Rattle.std.specs.List.{AllByRecursion}
use Rattle.cops_gate.specs.declared.history.Entry.{Entry}
use Rattle.cops_gate.specs.History.{StartsWith, turn}
use Rattle.cops_gate.specs.Rule.{Met}
use Rattle.cops_gate.specs.Seats.{Extends, Known, all_spent}
use Rattle.cops_gate.proofs.Accounts.{met_left, met_right}
use Rattle.cops_gate.proofs.Ending.{starts_again}
use Rattle.cops_service.specs.Gates.{HasSeenMore, IsToldAtGate}
use Rattle.cops_whole.proofs.SeenMore.{seen_same}

module _ {M C R : Type 0} where
  -- the seat keeps its number, and remembers at which nodes it met the last ticket, and all that it has seen
  pub record StaysSeat (old new : Known M C R) : Type 0 where
    pub number : new.number ≡ old.number
    pub met : (node : ℕ) → Met node old.spent → Met node new.spent
    pub seen : StartsWith new.history old.history

  pub more_seen : (old new : Known M C R) → HasSeenMore old new → StaysSeat old new
  more_seen old new more = record { number = more.same.1; met = λ node. subst (Met node) (sym more.same.2); seen = more.seen }

  pub same_seat : (old new : Known M C R) → new ≡ old → StaysSeat old new
  same_seat old new same = more_seen old new (seen_same old new same)

  pub later_seat : (old mid new : Known M C R) → StaysSeat old mid → StaysSeat mid new → StaysSeat old new
  later_seat old mid new first second = record {
    number = second.number ∙ first.number;
    met = λ node met. second.met node (first.met node met);
    seen = starts_again new.history mid.history old.history second.seen first.seen;
  }

  -- it gets a reply
  extended : (turns : M → ℕ → ℕ → C → R → M → Type 0) (states : List M) (node : ℕ) (e : Option (Entry C R)) (old new : Known M C R) → Extends turns states node old e new → StartsWith new.history old.history
  extended turns states node e old new grows =
      (grows.1.0 ++ turn old.number node e ∷ [], grows.1.1 ∙ append_assoc old.history grows.1.0 (turn old.number node e ∷ []))

  pub told_seat : {turns : M → ℕ → ℕ → C → R → M → Type 0} {may_lack : M → ℕ → C → Type 0} {lacking spent : R} {slot moment : ℕ} {call : C} {reply : R} {states : List M} {node : ℕ} (old new : Known M C R) →
      IsToldAtGate turns may_lack lacking spent slot moment call reply states node old new → StaysSeat old new
  told_seat old new told = record {
    number = told.same.1;
    met = told.met;
    seen = elim (told.grows) [
      | inl grows ↦ extended _ _ _ _ old new grows
      | inr other ↦ elim other [
        | inl lacking ↦ extended _ _ _ _ old new lacking.1
        | inr spent ↦ ([], spent.1 ∙ sym (append-nil old.history))
      ]
    ];
  }

  -- the seat met no last ticket
  abbrev pub HasMetNone : Known M C R → Type 0
  HasMetNone seat = (node : ℕ) → Met node seat.spent → ⊥

  pub met_none_before : (old new : Known M C R) → StaysSeat old new → HasMetNone new → HasMetNone old
  met_none_before old new stays none node met = none node (stays.met node met)

  -- a seat that met none has no seat that met one among those that ended into it
  pub met_none : (seats : List (Known M C R)) → ((node : ℕ) → Met node (all_spent [] seats) → ⊥) → AllByRecursion HasMetNone seats
  met_none [] none = tt
  met_none (s ∷ seats) none = (
    (λ node met. none node (met_left node s.spent (all_spent [] seats) met)),
    met_none seats (λ node met. none node (met_right node s.spent (all_spent [] seats) met)),
  )

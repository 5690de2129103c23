use Rattle.std.proofs.Common.{◌≡◌, ◌∙◌, ap, subst}
use Rattle.cops_gate.specs.History.{StartsWith, turns_at, turns_of}
use Rattle.cops_gate.proofs.Single.{room_there, same_turns, starts_there}
use Rattle.cops_gate.proofs.gate.Gate.meet.Goals as goal

pub returns-clause-seen : goal.returns-clause-seen
returns-clause-seen g c = (
  subst (λ k. StartsWith (turns_at 0 c.meet.new.to.history) k.history) c.from.view_is (starts_there c.meet.new.to.history c.from.inside.seat.history c.meet.ensures.seen.0),
  subst (λ k. StartsWith (turns_at 0 c.meet.new.to.history) k.history) c.to.view_is (starts_there c.meet.new.to.history c.to.inside.seat.history c.meet.ensures.seen.1),
)

pub returns-clause-room : goal.returns-clause-room
returns-clause-room g c = room_there c.meet.new.to.gate c.args.self.now c.meet.new.to.history (c.meet.ensures.same.0 ∙ (ap (λ k. k.gate) c.to.view_is ∙ c.requires.to)) c.meet.ensures.room

pub returns-clause-no_turn : goal.returns-clause-no_turn
returns-clause-no_turn g c =
    subst (λ k. turns_of c.meet.new.to.number (turns_at 0 c.meet.new.to.history) ≡ turns_of k.number k.history) c.to.view_is
    (same_turns c.meet.new.to.number c.to.inside.seat.number c.meet.new.to.history c.to.inside.seat.history c.meet.ensures.no_turn)

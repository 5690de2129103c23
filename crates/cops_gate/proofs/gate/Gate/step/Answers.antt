use Rattle.std.proofs.Common.{◌∙◌, [], ◌∷◌, ap, subst, Some, None, IfOk}
use Rattle.cops_gate.specs.Filtered.{GrowsThere}
use Rattle.cops_gate.specs.History.{entry, turns_at}
use Rattle.cops_gate.proofs.Single.{grows_there, only_is, replies_there, room_there}
use Rattle.cops_gate.proofs.gate.Gate.step.Goals as goal

pub returns-clause-reply : goal.returns-clause-reply
returns-clause-reply g c =
    subst (λ k. IfOk c.step.result (λ r. GrowsThere g.M.Machine.turns c.args.self.now.opening k.number 0 k.history (Some (entry c.args.slot c.args.moment c.args.call r)) (turns_at 0 c.step.new.seat.history))) c.seat.view_is
    (replies_there g.M.Machine.turns c.args.self.now.opening c.self.inside.cluster.opening c.seat.inside.seat.number c.args.slot c.args.moment c.args.call c.step.result c.seat.inside.seat.history c.step.new.seat.history
    (only_is c.self.inside.cluster.opening c.self.inside.one ∙ ap (λ o. o.opening ∷ []) c.self.view_is) c.step.ensures.reply)

pub returns-clause-blank : goal.returns-clause-blank
returns-clause-blank g c = λ blank.
    subst (λ k. GrowsThere g.M.Machine.turns c.args.self.now.opening k.number 0 k.history None (turns_at 0 c.step.new.seat.history)) c.seat.view_is
    (grows_there g.M.Machine.turns c.args.self.now.opening c.self.inside.cluster.opening c.seat.inside.seat.number c.seat.inside.seat.history c.step.new.seat.history None
    (only_is c.self.inside.cluster.opening c.self.inside.one ∙ ap (λ o. o.opening ∷ []) c.self.view_is) (c.step.ensures.blank blank))

pub returns-clause-room : goal.returns-clause-room
returns-clause-room g c = room_there c.step.new.seat.gate c.args.self.now c.step.new.seat.history (c.step.ensures.same.0 ∙ (ap (λ k. k.gate) c.seat.view_is ∙ c.requires.seat)) c.step.ensures.room

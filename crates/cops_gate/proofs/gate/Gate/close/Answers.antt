use Rattle.std.proofs.Common.{◌≡◌, ◌∙◌, sym, [], ◌∷◌, ap, IfSome}
use Rattle.cops_gate.proofs.Single.{closes_alone, first_part, only_is, second_part}
use Rattle.cops_gate.proofs.gate.Gate.close.Goals as goal

pub returns-clause-history : goal.returns-clause-history
returns-clause-history g c = first_part _ _ _ (closes_alone g.M.Machine.turns c.args.self.opening g.M.Machine.place c.self.inside.cluster c.args.self c.seat.inside.seat c.args.seat c.close_only.result
    (only_is c.self.inside.cluster.opening c.self.inside.one ∙ ap (λ o. o.opening ∷ []) c.self.view_is) Rattle.std.proofs.Common.refl (sym (ap (λ o. o.ticket) c.self.view_is))
    (sym (ap (λ k. k.number) c.seat.view_is)) (sym (ap (λ k. k.history) c.seat.view_is)) (sym (ap (λ k. k.spent) c.seat.view_is)) (sym (ap (λ k. k.account) c.seat.view_is)) c.close_only.ensures.history)

pub returns-clause-place : goal.returns-clause-place
returns-clause-place g c = second_part _ _ _ (closes_alone g.M.Machine.turns c.args.self.opening g.M.Machine.place c.self.inside.cluster c.args.self c.seat.inside.seat c.args.seat c.close_only.result
    (only_is c.self.inside.cluster.opening c.self.inside.one ∙ ap (λ o. o.opening ∷ []) c.self.view_is) Rattle.std.proofs.Common.refl (sym (ap (λ o. o.ticket) c.self.view_is))
    (sym (ap (λ k. k.number) c.seat.view_is)) (sym (ap (λ k. k.history) c.seat.view_is)) (sym (ap (λ k. k.spent) c.seat.view_is)) (sym (ap (λ k. k.account) c.seat.view_is)) c.close_only.ensures.history)

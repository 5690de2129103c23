use Rattle.std.proofs.Common.{◌≡◌, ◌∙◌, ◌∷◌, ℕ, ap, sym, subst}
use Rattle.cops_gate.specs.declared.board.Account.{Account}
use Rattle.cops_gate.specs.History.{StartsWith, turns_of}
use Rattle.cops_gate.specs.Rule.{Met}
use Rattle.cops_gate.proofs.Ending.{all_known, own_turns}
use Rattle.cops_gate.proofs.cluster_gate.ClusterGate.end.Goals as goal

pub end-requires-clause-seen : goal.end-requires-clause-seen
end-requires-clause-seen g c =
    let seat = c.args.seat in
    let heard = c.meet.new.to in
    let log = c.args.last.now.history in
    let own : turns_of seat.number heard.history ≡ turns_of seat.number seat.history = ap (λ n. turns_of n heard.history) (sym c.meet.ensures.same.1) ∙ c.meet.ensures.no_turn in
    let known = all_known log seat.history heard.history seat.number seat.account.joined c.requires.seen c.meet.ensures.seen.0 own c.meet.ensures.joined in
    let same_log : log ≡ c.last.inside.place.me.0.seen = sym (ap (λ k. k.history) c.last.view_is ∙ ap (λ k. k.history) c.meet.ensures.from) in
    let number : seat.number ≡ c.into_place.result.me.0.number = sym (c.into_place.ensures.sight.1 ∙ c.meet.ensures.same.1) in
    let account : seat.account ≡ c.into_place.result.me.0.account = sym (c.into_place.ensures.account ∙ c.meet.ensures.account) in
    λ j met. ap (turns_of j) (sym same_log) ∙ (known j (subst (λ (x : ℕ × Account). Met j (x.0 ∷ x.1.joined)) (λ i. (sym number i, sym account i)) met) ∙ ap (turns_of j) (sym c.into_place.ensures.sight.0))

pub returns-clause-given : goal.returns-clause-given
returns-clause-given g c =
    let seat = c.args.seat in
    let heard = c.meet.new.to in
    let log = c.args.last.now.history in
    let own : turns_of seat.number heard.history ≡ turns_of seat.number seat.history = ap (λ n. turns_of n heard.history) (sym c.meet.ensures.same.1) ∙ c.meet.ensures.no_turn in
    let same_log : log ≡ c.end.new.place.me.0.seen = sym (ap (λ m. m.0.seen) c.end.ensures.2 ∙ (ap (λ k. k.history) c.last.view_is ∙ ap (λ k. k.history) c.meet.ensures.from)) in
    subst (λ l. StartsWith l seat.history × (turns_of seat.number l ≡ turns_of seat.number seat.history)) same_log
    (c.requires.seen, own_turns seat.number log seat.history heard.history c.requires.seen c.meet.ensures.seen.0 own)

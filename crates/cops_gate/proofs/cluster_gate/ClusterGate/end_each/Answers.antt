use Rattle.std.proofs.Common.{◌≡◌, ◌∙◌, ◌∷◌, ◌++◌, [], ap, sym, refl, subst, append-nil, append_assoc}
use Rattle.std.specs.List.{AllByRecursion}
use Rattle.cops_gate.specs.Accounts.{joined_with}
use Rattle.cops_gate.specs.History.{StartsWith}
use Rattle.cops_gate.specs.Seats.{HasAllOf, gate_home}
use Rattle.cops_gate.proofs.Ending.{all_split}
use Rattle.cops_gate.proofs.cluster_gate.ClusterGate.end_each.Goals as goal

pub loop-seat-init : goal.loop-seat-init
loop-seat-init g c = ([], sym (append-nil c.args.seats.items), (refl, refl, refl), refl, refl, c.requires.seats, c.requires.each, tt)

pub end-requires-clause-last : goal.end-requires-clause-last
end-requires-clause-last g c = c.loop-seat.invariant.2.0 ∙ c.requires.last

pub end-requires-clause-seat : goal.end-requires-clause-seat
end-requires-clause-seat g c =
    (all_split (λ s. s.gate ≡ gate_home c.args.self.now) c.pop.new.self.items (c.in-Some.seat ∷ []) (subst (AllByRecursion (λ s. s.gate ≡ gate_home c.args.self.now)) c.in-Some.ensures.items c.loop-seat.invariant.5)).1.0

pub end-requires-clause-seen : goal.end-requires-clause-seen
end-requires-clause-seen g c =
    let log = c.args.last.now.history in
    subst (λ h. StartsWith h c.in-Some.seat.history) (sym c.loop-seat.invariant.2.2)
    (all_split (λ s. StartsWith log s.history) c.pop.new.self.items (c.in-Some.seat ∷ []) (subst (AllByRecursion (λ s. StartsWith log s.history)) c.in-Some.ensures.items c.loop-seat.invariant.6)).1.0

pub loop-seat-preserved : goal.loop-seat-preserved
loop-seat-preserved g c =
    let inv = c.loop-seat.invariant in
    let log = c.args.last.now.history in
    let last = c.end.ensures.last in
    let homes = all_split (λ s. s.gate ≡ gate_home c.args.self.now) c.pop.new.self.items (c.in-Some.seat ∷ []) (subst (AllByRecursion (λ s. s.gate ≡ gate_home c.args.self.now)) c.in-Some.ensures.items inv.5) in
    let seen = all_split (λ s. StartsWith log s.history) c.pop.new.self.items (c.in-Some.seat ∷ []) (subst (AllByRecursion (λ s. StartsWith log s.history)) c.in-Some.ensures.items inv.6) in
    let same : c.end.new.last.history ≡ log = ap (λ s. s.history) last ∙ inv.2.2 in (
      c.in-Some.seat ∷ inv.0,
      inv.1 ∙ (ap (λ l. l ++ inv.0) c.in-Some.ensures.items ∙ append_assoc c.pop.new.self.items (c.in-Some.seat ∷ []) inv.0),
      (ap (λ s. s.gate) last ∙ inv.2.0, ap (λ s. s.number) last ∙ inv.2.1, same),
      ap (λ s. s.account) last ∙ ap (λ a. joined_with a c.in-Some.seat.number c.in-Some.seat.account) inv.3,
      ap (λ s. s.spent) last ∙ ap (λ spent. c.in-Some.seat.spent ++ spent) inv.4,
      homes.0,
      seen.0,
      (subst (λ h. HasAllOf h c.in-Some.seat) same c.end.ensures.given, inv.7),
    )

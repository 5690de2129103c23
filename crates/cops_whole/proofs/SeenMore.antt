-- Seats that have seen more, without a turn of their own.
use Rattle.std.proofs.Common.{◌≡◌, ℕ, List, [], ◌∷◌, ◌++◌, refl, sym, ◌∙◌, ap, append_assoc, append-nil}
use Rattle.std.specs.Prelude.{Option}
use Rattle.cops_gate.specs.declared.history.Entry.{Entry}
use Rattle.cops_gate.specs.History.{turn, turns_of}
use Rattle.cops_gate.specs.Seats.{Extends, Known}
use Rattle.cops_gate.proofs.Ending.{starts_again}
use Rattle.cops_service.specs.Gates.{HasSeenMore}

module _ {M C R : Type 0} where
  pub seen_same : (old new : Known M C R) → new ≡ old → HasSeenMore old new
  seen_same old new is = record {
    same = (ap (λ (s : Known M C R). s.gate) is, ap (λ (s : Known M C R). s.number) is, ap (λ (s : Known M C R). s.spent) is);
    account = ap (λ (s : Known M C R). s.account) is;
    seen = ([], ap (λ (s : Known M C R). s.history) is ∙ sym (append-nil old.history));
    no_turn = ap (λ (s : Known M C R). turns_of s.number s.history) is;
  }

  pub seen_none : (seat : Known M C R) → HasSeenMore seat seat
  seen_none seat = seen_same seat seat refl

  pub seen_both : (old mid new : Known M C R) → HasSeenMore old mid → HasSeenMore mid new → HasSeenMore old new
  seen_both old mid new first second = record {
    same = (second.same.0 ∙ first.same.0, second.same.1 ∙ first.same.1, second.same.2 ∙ first.same.2);
    account = second.account ∙ first.account;
    seen = starts_again new.history mid.history old.history second.seen first.seen;
    no_turn = second.no_turn ∙ first.no_turn;
  }

  -- a turn of a seat that had seen more
  pub extends_before : (turns : M → ℕ → ℕ → C → R → M → Type 0) (states : List M) (node : ℕ) (e : Option (Entry C R)) (old seen new : Known M C R) → HasSeenMore old seen → Extends turns states node seen e new → Extends turns states node old e new
  extends_before turns states node e old seen new more grows = (
    grows.0,
    (
      more.seen.0 ++ grows.1.0,
      grows.1.1 ∙ (λ i. (more.seen.1 i ++ grows.1.0) ++ turn (more.same.1 i) node e ∷ [])
          ∙ ap (λ ts. ts ++ turn old.number node e ∷ []) (append_assoc old.history more.seen.0 grows.1.0),
    ),
    (λ i. turns_of (sym more.same.1 i) new.history) ∙ grows.2 ∙ (λ i. more.no_turn i ++ turn (more.same.1 i) node e ∷ []),
  )

-- A history of all nodes, node by node.
use Rattle.std.proofs.Common.{◌≡◌, ℕ, eqb, List, [], ◌∷◌, ◌++◌, sym, refl, ap, ◌∙◌, subst, None, Bool, cond, true, false}
use Rattle.std.specs.List.{filter}
use Rattle.std.proofs.lemmas.List.Elements.{filter-append}
use mathlib.Core.Option.{some-injective}
use Rattle.cops_gate.specs.declared.history.Turn.{Turn}
use Rattle.cops_gate.specs.History.{turn, turns_of, turns_at, Leads}
use Rattle.cops_gate.specs.Filtered.{TurnsAreOfOneNode, OtherNodesAreSeen, LackingIsOfOneNode}
use Rattle.cops_gate.proofs.Histories.{node_mine, node_other, node_parts}

module _ {A : Type 0} where
  kept_if : (p : A → Bool) (x : A) (c : Bool) → filter p (cond c (x ∷ []) []) ≡ cond c (cond (p x) (x ∷ []) []) []
  kept_if p x true = refl
  kept_if p x false = refl

  swapped : (l : List A) (b c : Bool) → cond c (cond b l []) [] ≡ cond b (cond c l []) []
  swapped l true true = refl
  swapped l true false = refl
  swapped l false true = refl
  swapped l false false = refl

  -- two filters may change places
  commute : (p q : A → Bool) (xs : List A) → filter p (filter q xs) ≡ filter q (filter p xs)
  commute p q [] = refl
  commute p q (x ∷ xs) =
      let one : filter p (filter q (x ∷ [])) ≡ filter q (filter p (x ∷ [])) = kept_if p x (q x) ∙ (swapped (x ∷ []) (p x) (q x) ∙ sym (kept_if q x (p x))) in
      ap (filter p) (filter-append q (x ∷ []) xs) ∙ (filter-append p (filter q (x ∷ [])) (filter q xs)
      ∙ ((λ i. one i ++ commute p q xs i) ∙ sym (ap (filter q) (filter-append p (x ∷ []) xs) ∙ filter-append q (filter p (x ∷ [])) (filter p xs))))

module _ {C R : Type 0} where
  pub of_at : (s n : ℕ) (log : List (Turn C R)) → turns_of s (turns_at n log) ≡ turns_at n (turns_of s log)
  of_at s n log = commute (λ t. eqb t.seat s) (λ t. eqb t.node n) log

module _ {M C R : Type 0} (turns : M → ℕ → ℕ → C → R → M → Type 0) where
  pub turns_are_of_one_node : TurnsAreOfOneNode turns
  turns_are_of_one_node states first number node before after e known grown =
      let it : List (Turn C R) = turn number node e ∷ [] in
      let parts : turns_at node after ≡ (turns_at node before ++ turns_at node grown.1.0) ++ it
      = ap (turns_at node) grown.1.1 ∙ (node_mine (before ++ grown.1.0) number node e ∙ ap (λ l. l ++ it) (node_parts node before grown.1.0)) in (
        grown.0.1 node first known,
        (turns_at node grown.1.0, parts),
        of_at number node after ∙ (ap (turns_at node) grown.2 ∙ (node_mine (turns_of number before) number node e ∙ ap (λ l. l ++ it) (sym (of_at number node before)))),
      )

  pub other_nodes_are_seen : OtherNodesAreSeen turns
  other_nodes_are_seen states first number node other before after e apart known grown = (
    grown.0.1 other first known,
    (turns_at other grown.1.0, ap (turns_at other) grown.1.1 ∙ (node_other (before ++ grown.1.0) number node other e apart ∙ node_parts other before grown.1.0)),
    of_at number other after ∙ (ap (turns_at other) grown.2 ∙ (node_other (turns_of number before) number node other e apart ∙ sym (of_at number other before))),
  )

  pub lacking_is_of_one_node : (may_lack : M → ℕ → C → Type 0) → LackingIsOfOneNode turns may_lack
  lacking_is_of_one_node may_lack states first number node slot call after known lacks =
      let one : lacks.1 ≡ first = some-injective lacks.1 first (sym lacks.4 ∙ known) in (
        turns_at node lacks.0,
        lacks.2,
        ap (turns_at node) lacks.3 ∙ node_mine lacks.0 number node None,
        subst (λ (m : M). Leads turns m (turns_at node lacks.0) lacks.2) one lacks.5,
        lacks.6,
      )

-- Each pair of a context's past is a near pair, or in the past of one.
use Rattle.std.proofs.Common.{◌≡◌, Bool, true, false, cond, not, List, [], ◌∷◌, ◌++◌, ◌⊎◌, inl, inr, refl, sym, ◌∙◌, ap, subst}
use Rattle.std.specs.Ordering.{is_lt, is_eq}
use Rattle.cops_types.specs.declared.pairs.Pair.{Pair}
use Rattle.cops_types.specs.Context.{Observation, Observed, Put, all_of, near_of}
use Rattle.cops_types.specs.Pairs.{pair_cmp, holds, without_held}
use Rattle.cops_types.specs.Search.{add_item}
use Rattle.cops_types.proofs.ContextRule.{near_of-observed, near_of-put}
use Rattle.cops_types.proofs.PairLists.{pair_eq-tie}
use Rattle.cops_types.proofs.Elements.{Among, Among-cases, filter-Among}
use Rattle.cops_types.proofs.PairSets.{holds-Among, pair_eq-true}

-- what the item joins has it, and what was there
add_item-has : (p : Pair) (ps : List Pair) → Among p (add_item pair_cmp p ps)
add_item-has p [] = inl refl
add_item-has p (q ∷ ps) =
    elim (is_lt (pair_cmp p q)) as (λ b. Among p (cond b (p ∷ q ∷ ps) (cond (is_eq (pair_cmp p q)) (q ∷ ps) (q ∷ add_item pair_cmp p ps)))) [
      | true ↦ inl refl
      | false ↦ elim (is_eq (pair_cmp p q)) as (λ b. is_eq (pair_cmp p q) ≡ b → Among p (cond b (q ∷ ps) (q ∷ add_item pair_cmp p ps))) [
        | true ↦ λ is. inl (sym (pair_eq-true p q (pair_eq-tie p q ∙ is)))
        | false ↦ λ is. inr (add_item-has p ps)
      ] refl
    ]

add_item-keeps : (p r : Pair) (ps : List Pair) → Among r ps → Among r (add_item pair_cmp p ps)
add_item-keeps p r [] at = absurd at
add_item-keeps p r (q ∷ ps) at =
    elim (is_lt (pair_cmp p q)) as (λ b. Among r (cond b (p ∷ q ∷ ps) (cond (is_eq (pair_cmp p q)) (q ∷ ps) (q ∷ add_item pair_cmp p ps)))) [
      | true ↦ inr at
      | false ↦ elim (is_eq (pair_cmp p q)) as (λ b. Among r (cond b (q ∷ ps) (q ∷ add_item pair_cmp p ps))) [
        | true ↦ at
        | false ↦ elim at [ inl e ↦ inl e | inr later ↦ inr (add_item-keeps p r ps later) ]
      ]
    ]

-- a pair is a near one, or in the past of one
abbrev pub IsCovered : (Pair → List Pair) → List Pair → Pair → Type 0
IsCovered past near q = (n : Pair) × Among n near × ((n ≡ q) ⊎ Among q (past n))

abbrev pub Covers : (Pair → List Pair) → List Pair → List Pair → Type 0
Covers past near ps = (q : Pair) → Among q ps → IsCovered past near q

-- over what each put pair depends on: its past, which is closed and holds no pair's own
module _ (past : Pair → List Pair) (closed : (p q r : Pair) → Among q (past p) → Among r (past q) → Among r (past p)) (apart : (p : Pair) → Among p (past p) → ⊥) where
  -- what is in the past of what is covered is covered
  pub covered-past : (near : List Pair) (p q : Pair) → IsCovered past near p → Among q (past p) → IsCovered past near q
  covered-past near p q is at =
      elim is.2 [
        | inl same ↦ (is.0, is.1, inr (subst (λ n. Among q (past n)) (sym same) at))
        | inr before ↦ (is.0, is.1, inr (closed is.0 p q before at))
      ]

  kept : (deps near : List Pair) (n : Pair) → Among n near → holds deps n ≡ false → Among n (without_held deps near)
  kept deps near n at none = filter-Among (λ p. not (holds deps p)) n near at (ap not none)

  module _ (near deps : List Pair) (p : Pair) (deps-past : (n : Pair) → Among n deps → Among n (past p)) where
    -- a new pair joins: it covers what its deps drop
    new_covers : (q : Pair) → IsCovered past near q → IsCovered past (add_item pair_cmp p (without_held deps near)) q
    new_covers q is = by_held (holds deps is.0) refl
      where
        joined : List Pair
        joined = add_item pair_cmp p (without_held deps near)

        by_held : (b : Bool) → holds deps is.0 ≡ b → IsCovered past joined q
        by_held false none = (is.0, add_item-keeps p is.0 (without_held deps near) (kept deps near is.0 is.1 none), is.2)
        by_held true held =
            let dropped = deps-past is.0 (holds-Among deps is.0 held) in
            (p, add_item-has p (without_held deps near), inr (elim is.2 [ inl same ↦ subst (λ r. Among r (past p)) same dropped | inr before ↦ closed p is.0 q dropped before ]))

    -- a pair that is covered already covers what its deps drop
    old_covers : IsCovered past near p → (q : Pair) → IsCovered past near q → IsCovered past (without_held deps near) q
    old_covers mine q is = by_held (holds deps is.0) refl
      where
        -- the near pair that covers this one is not dropped, as it would be in its own past
        stays : holds deps mine.0 ≡ false
        stays = by_test (holds deps mine.0) refl
          where
            by_test : (b : Bool) → holds deps mine.0 ≡ b → b ≡ false
            by_test false none = refl
            by_test true held =
                let before = deps-past mine.0 (holds-Among deps mine.0 held) in
                absurd (elim mine.2 [
                  | inl same ↦ apart p (subst (λ r. Among r (past p)) same before)
                  | inr after ↦ apart mine.0 (closed mine.0 p mine.0 after before)
                ])

        there : IsCovered past (without_held deps near) p
        there = (mine.0, kept deps near mine.0 mine.1 stays, mine.2)

        by_held : (b : Bool) → holds deps is.0 ≡ b → IsCovered past (without_held deps near) q
        by_held false none = (is.0, kept deps near is.0 is.1 none, is.2)
        by_held true held =
            let dropped = deps-past is.0 (holds-Among deps is.0 held) in
            covered-past (without_held deps near) p q there (elim is.2 [ inl same ↦ subst (λ r. Among r (past p)) same dropped | inr before ↦ closed p is.0 q dropped before ])

  -- an observation keeps the near pairs covering: what was covered, the pair, and its past
  pub covers-observed : (obs : List Observation) (p : Pair) (deps ps : List Pair) → ((n : Pair) → Among n deps → Among n (past p)) → ((n : Pair) → Among n (all_of obs) → Among n ps) →
      Covers past (near_of obs) ps → Covers past (near_of (obs ++ Observed p deps ∷ [])) (ps ++ p ∷ past p)
  covers-observed obs p deps ps deps-past all-in covers q at =
      subst (λ near. IsCovered past near q) (sym (near_of-observed obs p deps)) (by_held (holds (all_of obs) p) refl (Among-cases q ps (p ∷ past p) at))
    where
      near : List Pair
      near = near_of obs

      by_held : (b : Bool) → holds (all_of obs) p ≡ b → Among q ps ⊎ Among q (p ∷ past p) → IsCovered past (cond b (without_held deps near) (add_item pair_cmp p (without_held deps near))) q
      by_held true held at =
          let mine = covers p (all-in p (holds-Among (all_of obs) p held)) in
          elim at [
            | inl before ↦ old_covers near deps p deps-past mine q (covers q before)
            | inr own ↦ old_covers near deps p deps-past mine q (elim own [ inl same ↦ subst (IsCovered past near) same mine | inr older ↦ covered-past near p q mine older ])
          ]
      by_held false none at =
          elim at [
            | inl before ↦ new_covers near deps p deps-past q (covers q before)
            | inr own ↦ (p, add_item-has p (without_held deps near), elim own [ inl same ↦ inl same | inr older ↦ inr older ])
          ]

  -- a put alone covers its past
  pub covers-put : (obs : List Observation) (p : Pair) → Covers past (near_of (obs ++ Put p ∷ [])) (p ∷ past p)
  covers-put obs p q at = subst (λ near. IsCovered past near q) (sym (near_of-put obs p)) (p, inl refl, elim at [ inl same ↦ inl same | inr older ↦ inr older ])

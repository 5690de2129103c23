-- How the pasts change as an operation joins the history.
use Rattle.std.proofs.Common.{◌≡◌, ℕ, Bool, true, false, cond, ◌&&◌, List, [], ◌∷◌, ◌++◌, inl, inr, refl, sym, ◌∙◌, ap, subst, append-nil}
use Rattle.std.specs.Prelude.{◌==◌, if◌then◌else◌, is_some}
use Rattle.std.specs.List.{list_any, flat_map}
use Rattle.std.proofs.lemmas.Grind.{flat_map-append}
use Rattle.cops_types.specs.declared.contexts.ReadParts.{ReadParts as Read}
use Rattle.cops_types.specs.declared.pairs.Pair.{Pair}
use Rattle.cops_types.specs.Key.{key_eq}
use Rattle.cops_types.specs.Pairs.{holds}
use Rattle.cops_model.specs.Causal.{Traced, Operation, Effect, Wrote, Returned, leads_to, put_by, returned_by, past_after, past_of_put}
use Rattle.cops_types.proofs.Elements.{or_cases, or_left, or_right, Among, Among-left, Among-right, Among-cases, any_intro, any_elim}
use Rattle.cops_types.proofs.PairSets.{holds-Among, Among-holds, Within, pair_eq-true}

-- the pair of a read that found a value
abbrev pub pair_read : Read → List Pair
pair_read read = if is_some read.value then record { key = read.key; version = read.version } ∷ [] else []

-- an element of a flat_map is of one part, and the other way round
pub Among-flat_map : {A B : Type 0} (f : B → List A) (ys : List B) (x : A) (y : B) → Among y ys → Among x (f y) → Among x (flat_map f ys)
Among-flat_map f [] x y at there = absurd at
Among-flat_map f (z ∷ ys) x y (inl e) there = Among-left x (f z) (flat_map f ys) (subst (λ w. Among x (f w)) (sym e) there)
Among-flat_map f (z ∷ ys) x y (inr at) there = Among-right x (f z) (flat_map f ys) (Among-flat_map f ys x y at there)

pub flat_map-Among : {A B : Type 0} (f : B → List A) (ys : List B) (x : A) → Among x (flat_map f ys) → (y : B) × Among y ys × Among x (f y)
flat_map-Among f [] x there = absurd there
flat_map-Among f (z ∷ ys) x there =
    elim (Among-cases x (f z) (flat_map f ys) there) [
      | inl here ↦ (z, inl refl, here)
      | inr later ↦ let found = flat_map-Among f ys x later in (found.0, inr found.1, found.2)
    ]

-- what an operation gives to those that it leads to
abbrev pub given : Traced → List Pair
given t = put_by t.operation.effect ++ t.past

pub past_after-push : (ts : List Traced) (t : Traced) (o : Operation) → past_after (ts ++ t ∷ []) o ≡ past_after ts o ++ cond (leads_to t.operation o) (given t) []
past_after-push ts t o =
    flat_map-append (λ (t : Traced). cond (leads_to t.operation o) (given t) []) ts (t ∷ [])
    ∙ ap (λ ps. past_after ts o ++ ps) (append-nil (cond (leads_to t.operation o) (given t) []))

pub past_of_put-push : (ts : List Traced) (t : Traced) (p : Pair) → past_of_put (ts ++ t ∷ []) p ≡ past_of_put ts p ++ cond (holds (put_by t.operation.effect) p) t.past []
past_of_put-push ts t p =
    flat_map-append (λ (t : Traced). cond (holds (put_by t.operation.effect) p) t.past []) ts (t ∷ [])
    ∙ ap (λ ps. past_of_put ts p ++ ps) (append-nil (cond (holds (put_by t.operation.effect) p) t.past []))

-- what has been put
abbrev pub puts_of : List Traced → List Pair
puts_of ts = flat_map (λ t. put_by t.operation.effect) ts

pub puts_of-push : (ts : List Traced) (t : Traced) → puts_of (ts ++ t ∷ []) ≡ puts_of ts ++ put_by t.operation.effect
puts_of-push ts t = flat_map-append (λ (t : Traced). put_by t.operation.effect) ts (t ∷ []) ∙ ap (λ ps. puts_of ts ++ ps) (append-nil (put_by t.operation.effect))

-- the past of what comes next in a context
abbrev pub in_context : List ℕ → ℕ → Operation
in_context name number = record { session = name; context = number; effect = Returned [] }

abbrev pub past_in : List Traced → List ℕ → ℕ → List Pair
past_in ts name number = past_after ts (in_context name number)

-- membership in a past
pub past_after-Among : (ts : List Traced) (o : Operation) (p : Pair) → Among p (past_after ts o) → (t : Traced) × Among t ts × (leads_to t.operation o ≡ true) × Among p (given t)
past_after-Among ts o p there =
    let found = flat_map-Among (λ (t : Traced). cond (leads_to t.operation o) (given t) []) ts p there in
    let led = by_test (leads_to found.0.operation o) (given found.0) found.2 in
    (found.0, found.1, led.0, led.1)
  where
    by_test : (b : Bool) (ps : List Pair) → Among p (cond b ps []) → (b ≡ true) × Among p ps
    by_test true ps there = (refl, there)
    by_test false ps there = absurd there

pub Among-past_after : (ts : List Traced) (o : Operation) (p : Pair) (t : Traced) → Among t ts → leads_to t.operation o ≡ true → Among p (given t) → Among p (past_after ts o)
Among-past_after ts o p t at leads there =
    Among-flat_map (λ (t : Traced). cond (leads_to t.operation o) (given t) []) ts p t at (subst (λ b. Among p (cond b (given t) [])) (sym leads) there)

pub past_of_put-Among : (ts : List Traced) (q p : Pair) → Among p (past_of_put ts q) → (t : Traced) × Among t ts × (holds (put_by t.operation.effect) q ≡ true) × Among p t.past
past_of_put-Among ts q p there =
    let found = flat_map-Among (λ (t : Traced). cond (holds (put_by t.operation.effect) q) t.past []) ts p there in
    let led = by_test (holds (put_by found.0.operation.effect) q) found.0.past found.2 in
    (found.0, found.1, led.0, led.1)
  where
    by_test : (b : Bool) (ps : List Pair) → Among p (cond b ps []) → (b ≡ true) × Among p ps
    by_test true ps there = (refl, there)
    by_test false ps there = absurd there

pub Among-past_of_put : (ts : List Traced) (q p : Pair) (t : Traced) → Among t ts → holds (put_by t.operation.effect) q ≡ true → Among p t.past → Among p (past_of_put ts q)
Among-past_of_put ts q p t at puts there =
    Among-flat_map (λ (t : Traced). cond (holds (put_by t.operation.effect) q) t.past []) ts p t at (subst (λ b. Among p (cond b t.past [])) (sym puts) there)

-- ---- what a transaction's past is: that of its context, and what it returned with the pasts of that

-- the pairs with their pasts
abbrev pub with_pasts : List Traced → List Pair → List Pair
with_pasts ts ps = flat_map (λ p. p ∷ past_of_put ts p) ps

same_context : List ℕ → ℕ → Operation → Bool
same_context name number o = key_eq o.session name && o.context == number

put_by-single : (effect : Effect) (p : Pair) → holds (put_by effect) p ≡ true → put_by effect ≡ p ∷ []
put_by-single (Wrote q) p e =
    elim (or_cases _ false e) [ inl is ↦ ap (λ r. r ∷ []) (sym (pair_eq-true p q is)) | inr never ↦ cc ]
put_by-single (Returned reads) p e = cc

module _ (ts : List Traced) (name : List ℕ) (number : ℕ) (effect : Effect) where
  abbrev this : Operation
  this = record { session = name; context = number; effect = effect }

  pub past_after-within : Within (past_after ts this) (past_in ts name number ++ with_pasts ts (returned_by effect))
  past_after-within p there =
      let found = past_after-Among ts this p there in
      let t = found.0 in
      elim (or_cases (key_eq t.operation.session name && t.operation.context == number) (list_any (holds (returned_by effect)) (put_by t.operation.effect)) found.2) [
        | inl here ↦ Among-left p (past_in ts name number) (with_pasts ts (returned_by effect))
            (Among-past_after ts (in_context name number) p t found.1
            (or_left (key_eq t.operation.session name && t.operation.context == number) (list_any (holds []) (put_by t.operation.effect)) here) found.3)
        | inr read ↦ Among-right p (past_in ts name number) (with_pasts ts (returned_by effect))
            (any_elim (holds (returned_by effect)) (put_by t.operation.effect) (λ q at is. returned t found.1 q at is found.3) read)
      ]
    where
      returned : (t : Traced) → Among t ts → (q : Pair) → Among q (put_by t.operation.effect) → holds (returned_by effect) q ≡ true → Among p (given t) → Among p (with_pasts ts (returned_by effect))
      returned t at q put is there =
          let single = put_by-single t.operation.effect q (Among-holds (put_by t.operation.effect) q put) in
          Among-flat_map (λ q. q ∷ past_of_put ts q) (returned_by effect) p q (holds-Among (returned_by effect) q is)
          (elim (Among-cases p (put_by t.operation.effect) t.past there) [
            | inl here ↦ elim (subst (Among p) single here) [ inl e ↦ inl e | inr never ↦ absurd never ]
            | inr past ↦ inr (Among-past_of_put ts q p t at (Among-holds (put_by t.operation.effect) q put) past)
          ])

  pub within-past_after : Within (returned_by effect) (puts_of ts) → Within (past_in ts name number ++ with_pasts ts (returned_by effect)) (past_after ts this)
  within-past_after put p there =
      elim (Among-cases p (past_in ts name number) (with_pasts ts (returned_by effect)) there) [
        | inl here ↦
            let found = past_after-Among ts (in_context name number) p here in
            let t = found.0 in
            Among-past_after ts this p t found.1
            (or_left (key_eq t.operation.session name && t.operation.context == number) (list_any (holds (returned_by effect)) (put_by t.operation.effect)) (only_context t found.2)) found.3
        | inr read ↦
            let found = flat_map-Among (λ q. q ∷ past_of_put ts q) (returned_by effect) p read in
            by_read found.0 found.1 found.2
      ]
    where
      none_returned : (ps : List Pair) → list_any (holds []) ps ≡ true → ⊥
      none_returned [] e = cc
      none_returned (p ∷ ps) e = none_returned ps e

      only_context : (t : Traced) → leads_to t.operation (in_context name number) ≡ true → (key_eq t.operation.session name && t.operation.context == number) ≡ true
      only_context t leads =
          elim (or_cases (key_eq t.operation.session name && t.operation.context == number) (list_any (holds []) (put_by t.operation.effect)) leads) [
            | inl here ↦ here
            | inr none ↦ absurd (none_returned (put_by t.operation.effect) none)
          ]

      leads_by : (t : Traced) (q : Pair) → Among q (returned_by effect) → Among q (put_by t.operation.effect) → leads_to t.operation this ≡ true
      leads_by t q read put =
          or_right (key_eq t.operation.session name && t.operation.context == number) (list_any (holds (returned_by effect)) (put_by t.operation.effect))
          (any_intro (holds (returned_by effect)) q (put_by t.operation.effect) put (Among-holds (returned_by effect) q read))

      by_read : (q : Pair) → Among q (returned_by effect) → Among p (q ∷ past_of_put ts q) → Among p (past_after ts this)
      by_read q read (inl e) =
          let found = flat_map-Among (λ (t : Traced). put_by t.operation.effect) ts q (put q read) in
          Among-past_after ts this p found.0 found.1 (leads_by found.0 q read found.2)
          (Among-left p (put_by found.0.operation.effect) found.0.past (subst (λ r. Among r (put_by found.0.operation.effect)) e found.2))
      by_read q read (inr past) =
          let found = past_of_put-Among ts q p past in
          Among-past_after ts this p found.0 found.1 (leads_by found.0 q read (holds-Among (put_by found.0.operation.effect) q found.2))
          (Among-right p (put_by found.0.operation.effect) found.0.past found.3)

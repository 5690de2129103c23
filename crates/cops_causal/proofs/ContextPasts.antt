-- The list of all that a context keeps is the greatest versions of its past, after a put and after a transaction.
use Rattle.std.proofs.Common.{◌≡◌, ℕ, true, false, cond, ◌&&◌, ◌||◌, List, [], ◌∷◌, ◌++◌, ◌⊎◌, inl, inr, refl, sym, ◌∙◌, ap, subst, append-nil, append_assoc, arith}
use Rattle.std.specs.Prelude.{Option, Some, None, is_some, ◌==◌}
use Rattle.std.specs.List.{AllByRecursion, list_any, flat_map}
use Rattle.std.proofs.lemmas.Grind.{flat_map-append}
use Rattle.std.proofs.lemmas.Bool.Decides.{nat_tests}
use Rattle.cops_types.specs.declared.contexts.ReadParts.{ReadParts as Read}
use Rattle.cops_types.specs.declared.pairs.Pair.{Pair}
use Rattle.cops_types.specs.Context.{Observation, Observed, Put, pair_of, deps_of_observation, all_of, near_of, observations_of}
use Rattle.cops_types.specs.Key.{key_eq}
use Rattle.cops_types.specs.Pairs.{holds, greatest_per_key}
use Rattle.cops_types.proofs.ContextRule.{all_of-push, near_of-put}
use Rattle.cops_types.proofs.PairLists.{greatest_per_key-absorbs}
use Rattle.cops_types.specs.Version.{Timestamp}
use Rattle.cops_model.specs.Causal.{Traced, Operation, Effect, Wrote, Returned, put_by, past_after, past_of_put, deps_of}
use Rattle.cops_types.proofs.KeyTests.{key_eq-refl}
use Rattle.cops_causal.proofs.Histories.{given, pair_read, puts_of, in_context, past_in, past_after-push, past_of_put-push, with_pasts, past_after-within, within-past_after, past_of_put-Among, Among-flat_map}
use Rattle.cops_types.proofs.Elements.{Among, Among-left, Among-right, Among-cases}
use Rattle.cops_types.proofs.PairSets.{at, Within, greatest-within, greatest_per_key-same, pair_eq-refl, holds-Among}
use Rattle.cops_types.proofs.Nearness.{IsCovered, Covers, covers-observed}
use Rattle.cops_causal.proofs.Provenance.{IsPut, IsHistory, past-of-closed, past-of-apart}

-- ---- greatest versions of parts

Within-append : (as' bs cs : List Pair) → Within bs cs → Within (as' ++ bs) (as' ++ cs)
Within-append as' bs cs within p at = elim (Among-cases p as' bs at) [ inl a ↦ Among-left p as' cs a | inr b ↦ Among-right p as' cs (within p b) ]

Within-swap : (as' bs cs : List Pair) → Within (as' ++ (bs ++ cs)) (bs ++ (as' ++ cs))
Within-swap as' bs cs p at =
    elim (Among-cases p as' (bs ++ cs) at) [
      | inl a ↦ Among-right p bs (as' ++ cs) (Among-left p as' cs a)
      | inr rest ↦ elim (Among-cases p bs cs rest) [ inl b ↦ Among-left p bs (as' ++ cs) b | inr c ↦ Among-right p bs (as' ++ cs) (Among-right p as' cs c) ]
    ]

-- the greatest versions may stand in the place of a part
greatest-middle : (as' ps bs : List Pair) → greatest_per_key (as' ++ (greatest_per_key ps ++ bs)) ≡ greatest_per_key (as' ++ (ps ++ bs))
greatest-middle as' ps bs =
    greatest_per_key-same (as' ++ (greatest_per_key ps ++ bs)) (greatest_per_key ps ++ (as' ++ bs)) (Within-swap as' (greatest_per_key ps) bs) (Within-swap (greatest_per_key ps) as' bs)
    ∙ greatest_per_key-absorbs ps (as' ++ bs)
    ∙ greatest_per_key-same (ps ++ (as' ++ bs)) (as' ++ (ps ++ bs)) (Within-swap ps as' bs) (Within-swap as' ps bs)

-- ---- what a transaction returned

-- what was read was put, with its deps
abbrev IsPutValue : List Traced → Pair → List Pair → Option (List ℕ) → Type 0
IsPutValue ts pair deps None = Unit {0}
IsPutValue ts pair deps (Some value) = IsPut ts pair deps

abbrev pub IsRead : List Traced → Read → Type 0
IsRead ts read = IsPutValue ts (at read.key read.version) read.deps read.value

abbrev pairs_seen : Observation → List Pair
pairs_seen o = pair_of o ∷ deps_of_observation o

abbrev seen : List Read → List Pair
seen reads = flat_map pairs_seen (observations_of reads)

abbrev returned : List Read → List Pair
returned reads = flat_map pair_read reads

Within-refl : (ps : List Pair) → Within ps ps
Within-refl ps p at = at

one_read : (ts : List Traced) (s w : List Pair) → ((before : List Pair) → greatest_per_key (before ++ s) ≡ greatest_per_key (before ++ w)) →
    (pair : Pair) (deps : List Pair) → IsPut ts pair deps → (before : List Pair) → greatest_per_key (before ++ (pair ∷ (deps ++ s))) ≡ greatest_per_key (before ++ (pair ∷ (past_of_put ts pair ++ w)))
one_read ts s w later pair deps put before =
    let past = past_of_put ts pair in
    let first = before ++ pair ∷ [] in
    ap greatest_per_key (sym (append_assoc before (pair ∷ []) (deps ++ s)))
    ∙ ap (λ ds. greatest_per_key (first ++ (ds ++ s))) put.deps_are
    ∙ greatest-middle first past s
    ∙ ap greatest_per_key (sym (append_assoc first past s))
    ∙ later (first ++ past)
    ∙ ap greatest_per_key (append_assoc first past w)
    ∙ ap greatest_per_key (append_assoc before (pair ∷ []) (past ++ w))

one_value : (ts : List Traced) (reads : List Read) → ((before : List Pair) → greatest_per_key (before ++ seen reads) ≡ greatest_per_key (before ++ with_pasts ts (returned reads))) →
    (key : List ℕ) (version : Timestamp) (deps : List Pair) (value : Option (List ℕ)) → IsPutValue ts (at key version) deps value → (before : List Pair) →
    let one : Read = record { key = key; value = value; version = version; deps = deps } in
    greatest_per_key (before ++ seen (one ∷ reads)) ≡ greatest_per_key (before ++ with_pasts ts (returned (one ∷ reads)))
one_value ts reads later key version deps None is before = later before
one_value ts reads later key version deps (Some value) is before = one_read ts (seen reads) (with_pasts ts (returned reads)) later (at key version) deps is before

-- what a context sees of reads has the greatest versions of what they returned and of its pasts
seen_reads : (ts : List Traced) (reads : List Read) → AllByRecursion (IsRead ts) reads → (before : List Pair) → greatest_per_key (before ++ seen reads) ≡ greatest_per_key (before ++ with_pasts ts (returned reads))
seen_reads ts [] are before = refl
seen_reads ts (read ∷ reads) are before = one_value ts reads (seen_reads ts reads are.1) read.key read.version read.deps read.value are.0 before

-- the near pairs cover what was read and its pasts
one_covered : (ts : List Traced) → IsHistory ts → (reads : List Read) →
    ((obs : List Observation) (ps : List Pair) → all_of obs ≡ greatest_per_key ps → Covers (past_of_put ts) (near_of obs) ps → Covers (past_of_put ts) (near_of (obs ++ observations_of reads)) (ps ++ with_pasts ts (returned reads))) →
    (key : List ℕ) (version : Timestamp) (deps : List Pair) (value : Option (List ℕ)) → IsPutValue ts (at key version) deps value → (obs : List Observation) (ps : List Pair) → all_of obs ≡ greatest_per_key ps → Covers (past_of_put ts) (near_of obs) ps →
    let one : Read = record { key = key; value = value; version = version; deps = deps } in
    Covers (past_of_put ts) (near_of (obs ++ observations_of (one ∷ reads))) (ps ++ with_pasts ts (returned (one ∷ reads)))
one_covered ts h reads later key version deps None is obs ps all_is covers = later obs ps all_is covers
one_covered ts h reads later key version deps (Some value) is obs ps all_is covers =
    let p = at key version in
    let past = past_of_put ts p in
    let seen_one : all_of (obs ++ Observed p deps ∷ []) ≡ greatest_per_key (ps ++ p ∷ past) =
    all_of-push obs (Observed p deps)
    ∙ ap (λ qs. greatest_per_key (qs ++ p ∷ deps)) all_is
    ∙ greatest_per_key-absorbs ps (p ∷ deps)
    ∙ ap (λ ds. greatest_per_key (ps ++ p ∷ ds)) (sym (append-nil deps))
    ∙ one_read ts [] [] (λ before. refl) p deps is ps
    ∙ ap (λ ds. greatest_per_key (ps ++ p ∷ ds)) (append-nil past) in
    let one = covers-observed (past_of_put ts) (past-of-closed ts h) (past-of-apart ts h) obs p deps ps
    (λ n at. greatest-within past n (subst (Among n) is.deps_are at)) (λ n at. greatest-within ps n (subst (Among n) all_is at)) covers in
    let rest = later (obs ++ Observed p deps ∷ []) (ps ++ p ∷ past) seen_one one in
    λ q at'. subst (λ os. IsCovered (past_of_put ts) (near_of os) q) (append_assoc obs (Observed p deps ∷ []) (observations_of reads))
    (rest q (subst (Among q) (sym (append_assoc ps (p ∷ past) (with_pasts ts (returned reads)))) at'))

pub reads_covered : (ts : List Traced) → IsHistory ts → (reads : List Read) → AllByRecursion (IsRead ts) reads → (obs : List Observation) (ps : List Pair) → all_of obs ≡ greatest_per_key ps → Covers (past_of_put ts) (near_of obs) ps →
    Covers (past_of_put ts) (near_of (obs ++ observations_of reads)) (ps ++ with_pasts ts (returned reads))
reads_covered ts h [] are obs ps all_is covers =
    λ q at'. subst (λ os. IsCovered (past_of_put ts) (near_of os) q) (sym (append-nil obs)) (covers q (subst (Among q) (append-nil ps) at'))
reads_covered ts h (read ∷ reads) are obs ps all_is covers = one_covered ts h reads (reads_covered ts h reads are.1) read.key read.version read.deps read.value are.0 obs ps all_is covers

-- a put that was not made has no past
past_of_put-none : (ts : List Traced) (p : Pair) → (Among p (puts_of ts) → ⊥) → past_of_put ts p ≡ []
past_of_put-none ts p none = nothing (past_of_put ts p) (λ q at.
    let found = past_of_put-Among ts p q at in
    none (Among-flat_map (λ (t : Traced). put_by t.operation.effect) ts p found.0 found.1 (holds-Among (put_by found.0.operation.effect) p found.2)))
  where
    nothing : (ps : List Pair) → ((q : Pair) → Among q ps → ⊥) → ps ≡ []
    nothing [] none = refl
    nothing (q ∷ ps) none = absurd (none q (inl refl))

module _ (ts : List Traced) (name : List ℕ) (number : ℕ) where
  here : (key_eq name name && number == number) ≡ true
  here = (λ i. key_eq-refl name i && same i)
    where
      same : (number == number) ≡ true
      same = grind (arith, nat_tests)

  -- the past of the context after an operation in it
  past_in-this : (effect : Effect) → let t : Traced = record { operation = record { session = name; context = number; effect = effect }; past = past_after ts (record { session = name; context = number; effect = effect }) } in
      past_in (ts ++ t ∷ []) name number ≡ past_in ts name number ++ (put_by effect ++ t.past)
  past_in-this effect =
      let t : Traced = record { operation = record { session = name; context = number; effect = effect }; past = past_after ts (record { session = name; context = number; effect = effect }) } in
      past_after-push ts t (in_context name number)
      ∙ ap (λ b. past_in ts name number ++ cond (b || list_any (holds []) (put_by effect)) (given t) []) here

  -- a put's past is that of its context
  pub put_past : (p : Pair) → (Among p (puts_of ts) → ⊥) →
      let t : Traced = record { operation = record { session = name; context = number; effect = Wrote p }; past = past_in ts name number } in
      past_of_put (ts ++ t ∷ []) p ≡ past_in ts name number
  put_past p new =
      let t : Traced = record { operation = record { session = name; context = number; effect = Wrote p }; past = past_in ts name number } in
      past_of_put-push ts t p ∙ (λ i. past_of_put-none ts p new i ++ cond (pair_eq-refl p i || false) (past_in ts name number) [])

  -- a put's deps are those of its past
  pub put_deps : (p : Pair) → (Among p (puts_of ts) → ⊥) →
      let t : Traced = record { operation = record { session = name; context = number; effect = Wrote p }; past = past_in ts name number } in
      deps_of (ts ++ t ∷ []) p ≡ greatest_per_key (past_in ts name number)
  put_deps p new =
      let t : Traced = record { operation = record { session = name; context = number; effect = Wrote p }; past = past_in ts name number } in
      ap greatest_per_key (past_of_put-push ts t p ∙ (λ i. past_of_put-none ts p new i ++ cond (pair_eq-refl p i || false) (past_in ts name number) []))

  -- after a put the context has its pair
  pub put_context : (obs : List Observation) (p : Pair) → all_of obs ≡ greatest_per_key (past_in ts name number) →
      let t : Traced = record { operation = record { session = name; context = number; effect = Wrote p }; past = past_in ts name number } in
      all_of (obs ++ Put p ∷ []) ≡ greatest_per_key (past_in (ts ++ t ∷ []) name number)
  put_context obs p all_is =
      let past = past_in ts name number in
      all_of-push obs (Put p)
      ∙ ap (λ ps. greatest_per_key (ps ++ p ∷ [])) all_is
      ∙ greatest_per_key-absorbs past (p ∷ [])
      ∙ greatest_per_key-same (past ++ p ∷ []) (past ++ (p ∷ past)) (Within-append past (p ∷ []) (p ∷ past) (λ q at. Among-left q (p ∷ []) past at)) (twice past)
      ∙ ap greatest_per_key (sym (past_in-this (Wrote p)))
    where
      twice : (past : List Pair) → Within (past ++ (p ∷ past)) (past ++ p ∷ [])
      twice past q at =
          elim (Among-cases q past (p ∷ past) at) [
            | inl a ↦ Among-left q past (p ∷ []) a
            | inr rest ↦ elim (Among-cases q (p ∷ []) past rest) [ inl b ↦ Among-right q past (p ∷ []) b | inr a ↦ Among-left q past (p ∷ []) a ]
          ]

  -- after a transaction the context has what was returned, with its deps
  pub values_context : (obs : List Observation) (reads : List Read) → AllByRecursion (IsRead ts) reads → all_of obs ≡ greatest_per_key (past_in ts name number) →
      let o : Operation = record { session = name; context = number; effect = Returned reads } in
      all_of (obs ++ observations_of reads) ≡ greatest_per_key (past_in (ts ++ record { operation = o; past = past_after ts o } ∷ []) name number)
  values_context obs reads are all_is =
      let past = past_in ts name number in
      let o : Operation = record { session = name; context = number; effect = Returned reads } in
      ap greatest_per_key (flat_map-append pairs_seen obs (observations_of reads))
      ∙ sym (greatest_per_key-absorbs (flat_map pairs_seen obs) (seen reads))
      ∙ ap (λ ps. greatest_per_key (ps ++ seen reads)) all_is
      ∙ greatest_per_key-absorbs past (seen reads)
      ∙ seen_reads ts reads are past
      ∙ greatest_per_key-same (past ++ with_pasts ts (returned reads)) (past ++ past_after ts o)
      (λ p at. Among-right p past (past_after ts o) (within-past_after ts name number (Returned reads) (returned_put reads are) p at))
      (λ p at. elim (Among-cases p past (past_after ts o) at) [ inl a ↦ Among-left p past (with_pasts ts (returned reads)) a | inr b ↦ past_after-within ts name number (Returned reads) p b ])
      ∙ ap greatest_per_key (sym (past_in-this (Returned reads)))
    where
      put_value : (pair : Pair) (deps : List Pair) (value : Option (List ℕ)) → IsPutValue ts pair deps value → Within (cond (is_some value) (pair ∷ []) []) (puts_of ts)
      put_value pair deps None is p at = absurd at
      put_value pair deps (Some value) is p at = elim at [ inl e ↦ subst (λ q. Among q (puts_of ts)) e is.was | inr never ↦ absurd never ]

      returned_put : (reads : List Read) → AllByRecursion (IsRead ts) reads → Within (returned reads) (puts_of ts)
      returned_put [] are p at = absurd at
      returned_put (read ∷ reads) are p at =
          elim (Among-cases p (pair_read read) (returned reads) at) [
            | inl first ↦ put_value (record { key = read.key; version = read.version }) read.deps read.value are.0 p first
            | inr rest ↦ returned_put reads are.1 p rest
          ]

  -- and its near pairs cover its past
  pub values_covered : IsHistory ts → (obs : List Observation) (reads : List Read) → AllByRecursion (IsRead ts) reads → all_of obs ≡ greatest_per_key (past_in ts name number) → Covers (past_of_put ts) (near_of obs) (past_in ts name number) →
      let o : Operation = record { session = name; context = number; effect = Returned reads } in
      Covers (past_of_put ts) (near_of (obs ++ observations_of reads)) (past_in (ts ++ record { operation = o; past = past_after ts o } ∷ []) name number)
  values_covered h obs reads are all_is covers q at' =
      let past = past_in ts name number in
      let o : Operation = record { session = name; context = number; effect = Returned reads } in
      reads_covered ts h reads are obs past all_is covers q
      (elim (Among-cases q past (past_after ts o) (subst (Among q) (past_in-this (Returned reads)) at')) [ inl a ↦ Among-left q past (with_pasts ts (returned reads)) a | inr b ↦ past_after-within ts name number (Returned reads) q b ])

  -- after a put its pair alone covers its past
  pub put_covered : (obs : List Observation) (p : Pair) → (Among p (puts_of ts) → ⊥) →
      let t : Traced = record { operation = record { session = name; context = number; effect = Wrote p }; past = past_in ts name number } in
      Covers (past_of_put (ts ++ t ∷ [])) (near_of (obs ++ Put p ∷ [])) (past_in (ts ++ t ∷ []) name number)
  put_covered obs p new q at' =
      subst (λ near. IsCovered (past_of_put (ts ++ t ∷ [])) near q) (sym (near_of-put obs p))
      (p, inl refl, by_place (Among-cases q past (p ∷ past) (subst (Among q) (past_in-this (Wrote p)) at')))
    where
      past : List Pair
      past = past_in ts name number

      t : Traced
      t = record { operation = record { session = name; context = number; effect = Wrote p }; past = past }

      of_put : past_of_put (ts ++ t ∷ []) p ≡ past
      of_put = put_past p new

      by_place : Among q past ⊎ Among q (p ∷ past) → (p ≡ q) ⊎ Among q (past_of_put (ts ++ t ∷ []) p)
      by_place (inl before) = inr (subst (Among q) (sym of_put) before)
      by_place (inr (inl same)) = inl same
      by_place (inr (inr before)) = inr (subst (Among q) (sym of_put) before)

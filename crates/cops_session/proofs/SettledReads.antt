-- Reads that are as new as any of them depends on: the second round wants nothing.
use Rattle.std.proofs.Common.{◌≡◌, ℕ, ◌≤◌, ◌<◌, Bool, true, false, not, cond, ◌&&◌, ◌||◌, List, [], ◌∷◌, map, refl, sym, ◌∙◌, ap, arith, max, subst}
use Rattle.std.specs.Prelude.{filter, nat_le}
use Rattle.std.specs.List.{flat_map, fold, list_all, list_any}
use Rattle.std.proofs.lemmas.Bool.Decides.{nat_tests}
use Rattle.cops_types.specs.declared.contexts.ReadParts.{ReadParts as Read}
use Rattle.cops_types.specs.declared.pairs.Pair.{Pair}
use Rattle.cops_types.specs.Key.{key_eq}
use Rattle.cops_types.specs.Pairs.{greatest_clock, version_of}
use Rattle.cops_types.specs.Version.{Timestamp, greatest, no_version, version_lt, version_max}
use Rattle.cops_types.proofs.PairLists.{version_of-append}
use Rattle.cops_session.specs.Rounds.{wishes_of}

-- ---- a list's versions are within its greatest clock

below_fold : (b : ℕ) (ps : List Pair) → b ≤ fold max b (map (λ p. p.version.clock) ps)
below_fold b [] = omega arith
below_fold b (p ∷ ps) = let more = below_fold (max b p.version.clock) ps in grind (arith, nat_tests, more)

max_within : (v w : Timestamp) (n : ℕ) → v.clock ≤ n → w.clock ≤ n → (version_max v w).clock ≤ n
max_within v w n first second = grind (arith, nat_tests)

within_fold : (key : List ℕ) (b : ℕ) (ps : List Pair) → (version_of key ps).clock ≤ fold max b (map (λ p. p.version.clock) ps)
within_fold key b [] = omega arith
within_fold key b (p ∷ ps) =
    let above = below_fold (max b p.version.clock) ps in
    let own : p.version.clock ≤ fold max (max b p.version.clock) (map (λ q. q.version.clock) ps) = grind (arith, nat_tests, above) in
    let later = within_fold key (max b p.version.clock) ps in
    elim (key_eq p.key key) as (λ t. (greatest (map (λ q. q.version) (cond t (p ∷ filter (λ q. key_eq q.key key) ps) (filter (λ q. key_eq q.key key) ps)))).clock ≤ fold max (max b p.version.clock) (map (λ q. q.version.clock) ps)) [
      | true ↦ max_within p.version (version_of key ps) _ own later
      | false ↦ later
    ]

past_greatest : (v w : Timestamp) (n : ℕ) → w.clock ≤ n → n < v.clock → version_lt v w ≡ false
past_greatest v w n within past = grind (arith, nat_tests)

-- a version past the greatest clock is not older than any
pub past-newest : (read : Read) (deps : List Pair) (clock newest : ℕ) → newest ≡ greatest_clock deps → clock ≡ read.version.clock → newest < clock →
    nat_le clock newest ≡ version_lt read.version (version_of read.key deps)
past-newest read deps clock newest is clock_is past =
    let not_within : nat_le clock newest ≡ false = grind (arith, nat_tests) in
    let within : (version_of read.key deps).clock ≤ newest = subst (λ n. (version_of read.key deps).clock ≤ n) (sym is) (within_fold read.key 0 deps) in
    not_within ∙ sym (past_greatest read.version (version_of read.key deps) newest within (subst (λ n. newest < n) clock_is past))

-- ---- settled reads

abbrev is_older : List Pair → Read → Bool
is_older deps read = version_lt read.version (version_of read.key deps)

or_false : (b c : Bool) → not (b || c) ≡ true → (b ≡ false) × (not c ≡ true)
or_false false c e = (refl, e)
or_false true c e = cc

and_true : (b c : Bool) → (b && c) ≡ true → (b ≡ true) × (c ≡ true)
and_true true c e = (refl, e)
and_true false c e = cc

and_of : (b c : Bool) → b ≡ true → c ≡ true → (b && c) ≡ true
and_of b c bt ct = rw (bt, ct) refl

max_older : (u v w : Timestamp) → version_lt u v ≡ false → version_lt u w ≡ false → version_lt u (version_max v w) ≡ false
max_older u v w first second = grind (arith, nat_tests)

own_older : (u w : Timestamp) → version_lt u w ≡ false → version_lt u (version_max u w) ≡ false
own_older u w h = grind (arith, nat_tests)

none_older : (u : Timestamp) → version_lt u no_version ≡ false
none_older u = grind (arith, nat_tests)

-- the first read is not older than anything that the others depend on, and neither are the rest
first_is_new : (x : Read) (reads others : List Read) → list_all (λ o. not (list_any (is_older o.deps) (x ∷ reads))) others ≡ true →
    (version_lt x.version (version_of x.key (flat_map (λ o. o.deps) others)) ≡ false) × (list_all (λ o. not (list_any (is_older o.deps) reads)) others ≡ true)
first_is_new x reads [] all = (none_older x.version, refl)
first_is_new x reads (o ∷ others) all =
    let parts = and_true (not (list_any (is_older o.deps) (x ∷ reads))) (list_all (λ q. not (list_any (is_older q.deps) (x ∷ reads))) others) all in
    let here = or_false (is_older o.deps x) (list_any (is_older o.deps) reads) parts.0 in
    let later = first_is_new x reads others parts.1 in (
      ap (version_lt x.version) (version_of-append x.key o.deps (flat_map (λ q. q.deps) others)) ∙ max_older x.version (version_of x.key o.deps) (version_of x.key (flat_map (λ q. q.deps) others)) here.0 later.0,
      and_of _ _ here.1 later.1,
    )

none_outdated : (reads others : List Read) → list_all (λ o. not (list_any (is_older o.deps) reads)) others ≡ true →
    filter (λ read. version_lt read.version (version_max read.version (version_of read.key (flat_map (λ o. o.deps) others)))) reads ≡ []
none_outdated [] others all = refl
none_outdated (x ∷ reads) others all =
    let parts = first_is_new x reads others all in
    rw (own_older x.version (version_of x.key (flat_map (λ o. o.deps) others)) parts.0) (none_outdated reads others parts.1)

pub wishes_of-settled : (reads : List Read) → list_all (λ o. not (list_any (λ read. version_lt read.version (version_of read.key o.deps)) reads)) reads ≡ true → wishes_of reads ≡ []
wishes_of-settled reads all = ap (map (λ (read : Read). record { key = read.key; version = version_max read.version (version_of read.key (flat_map (λ o. o.deps) reads)) })) (none_outdated reads reads all)

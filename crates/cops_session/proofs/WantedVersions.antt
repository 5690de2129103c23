-- What a transaction asks for: the latest versions, and in the second round versions that its reads depend on.
use Rattle.std.proofs.Common.{◌≡◌, ℕ, Bool, true, false, cond, List, [], ◌∷◌, ◌++◌, length, inl, inr, refl, sym, ◌∙◌, ap, subst, true≢false}
use Rattle.std.specs.Prelude.{Option, Some, None, nat_lt}
use Rattle.std.specs.List.{AllByRecursion, flat_map}
use Rattle.cops_types.specs.declared.contexts.ReadParts.{ReadParts as Read}
use Rattle.cops_types.specs.declared.pairs.Pair.{Pair}
use Rattle.cops_types.specs.Pairs.{version_of}
use Rattle.cops_types.specs.Version.{no_version, version_lt}
use Rattle.cops_types.proofs.VersionOrder.{version_lt-irrefl, version_lt-le_trans, version_max_is_one, no_version-least}
use Rattle.cops_model.specs.declared.calls.NodeReply.{NodeReply}
use Rattle.cops_model.specs.declared.calls.NodeReply.TheVariants.{Found}
use Rattle.cops_model.specs.declared.calls.Wanted.TheVariants.{Latest, Exactly}
use Rattle.cops_model.specs.Transaction.{ReadRequest, gets, first_round, second_round, wanted_version, outdated, read_of, reads_of}
use Rattle.cops_types.proofs.Elements.{Among, Among-cases, Among-filter, map-Among}
use Rattle.cops_types.proofs.PairSets.{at, version_of-Among}

-- all that the reads depend on
abbrev pub deps_read : List Read → List Pair
deps_read reads = flat_map (λ r. r.deps) reads

abbrev pub asked_latest : List ℕ → ReadRequest
asked_latest key = record { key = key; wanted = Latest }

abbrev pub asked_exactly : List Read → Read → ReadRequest
asked_exactly reads read = record { key = read.key; wanted = Exactly (wanted_version reads read) }

-- what is asked for: the latest version of a key, or the wanted one of an outdated read
pub data IsAskedFor (keys : List (List ℕ)) (rs : List NodeReply) (q : ReadRequest) : Type 0 where
  IsFirst : (key : List ℕ) → Among key keys → asked_latest key ≡ q → IsAskedFor keys rs q
  IsSecond : (read : Read) → nat_lt (length rs) (length keys) ≡ false → Among read (outdated (reads_of keys rs)) → asked_exactly (reads_of keys rs) read ≡ q → IsAskedFor keys rs q

pub asked_for : (keys : List (List ℕ)) (rs : List NodeReply) (q : ReadRequest) → Among q (gets keys rs) → IsAskedFor keys rs q
asked_for keys rs q at_q = by_more (nat_lt (length rs) (length keys)) refl at_q
  where
    first : Among q (first_round keys) → IsAskedFor keys rs q
    first there = let found = map-Among asked_latest q keys there in IsFirst found.0 found.1 found.2

    by_more : (b : Bool) → nat_lt (length rs) (length keys) ≡ b → Among q (cond b (first_round keys) (first_round keys ++ second_round (reads_of keys rs))) → IsAskedFor keys rs q
    by_more true is there = first there
    by_more false is there =
        elim (Among-cases q (first_round keys) (second_round (reads_of keys rs)) there) [
          | inl early ↦ first early
          | inr late ↦ let found = map-Among (asked_exactly (reads_of keys rs)) q (outdated (reads_of keys rs)) late in IsSecond found.0 is found.1 found.2
        ]

-- an outdated read is older than what some read depends on
pub outdated-is : (reads : List Read) (read : Read) → Among read (outdated reads) → Among read reads × (version_lt read.version (wanted_version reads read) ≡ true)
outdated-is reads read there = Among-filter (λ r. version_lt r.version (wanted_version reads r)) read reads there

-- the wanted version of an outdated read is what some read depends on
pub wanted-is : (reads : List Read) (read : Read) → version_lt read.version (wanted_version reads read) ≡ true → wanted_version reads read ≡ version_of read.key (deps_read reads)
wanted-is reads read older =
    elim (version_max_is_one read.version (version_of read.key (deps_read reads))) [
      | inl same ↦ absurd (true≢false (sym older ∙ ap (version_lt read.version) same ∙ version_lt-irrefl read.version))
      | inr same ↦ same
    ]

pub wanted-among : (reads : List Read) (read : Read) → version_lt read.version (wanted_version reads read) ≡ true → Among (at read.key (wanted_version reads read)) (deps_read reads)
wanted-among reads read older =
    subst (λ v. Among (at read.key v) (deps_read reads)) (sym same) (elim (version_of-Among read.key (deps_read reads)) [
      | inl none ↦ absurd (nothing_below (sym older ∙ ap (version_lt read.version) (same ∙ none)))
      | inr there ↦ there
    ])
  where
    same : wanted_version reads read ≡ version_of read.key (deps_read reads)
    same = wanted-is reads read older

    nothing_below : true ≡ version_lt read.version no_version → ⊥
    nothing_below less = true≢false (sym (version_lt-le_trans read.version no_version read.version (sym less) (no_version-least read.version)) ∙ version_lt-irrefl read.version)

-- a read of an absent key depends on nothing
abbrev pub IsBare : Option (List ℕ) → List Pair → Type 0
IsBare None deps = deps ≡ []
IsBare (Some value) deps = Unit {0}

read_bare : (key : List ℕ) (r : NodeReply) → IsBare (read_of key r).value (read_of key r).deps
read_bare key (Found f) = tt
read_bare key r = refl

pub reads_bare : (keys : List (List ℕ)) (rs : List NodeReply) → AllByRecursion (λ (read : Read). IsBare read.value read.deps) (reads_of keys rs)
reads_bare [] rs = tt
reads_bare (key ∷ keys) [] = tt
reads_bare (key ∷ keys) (r ∷ rs) = (read_bare key r, reads_bare keys rs)

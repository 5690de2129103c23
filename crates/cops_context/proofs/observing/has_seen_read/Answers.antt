use Rattle.std.proofs.Common.{◌≡◌, ◌++◌, ◌∷◌, [], ℕ, List, ◌∙◌, ap, refl, sym, subst, true}
use Rattle.std.specs.Prelude.{Bool, Some}
use Rattle.std.specs.Option.{option_copied}
use Rattle.cops_types.specs.Context.{Observed, can_observe, is_within, observations_of}
use Rattle.cops_types.specs.Reads.{read_in}
use Rattle.cops_types.specs.declared.pairs.Pair.{Pair}
use Rattle.cops_types.specs.Version.{Timestamp}
use Rattle.cops_types.specs.declared.contexts.ReadParts.{ReadParts as Read}
use Rattle.cops_context.proofs.Rules.{fits_within, observe_one}
use Rattle.cops_context.proofs.observing.has_seen_read.Goals as goal

pub returns-in-Some-clause-within : goal.returns-in-Some-clause-within
returns-in-Some-clause-within c = λ is obs stand.
    let read = c.args.read.now in
    let found = c.in-Some.found.now in
    let whole : read ≡ read_in read.key (Some found) = c.found.ensures ∙ ap (λ o. read_in read.key (option_copied o)) c.in-Some.is in
    let within : List ℕ → Timestamp → List Pair → Bool = λ key version deps. is_within c.args.limit (obs ++ Observed (record { key = key; version = version }) deps ∷ []) in
    let asked : within c.key.result.now c.version.result c.deps.result.now ≡ within read.key found.version found.deps = λ i. within (c.key.ensures i) (c.version.ensures i) (c.deps.ensures i) in
    let fits = fits_within c.args.limit c.args.all.now.pairs c.args.near.now.pairs _ c.requires.all c.requires.near (c.has_seen_pair.ensures is obs stand) in
    subst (λ (r : Read). can_observe c.args.limit obs (observations_of (r ∷ [])) ≡ true) (sym whole) (observe_one c.args.limit obs (read_in read.key (Some found)) found.value refl (sym asked ∙ fits))

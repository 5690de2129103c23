use Rattle.std.proofs.Common.{◌∙◌, ap, get_or, sym}
use Rattle.std.proofs.lemmas.List.{get_or_default}
use Rattle.cops_types.specs.declared.pairs.Pair.{Pair}
use Rattle.cops_types.specs.Version.{version_eq}
use Rattle.cops_types.proofs.GreatestLists.{put_under}
use Rattle.cops_types.proofs.PairPlaces.{holds-at, holds-no_key, no_key, not_older}
use Rattle.cops_types.proofs.growing_pairs.GrowingPairs.has_version.Goals as goal

pub returns-in-Ok-clause-known : goal.returns-in-Ok-clause-known
returns-in-Ok-clause-known c =
    let found = c.in-Ok.ensures in
    let pair : Pair = record { key = c.args.key.now; version = c.args.version } in
    c.eq.ensures ∙ ap (λ v. version_eq v pair.version) (sym (c.version.ensures pair)) ∙ sym (holds-at c.args.self.now.pairs c.in-Ok.place pair pair c.requires found.within found.place)

pub returns-in-Ok-clause-same : goal.returns-in-Ok-clause-same
returns-in-Ok-clause-same c = λ is.
    let found = c.in-Ok.ensures in
    let pairs = c.args.self.now.pairs in
    let place = c.in-Ok.place in
    let pair : Pair = record { key = c.args.key.now; version = c.args.version } in
    let own : Pair = get_or pairs place pair in
    put_under pairs place pair own c.requires found.within found.place (get_or_default pairs place pair own found.within)
    (not_older own.version pair.version (ap (λ v. version_eq v pair.version) (c.version.ensures pair) ∙ sym c.eq.ensures ∙ is))

pub returns-in-Err-clause-known : goal.returns-in-Err-clause-known
returns-in-Err-clause-known c =
    let found = c.in-Err.ensures in
    let pair : Pair = record { key = c.args.key.now; version = c.args.version } in
    sym (holds-no_key c.args.self.now.pairs pair (no_key c.args.self.now.pairs _ pair.key found.within found.place.0 found.place.1))

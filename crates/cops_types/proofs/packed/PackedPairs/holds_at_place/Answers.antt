use Rattle.std.proofs.Common.{◌∙◌, sym, ap}
use Rattle.cops_types.specs.Version.{version_eq}
use Rattle.cops_types.proofs.PairPlaces.{no_key, holds-at, holds-no_key}
use Rattle.cops_types.proofs.packed.PackedPairs.holds_at_place.Goals as goal

pub returns-in-Ok : goal.returns-in-Ok
returns-in-Ok c =
    let found = c.in-Ok.ensures in
    let pair = c.args.pair.now in
    c.eq.ensures ∙ ap (λ v. version_eq v pair.version) (sym (c.version.ensures pair)) ∙ sym (holds-at c.args.self.now c.in-Ok.place pair pair c.requires found.within found.place)

pub returns-in-Err : goal.returns-in-Err
returns-in-Err c =
    let found = c.in-Err.ensures in
    sym (holds-no_key c.args.self.now c.args.pair.now (no_key c.args.self.now _ c.args.pair.now.key found.within found.place.0 found.place.1))

use Rattle.std.proofs.Common.{◌∙◌, sym, ap}
use Rattle.cops_types.specs.declared.pairs.Pair.{Pair}
use Rattle.cops_types.specs.Version.{version_eq}
use Rattle.cops_types.proofs.PairPlaces.{no_key, holds-at, holds-no_key}
use Rattle.cops_types.proofs.packed.is_among_many.Goals as goal

pub returns-in-Ok : goal.returns-in-Ok
returns-in-Ok c =
    let found = c.in-Ok.ensures in
    let pair = c.args.pair.now in
    let own = c.index-pairs-place.result in
    c.eq.ensures ∙ ap (λ v. version_eq v pair.version) (c.version.ensures ∙ ap (λ (p : Pair). p.version) c.index-pairs-place.is) ∙ sym (holds-at c.args.pairs.now c.in-Ok.place pair own c.requires found.within found.place)

pub returns-in-Err : goal.returns-in-Err
returns-in-Err c =
    let found = c.in-Err.ensures in
    sym (holds-no_key c.args.pairs.now c.args.pair.now (no_key c.args.pairs.now _ c.args.pair.now.key found.within found.place.0 found.place.1))

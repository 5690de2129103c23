use Rattle.std.proofs.Common.{◌∙◌, sym, ap}
use Rattle.cops_types.specs.declared.pairs.Pair.{Pair}
use Rattle.cops_types.proofs.PairPlaces.{no_key, version_of-at, version_of-no_key}
use Rattle.cops_types.proofs.packed.version_among_many.Goals as goal

pub returns-in-Ok : goal.returns-in-Ok
returns-in-Ok c =
    let found = c.in-Ok.ensures in
    let pair = c.index-pairs-place.result in
    c.version.ensures ∙ ap (λ (p : Pair). p.version) c.index-pairs-place.is ∙ sym (version_of-at c.args.pairs.now c.in-Ok.place c.args.key.now pair c.requires found.within found.place)

pub returns-in-Err : goal.returns-in-Err
returns-in-Err c =
    let found = c.in-Err.ensures in
    c.none.ensures ∙ sym (version_of-no_key c.args.pairs.now c.args.key.now (no_key c.args.pairs.now _ c.args.key.now found.within found.place.0 found.place.1))

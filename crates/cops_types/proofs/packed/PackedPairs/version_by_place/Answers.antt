use Rattle.std.proofs.Common.{◌∙◌, sym}
use Rattle.cops_types.specs.declared.pairs.Pair.{Pair}
use Rattle.cops_types.proofs.PairPlaces.{no_key, version_of-at, version_of-no_key}
use Rattle.cops_types.proofs.packed.PackedPairs.version_by_place.Goals as goal

pub returns-in-Ok : goal.returns-in-Ok
returns-in-Ok c =
    let found = c.in-Ok.ensures in
    let pair : Pair = record { key = c.args.key.now; version = c.version.result } in
    sym (version_of-at c.args.self.now c.in-Ok.place c.args.key.now pair c.requires found.within found.place ∙ c.version.ensures pair)

pub returns-in-Err : goal.returns-in-Err
returns-in-Err c =
    let found = c.in-Err.ensures in
    c.none.ensures ∙ sym (version_of-no_key c.args.self.now c.args.key.now (no_key c.args.self.now _ c.args.key.now found.within found.place.0 found.place.1))

use Rattle.std.proofs.Common.{sym}
use Rattle.cops_types.proofs.PairPlaces.{no_key, has_key-at_place}
use Rattle.cops_types.proofs.growing_pairs.GrowingPairs.has_key.Goals as goal

pub returns-in-Ok : goal.returns-in-Ok
returns-in-Ok c =
    let found = c.in-Ok.ensures in
    sym (has_key-at_place c.args.self.now.pairs _ c.args.key.now found.within found.place)

pub returns-in-Err : goal.returns-in-Err
returns-in-Err c =
    let found = c.in-Err.ensures in
    sym (no_key c.args.self.now.pairs _ c.args.key.now found.within found.place.0 found.place.1)

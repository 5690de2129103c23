use Rattle.std.proofs.Common.{[], ◌∷◌, ◌∙◌, ap, get_or, is_lt, sym}
use Rattle.std.proofs.lemmas.List.{get_or_default}
use Rattle.cops_types.specs.declared.pairs.Pair.{Pair}
use Rattle.cops_types.specs.Version.{version_cmp, version_eq}
use Rattle.cops_types.proofs.GreatestLists.{put_over, put_under, greatest_per_key-insert, IsDeps-joined}
use Rattle.cops_types.proofs.PairPlaces.{holds-at, holds-no_key, no_key, older_differs}
use Rattle.cops_types.proofs.growing_pairs.GrowingPairs.put_reserved.Goals as goal

pub returns-then-lt-clause-known : goal.returns-then-lt-clause-known
returns-then-lt-clause-known c =
    let found = c.in-Ok.ensures in
    let pair = c.args.pair.now in
    let own : Pair = get_or c.args.self.now.pairs c.in-Ok.place pair in
    sym (holds-at c.args.self.now.pairs c.in-Ok.place pair pair c.requires.in_order found.within found.place
    ∙ older_differs own.version pair.version (ap (λ v. is_lt (version_cmp v pair.version)) (c.version-version.ensures pair) ∙ sym c.lt.ensures ∙ c.if-lt.true))

pub returns-then-lt-clause-pairs : goal.returns-then-lt-clause-pairs
returns-then-lt-clause-pairs c =
    let found = c.in-Ok.ensures in
    let pairs = c.args.self.now.pairs in
    let place = c.in-Ok.place in
    let pair = c.args.pair.now in
    let own : Pair = get_or pairs place pair in
    c.set.ensures.pairs
    ∙ put_over pairs place pair own c.requires.in_order found.within found.place (get_or_default pairs place pair own found.within)
    (ap (λ v. is_lt (version_cmp v pair.version)) (c.version-version.ensures pair) ∙ sym c.lt.ensures ∙ c.if-lt.true)

pub returns-then-lt-clause-in_order : goal.returns-then-lt-clause-in_order
returns-then-lt-clause-in_order c = IsDeps-joined _ c.args.self.now.pairs (c.args.pair.now ∷ []) (returns-then-lt-clause-pairs c)

pub returns-else-lt-clause-known : goal.returns-else-lt-clause-known
returns-else-lt-clause-known c =
    let found = c.in-Ok.ensures in
    let pair = c.args.pair.now in
    c.eq.ensures ∙ ap (λ v. version_eq v pair.version) (sym (c.version-version.ensures pair)) ∙ sym (holds-at c.args.self.now.pairs c.in-Ok.place pair pair c.requires.in_order found.within found.place)

pub returns-else-lt-clause-pairs : goal.returns-else-lt-clause-pairs
returns-else-lt-clause-pairs c =
    let found = c.in-Ok.ensures in
    let pairs = c.args.self.now.pairs in
    let place = c.in-Ok.place in
    let pair = c.args.pair.now in
    let own : Pair = get_or pairs place pair in
    put_under pairs place pair own c.requires.in_order found.within found.place (get_or_default pairs place pair own found.within)
    (ap (λ v. is_lt (version_cmp v pair.version)) (c.version-version.ensures pair) ∙ sym c.lt.ensures ∙ c.if-lt.false)

pub insert_reserved-requires-clause-room : goal.insert_reserved-requires-clause-room
insert_reserved-requires-clause-room c =
    let found = c.in-Err.ensures in
    c.requires.room.1 (no_key c.args.self.now.pairs c.in-Err.place c.args.pair.now.key found.within found.place.0 found.place.1)

pub returns-in-Err-clause-known : goal.returns-in-Err-clause-known
returns-in-Err-clause-known c =
    let found = c.in-Err.ensures in
    let pair = c.args.pair.now in
    sym (holds-no_key c.args.self.now.pairs pair (no_key c.args.self.now.pairs c.in-Err.place pair.key found.within found.place.0 found.place.1))

pub returns-in-Err-clause-pairs : goal.returns-in-Err-clause-pairs
returns-in-Err-clause-pairs c =
    let found = c.in-Err.ensures in
    c.insert_reserved.ensures.pairs
    ∙ greatest_per_key-insert c.args.self.now.pairs c.in-Err.place c.args.pair.now c.requires.in_order found.within found.place.0 found.place.1

pub returns-in-Err-clause-in_order : goal.returns-in-Err-clause-in_order
returns-in-Err-clause-in_order c = IsDeps-joined _ c.args.self.now.pairs (c.args.pair.now ∷ []) (returns-in-Err-clause-pairs c)

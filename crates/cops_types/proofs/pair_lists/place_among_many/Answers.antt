use Rattle.std.proofs.Common.{rules}
use Rattle.std.proofs.lemmas.Fn.{always_returns_same}
use Rattle.cops_types.specs.Key.{key_cmp}
use Rattle.cops_types.proofs.PairLists.{key_cmp_total}
use Rattle.cops_types.proofs.Rising.{IsNonDecreasingBy-IsRisingBy, found_or_place}
use Rattle.cops_types.proofs.pair_lists.place_among_many.Goals as goal

pub returns-clause-place : goal.returns-clause-place
returns-clause-place g c =
    let key = c.args.key.now in
    found_or_place (λ p. key_cmp (g.T.KeptPair.kept p).key key) c.args.pairs.now c.binary_search_by.result
    (c.binary_search_by.ensures.position (λ p. key_cmp (g.T.KeptPair.kept p).key key) (always_returns_same _ _ _ (λ a r f k. search rules)))
    (IsNonDecreasingBy-IsRisingBy key_cmp_total (λ p. (g.T.KeptPair.kept p).key) c.args.pairs.now key c.requires)

use Rattle.std.proofs.Common.{◌≡◌, ◌<◌, ◌-◌, ◌∙◌, ◌∷◌, ◌++◌, length, take, drop, ap, sym, arith, length-drop}
use Rattle.std.proofs.lemmas.List.{drop_more, take_all}
use Rattle.cops_types.specs.Words.{list_text, pair_text, more_text}
use Rattle.cops_types.proofs.PlacedLemmas.{two_placed}
use Rattle.cops_types.proofs.WordLemmas.{list_text-more}
use Rattle.cops_types.proofs.placed.put_pairs.Goals as goal

pub returns-in-len1-up-clause-text : goal.returns-in-len1-up-clause-text
returns-in-len1-up-clause-text c =
    let pairs = c.args.pairs.now in
    let first = c.first-item.result in
    let rest = drop 1 pairs in
    let some : 0 < length pairs = omega (arith, c.in-len1-up.len_at_least) in
    let pairs_are : pairs ≡ first ∷ rest = drop_more pairs 0 first some ∙ ap (λ p. p ∷ rest) (sym c.first-item.is) in
    let all : take (length pairs - 1) rest ≡ rest = take_all (length pairs - 1) rest (omega (arith, length-drop 1 pairs)) in
    two_placed _ _ _ (pair_text first) (more_text (take (length pairs - 1) rest)) (list_text pairs) c.put_pair-end.ensures.text c.put_more_pairs.ensures.text
    (ap list_text pairs_are ∙ list_text-more first rest ∙ ap (λ p. pair_text first ++ more_text p) (sym all))

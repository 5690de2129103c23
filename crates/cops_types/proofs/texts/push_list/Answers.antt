use Rattle.std.proofs.Common.{◌≡◌, ◌<◌, ◌∙◌, ◌++◌, ◌∷◌, length, drop, ap, sym, append_assoc, arith}
use Rattle.std.proofs.lemmas.List.{drop_more}
use Rattle.std.proofs.lemmas.Result.{on_ok_weaker}
use Rattle.cops_types.specs.Words.{list_text, pair_text, more_text}
use Rattle.cops_types.proofs.WordLemmas.{list_text-more}
use Rattle.cops_types.proofs.texts.push_list.Goals as goal

pub returns-clause-ok : goal.returns-clause-ok
returns-clause-ok c =
    let out = c.args.out.now.items in
    let pairs = c.args.pairs.now in
    let first = c.pair.result in
    let rest = drop 1 pairs in
    let some : 0 < length pairs = omega (arith, c.if-len-eq0.false, c.len.ensures) in
    let pairs_are : pairs ≡ first ∷ rest = drop_more pairs 0 first some ∙ ap (λ p. p ∷ rest) (sym c.pair.ensures) in
    let whole : (out ++ pair_text first) ++ more_text rest ≡ out ++ list_text pairs =
    append_assoc out (pair_text first) (more_text rest) ∙ ap (λ text. out ++ text) (sym (list_text-more first rest)) ∙ ap (λ ps. out ++ list_text ps) (sym pairs_are) in
    on_ok_weaker c.push_more.result (λ more. more ∙ ap (λ text. text ++ more_text rest) c.in_ok-push_pair.ensures.ok ∙ whole) c.push_more.ensures.ok

use Rattle.std.proofs.Common.{◌≡◌, false, ◌∙◌, sym, ap, get_or}
use Rattle.std.specs.Prelude.{◌||◌}
use Rattle.std.specs.declared.cmp.Ordering.TheVariants.{Equal}
use Rattle.std.proofs.lemmas.List.{get_or_default}
use Rattle.std.proofs.lemmas.List.Folds.{list_any_more}
use Rattle.cops_types.specs.declared.pairs.Pair.{Pair}
use Rattle.cops_types.specs.Key.{key_cmp, key_eq}
use Rattle.cops_types.proofs.PairPlaces.{tied, version_of-at}
use Rattle.cops_types.proofs.packed.version_among_short.Goals as goal

pub returns-then-has_key : goal.returns-then-has_key
returns-then-has_key c =
    let pairs = c.args.pairs.now in
    let i = c.loop-pair.pair-index in
    let key = c.args.key.now in
    let pair = c.pair-item.result in
    let found : (d : Pair) → key_cmp (get_or pairs i d).key key ≡ Equal =
    λ d. ap (λ (p : Pair). key_cmp p.key key) (get_or_default pairs i d pair c.loop-pair-test.true ∙ sym c.pair-item.is) ∙ tied pair.key key (sym c.has_key.ensures ∙ c.if-has_key.true) in
    c.version.ensures ∙ ap (λ (p : Pair). p.version) c.pair-item.is ∙ sym (version_of-at pairs i key pair c.requires c.loop-pair-test.true found)

pub loop-pair-preserved : goal.loop-pair-preserved
loop-pair-preserved c =
    let pairs = c.args.pairs.now in
    let i = c.loop-pair.pair-index in
    let key = c.args.key.now in
    let pair = c.pair-item.result in
    let other : key_eq (get_or pairs i pair).key key ≡ false = ap (λ (p : Pair). key_eq p.key key) (sym c.pair-item.is) ∙ sym c.has_key.ensures ∙ c.if-has_key.false in
    list_any_more (λ (p : Pair). key_eq p.key key) pairs i pair c.loop-pair-test.true ∙ (λ j. c.loop-pair.invariant j || other j)

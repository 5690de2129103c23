use Rattle.std.proofs.Common.{◌≡◌, ◌<◌, ◌∙◌, ap, sym, get_or, is_lt, length, arith}
use Rattle.std.proofs.lemmas.List.{get_or_default}
use Rattle.cops_types.specs.declared.pairs.Pair.{Pair}
use Rattle.cops_types.specs.Key.{key_cmp}
use Rattle.cops_types.specs.Version.{version_cmp}
use Rattle.cops_types.proofs.GreatestLists.{joined-none}
use Rattle.cops_types.proofs.PairPlaces.{same_with_next, tied}
use Rattle.cops_types.proofs.pair_lists.has_all_short.Goals as goal

pub loop-first-init : goal.loop-first-init
loop-first-init c = record { within_first = omega arith; within_second = omega arith; same = joined-none c.args.pairs.now c.requires }

pub loop-first-preserved-then-has_key_of : goal.loop-first-preserved-then-has_key_of
loop-first-preserved-then-has_key_of c =
    let l = c.loop-first in
    let pairs = c.args.pairs.now in
    let more = c.args.more.now in
    let own = c.index-pairs-first.result in
    let other = c.index-more-second.result in
    let within : l.first < length pairs = c.loop-first-test.true in
    let below : l.second < length more = c.if-second-more.true in
    let there : (d : Pair) → get_or more l.second d ≡ other = λ d. get_or_default more l.second d other below ∙ sym c.index-more-second.is in
    record {
      within_first = omega (arith, within);
      within_second = omega (arith, below);
      same = same_with_next pairs more l.first l.second own (key_cmp other.key own.key) c.version-then-has_key_of.result c.requires within below c.index-pairs-first.is (λ d. ap (λ (p : Pair). key_cmp p.key own.key) (there d)) (tied other.key own.key (sym c.has_key_of.ensures ∙ c.if-has_key_of.true)) (λ d. ap (λ (p : Pair). p.version) (there d) ∙ sym c.version-then-has_key_of.ensures) (ap (λ w. is_lt (version_cmp w c.version-then-has_key_of.result)) (sym c.version.ensures) ∙ sym c.lt.ensures ∙ c.if-lt.false) l.invariant.same;
    }

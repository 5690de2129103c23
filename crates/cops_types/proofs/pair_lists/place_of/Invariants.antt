use Rattle.std.proofs.Common.{◌≡◌, ◌≤◌, ◌-◌, length}
use Rattle.std.specs.List.{AllWithin}
use Rattle.std.specs.declared.cmp.Ordering.TheVariants.{Less}
use Rattle.cops_types.specs.Key.{key_cmp}
use Rattle.cops_types.proofs.pair_lists.place_of.Given as goal

-- the keys so far are below
abbrev pub invariant-loop-at : goal.invariant-loop-at
invariant-loop-at g l = record {
  within : l.at ≤ length l.pairs;
  below : AllWithin (λ p. key_cmp (g.T.KeptPair.kept p).key l.key ≡ Less) l.pairs 0 l.at;
}

abbrev pub decreases-loop-at : goal.decreases-loop-at
decreases-loop-at g l = length l.pairs - l.at

use Rattle.std.proofs.Common.{◌≡◌, ◌*◌, ◌-◌, ◌≤◌, take}
use Rattle.std.specs.Cmp.Lexicographic.{slice_cmp}
use Rattle.std.specs.Ordering.{nat_cmp}
use Rattle.std.specs.declared.cmp.Ordering.TheVariants.{Equal}
use Rattle.cops_types.proofs.fronts.order_of_words.Given as goal

-- so many words are the same
abbrev pub invariant-loop-word : goal.invariant-loop-word
invariant-loop-word l = record {
  within : l.word ≤ l.words;
  alike : slice_cmp nat_cmp (take (l.word * 8) l.cells) (take (l.word * 8) l.others) ≡ Equal;
}

abbrev pub decreases-loop-word : goal.decreases-loop-word
decreases-loop-word l = l.words - l.word

use Rattle.std.proofs.Common.{◌≡◌, ◌≤◌, ◌+◌, ◌*◌, ◌++◌, take}
use Rattle.std.specs.Prelude.{IsTrue}
use Rattle.std.specs.List.{list_all}
use Rattle.cops_types.specs.PairForms.{is_pair}
use Rattle.cops_types.specs.Words.{more_text}
use Rattle.cops_types.proofs.placed.put_more_pairs.Given as goal

abbrev pub invariant-loop-pair : goal.invariant-loop-pair
invariant-loop-pair l = record {
  formed : IsTrue (list_all is_pair (take l.pair-index l.pairs));
  end : l.end ≤ l.at + 107 * l.pair-index;
  text : take l.end l.bytes ≡ take l.fn.at l.fn.bytes ++ more_text (take l.pair-index l.pairs);
}

use Rattle.std.proofs.Common.{◌≡◌, ◌≤◌, ◌++◌, drop, take}
use Rattle.std.specs.Prelude.{IsTrue}
use Rattle.std.specs.List.{list_all}
use Rattle.cops_types.specs.PairForms.{is_pair}
use Rattle.cops_types.specs.Words.{more_text}
use Rattle.cops_types.proofs.texts.push_more.Given as goal

abbrev pub invariant-loop-place : goal.invariant-loop-place
invariant-loop-place l = record {
  below : 1 ≤ l.place;
  formed : IsTrue (list_all is_pair (drop 1 (take l.place l.pairs)));
  items : l.out.items ≡ l.fn.out.items ++ more_text (drop 1 (take l.place l.pairs));
}

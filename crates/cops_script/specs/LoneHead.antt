-- The head of a script without the lines behind it.
use Rattle.std.specs.Prelude.{◌≡◌, [], IsTrue}
use Rattle.cops_script.specs.BodyRules.{BodyRules}
use Rattle.cops_script.specs.GoodHeads.{is_good}
use Rattle.cops_script.specs.declared.heads.HeadAlone.{HeadAlone}
use Rattle.cops_script.specs.declared.heads.HeadEnd.{HeadEnd}
use Rattle.cops_script.specs.declared.heads.HeadEnd.TheVariants.{Whole, Bad}

-- the reading stops at the end of the head, so nothing runs behind it
abbrev pub lone_rules : BodyRules HeadAlone (Unit {0}) HeadEnd
lone_rules = record {
  starts = λ body config state. ⊥;
  refuses_start = λ body config end. (end ≡ Whole config) × IsTrue (is_good config);
  lines = λ body. record { answers = λ old line text new. text ≡ []; refuses = λ old line end. ⊥; ends = λ old text new. text ≡ []; refuses_end = λ old end. ⊥ };
  bad_head = Bad;
}

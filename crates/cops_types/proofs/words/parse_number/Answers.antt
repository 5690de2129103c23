use Rattle.std.proofs.Common.{◌≡◌, length, get_or, false, true, nat_lt, sym, ◌∙◌, arith}
use Rattle.std.specs.Prelude.{◌&&◌, ◌==◌}
use Rattle.std.proofs.lemmas.Bool.Decides.{nat_tests}
use Rattle.cops_types.proofs.NumberLemmas.{empty_writes_none, read_whole, zero_writes_none}
use Rattle.cops_types.proofs.words.parse_number.Goals as goal

pub returns-then-is_empty : goal.returns-then-is_empty
returns-then-is_empty c =
    let test : (length c.args.word.now == 0) ≡ true = sym c.is_empty.ensures ∙ c.if-is_empty.true in
    sym (empty_writes_none c.args.word.now (grind (arith, nat_tests)))

pub returns-then-has_leading_zero : goal.returns-then-has_leading_zero
returns-then-has_leading_zero c =
    let test : (nat_lt 1 (length c.args.word.now) && (get_or c.args.word.now 0 0 == 48)) ≡ true = sym c.has_leading_zero.ensures ∙ c.if-has_leading_zero.true in
    sym (zero_writes_none c.args.word.now (grind (arith, nat_tests)) (grind (arith, nat_tests)))

pub returns : goal.returns
returns c =
    let some : (length c.args.word.now == 0) ≡ false = sym c.is_empty.ensures ∙ c.if-is_empty.false in
    let plain : (nat_lt 1 (length c.args.word.now) && (get_or c.args.word.now 0 0 == 48)) ≡ false = sym c.has_leading_zero.ensures ∙ c.if-has_leading_zero.false in
    read_whole c.args.word.now c.value_of.result (grind (arith, nat_tests)) (λ zero. grind (arith, nat_tests)) c.value_of.ensures.some c.value_of.ensures.none

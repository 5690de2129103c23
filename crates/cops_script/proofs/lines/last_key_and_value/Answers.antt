use Rattle.std.proofs.Common.{◌≡◌, ap, sym, ◌∙◌, arith, length, true, false}
use Rattle.std.specs.Prelude.{◌==◌}
use Rattle.std.proofs.lemmas.Bool.{eqb-true}
use Rattle.std.proofs.lemmas.Bool.Decides.{nat_tests}
use Rattle.cops_types.proofs.FrontWords.{no_front}
use Rattle.cops_types.proofs.WordLemmas.{word_lacks}
use Rattle.cops_script.proofs.ActReading.{filled_word, is_value_word, key_and_value, other_value, two_parts}
use Rattle.cops_script.proofs.lines.last_key_and_value.Goals as goal

pub returns-in_err-key-clause-none : goal.returns-in_err-key-clause-none
returns-in_err-key-clause-none c =
    rw c.from_residual.ensures (λ key value is seen e. no_front c.args.words.now key value c.in_err-key.ensures.none (word_lacks key is) (two_parts c.args.words.now key value _ e))

pub returns-then-is_empty-clause-none : goal.returns-then-is_empty-clause-none
returns-then-is_empty-clause-none c =
    let empty : (length c.in_ok-key.key.now == 0) ≡ true = sym c.is_empty.ensures ∙ c.if-is_empty.true in
    λ key value is seen e.
    let same = other_value c.args.words.now c.in_ok-key.key.now c.in_ok-key.value.now key value c.in_ok-key.ensures.some is e in
    omega (arith, eqb-true (length c.in_ok-key.key.now) 0 empty, ap length same.0, filled_word key is)

pub returns-then-not-is_value_word-clause-none : goal.returns-then-not-is_value_word-clause-none
returns-then-not-is_value_word-clause-none c =
    λ key value is seen e.
    let same = other_value c.args.words.now c.in_ok-key.key.now c.in_ok-key.value.now key value c.in_ok-key.ensures.some is e in
    let holds : is_value_word c.in_ok-key.value.now ≡ true = ap is_value_word same.1 ∙ seen in
    let fails : is_value_word c.in_ok-key.value.now ≡ false = sym c.is_value_word.ensures ∙ c.if-not-is_value_word.true in
    cc

pub returns-clause-some : goal.returns-clause-some
returns-clause-some c =
    let filled : (length c.in_ok-key.key.now == 0) ≡ false = sym c.is_empty.ensures ∙ c.if-is_empty.false in
    key_and_value c.args.words.now c.in_ok-key.key.now c.in_ok-key.value.now c.in_ok-key.ensures.some (grind (arith, nat_tests)) (sym c.is_value_word.ensures ∙ c.if-not-is_value_word.false)

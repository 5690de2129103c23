use Rattle.std.proofs.Common.{◌≡◌, ◌∙◌, true, take, sym, ap, arith}
use Rattle.std.specs.List.{list_all}
use Rattle.std.proofs.lemmas.List.{take_all}
use Rattle.cops_types.specs.HeadLines.{is_between}
use Rattle.cops_script.proofs.ActReading.{value_test}
use Rattle.cops_script.proofs.lines.is_value_word.Goals as goal

pub returns-then-seen : goal.returns-then-seen
returns-then-seen c =
    let word = c.args.word.now in
    let whole : take c.loop-byte.byte-index word ≡ word = take_all c.loop-byte.byte-index word (omega (arith, c.loop-byte-test.false)) in
    let seen : list_all (is_between 33 126) word ≡ true = ap (list_all (is_between 33 126)) (sym whole) ∙ sym c.loop-byte.invariant ∙ c.if-seen.true in
    value_test word c.is_empty.result seen c.is_empty.ensures

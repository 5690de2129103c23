use Rattle.std.proofs.Common.{◌≡◌, true, ap, sym, ◌∙◌, get_or, length, ◌<◌, arith}
use Rattle.std.specs.Prelude.{slice_set, ◌&&◌}
use Rattle.std.proofs.lemmas.List.Folds.{list_all_more}
use Rattle.cops_types.specs.Key.{is_key_byte}
use Rattle.cops_types.proofs.Padded.{copied_more}
use Rattle.cops_types.proofs.keys.copy_key_bytes.Goals as goal

pub loop-at-preserved : goal.loop-at-preserved
loop-at-preserved c =
    let bytes = c.args.bytes.now in
    let i = c.loop-at.at in
    let within : i < length bytes = omega (arith, c.min-most.ensures, c.loop-at-test.true) in
    let is : is_key_byte (get_or bytes i 0) ≡ true = sym c.may_have.ensures ∙ c.if-not-may_have.false in
    record {
      key = list_all_more is_key_byte bytes i 0 within ∙ (λ j. c.loop-at.invariant.key j && is j);
      copied = ap (λ cells. slice_set cells i (get_or bytes i 0)) c.loop-at.invariant.copied ∙ copied_more bytes c.args.cells.now i within (omega (arith, c.min-most.ensures, c.loop-at-test.true));
    }

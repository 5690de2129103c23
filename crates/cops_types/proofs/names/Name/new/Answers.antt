use Rattle.std.proofs.Common.{◌≡◌, ◌≤◌, true, drop, length, refl, replicate, sym, subst, take, ◌++◌, ◌∙◌, ap, arith}
use Rattle.std.specs.List.{list_all}
use Rattle.std.proofs.lemmas.Bool.Decides.{nat_tests}
use Rattle.std.proofs.lemmas.List.{take_all}
use Rattle.cops_types.specs.Key.{is_name, is_key_byte}
use Rattle.cops_types.specs.Padding.{IsPadded}
use Rattle.cops_types.proofs.Padded.{IsPadded-made}
use Rattle.cops_types.proofs.names.Name.new.Goals as goal

pub invariant_of-result : goal.invariant_of-result
invariant_of-result c =
    let text = c.args.bytes.now in
    let count = c.copy_key_bytes.result in
    let front = c.copy_key_bytes.ensures in
    let whole : take count text ≡ text = take_all count text (omega (arith, c.if-copy_key_bytes-bytes.false)) in
    let size : count ≡ length text = omega (arith, front.within, c.if-copy_key_bytes-bytes.false) in
    let all : list_all is_key_byte text ≡ true = ap (list_all is_key_byte) (sym whole) ∙ front.key in
    let fits : length text ≤ 16 = grind (arith, nat_tests) in
    let is : is_name text ≡ true = grind (arith, nat_tests) in
    subst (λ cells. IsPadded 16 is_name cells (length text)) (sym (front.copied ∙ ap (λ n. take count text ++ drop n (replicate 16 0)) size))
    (IsPadded-made 16 is_name text (take count text) (replicate 16 0) whole refl fits is)

use Rattle.std.proofs.Common.{◌≡◌, ◌+◌, ◌≤◌, ◌<◌, ℕ, List, true, ap, drop, length, refl, replicate, sym, subst, take, ◌++◌, ◌∷◌, ◌∙◌, arith, length-take-le}
use Rattle.std.specs.Prelude.{IsTrue}
use Rattle.std.specs.List.{list_all}
use Rattle.std.proofs.Math.Seq.{take-append_seam}
use Rattle.std.proofs.lemmas.Bool.Decides.{nat_tests}
use Rattle.cops_types.specs.Key.{is_name, is_key_byte}
use Rattle.cops_types.specs.Padding.{IsPadded}
use Rattle.cops_types.proofs.FrontWords.{name_ends, name_filled, word_rest}
use Rattle.cops_types.proofs.Padded.{IsPadded-made}
use Rattle.cops_types.proofs.names.Name.at_front.Goals as goal

-- some bytes of keys are a name, if there is room for them
is_front_name : (bytes : List ℕ) (len : ℕ) → len ≤ length bytes → len ≤ 16 → 0 < len → list_all is_key_byte (take len bytes) ≡ true → is_name (take len bytes) ≡ true
is_front_name bytes len within room some key =
    let size : length (take len bytes) ≡ len = length-take-le len bytes within in
    let fits : length (take len bytes) ≤ 16 = omega (arith, size, room) in
    let filled : 0 < length (take len bytes) = omega (arith, size, some) in
    grind (arith, nat_tests)

pub returns-then-len-eq0-clause-none : goal.returns-then-len-eq0-clause-none
returns-then-len-eq0-clause-none c =
    let front = c.copy_key_bytes-len.ensures in
    λ name rest is e. omega (arith, name_ends c.args.bytes.now c.copy_key_bytes-len.result front.key front.ends name rest is e, name_filled name is, c.if-len-eq0.true)

pub returns-in_err-_rest-clause-none : goal.returns-in_err-_rest-clause-none
returns-in_err-_rest-clause-none c =
    let front = c.copy_key_bytes-len.ensures in
    rw c.from_residual.ensures (λ name rest is e. c.in_err-_rest.ensures.none name rest (name_ends c.args.bytes.now c.copy_key_bytes-len.result front.key front.ends name rest is e) e)

pub invariant_of-result : goal.invariant_of-result
invariant_of-result c =
    let bytes = c.args.bytes.now in
    let len = c.copy_key_bytes-len.result in
    let front = c.copy_key_bytes-len.ensures in
    let text = take len bytes in
    let size : length text ≡ len = length-take-le len bytes front.within in
    let is = is_front_name bytes len front.within front.room (omega (arith, c.if-len-eq0.false)) front.key in
    subst (λ cells. IsPadded 16 is_name cells len) (sym front.copied)
    (subst (λ n. IsPadded 16 is_name (text ++ drop n (replicate 16 0)) n) size (IsPadded-made 16 is_name text text (replicate 16 0) refl refl (omega (arith, size, front.room)) is))

pub returns-clause-some : goal.returns-clause-some
returns-clause-some c =
    let bytes = c.args.bytes.now in
    let len = c.copy_key_bytes-len.result in
    let front = c.copy_key_bytes-len.ensures in
    let text = take len bytes in
    let size : length text ≡ len = length-take-le len bytes front.within in
    let shown : take len c.copy_key_bytes-len.new.cells ≡ text =
    ap (take len) front.copied ∙ ap (λ n. take n (text ++ drop len (replicate 16 0))) (sym size) ∙ take-append_seam text (drop len (replicate 16 0)) in
    let is = is_front_name bytes len front.within front.room (omega (arith, c.if-len-eq0.false)) front.key in
    subst (λ word. IsTrue (is_name word) × (bytes ≡ word ++ 32 ∷ drop (length word + 1) bytes)) (sym shown) (is, word_rest bytes text c.in_ok-_rest._rest.now c.in_ok-_rest.ensures.some)

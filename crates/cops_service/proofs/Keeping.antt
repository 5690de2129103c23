-- Bytes that were read and are given later.
use Rattle.std.proofs.Common.{◌≡◌, ℕ, true, List, [], length, Option, Some, None, Result, refl, sym, ap, subst, ◌∙◌, arith}
use Rattle.std.specs.Prelude.{◌==◌}
use Rattle.std.proofs.lemmas.Bool.Decides.{nat_tests}
use Rattle.std.proofs.lemmas.List.{nil_from_length}
use Rattle.std.specs.Io.KnownBytes.{ReadConsumes, prepend_known}

prepend-nil : (known : Option (List ℕ)) → prepend_known [] known ≡ known
prepend-nil None = refl
prepend-nil (Some xs) = refl

-- all that was kept is given, and a read goes on
pub reads_on : {E : Type 0} (kept : List ℕ) (old new : Option (List ℕ)) (result : Result ℕ E) (buf : List ℕ) → kept ≡ [] → ReadConsumes old new result buf
    → ReadConsumes (prepend_known kept old) (prepend_known kept new) result buf
reads_on kept old new result buf e h =
    let first : prepend_known kept old ≡ old = ap (λ l. prepend_known l old) e ∙ prepend-nil old in
    let second : prepend_known kept new ≡ new = ap (λ l. prepend_known l new) e ∙ prepend-nil new in
    subst (λ a. ReadConsumes a (prepend_known kept new) result buf) (sym first) (subst (λ b. ReadConsumes old b result buf) (sym second) h)

pub nil_if : (l : List ℕ) → (length l == 0) ≡ true → l ≡ []
nil_if l e = nil_from_length l (grind (arith, nat_tests))

-- The lines of a text that is read piece by piece.
use Rattle.std.proofs.Common.{◌≡◌, ◌≢◌, ℕ, zero, suc, ◌+◌, List, [], ◌∷◌, ◌++◌, take, map, refl, sym, subst, ap, ◌∙◌, append-nil, add-one, arith}
use Rattle.std.specs.Prelude.{◌==◌, false}
use Rattle.std.specs.List.{AllByRecursion}
use Rattle.std.proofs.lemmas.List.Elements.{recursion_from_All}
use Rattle.std.proofs.lemmas.Bool.Decides.{nat_tests}
use Rattle.cops_types.specs.Lines.{cut_line, cut_lines, IsUnbroken, lines_of, onto_first}

-- the bytes go onto the first of these lines
abbrev pub onto_line : List ℕ → List (List ℕ) → List (List ℕ)
onto_line bytes [] = bytes ∷ []
onto_line bytes (line ∷ lines) = (bytes ++ line) ∷ lines

abbrev Unbroken : List ℕ → Type 0
Unbroken bytes = AllByRecursion (λ byte. byte ≢ 10) bytes

by_recursion : (bytes : List ℕ) → IsUnbroken bytes → Unbroken bytes
by_recursion bytes h = recursion_from_All (λ byte. byte ≢ 10) bytes h

Unbroken-take : (n : ℕ) (bytes : List ℕ) → Unbroken bytes → Unbroken (take n bytes)
Unbroken-take zero bytes h = tt
Unbroken-take (suc n) [] h = tt
Unbroken-take (suc n) (byte ∷ bytes) h = (h.0, Unbroken-take n bytes h.1)

pub lines_of-newline : (rest : List ℕ) → lines_of (10 ∷ rest) ≡ [] ∷ lines_of rest
unfolding lines_of
lines_of-newline rest = refl

lines_of-byte : (byte : ℕ) (rest : List ℕ) → byte ≢ 10 → lines_of (byte ∷ rest) ≡ onto_first byte (lines_of rest)
unfolding lines_of
lines_of-byte byte rest h = let differs : (byte == 10) ≡ false = grind (arith, nat_tests) in rw differs refl

onto_first-onto_line : (byte : ℕ) (bytes : List ℕ) (lines : List (List ℕ)) → onto_first byte (onto_line bytes lines) ≡ onto_line (byte ∷ bytes) lines
onto_first-onto_line byte bytes [] = refl
onto_first-onto_line byte bytes (line ∷ lines) = refl

onto_line-one : (byte : ℕ) (lines : List (List ℕ)) → onto_first byte lines ≡ onto_line (byte ∷ []) lines
onto_line-one byte [] = refl
onto_line-one byte (line ∷ lines) = refl

lines_of-onto : (byte : ℕ) (bytes rest : List ℕ) → Unbroken (byte ∷ bytes) → lines_of ((byte ∷ bytes) ++ rest) ≡ onto_line (byte ∷ bytes) (lines_of rest)
lines_of-onto byte [] rest h = lines_of-byte byte rest h.0 ∙ onto_line-one byte (lines_of rest)
lines_of-onto byte (next ∷ bytes) rest h =
    lines_of-byte byte ((next ∷ bytes) ++ rest) h.0 ∙ ap (onto_first byte) (lines_of-onto next bytes rest h.1)
    ∙ onto_first-onto_line byte (next ∷ bytes) (lines_of rest)

lines_of-line : (bytes rest : List ℕ) → Unbroken bytes → lines_of (bytes ++ 10 ∷ rest) ≡ bytes ∷ lines_of rest
lines_of-line [] rest h = lines_of-newline rest
lines_of-line (byte ∷ bytes) rest h =
    lines_of-byte byte (bytes ++ 10 ∷ rest) h.0 ∙ ap (onto_first byte) (lines_of-line bytes rest h.1)

take-take : (n : ℕ) (xs : List ℕ) → take n (take n xs) ≡ take n xs
take-take zero xs = refl
take-take (suc n) [] = refl
take-take (suc n) (x ∷ xs) = ap (λ l. x ∷ l) (take-take n xs)

take-take_append : (n : ℕ) (xs ys : List ℕ) → take n (take n xs ++ ys) ≡ take n (xs ++ ys)
take-take_append zero xs ys = refl
take-take_append (suc n) [] ys = refl
take-take_append (suc n) (x ∷ xs) ys = ap (λ l. x ∷ l) (take-take_append n xs ys)

map-onto_taken : (n : ℕ) (xs : List ℕ) (lines : List (List ℕ)) → map (take n) (onto_line (take n xs) lines) ≡ map (take n) (onto_line xs lines)
map-onto_taken n xs [] = ap (λ l. l ∷ []) (take-take n xs)
map-onto_taken n xs (line ∷ lines) = ap (λ l. l ∷ map (take n) lines) (take-take_append n xs line)

taken : (n : ℕ) (bytes rest : List ℕ) → Unbroken bytes → map (take (suc n)) (lines_of (take (suc n) bytes ++ rest)) ≡ map (take (suc n)) (lines_of (bytes ++ rest))
taken n [] rest h = refl
taken n (byte ∷ bytes) rest h =
    ap (map (take (suc n))) (lines_of-onto byte (take n bytes) rest (h.0, Unbroken-take n bytes h.1)) ∙ map-onto_taken (suc n) (byte ∷ bytes) (lines_of rest)
    ∙ ap (map (take (suc n))) (sym (lines_of-onto byte bytes rest h))

-- what is cut off a line that isn't over changes nothing
pub cut_lines-taken : (limit : ℕ) (bytes rest : List ℕ) → IsUnbroken bytes → cut_lines limit (take (limit + 1) bytes ++ rest) ≡ cut_lines limit (bytes ++ rest)
cut_lines-taken limit bytes rest h =
    let IsSame : ℕ → Type 0 = λ n. map (take n) (lines_of (take n bytes ++ rest)) ≡ map (take n) (lines_of (bytes ++ rest)) in
    subst IsSame (sym (add-one limit)) (taken limit bytes rest (by_recursion bytes h))

-- a line that is over is the first
pub cut_lines-line : (limit : ℕ) (bytes rest : List ℕ) → IsUnbroken bytes → cut_lines limit (bytes ++ 10 ∷ rest) ≡ cut_line limit bytes ∷ cut_lines limit rest
cut_lines-line limit bytes rest h = ap (map (cut_line limit)) (lines_of-line bytes rest (by_recursion bytes h))

-- the end of the text ends a line that has some bytes
pub cut_lines-last : (limit byte : ℕ) (bytes : List ℕ) → IsUnbroken (byte ∷ bytes) → cut_lines limit (byte ∷ bytes) ≡ cut_line limit (byte ∷ bytes) ∷ []
unfolding lines_of
cut_lines-last limit byte bytes h =
    ap (cut_lines limit) (sym (append-nil (byte ∷ bytes))) ∙ ap (map (cut_line limit)) (lines_of-onto byte bytes [] (by_recursion (byte ∷ bytes) h))

pub cut_lines-nil : (limit : ℕ) → cut_lines limit [] ≡ []
unfolding lines_of
cut_lines-nil limit = refl

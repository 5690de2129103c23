-- What a tally is after a part of a body.
use Rattle.std.proofs.Common.{ℕ, zero, suc, ◌≡◌, ◌+◌, ◌-◌, ◌<◌, ◌≤◌, ◌==◌, Bool, true, false, List, [], ◌∷◌, length, take, drop, if◌then◌else◌, refl, ap, sym, ◌∙◌, min, ne_eqb, subst, get_or, le_of_eq, take_all, length-drop, arith}
use Rattle.std.proofs.Math.Nat.{sub-zero}
use Rattle.cops_service.specs.declared.tallies.Tally.{Tally}
use Rattle.cops_service.specs.Tallies.{after, measured, entered, seen, skipped}

-- a byte that stands in a body is skipped
in_body : (b : ℕ) (tally : Tally) → 0 < tally.left → (if tally.left == 0 then measured b tally else skipped b tally) ≡ skipped b tally
in_body b tally some = ap (λ v. if v then measured b tally else skipped b tally) (ne_eqb tally.left 0 (omega arith))

-- behind the first byte of a body each byte only takes one from its length
untagged : (b : ℕ) (tally : Tally) → tally.is_tag ≡ false → skipped b tally ≡ record tally { left = tally.left - 1 }
untagged b tally tag = ap (λ v. record (if v then entered b tally else tally) { left = tally.left - 1 }) tag

-- bytes of a body behind its first
skips : (k : ℕ) (tally : Tally) (bytes : List ℕ) → tally.is_tag ≡ false → k ≤ tally.left → k ≤ length bytes →
    after (record tally { left = tally.left - k }) (drop k bytes) ≡ after tally bytes
skips zero tally bytes tag left fits = ap (λ n. after (record tally { left = n }) bytes) (sub-zero tally.left)
skips (suc k) tally [] tag left fits = absurd (omega arith)
skips (suc k) tally (b ∷ bytes) tag left fits =
    let one : Tally = record tally { left = tally.left - 1 } in
    let same : tally.left - suc k ≡ tally.left - 1 - k = omega arith in
    let here : (if tally.left == 0 then measured b tally else skipped b tally) ≡ one = in_body b tally (omega arith) ∙ untagged b tally tag in
    ap (λ n. after (record tally { left = n }) (drop k bytes)) same
    ∙ skips k one bytes tag (omega arith) (omega arith)
    ∙ ap (λ t. after t bytes) (sym here)

-- what has seen a byte of a body sees no first byte in the others
seen_untagged : (b : ℕ) (v : Bool) (tally : Tally) → tally.is_tag ≡ v → (seen b tally).is_tag ≡ false
seen_untagged b true tally tag = ap (λ w. (if w then entered b tally else tally).is_tag) tag
seen_untagged b false tally tag = ap (λ w. (if w then entered b tally else tally).is_tag) tag ∙ tag

-- a body's length stays when its first byte is seen
seen_left : (b : ℕ) (v : Bool) (tally : Tally) → tally.is_tag ≡ v → (seen b tally).left ≡ tally.left
seen_left b true tally tag = ap (λ w. (if w then entered b tally else tally).left) tag
seen_left b false tally tag = ap (λ w. (if w then entered b tally else tally).left) tag

-- the present part of a body
pub skips_part : (tally : Tally) (b : ℕ) (bytes : List ℕ) (k : ℕ) → 0 < k → k ≤ tally.left → k ≤ length (b ∷ bytes) →
    after (record (seen b tally) { left = tally.left - k }) (drop k (b ∷ bytes)) ≡ after tally (b ∷ bytes)
skips_part tally b bytes zero some left fits = absurd (omega arith)
skips_part tally b bytes (suc k) some left fits =
    let one : Tally = skipped b tally in
    let same : tally.left - suc k ≡ tally.left - 1 - k = omega arith in
    ap (λ n. after (record (seen b tally) { left = n }) (drop k bytes)) same
    ∙ skips k one bytes (seen_untagged b tally.is_tag tally refl) (omega arith) (omega arith)
    ∙ ap (λ t. after t bytes) (sym (in_body b tally (omega arith)))

-- the same of a tally that has seen the first byte, and of the rest as a slice has it
pub steps_over : (bytes : List ℕ) (old new : Tally) (b k : ℕ) → new ≡ seen b old → b ≡ get_or bytes 0 0 →
    0 < length bytes → 0 < old.left → k ≡ min new.left (length bytes) →
    after (record new { left = new.left - k }) (take (length bytes - k) (drop k bytes)) ≡ after old bytes
steps_over [] old new b k is first full some least = absurd (omega arith)
steps_over (x ∷ rest) old new b k is first full some least =
    let bytes : List ℕ = x ∷ rest in
    let left : new.left ≡ old.left = ap (λ t. t.left) is ∙ seen_left b old.is_tag old refl in
    let least_left : k ≤ old.left = omega arith in
    let least_length : k ≤ length bytes = omega arith in
    let one : 0 < k = omega arith in
    let short : length (drop k bytes) ≤ length bytes - k = le_of_eq (length-drop k bytes) in
    let Q : ℕ → Type 0 = λ y. after (record (seen y old) { left = old.left - k }) (drop k bytes) ≡ after old bytes in
    ap (λ t. after (record t { left = new.left - k }) (take (length bytes - k) (drop k bytes))) is
    ∙ ap (λ n. after (record (seen b old) { left = n - k }) (take (length bytes - k) (drop k bytes))) left
    ∙ ap (λ bs. after (record (seen b old) { left = old.left - k }) bs) (take_all (length bytes - k) (drop k bytes) short)
    ∙ subst Q (sym first) (skips_part old x rest k one least_left least_length)

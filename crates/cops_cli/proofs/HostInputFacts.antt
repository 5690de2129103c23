-- Lines of the host, as their bytes come.
use Rattle.std.proofs.Common.{◌≡◌, ℕ, ◌<◌, ◌≤◌, Bool, true, false, cond, List, [], ◌∷◌, ◌++◌, length, refl, sym, ap, ◌∙◌, arith}
use Rattle.std.specs.Prelude.{nat_lt, Option, Some, None}
use Rattle.std.proofs.lemmas.Bool.Decides.{nat_tests}
use Rattle.cops_service.specs.declared.host_lines.HostLine.TheVariants.{Unknown}
use Rattle.cops_cli.specs.HostInput.{meaning_of_line, line_said, longest, with_byte}

-- a byte comes to a line with room
pub room_for_byte : (long : Bool) (line : List ℕ) (byte : ℕ) → length line < 256 → cond long None (Some (line ++ byte ∷ [])) ≡ with_byte byte (cond long None (Some line))
room_for_byte true line byte room = refl
room_for_byte false line byte room =
    let short : nat_lt (length line) longest ≡ true = grind (arith, nat_tests) in
    sym (ap (λ (b : Bool). cond b (Some (line ++ byte ∷ [])) None) short)

-- and to one without
pub no_room_for_byte : (long : Bool) (line : List ℕ) (byte : ℕ) → 256 ≤ length line → None ≡ with_byte byte (cond long None (Some line))
no_room_for_byte true line byte full = refl
no_room_for_byte false line byte full =
    let long : nat_lt (length line) longest ≡ false = grind (arith, nat_tests) in
    sym (ap (λ (b : Bool). cond b (Some (line ++ byte ∷ [])) None) long)

-- ---- the meaning of a whole line

pub said_long : (long : Bool) (line : List ℕ) → long ≡ true → Some Unknown ≡ line_said (cond long None (Some line))
said_long true line is = refl
said_long false line is = absurd cc

pub said_none : (long : Bool) (line : List ℕ) → long ≡ false → line ≡ [] → None ≡ line_said (cond long None (Some line))
said_none false line is none = sym (ap (λ (bytes : List ℕ). line_said (Some bytes)) none)
said_none true line is none = absurd cc

pub said_some : (long : Bool) (line : List ℕ) → long ≡ false → (line ≡ [] → ⊥) → Some (meaning_of_line line) ≡ line_said (cond long None (Some line))
said_some false [] is some = absurd (some refl)
said_some false (byte ∷ line) is some = refl
said_some true line is some = absurd cc

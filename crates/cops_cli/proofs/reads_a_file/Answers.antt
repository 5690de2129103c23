use Rattle.std.proofs.Common.{◌≡◌, ◌∙◌, Bool, true, false, None, Some, ℕ, length, slice_get, refl, sym}
use Rattle.std.specs.Prelude.{codes, not, nat_eq}
use Rattle.std.specs.Cmp.Lexicographic.{pointwise}
use Rattle.std.proofs.lemmas.Option.{slice_get_past, slice_get_read}
use Rattle.cops_types.specs.Same.{same_bytes}
use Rattle.cops_cli.proofs.reads_a_file.Goals as goal

not-false : (b : Bool) → not b ≡ false → b ≡ true
not-false true is_false = refl
not-false false is_false = cc

pub returns-in-Some-clause-file : goal.returns-in-Some-clause-file
returns-in-Some-clause-file g c =
    let words = c.args.words.now in
    let inside = c.in-Some.ensures.lookup in
    let text = c.as_str.result.now in
    let found : slice_get words 1 ≡ Some c.in-Some.command.now = slice_get_read words (length words) 1 c.in-Some.command.now refl inside.3.0 inside.1 in
    rw found (λ is_false. let same : pointwise nat_eq text (codes "serve") ≡ true = not-false (pointwise nat_eq text (codes "serve")) (sym c.ne.ensures ∙ is_false) in
    sym c.as_str.ensures ∙ same_bytes.same text (codes "serve") same)

pub returns-in-None-clause-service : goal.returns-in-None-clause-service
returns-in-None-clause-service g c =
    let words = c.args.words.now in
    let gone : slice_get words 1 ≡ None = slice_get_past words 1 c.in-None.ensures.lookup.3 in
    rw gone (λ asks. absurd asks)

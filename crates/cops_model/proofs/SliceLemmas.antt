-- Byte strings that an act borrows.
use Rattle.std.proofs.Common.{◌≡◌, ◌∙◌, ℕ, Bool, true, false, not, List, refl, sym, ap}
use Rattle.std.specs.Prelude.{IsTrue, Option, Some, None}
use Rattle.std.specs.Borrow.{Bor}
use Rattle.std.specs.Option.{is_some}
use Rattle.cops_types.specs.Words.{no_words, parts_at, space}
use Rattle.cops_types.proofs.WordLemmas.{some_part}
use Rattle.cops_model.specs.declared.slices.Form.{Form}
use Rattle.cops_model.specs.declared.slices.Form.TheVariants.{InLine}
use Rattle.cops_model.specs.SliceForms.{slices_of}

-- a part of a line has a word
pub none_in_line : (form : Form) (part : Option (Bor (List ℕ))) (none : Bool) (words : List (List ℕ)) → form ≡ InLine part → is_some part ≡ not none → slices_of form ≡ words → none ≡ no_words words
none_in_line form part none words is test view = by part none test (ap slices_of (sym is) ∙ view)
  where
    not_true : (t : Bool) → IsTrue (not t) → t ≡ false
    not_true true h = absurd cc
    not_true false h = refl

    by : (part : Option (Bor (List ℕ))) (none : Bool) → is_some part ≡ not none → slices_of (InLine part) ≡ words → none ≡ no_words words
    by None true test view = ap no_words view
    by None false test view = absurd cc
    by (Some bytes) true test view = absurd cc
    by (Some bytes) false test view = sym (not_true (no_words (parts_at space bytes.now)) (some_part space bytes.now)) ∙ ap no_words view

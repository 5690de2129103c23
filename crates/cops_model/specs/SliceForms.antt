-- The two forms of byte strings that an act borrows.
use Rattle.std.specs.Prelude.{ℕ, List, [], Some, None}
use Rattle.cops_types.specs.Words.{parts_at, space}
use Rattle.cops_model.specs.declared.slices.Form.{Form}
use Rattle.cops_model.specs.declared.slices.Form.TheVariants.{InLine, Listed}

-- the words of a part of a line, or the listed byte strings
abbrev pub slices_of : Form → List (List ℕ)
slices_of (InLine (Some part)) = parts_at space part.now
slices_of (InLine None) = []
slices_of (Listed slices) = slices.now

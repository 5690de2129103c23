-- The words after a verb, and how they are read.
use Rattle.std.specs.Prelude.{ℕ, ◌&&◌, nat_lt, if◌then◌else◌, List, length, IsTrue, Option, Some, None}
use Rattle.std.specs.List.{AllByRecursion, list_all}
use Rattle.cops_types.specs.Words.{is_inside, is_word}
use Rattle.cops_model.specs.declared.acts.Act.{Act}
use Rattle.cops_script.specs.ActLines.{has_line}

-- the act, if it has a line
abbrev pub with_line : Act → Option Act
with_line act = if has_line act then Some act else None

-- no word has a space
abbrev pub AreUnspaced : List (List ℕ) → Type 0
AreUnspaced words = AllByRecursion (λ word. IsTrue (list_all is_inside word)) words

-- the keys of a transaction: at least one word
abbrev pub keys_of : List (List ℕ) → Option (List (List ℕ))
keys_of words = if nat_lt 0 (length words) && list_all is_word words then Some words else None

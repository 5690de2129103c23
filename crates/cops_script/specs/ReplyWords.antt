-- The text of reads.
use Rattle.std.specs.Prelude.{ℕ, List, ◌∷◌, flat_map}
use Rattle.cops_types.specs.declared.contexts.ReadParts.{ReadParts as Read}
use Rattle.cops_types.specs.Words.{space}
use Rattle.cops_script.specs.ReplyText.{read_text}

-- the reads, each after a space
abbrev pub later_texts : List Read → List ℕ
later_texts reads = flat_map (λ read. space ∷ read_text read) reads

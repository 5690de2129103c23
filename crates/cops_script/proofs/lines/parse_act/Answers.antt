use Rattle.std.proofs.Common.{◌∙◌, ◌∷◌, [], ℕ, List, ap}
use Rattle.std.specs.Borrow.{Bor}
use Rattle.std.specs.Option.{option_map_or}
use Rattle.cops_types.specs.Words.{parts_at, space}
use Rattle.cops_script.proofs.lines.parse_act.Goals as goal

pub act_behind-requires : goal.act_behind-requires
act_behind-requires c =
    c.split_word.ensures.parts ∙ ap (λ (word : List ℕ). word ∷ option_map_or (λ (bytes : Bor (List ℕ)). parts_at space bytes.now) c.split_word.result.1 []) c.split_word.ensures.word

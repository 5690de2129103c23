use Rattle.std.proofs.Common.{◌≡◌, ◌∙◌, ◌∷◌, [], ℕ, List, ap, arith}
use Rattle.std.specs.Borrow.{Bor}
use Rattle.std.specs.Option.{option_map_or}
use Rattle.cops_types.specs.Words.{first_word, parts_at, space}
use Rattle.cops_script.proofs.ActReading.{rest_read}
use Rattle.cops_script.proofs.CutLemmas.{long_is_no_act}
use Rattle.cops_script.proofs.lines.words_of_act.Goals as goal

pub returns-then-line-gt-LONGEST_LINE-clause-none : goal.returns-then-line-gt-LONGEST_LINE-clause-none
returns-then-line-gt-LONGEST_LINE-clause-none c =
    let line = c.args.line.now in
    long_is_no_act (first_word line) line (omega arith)

pub returns-clause-some : goal.returns-clause-some
returns-clause-some c =
    let line = c.args.line.now in
    let word = first_word line in
    let first : parts_at space line ≡ word ∷ parts_at space c.in_ok-words.words.now =
    c.requires ∙ ap (λ (rest : _). word ∷ option_map_or (λ (bytes : Bor (List ℕ)). parts_at space bytes.now) rest []) c.in_ok-words.was in
    rest_read line word (parts_at space c.in_ok-words.words.now) (omega arith) first

use Rattle.std.proofs.Common.{◌≡◌, ◌∙◌, List, [], ◌++◌, ◌∷◌, map, ap, sym, append_assoc, append-nil}
use Rattle.std.proofs.lemmas.Result.{on_ok_weaker}
use Rattle.cops_types.specs.declared.contexts.ReadParts.{ReadParts as Read}
use Rattle.cops_types.specs.Words.{space, spaced}
use Rattle.cops_script.specs.ReplyText.{read_text}
use Rattle.cops_script.specs.ReplyWords.{later_texts}
use Rattle.cops_script.proofs.texts.push_reads.Goals as goal

reads_text : (read : Read) (reads : List Read) → spaced (map read_text (read ∷ reads)) ≡ read_text read ++ later_texts reads
reads_text read [] = sym (append-nil (read_text read))
reads_text read (next ∷ reads) = ap (λ text. read_text read ++ space ∷ text) (reads_text next reads)

pub returns : goal.returns
returns c =
    let out = c.args.out.now.items in
    let first = c.in-Some.first.now in
    let rest = c.in-Some.rest.now in
    let reads_are : c.args.reads.now ≡ first ∷ rest = c.in-Some.ensures.cases.0 in
    let whole : (out ++ read_text first) ++ later_texts rest ≡ out ++ spaced (map read_text c.args.reads.now) =
    append_assoc out (read_text first) (later_texts rest) ∙ ap (λ text. out ++ text) (sym (reads_text first rest)) ∙ ap (λ reads. out ++ spaced (map read_text reads)) (sym reads_are) in
    on_ok_weaker c.push_later.result (λ more. more ∙ ap (λ text. text ++ later_texts rest) c.in_ok-push_read.ensures ∙ whole) c.push_later.ensures

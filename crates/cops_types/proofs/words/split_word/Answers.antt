use Rattle.std.proofs.Common.{◌∙◌, ap, sym}
use Rattle.cops_types.specs.Words.{first_word, parts_at, space}
use Rattle.cops_types.proofs.WordLemmas.{first_word-last, first_word-more, lacks_space, parts-last, parts-more}
use Rattle.cops_types.proofs.words.split_word.Goals as goal

pub returns-in-Some-clause-word : goal.returns-in-Some-clause-word
returns-in-Some-clause-word c =
    let parts = c.in-Some.ensures.some in
    sym (ap first_word parts.1 ∙ first_word-more c.in-Some.word.now c.in-Some.rest.now (lacks_space c.in-Some.word.now parts.0))

pub returns-in-Some-clause-parts : goal.returns-in-Some-clause-parts
returns-in-Some-clause-parts c =
    let parts = c.in-Some.ensures.some in
    ap (parts_at space) parts.1 ∙ parts-more space c.in-Some.word.now c.in-Some.rest.now (lacks_space c.in-Some.word.now parts.0)

pub returns-in-None-clause-word : goal.returns-in-None-clause-word
returns-in-None-clause-word c = sym (first_word-last c.args.bytes.now (lacks_space c.args.bytes.now c.in-None.ensures.none))

pub returns-in-None-clause-parts : goal.returns-in-None-clause-parts
returns-in-None-clause-parts c = parts-last space c.args.bytes.now (lacks_space c.args.bytes.now c.in-None.ensures.none)

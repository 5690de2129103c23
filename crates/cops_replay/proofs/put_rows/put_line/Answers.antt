use Rattle.cops_replay.proofs.Names.{◌∙◌, [], ◌∷◌, ◌++◌, ap, packed_record}
use Rattle.cops_replay.proofs.Placing.{line_placed}
use Rattle.cops_replay.proofs.put_rows.put_line.Goals as goal

pub returns-clause-text : goal.returns-clause-text
returns-clause-text c =
    c.put_byte.ensures.text
    ∙ ap (λ l. l ++ 10 ∷ []) (line_placed [] c.args.name.now (packed_record c.args.node c.args.moment c.args.packing.now) _ _ _ _ c.put_front-of_call.ensures.text c.put_row_call-after_call.ensures.text c.put_word-of_reply.ensures.text c.put_row_reply-after_reply.ensures.text)

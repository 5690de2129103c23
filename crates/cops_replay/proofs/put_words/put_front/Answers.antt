use Rattle.cops_replay.proofs.Names.{◌++◌, ◌∙◌, ap, take}
use Rattle.cops_replay.proofs.Placing.{front_placed}
use Rattle.cops_replay.proofs.put_words.put_front.Goals as goal

pub returns-clause-text : goal.returns-clause-text
returns-clause-text c =
    front_placed _ _ _ _ _ _ _ _ _ _ (c.put_word-after_name.ensures.text ∙ ap (λ text. take c.args.at c.args.bytes.now ++ text) c.bytes.ensures.value) c.put_byte-of_node.ensures.text c.put_node-after_node.ensures.text c.put_byte-of_moment.ensures.text c.put_number-after_moment.ensures.text c.put_byte.ensures.text

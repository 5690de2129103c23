use Rattle.cops_replay.proofs.Names.{arith}
use Rattle.cops_replay.proofs.PartLemmas.{bytes_small}
use Rattle.cops_replay.proofs.put_words.put_digits.Goals as goal

pub returns-clause-formed : goal.returns-clause-formed
returns-clause-formed c = bytes_small c.args.value.now (λ i. let f = c.type_inv.value i in omega arith)

use Rattle.std.proofs.Common.{◌-◌, length, take, drop, arith, length-drop}
use Rattle.std.proofs.lemmas.List.{take_all}
use Rattle.cops_types.proofs.PlacedLemmas.{blocks_placed}
use Rattle.cops_types.proofs.placed.put_blocks.Goals as goal

pub returns-clause-text : goal.returns-clause-text
returns-clause-text g c =
    let word = c.args.word.now in
    let rest = length word - g.row.N in
    blocks_placed c.args.at g.row.N rest c.args.bytes.now c.put_block.new.bytes c.put_block-2.new.bytes word _ _ (omega arith) (omega arith) (omega arith)
    (λ i. take g.row.N word)
    (take_all (length word - rest) (drop rest word) (omega (arith, length-drop rest word)))
    c.put_block.ensures c.put_block-2.ensures

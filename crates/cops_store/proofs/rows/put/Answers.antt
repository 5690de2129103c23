use Rattle.std.proofs.Common.{ap, subst}
use Rattle.std.specs.Prelude.{IfSome, not}
use Rattle.cops_store.specs.Chains.{KeptChain, Rises}
use Rattle.cops_store.specs.Lines.{HasRecordRoom}
use Rattle.cops_store.proofs.Lines.{chain_at_index, rechained_at}
use Rattle.cops_store.proofs.rows.put.Goals as goal

pub put-requires-clause-chain : goal.put-requires-clause-chain
put-requires-clause-chain c =
    let at = c.requires.at in
    subst (λ o. IfSome o (λ (chain : KeptChain). Rises chain.items)) (chain_at_index c.args.rows.now.entries c.args.i at.0 at.1 c.index_mut-row.result.now c.requires.unique at.2 c.index_mut-row.ensures.value) at.4

pub put-requires-clause-room : goal.put-requires-clause-room
put-requires-clause-room c =
    let at = c.requires.at in
    subst HasRecordRoom (chain_at_index c.args.rows.now.entries c.args.i at.0 at.1 c.index_mut-row.result.now c.requires.unique at.2 c.index_mut-row.ensures.value) at.3

pub returns : goal.returns
returns c = λ slot key at.
    (c.index_mut-row.result.now.chain, c.put.new.self, rechained_at c.args.rows.now c.args.i slot key c.index_mut-row.result.now c.put.new.self c.requires.unique at c.index_mut-row.ensures.value, c.put.ensures, ap not c.is_covered-is_due.ensures)

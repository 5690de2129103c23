use Rattle.std.proofs.Common.{subst}
use Rattle.std.specs.Prelude.{IfSome}
use Rattle.cops_store.specs.Chains.{KeptChain}
use Rattle.cops_store.specs.Tables.{AreCountable}
use Rattle.cops_store.proofs.Lines.{chain_at_index, rechained_at}
use Rattle.cops_store.proofs.rows.clean_at.Goals as goal

pub clean-requires : goal.clean-requires
clean-requires c =
    let at = c.requires.at in
    subst (λ o. IfSome o (λ (chain : KeptChain). AreCountable chain.items)) (chain_at_index c.args.rows.now.entries c.args.i at.0 at.1 c.index_mut-row.result.now c.requires.unique at.2 c.index_mut-row.ensures.value) at.3

pub returns : goal.returns
returns c = λ slot key at.
    (c.index_mut-row.result.now.chain, c.clean.new.self, rechained_at c.args.rows.now c.args.i slot key c.index_mut-row.result.now c.clean.new.self c.requires.unique at c.index_mut-row.ensures.value, c.clean.ensures.items, c.clean.ensures.freed)

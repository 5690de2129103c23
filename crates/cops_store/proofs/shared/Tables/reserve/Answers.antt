use Rattle.std.proofs.Common.{sym, subst}
use Rattle.std.specs.List.{IsDistinct}
use Rattle.cops_types.specs.Key.{key_eq}
use Rattle.cops_store.specs.Lines.{chains_at, chain_entries_at}
use Rattle.cops_store.proofs.Tables.{keys_of_chains}
use Rattle.cops_store.proofs.Shelves.{roomy_shelf}
use Rattle.cops_store.proofs.shared.Tables.reserve.Goals as goal

pub returns-clause-shelf : goal.returns-clause-shelf
returns-clause-shelf c = λ used due shelf.
    roomy_shelf used due c.args.key.now (chains_at c.args.slot c.args.self.now.table) (chains_at c.args.slot c.reserve-2.new.self) shelf c.in_ok-reserve-2.ensures.chains
    (subst (IsDistinct key_eq) (sym (keys_of_chains (chain_entries_at c.args.slot c.reserve-2.new.self))) c.reserve-2.ensures.distinct)

use Rattle.std.proofs.Common.{ap, ◌∙◌, sym}
use Rattle.std.specs.Prelude.{Some}
use Rattle.cops_types.specs.declared.records.Record.{Record}
use Rattle.cops_store.specs.Chains.{KeptChain, last_commit}
use Rattle.cops_store.proofs.Chains.{last_of}
use Rattle.cops_store.proofs.chain.Chain.last.Goals as goal

pub returns-in-Some : goal.returns-in-Some
returns-in-Some c = last_of c.latest.inside.record_of c.self.inside.older.items c.self.inside.latest (c.in-Some.is ∙ ap (λ (r : Record). Some r) (sym c.latest.view_is))
    ∙ ap (λ (k : KeptChain). last_commit k.items) c.self.view_is

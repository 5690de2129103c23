use Rattle.std.proofs.Common.{ap, ◌∙◌, sym, subst}
use Rattle.std.specs.Prelude.{Some}
use Rattle.cops_types.specs.Version.{version_eq}
use Rattle.cops_types.specs.declared.records.Record.{Record}
use Rattle.cops_types.proofs.VersionOrder.{version_eq-true}
use Rattle.cops_store.specs.Chains.{KeptChain, Rises, find_version, latest_row}
use Rattle.cops_store.proofs.Chains.{ascends_front, find_else, find_latest}
use Rattle.cops_store.proofs.chain.Chain.find.Goals as goal

pub returns-then-eq : goal.returns-then-eq
returns-then-eq c =
    find_latest c.args.version c.latest.inside.record_of c.self.inside.older.items c.self.inside.latest (c.in-Some.is ∙ ap (λ (r : Record). Some r) (sym c.latest.view_is))
    (subst (λ (k : KeptChain). Rises k.items) (sym c.self.view_is) c.requires)
    (sym c.latest.invariant ∙ version_eq-true c.latest.inside.version c.args.version (sym c.eq.ensures ∙ c.if-eq.true))
    ∙ ap (λ (k : KeptChain). find_version c.args.version k.items) c.self.view_is

pub find_older-requires : goal.find_older-requires
find_older-requires c = ascends_front c.self.inside.older.items (latest_row c.self.inside.latest) (subst (λ (k : KeptChain). Rises k.items) (sym c.self.view_is) c.requires)

pub returns-else-eq : goal.returns-else-eq
returns-else-eq c =
    c.find_older.ensures
    ∙ find_else c.args.version c.latest.inside.record_of c.self.inside.older.items c.self.inside.latest (c.in-Some.is ∙ ap (λ (r : Record). Some r) (sym c.latest.view_is))
    (ap (λ v. version_eq v c.args.version) (sym c.latest.invariant) ∙ sym c.eq.ensures ∙ c.if-eq.false)
    ∙ ap (λ (k : KeptChain). find_version c.args.version k.items) c.self.view_is

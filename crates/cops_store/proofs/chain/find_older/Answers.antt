use Rattle.std.proofs.Common.{arith, ◌∙◌, sym}
use Rattle.cops_types.proofs.VersionOrder.{version_eq-true}
use Rattle.cops_store.proofs.Chains.{find_past, find_there, find_other, version_eq_fails}
use Rattle.cops_store.proofs.chain.find_older.Goals as goal

pub returns-then-i-len : goal.returns-then-i-len
returns-then-i-len c = find_past c.args.version c.args.older.now.items c.place_of-i.result c.requires c.place_of-i.ensures (omega (arith, c.len.ensures, c.args.older.now.ok.0))

pub returns-then-eq : goal.returns-then-eq
returns-then-eq c = find_there c.args.version c.args.older.now.items c.place_of-i.result c.index-kept.result.now c.requires c.place_of-i.ensures (omega (arith, c.len.ensures, c.args.older.now.ok.0)) c.index-kept.ensures
    (sym c.version.ensures ∙ version_eq-true c.version.result c.args.version (sym c.eq.ensures ∙ c.if-eq.true))

pub returns-else-eq : goal.returns-else-eq
returns-else-eq c = find_other c.args.version c.args.older.now.items c.place_of-i.result c.index-kept.result.now c.requires c.place_of-i.ensures c.index-kept.ensures
    (λ same. version_eq_fails c.version.result c.args.version (sym c.eq.ensures ∙ c.if-eq.false) (c.version.ensures ∙ same))

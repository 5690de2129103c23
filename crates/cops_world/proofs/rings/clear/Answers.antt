use Rattle.std.proofs.Common.{◌≡◌, ◌+◌, ◌<◌, length, subst, sym, ap, ◌∙◌, arith}
use Rattle.std.proofs.lemmas.Option.{slice_get_within}
use Rattle.cops_world.specs.ActorRings.{ring_at}
use Rattle.cops_world.proofs.JoinLemmas.{clears_on, first_read, is_cleared, ring_less}
use Rattle.cops_world.proofs.RowLemmas.{item_is}
use Rattle.cops_world.proofs.rings.clear.Goals as goal

pub remove-requires-clause-place : goal.remove-requires-clause-place
remove-requires-clause-place c =
    let l = c.loop-rings in
    let within = subst (λ n. c.args.slot < n) (sym l.invariant.long) c.requires.slot in
    let row = first_read l.rows.entries l.rings.items l.invariant.kept c.args.slot c.index.result.now c.index-ring.result.now within c.index.ensures c.index-ring.ensures c.loop-rings-test.true in
    slice_get_within l.rows.entries c.index-ring.result.now.first row.0 row.1

pub loop-rings-smaller : goal.loop-rings-smaller
loop-rings-smaller c =
    let l = c.loop-rings in
    let within = subst (λ n. c.args.slot < n) (sym l.invariant.long) c.requires.slot in
    let row = first_read l.rows.entries l.rings.items l.invariant.kept c.args.slot c.index.result.now c.index-ring.result.now within c.index.ensures c.index-ring.ensures c.loop-rings-test.true in
    ring_less l.rows.entries l.rings.items c.remove.new.rows.entries c.remove.new.rings.items c.args.slot row.0.0 l.invariant.kept c.remove.ensures.kept (c.remove.ensures.out row.0.0 row.0.1 row.1).slots within row.2
    (c.remove.ensures.count row.0.0 row.0.1 row.1)

pub loop-rings-preserved : goal.loop-rings-preserved
loop-rings-preserved c =
    let l = c.loop-rings in
    let within = subst (λ n. c.args.slot < n) (sym l.invariant.long) c.requires.slot in
    let row = first_read l.rows.entries l.rings.items l.invariant.kept c.args.slot c.index.result.now c.index-ring.result.now within c.index.ensures c.index-ring.ensures c.loop-rings-test.true in
    clears_on c.args.slot c.args.rows.now.entries c.args.rings.now.items l.rows.entries l.rings.items c.remove.new.rows.entries c.remove.new.rings.items row.0.0 row.2 l.invariant c.remove.ensures.kept
    (c.remove.ensures.out row.0.0 row.0.1 row.1)

pub returns-clause-cleared : goal.returns-clause-cleared
returns-clause-cleared c =
    let l = c.loop-rings in
    let within = subst (λ n. c.args.slot < n) (sym l.invariant.long) c.requires.slot in
    let read = ap (λ r. r.count) (item_is l.rings.items c.args.slot c.index.result.now (record { first = 0; count = 0 }) within c.index.ensures) in
    let none = c.loop-rings-test.false in
    is_cleared c.args.slot c.args.rows.now.entries c.args.rings.now.items l.rows.entries l.rings.items c.requires.slot l.invariant (omega (arith, read, none))

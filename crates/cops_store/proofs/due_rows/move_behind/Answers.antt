use Rattle.std.proofs.Common.{subst, sym, set}
use Rattle.std.specs.Prelude.{Some}
use Rattle.cops_store.specs.declared.table.Due.{Due}
use Rattle.cops_store.specs.Dues.{IsDueMoved}
use Rattle.cops_store.proofs.DueLines.{moved_is, some_there, still_there}
use Rattle.cops_store.proofs.due_rows.move_behind.Goals as goal

pub index_mut-end-requires : goal.index_mut-end-requires
index_mut-end-requires c = some_there c.args.rows.now.slots c.requires.last.0 c.args.last c.requires.last.1

pub index_mut-row-requires : goal.index_mut-row-requires
index_mut-row-requires c = still_there c.args.rows.now.slots c.args.first c.args.last c.requires.first.0 c.index_mut-end.result.now c.requires.first.1 c.index_mut-end.ensures.value

pub returns-clause-moved : goal.returns-clause-moved
returns-clause-moved c =
    subst (λ (d : Due). IsDueMoved c.args.rows.now.slots (set (set c.args.rows.now.slots c.args.last (Some (record c.index_mut-end.result.now { next = c.args.first }))) c.args.first (Some (record c.index_mut-row.result.now { due = d }))) c.args.first c.args.last c.args.stale c.index_mut-row.result.now.next) (sym c.put_off.ensures)
    (moved_is c.args.rows.now.slots c.args.first c.args.last c.args.stale c.index_mut-end.result.now c.index_mut-row.result.now c.index_mut-end.ensures.value c.index_mut-row.ensures.value)

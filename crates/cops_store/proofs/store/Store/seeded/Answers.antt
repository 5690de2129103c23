use Rattle.std.proofs.Common.{◌∙◌, ◌++◌, [], ap, sym, subst}
use Rattle.std.specs.Prelude.{replicate}
use Rattle.cops_store.specs.Dues.{Dues}
use Rattle.cops_store.specs.Shelves.{AreShelves}
use Rattle.cops_store.proofs.Stores.{grown, grown_stands, no_shelves}
use Rattle.cops_store.proofs.store.Store.seeded.Goals as goal

pub invariant_of-result : goal.invariant_of-result
invariant_of-result c =
    subst (λ (d : Dues). AreShelves c.add_slots.new.self d.slots c.in_ok-shelves.shelves.items) (sym c.new-due.ensures)
    (grown c.new-due.result.room [] c.add_slots.new.self [] [] c.in_ok-shelves.shelves.items c.args.tenants no_shelves (c.in_ok-add_slots.ensures.ok ∙ ap (λ table. table ++ replicate c.args.tenants []) c.new-table.ensures) c.in_ok-shelves.ensures)

pub returns-clause-empty : goal.returns-clause-empty
returns-clause-empty c =
    grown_stands c.new-due.result.room c.add_slots.new.self c.args.tenants (c.in_ok-add_slots.ensures.ok ∙ ap (λ table. table ++ replicate c.args.tenants []) c.new-table.ensures)

use Rattle.std.proofs.Common.{◌∙◌, [], ap, sym, subst}
use Rattle.cops_types.specs.Records.{StandsFor}
use Rattle.cops_store.specs.Tables.{all_rows, chains_of, ready_in}
use Rattle.cops_store.proofs.Meaning.{StandsFor-none}
use Rattle.cops_store.proofs.Stores.{after_ready, after_rows, emptied, emptied_is, emptied_others, in_table, others_ready, others_rows, shelf_here, shelves_after, slots_stay}
use Rattle.cops_store.proofs.store.Store.drop_slot.Goals as goal

pub clear-requires-clause-slot : goal.clear-requires-clause-slot
clear-requires-clause-slot c = in_table c.self.inside.tables.due.room c.self.inside.tables.table c.self.inside.tables.due.slots c.self.inside.shelves.items c.self.invariant c.args.self.now c.self.view_is c.args.slot c.requires

pub clear-requires-clause-line : goal.clear-requires-clause-line
clear-requires-clause-line c = (shelf_here c.self.inside.tables.due.room c.self.inside.tables.table c.self.inside.tables.due.slots c.self.inside.shelves.items c.self.invariant c.args.self.now c.self.view_is c.args.slot c.requires c.index_mut-shelf.result.now c.index_mut-shelf.ensures.value).line

pub invariant_of-self : goal.invariant_of-self
invariant_of-self c =
    shelves_after c.self.inside.tables.due.room c.self.inside.tables.table c.self.inside.tables.due.slots c.self.inside.shelves.items c.self.invariant c.args.self.now c.self.view_is c.args.slot c.requires c.index_mut-shelf.result.now c.index_mut-shelf.ensures.value c.clear.new.tables.table c.clear.new.tables.due.slots c.clear.new.self (emptied_others c.self.inside.tables.table c.clear.new.tables.table c.args.slot c.clear.ensures.chains (in_table c.self.inside.tables.due.room c.self.inside.tables.table c.self.inside.tables.due.slots c.self.inside.shelves.items c.self.invariant c.args.self.now c.self.view_is c.args.slot c.requires)) c.clear.ensures.turn
    (emptied_is c.clear.new.tables.table c.clear.new.tables.due.slots c.args.slot c.clear.new.self (emptied c.self.inside.tables.table c.clear.new.tables.table c.args.slot c.clear.ensures.chains (in_table c.self.inside.tables.due.room c.self.inside.tables.table c.self.inside.tables.due.slots c.self.inside.shelves.items c.self.invariant c.args.self.now c.self.view_is c.args.slot c.requires)) c.clear.ensures.shelf)

pub returns-clause-dropped : goal.returns-clause-dropped
returns-clause-dropped c = after_rows c.self.inside.tables.due.room c.self.inside.tables.table c.self.inside.tables.due.slots c.self.inside.shelves.items c.self.invariant c.args.self.now c.self.view_is c.args.slot c.requires c.clear.new.tables.due.room c.clear.new.tables.table (emptied_others c.self.inside.tables.table c.clear.new.tables.table c.args.slot c.clear.ensures.chains (in_table c.self.inside.tables.due.room c.self.inside.tables.table c.self.inside.tables.due.slots c.self.inside.shelves.items c.self.invariant c.args.self.now c.self.view_is c.args.slot c.requires)) ∙ ap (λ entries. all_rows (chains_of entries)) (emptied c.self.inside.tables.table c.clear.new.tables.table c.args.slot c.clear.ensures.chains (in_table c.self.inside.tables.due.room c.self.inside.tables.table c.self.inside.tables.due.slots c.self.inside.shelves.items c.self.invariant c.args.self.now c.self.view_is c.args.slot c.requires))

pub returns-clause-empty : goal.returns-clause-empty
returns-clause-empty c = subst (λ rows. StandsFor rows []) (sym (returns-clause-dropped c)) StandsFor-none

pub returns-clause-ready : goal.returns-clause-ready
returns-clause-ready c = after_ready c.self.inside.tables.due.room c.self.inside.tables.table c.self.inside.tables.due.slots c.self.inside.shelves.items c.self.invariant c.args.self.now c.self.view_is c.args.slot c.requires c.clear.new.tables.due.room c.clear.new.tables.table (emptied_others c.self.inside.tables.table c.clear.new.tables.table c.args.slot c.clear.ensures.chains (in_table c.self.inside.tables.due.room c.self.inside.tables.table c.self.inside.tables.due.slots c.self.inside.shelves.items c.self.invariant c.args.self.now c.self.view_is c.args.slot c.requires)) ∙ ap (ready_in c.clear.new.tables.due.room) (emptied c.self.inside.tables.table c.clear.new.tables.table c.args.slot c.clear.ensures.chains (in_table c.self.inside.tables.due.room c.self.inside.tables.table c.self.inside.tables.due.slots c.self.inside.shelves.items c.self.invariant c.args.self.now c.self.view_is c.args.slot c.requires))

pub returns-clause-others : goal.returns-clause-others
returns-clause-others c = others_rows c.self.inside.tables.due.room c.self.inside.tables.table c.self.inside.tables.due.slots c.self.inside.shelves.items c.self.invariant c.args.self.now c.self.view_is c.args.slot c.requires c.clear.new.tables.due.room c.clear.new.tables.table (emptied_others c.self.inside.tables.table c.clear.new.tables.table c.args.slot c.clear.ensures.chains (in_table c.self.inside.tables.due.room c.self.inside.tables.table c.self.inside.tables.due.slots c.self.inside.shelves.items c.self.invariant c.args.self.now c.self.view_is c.args.slot c.requires))

pub returns-clause-others_ready : goal.returns-clause-others_ready
returns-clause-others_ready c = others_ready c.self.inside.tables.due.room c.self.inside.tables.table c.self.inside.tables.due.slots c.self.inside.shelves.items c.self.invariant c.args.self.now c.self.view_is c.args.slot c.requires c.clear.new.tables.due.room c.clear.new.tables.table (emptied_others c.self.inside.tables.table c.clear.new.tables.table c.args.slot c.clear.ensures.chains (in_table c.self.inside.tables.due.room c.self.inside.tables.table c.self.inside.tables.due.slots c.self.inside.shelves.items c.self.invariant c.args.self.now c.self.view_is c.args.slot c.requires)) c.clear.ensures.room

pub returns-clause-tenants : goal.returns-clause-tenants
returns-clause-tenants c = slots_stay c.self.inside.tables.due.room c.self.inside.tables.table c.self.inside.tables.due.slots c.self.inside.shelves.items c.self.invariant c.args.self.now c.self.view_is c.args.slot c.requires c.index_mut-shelf.result.now c.index_mut-shelf.ensures.value c.clear.new.tables.table c.clear.new.tables.due.slots c.clear.new.self (emptied_others c.self.inside.tables.table c.clear.new.tables.table c.args.slot c.clear.ensures.chains (in_table c.self.inside.tables.due.room c.self.inside.tables.table c.self.inside.tables.due.slots c.self.inside.shelves.items c.self.invariant c.args.self.now c.self.view_is c.args.slot c.requires)) c.clear.ensures.turn

use Rattle.std.proofs.Common.{◌∙◌, ◌++◌, ap}
use Rattle.cops_store.proofs.Stores.{grown, grown_ready, grown_rows}
use Rattle.cops_store.proofs.store.Store.admit.Goals as goal

pub invariant_of-self-2 : goal.invariant_of-self-2
invariant_of-self-2 c = grown c.self.inside.tables.due.room c.self.inside.tables.table c.add_slots.new.self c.self.inside.tables.due.slots c.self.inside.shelves.items c.append.new.self.items _ c.self.invariant c.in_ok-add_slots.ensures.ok ((rw c.unwrap.ensures at c.append.ensures.items) ∙ (λ i. c.reserve.ensures.items i ++ c.in_ok-added.ensures i))

pub returns-clause-rows : goal.returns-clause-rows
returns-clause-rows c = grown_rows c.self.inside.tables.due.room c.self.inside.tables.table c.add_slots.new.self c.self.inside.tables.due.slots c.self.inside.shelves.items c.append.new.self.items _ c.self.invariant c.in_ok-add_slots.ensures.ok ((rw c.unwrap.ensures at c.append.ensures.items) ∙ (λ i. c.reserve.ensures.items i ++ c.in_ok-added.ensures i)) ∙ ap (λ v. v.rows) c.self.view_is

pub returns-clause-ready : goal.returns-clause-ready
returns-clause-ready c = grown_ready c.self.inside.tables.due.room c.self.inside.tables.table c.add_slots.new.self c.self.inside.tables.due.slots c.self.inside.shelves.items c.append.new.self.items _ c.self.invariant c.in_ok-add_slots.ensures.ok ((rw c.unwrap.ensures at c.append.ensures.items) ∙ (λ i. c.reserve.ensures.items i ++ c.in_ok-added.ensures i)) ∙ ap (λ v. v.ready) c.self.view_is

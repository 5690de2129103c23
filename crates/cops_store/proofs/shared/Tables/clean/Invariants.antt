use Rattle.cops_store.specs.Dues.{IsDueTurn, dues_in}
use Rattle.cops_store.specs.Lines.{chains_at, OtherSlotsStay}
use Rattle.cops_store.proofs.DueSteps.{IsCleanedTo}
use Rattle.cops_store.proofs.shared.Tables.clean.Given as goal

abbrev pub invariant-loop-entry : goal.invariant-loop-entry
invariant-loop-entry l = record {
  turn : IsDueTurn l.initial.self.due.slots l.self.due.slots l.slot l.initial.dues l.dues;
  cleaned : IsCleanedTo l.now l.trans_time l._entry (dues_in l.initial.self.due.slots l.initial.dues) (chains_at l.slot l.initial.self.table) (chains_at l.slot l.self.table) (dues_in l.self.due.slots l.dues) l.total.freed l.total.least;
  others : OtherSlotsStay l.slot l.initial.self.table l.self.table;
}

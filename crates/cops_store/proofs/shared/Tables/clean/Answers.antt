use Rattle.std.proofs.Common.{◌<◌, ◌≤◌, ◌-◌, ◌^◌, arith, subst, sym}
use Rattle.cops_store.specs.declared.shared.Cleaned.{Cleaned}
use Rattle.cops_store.specs.Dues.{dues_in}
use Rattle.cops_store.specs.Lines.{chains_at}
use Rattle.cops_store.proofs.Collections.{countable_left}
use Rattle.cops_store.proofs.DueLines.{due_turn_none, due_turn_then, dues_long}
use Rattle.cops_store.proofs.DueSteps.{IsCleanedTo, all_chains, all_dues, all_least, cleaned_none, cleaned_one, one_left}
use Rattle.cops_store.proofs.Turns.{stay_twice, still_there, unchanged}
use Rattle.cops_store.proofs.shared.Tables.clean.Goals as goal

pub loop-entry-init : goal.loop-entry-init
loop-entry-init c = record {
  turn = due_turn_none c.args.self.now.due.slots c.args.slot c.args.dues.now c.requires.line;
  cleaned = subst (λ (n : Cleaned). IsCleanedTo c.args.now c.args.trans_time 0 (dues_in c.args.self.now.due.slots c.args.dues.now) (chains_at c.args.slot c.args.self.now.table) (chains_at c.args.slot c.args.self.now.table) (dues_in c.args.self.now.due.slots c.args.dues.now) n.freed n.least) (sym c.nothing_cleaned-total.ensures)
      (cleaned_none c.args.now c.args.trans_time (dues_in c.args.self.now.due.slots c.args.dues.now) (chains_at c.args.slot c.args.self.now.table) (2 ^ 64 - 1));
  others = unchanged c.args.slot c.args.self.now.table;
}

pub clean_first-one-requires : goal.clean_first-one-requires
clean_first-one-requires c = record {
  slot = still_there c.args.slot c.args.self.now.table c.loop-entry.self.table c.loop-entry.invariant.others c.requires.slot;
  line = c.loop-entry.invariant.turn.stays;
  some = subst (λ n. 0 < n) (dues_long c.loop-entry.self.due.slots c.args.slot c.loop-entry.dues c.loop-entry.invariant.turn.stays) (one_left _ _ _ _ _ _ _ _ _ c.loop-entry.invariant.cleaned (subst (λ n. c.loop-entry._entry < n) (sym (dues_long c.args.self.now.due.slots c.args.slot c.args.dues.now c.requires.line)) (omega arith)));
  countable = countable_left c.loop-entry.total.freed _ _ c.loop-entry.invariant.cleaned.freed_is c.requires.countable;
}

pub loop-entry-preserved : goal.loop-entry-preserved
loop-entry-preserved c = record {
  turn = due_turn_then _ _ _ c.args.slot c.args.dues.now c.loop-entry.dues c.clean_first-one.new.dues c.loop-entry.invariant.turn c.clean_first-one.ensures.turn;
  cleaned = cleaned_one c.args.now c.args.trans_time c.loop-entry._entry (dues_in c.args.self.now.due.slots c.args.dues.now) (chains_at c.args.slot c.args.self.now.table) (chains_at c.args.slot c.loop-entry.self.table) (chains_at c.args.slot c.clean_first-one.new.self.table)
      (dues_in c.loop-entry.self.due.slots c.loop-entry.dues) (dues_in c.clean_first-one.new.self.due.slots c.clean_first-one.new.dues) c.loop-entry.total.freed c.clean_first-one.result.freed c.loop-entry.total.least c.clean_first-one.result.least c.loop-entry.invariant.cleaned (subst (λ n. c.loop-entry._entry < n) (sym (dues_long c.args.self.now.due.slots c.args.slot c.args.dues.now c.requires.line)) (omega arith))
      c.clean_first-one.ensures.chains c.clean_first-one.ensures.freed c.clean_first-one.ensures.dues _ c.min.ensures;
  others = stay_twice c.args.slot c.args.self.now.table c.loop-entry.self.table c.clean_first-one.new.self.table c.loop-entry.invariant.others c.clean_first-one.ensures.others;
}

pub returns-clause-chains : goal.returns-clause-chains
returns-clause-chains c = all_chains _ _ _ _ _ _ _ _ _ c.loop-entry.invariant.cleaned (subst (λ n. n ≤ c.loop-entry._entry) (sym (dues_long c.args.self.now.due.slots c.args.slot c.args.dues.now c.requires.line)) (omega arith))

pub returns-clause-freed : goal.returns-clause-freed
returns-clause-freed c = c.loop-entry.invariant.cleaned.freed_is

pub returns-clause-dues : goal.returns-clause-dues
returns-clause-dues c = all_dues _ _ _ _ _ _ _ _ _ c.loop-entry.invariant.cleaned (subst (λ n. n ≤ c.loop-entry._entry) (sym (dues_long c.args.self.now.due.slots c.args.slot c.args.dues.now c.requires.line)) (omega arith)) c.requires.noted

pub returns-clause-least : goal.returns-clause-least
returns-clause-least c = all_least _ _ _ _ _ _ _ _ _ c.loop-entry.invariant.cleaned (subst (λ n. n ≤ c.loop-entry._entry) (sym (dues_long c.args.self.now.due.slots c.args.slot c.args.dues.now c.requires.line)) (omega arith)) c.requires.noted

pub returns-clause-turn : goal.returns-clause-turn
returns-clause-turn c = let turn = c.loop-entry.invariant.turn in record { stays = turn.stays; others = turn.others; counted = turn.counted }

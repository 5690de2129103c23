use Rattle.std.proofs.Common.{◌∙◌, ◌-◌, ap, sym, subst, zero-add}
use Rattle.cops_types.specs.Records.{ever}
use Rattle.cops_store.specs.Dues.{dues_in}
use Rattle.cops_store.specs.Lines.{chains_at}
use Rattle.cops_store.specs.Tables.{all_rows, IsShelf}
use Rattle.cops_store.proofs.Meaning.{flags, to_left, from_collected, count_is}
use Rattle.cops_store.proofs.Lists.{IsPermutation-same}
use Rattle.cops_store.proofs.Versions.{AreLeft-collected}
use Rattle.cops_store.proofs.Tables.{tops_of_all}
use Rattle.cops_store.proofs.Collections.{cleaned_by_all, all_stay, rows_cleaned, freed_is_ripe}
use Rattle.cops_store.proofs.DueSteps.{none_hit}
use Rattle.cops_store.proofs.DueLines.{due_turn_none}
use Rattle.cops_store.proofs.Founded.{shelf_cleaned}
use Rattle.cops_store.proofs.shelf.Shelf.collect.Goals as goal

pub returns-clause-shelf : goal.returns-clause-shelf
returns-clause-shelf c =
    subst (λ used. IsShelf (record { records = used.records - c.clean-freed.result.records; bytes = used.bytes - c.clean-freed.result.bytes }) (dues_in c.clean-freed.new.self.due.slots c.clean-freed.new.dues) (chains_at c.args.slot c.clean-freed.new.self.table)) (sym c.of-used.ensures.counts)
    (shelf_cleaned c.args.self.now.used c.clean-freed.result (dues_in c.args.tables.now.due.slots c.args.self.now.due) (dues_in c.clean-freed.new.self.due.slots c.clean-freed.new.dues) c.args.now c.args.trans_time (chains_at c.args.slot c.args.tables.now.table) (chains_at c.args.slot c.clean-freed.new.self.table) c.requires.shelf c.clean-freed.ensures.chains c.clean-freed.ensures.dues c.clean-freed.ensures.freed)

pub returns-clause-removed : goal.returns-clause-removed
returns-clause-removed c = λ tracked stands.
    freed_is_ripe c.args.now c.args.trans_time (all_rows (chains_at c.args.slot c.args.tables.now.table)) (all_rows (chains_at c.args.slot c.clean-freed.new.self.table)) (ever tracked) (flags tracked) c.clean-freed.result (to_left _ tracked stands)
    (ap all_rows (c.clean-freed.ensures.chains ∙ cleaned_by_all c.args.now c.args.trans_time (dues_in c.args.tables.now.due.slots c.args.self.now.due) (chains_at c.args.slot c.args.tables.now.table) c.requires.shelf.noted) ∙ rows_cleaned c.args.now c.args.trans_time (chains_at c.args.slot c.args.tables.now.table)) c.clean-freed.ensures.freed
    ∙ count_is c.args.trans_time c.args.now tracked

pub returns-clause-stands_for : goal.returns-clause-stands_for
returns-clause-stands_for c = λ tracked stands.
    from_collected _ c.args.trans_time c.args.now tracked (AreLeft-collected (all_rows (chains_at c.args.slot c.args.tables.now.table)) _ (ever tracked) (flags tracked) c.args.now c.args.trans_time (to_left _ tracked stands)
    (tops_of_all (chains_at c.args.slot c.args.tables.now.table) c.requires.shelf.table.chained) (IsPermutation-same _ _ (sym (ap all_rows (c.clean-freed.ensures.chains ∙ cleaned_by_all c.args.now c.args.trans_time (dues_in c.args.tables.now.due.slots c.args.self.now.due) (chains_at c.args.slot c.args.tables.now.table) c.requires.shelf.noted) ∙ rows_cleaned c.args.now c.args.trans_time (chains_at c.args.slot c.args.tables.now.table)))))

pub returns-then-not-is_ripe-clause-removed : goal.returns-then-not-is_ripe-clause-removed
returns-then-not-is_ripe-clause-removed c = λ tracked stands.
    let all = all_stay c.args.now c.args.trans_time (dues_in c.args.tables.now.due.slots c.args.self.now.due) (chains_at c.args.slot c.args.tables.now.table) c.requires.shelf.noted (none_hit c.args.now c.args.trans_time c.args.self.now.due.least (dues_in c.args.tables.now.due.slots c.args.self.now.due) (sym c.is_ripe.ensures ∙ c.if-not-is_ripe.true) c.requires.least) in
    freed_is_ripe c.args.now c.args.trans_time (all_rows (chains_at c.args.slot c.args.tables.now.table)) (all_rows (chains_at c.args.slot c.args.tables.now.table)) (ever tracked) (flags tracked) (record { records = 0; bytes = 0 }) (to_left _ tracked stands) (sym all) (zero-add _, zero-add _)
    ∙ count_is c.args.trans_time c.args.now tracked

pub returns-then-not-is_ripe-clause-stands_for : goal.returns-then-not-is_ripe-clause-stands_for
returns-then-not-is_ripe-clause-stands_for c = λ tracked stands.
    let all = all_stay c.args.now c.args.trans_time (dues_in c.args.tables.now.due.slots c.args.self.now.due) (chains_at c.args.slot c.args.tables.now.table) c.requires.shelf.noted (none_hit c.args.now c.args.trans_time c.args.self.now.due.least (dues_in c.args.tables.now.due.slots c.args.self.now.due) (sym c.is_ripe.ensures ∙ c.if-not-is_ripe.true) c.requires.least) in
    from_collected _ c.args.trans_time c.args.now tracked (AreLeft-collected (all_rows (chains_at c.args.slot c.args.tables.now.table)) (all_rows (chains_at c.args.slot c.args.tables.now.table)) (ever tracked) (flags tracked) c.args.now c.args.trans_time (to_left _ tracked stands)
    (tops_of_all (chains_at c.args.slot c.args.tables.now.table) c.requires.shelf.table.chained) (IsPermutation-same _ _ all))

pub returns-then-not-is_ripe-clause-turn : goal.returns-then-not-is_ripe-clause-turn
returns-then-not-is_ripe-clause-turn c = due_turn_none c.args.tables.now.due.slots c.args.slot c.args.self.now.due c.requires.line

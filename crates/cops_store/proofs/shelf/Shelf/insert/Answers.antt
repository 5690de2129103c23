use Rattle.std.proofs.Common.{◌∙◌, ◌+◌, ap, sym, refl, subst}
use Rattle.cops_types.specs.declared.records.Record.{Record}
use Rattle.cops_types.specs.Records.{ever}
use Rattle.cops_store.specs.Dues.{dues_in}
use Rattle.cops_store.specs.Lines.{chains_at}
use Rattle.cops_store.specs.Tables.{all_rows, with_key, with_record, IsShelf}
use Rattle.cops_store.proofs.Meaning.{flags, to_left, from_next}
use Rattle.cops_store.proofs.Versions.{AreLeft-next}
use Rattle.cops_store.proofs.Shelves.{next_rows, next_shelf, unique_with_key}
use Rattle.cops_store.proofs.shelf.Shelf.insert.Goals as goal

pub returns-clause-shelf : goal.returns-clause-shelf
returns-clause-shelf c =
    subst (λ m. IsShelf (record { records = c.args.self.now.used.records + 1; bytes = c.args.self.now.used.bytes + m }) (dues_in c.insert.new.due.slots c.insert.new.dues) (chains_at c.args.slot c.insert.new.self)) (sym c.size-size.ensures)
    (next_shelf c.args.self.now.used (dues_in c.reserve.new.self.slots c.args.self.now.due) (dues_in c.insert.new.due.slots c.insert.new.dues) c.key-key.result (record { entry = c.args.entry; at = c.args.now }) (chains_at c.args.slot c.args.tables.now.table) (with_key c.key-key.result (chains_at c.args.slot c.args.tables.now.table)) (chains_at c.args.slot c.insert.new.self)
    (subst (λ rows. IsShelf c.args.self.now.used (dues_in rows c.args.self.now.due) (chains_at c.args.slot c.args.tables.now.table)) (sym c.reserve.ensures.slots) c.requires.shelf) refl (unique_with_key c.key-key.result (chains_at c.args.slot c.args.tables.now.table) c.requires.shelf.table.unique) (sym c.key-key.ensures)
    (c.in_ok-insert.ensures.chains ∙ ap (λ (r : Record). with_record c.key-key.result r (with_key c.key-key.result (chains_at c.args.slot c.args.tables.now.table))) c.committed-kept.ensures) c.in_ok-insert.ensures.noted c.in_ok-insert.ensures.founded (all_rows (chains_at c.args.slot c.args.tables.now.table)) refl c.requires.new_version)

pub returns-clause-stands_for : goal.returns-clause-stands_for
returns-clause-stands_for c = λ tracked stands late.
    from_next _ tracked (record { entry = c.args.entry; at = c.args.now }) (AreLeft-next (all_rows (chains_at c.args.slot c.args.tables.now.table)) _ (ever tracked) (flags tracked) (record { entry = c.args.entry; at = c.args.now }) (to_left _ tracked stands) late
    (next_rows c.args.self.now.used (dues_in c.reserve.new.self.slots c.args.self.now.due) (dues_in c.insert.new.due.slots c.insert.new.dues) c.key-key.result (record { entry = c.args.entry; at = c.args.now }) (chains_at c.args.slot c.args.tables.now.table) (with_key c.key-key.result (chains_at c.args.slot c.args.tables.now.table)) (chains_at c.args.slot c.insert.new.self)
    (subst (λ rows. IsShelf c.args.self.now.used (dues_in rows c.args.self.now.due) (chains_at c.args.slot c.args.tables.now.table)) (sym c.reserve.ensures.slots) c.requires.shelf) refl (unique_with_key c.key-key.result (chains_at c.args.slot c.args.tables.now.table) c.requires.shelf.table.unique) (sym c.key-key.ensures)
    (c.in_ok-insert.ensures.chains ∙ ap (λ (r : Record). with_record c.key-key.result r (with_key c.key-key.result (chains_at c.args.slot c.args.tables.now.table))) c.committed-kept.ensures) c.in_ok-insert.ensures.noted c.in_ok-insert.ensures.founded (all_rows (chains_at c.args.slot c.args.tables.now.table)) refl c.requires.new_version))

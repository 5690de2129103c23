use Rattle.std.proofs.Common.{◌∙◌, ◌+◌, ap, length}
use Rattle.cops_types.specs.Records.{ever}
use Rattle.cops_store.specs.Contents.{refusal}
use Rattle.cops_store.proofs.Meaning.{flags, to_left, use_is}
use Rattle.cops_store.proofs.Shelves.{use_of-left}
use Rattle.cops_store.proofs.Stores.{used_here}
use Rattle.cops_store.proofs.store.Store.refused.Goals as goal

pub returns-clause-rows : goal.returns-clause-rows
returns-clause-rows c = c.refused.ensures ∙ ap (refusal c.args.quota.now (length c.args.key.now + length c.args.value.now)) (used_here c.self.inside.tables.due.room c.self.inside.tables.table c.self.inside.tables.due.slots c.self.inside.shelves.items c.self.invariant c.args.self.now c.self.view_is c.args.slot c.requires c.index-shelf.result.now c.index-shelf.ensures)

pub returns-clause-records : goal.returns-clause-records
returns-clause-records c = λ tracked stands.
    returns-clause-rows c
    ∙ ap (refusal c.args.quota.now (length c.args.key.now + length c.args.value.now)) (use_of-left _ (ever tracked) (flags tracked) (to_left _ tracked stands) ∙ use_is tracked)

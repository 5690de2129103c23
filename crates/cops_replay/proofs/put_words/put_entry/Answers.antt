use Rattle.cops_replay.proofs.Names.{sym}
use Rattle.cops_replay.proofs.Placing.{entry_placed}
use Rattle.cops_replay.proofs.put_words.put_entry.Goals as goal

pub returns-clause-text : goal.returns-clause-text
returns-clause-text c =
    rw (sym c.version.ensures, sym c.value.ensures, sym c.deps.ensures, sym c.near.ensures, sym c.prev.ensures)
    (entry_placed _ _ _ _ _ _ _ _ _ _ _ _ _ _ c.put_key-after_key.ensures.text c.put_byte-of_version.ensures.text c.put_version-after_version.ensures.text c.put_byte-of_value.ensures.text c.put_stored-after_lists.ensures.text c.put_byte-of_prev.ensures.text c.put_version.ensures.text)

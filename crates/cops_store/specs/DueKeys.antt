-- The key of a garbage-collection entry, in either form.
use Rattle.std.specs.Prelude.{ℕ, List}
use Rattle.cops_store.specs.declared.kept_due.DueKey.{DueKey}
use Rattle.cops_store.specs.declared.kept_due.DueKey.TheVariants.{Short, Long}

abbrev pub due_key : DueKey → List ℕ
due_key (Short key) = key
due_key (Long key) = key.value

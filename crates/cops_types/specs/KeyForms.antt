-- The keys that stored ones represent, in either form.
use Rattle.std.specs.Prelude.{ℕ, List}
use Rattle.cops_types.specs.declared.short_keys.KeyForm.{KeyForm}
use Rattle.cops_types.specs.declared.short_keys.KeyForm.TheVariants.{Short, Long}

abbrev pub formed_key : KeyForm → List ℕ
formed_key (Short key) = key
formed_key (Long key) = key.value

-- The key of a slot's next chain, in each of its forms.
use Rattle.std.specs.Prelude.{ℕ, List, Option, Some, None}
use Rattle.cops_store.specs.declared.links.LinkForm.{LinkForm}
use Rattle.cops_store.specs.declared.links.LinkForm.TheVariants.{End, Short, Long}

abbrev pub linked_key : LinkForm → Option (List ℕ)
linked_key End = None
linked_key (Short key) = Some key
linked_key (Long key) = Some key.value

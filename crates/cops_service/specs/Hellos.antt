-- The tenant that a client's first message names.
use Rattle.std.specs.Prelude.{ℕ, List, [], ◌∷◌, Option, Some, None}
use Rattle.cops_wire.specs.declared.messages.Message.{Message}
use Rattle.cops_wire.specs.declared.messages.Message.TheVariants.{Hello}

-- the token of a Hello that comes first
abbrev pub first_token : List Message → Option (List ℕ)
first_token (Hello token dc ∷ messages) = Some token
first_token messages = None

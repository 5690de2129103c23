-- The room of lists of work items.
use Rattle.std.specs.Prelude.{ℕ, ◌≡◌, ◌*◌, ◌-◌, ◌^◌, min}
use Rattle.std.specs.Vec.{vec_len}
use Rattle.cops_types.specs.declared.configs.Config.{Config}
use Rattle.cops_service.specs.declared.notes.Notes.{Notes}

-- this many for each of these slots at each node
abbrev pub for_each_place : Config → ℕ → ℕ → ℕ
for_each_place config slots each = min (slots * config.data_centres * config.shards * each) (2 ^ 64 - 1)

-- each place of these slots has two items, and each of its streams one
pub record AreNotesOf (config : Config) (slots : ℕ) (notes : Notes) : Type 0 where
  pub data_centres : notes.sizes.data_centres ≡ config.data_centres
  pub shards : notes.sizes.shards ≡ config.shards
  pub sent : vec_len notes.sent.are_listed ≡ for_each_place config slots config.data_centres
  pub grown : vec_len notes.grown.are_listed ≡ for_each_place config slots 2
  pub refused : vec_len notes.are_refused ≡ for_each_place config slots config.data_centres

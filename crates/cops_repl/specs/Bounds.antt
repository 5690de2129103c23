-- The number of node replies of a carrier.
use Rattle.std.specs.Prelude.{◌≡◌, ℕ, ◌+◌, ◌≤◌, List, [], ◌∷◌, length}
use Rattle.cops_types.specs.declared.pairs.Pair.{Pair}
use Rattle.cops_model.specs.declared.calls.NodeReply.{NodeReply}
use Rattle.cops_model.specs.declared.calls.NodeReply.TheVariants.{Pulled}
use Rattle.cops_model.specs.Log.{LogStep, replies_of}
use Rattle.cops_model.specs.declared.deliveries.Progress.TheVariants.{Working}
use Rattle.cops_model.specs.Carrier.{Stream, carrier_next, progress_of}

-- the near pairs of the pulled entry; none before the pull
abbrev pub near_in : List NodeReply → List Pair
near_in (Pulled entry ∷ replies) = entry.near
near_in replies = []

-- without an answer there was at most one node reply for each near pair, and one each for the pull, the commit and the acknowledgement
abbrev pub IsDeliveryBounded : ℕ → Stream → List LogStep → Type 0
IsDeliveryBounded shards stream log = progress_of (carrier_next shards stream log) ≡ Working → length (replies_of log) ≤ length (near_in (replies_of log)) + 3

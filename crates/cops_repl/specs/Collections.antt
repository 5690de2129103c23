-- Garbage collections on all nodes.
use Rattle.std.specs.Prelude.{◌≡◌, ℕ, ◌+◌, ◌^◌, ◌<◌, ◌≤◌, List, [], ◌∷◌, ◌++◌, map, length, sum, Some, Result, Ok, Err}
use Rattle.std.specs.List.{flat_map, range_with_len}
use Rattle.cops_types.specs.declared.faults.Fault.{Fault}
use Rattle.cops_types.specs.declared.faults.Fault.TheVariants.{Torn}
use Rattle.cops_types.specs.declared.request_errors.RequestError.{RequestError}
use Rattle.cops_types.specs.RequestErrors.{fault_told}
use Rattle.cops_model.specs.declared.calls.NodeCall.{NodeCall}
use Rattle.cops_model.specs.declared.calls.NodeCall.TheVariants.{Collect}
use Rattle.cops_model.specs.declared.calls.NodeId.{NodeId}
use Rattle.cops_model.specs.declared.calls.NodeReply.{NodeReply}
use Rattle.cops_model.specs.declared.calls.NodeReply.TheVariants.{Removed}
use Rattle.cops_model.specs.Log.{fault_in}

-- the nodes of a data centre, by shard
abbrev pub nodes_of_data_centre : ℕ → ℕ → List NodeId
nodes_of_data_centre shards dc = map (λ shard. record { dc = dc; shard = shard }) (range_with_len 0 shards)

-- all nodes, in number order
abbrev pub all_nodes : ℕ → ℕ → List NodeId
all_nodes data_centres shards = flat_map (nodes_of_data_centre shards) (range_with_len 0 data_centres)

-- a collection at each of the first nodes, in order, gave these replies and left the nodes so
abbrev pub Collected : {S : Type 0} → (S → NodeId → ℕ → ℕ → NodeCall → NodeReply → S → Type 0) → ℕ → ℕ → List NodeId → List NodeReply → S → S → Type 0
Collected answers slot moment ids [] old new = new ≡ old
Collected answers slot moment [] (reply ∷ replies) old new = ⊥
Collected {S = S} answers slot moment (id ∷ ids) (reply ∷ replies) old new =
    (between : S) × answers old id slot moment Collect reply between × Collected answers slot moment ids replies between new

-- with this sum, the reply ends the collection with a fault: it is no count, or the sum would exceed the largest number
abbrev pub StopsAt : ℕ → NodeReply → Fault → Type 0
StopsAt total (Removed count) fault = (2 ^ 64 ≤ total + count) × (fault ≡ Torn)
StopsAt total reply fault = fault_in Collect reply ≡ Some fault

-- added to a sum: what all of these nodes removed; or the fault of the last reply, if all before it are counts whose sum fits
abbrev pub IsTotal : ℕ → List NodeId → List NodeReply → Result ℕ Fault → Type 0
IsTotal start ids replies (Ok total) = (counts : List ℕ) × (length counts ≡ length ids) × (replies ≡ map Removed counts) × (total ≡ start + sum counts)
IsTotal start ids replies (Err fault) = (counts : List ℕ) × (last : NodeReply) × (replies ≡ map Removed counts ++ last ∷ []) × (start + sum counts < 2 ^ 64) × StopsAt (start + sum counts) last fault

-- the result for a sum; if a node ran out of memory, the fault that says so
abbrev pub told_total : Result ℕ RequestError → Result ℕ Fault
told_total (Ok total) = Ok total
told_total (Err error) = Err (fault_told error)

-- the nodes are collected in order, and this is the sum or the fault that ended it
abbrev pub CollectsAll : {S : Type 0} → (S → NodeId → ℕ → ℕ → NodeCall → NodeReply → S → Type 0) → ℕ → ℕ → ℕ → List NodeId → S → S → Result ℕ Fault → Type 0
CollectsAll answers slot moment start ids old new total =
    (replies : List NodeReply) × Collected answers slot moment ids replies old new × IsTotal start ids replies total

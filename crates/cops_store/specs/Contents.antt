-- A store as its callers see it: the rows of all slots.
use Rattle.std.specs.Prelude.{◌≡◌, ◌≢◌, ◌+◌, ◌-◌, ◌≤◌, ℕ, Bool, false, length, sum_by, List, [], ◌∷◌, nat_eq, nat_lt, Option, Some, None, if◌then◌else◌}
use Rattle.std.specs.List.{filter_map, AllByRecursion, Contains}
use Rattle.cops_types.specs.declared.faults.Fault.{Fault}
use Rattle.cops_types.specs.declared.faults.Fault.TheVariants.{VersionQuota, ByteQuota}
use Rattle.cops_types.specs.declared.quotas.Quota.{Quota}
use Rattle.cops_types.specs.declared.records.Dated.{Dated}
use Rattle.cops_types.specs.declared.records.EntryParts.{EntryParts as Entry}
use Rattle.cops_types.specs.Records.{Tracked, ever}
use Rattle.cops_types.specs.Search.{first_refusal}
use Rattle.cops_types.specs.Version.{Timestamp}
use Rattle.cops_store.specs.declared.usage.InUse.{InUse}

-- the number of slots, the stored records with their slots, and the slots and keys whose `insert` allocates nothing
pub record Contents : Type 0 where
  pub tenants : ℕ
  pub rows : List (ℕ × Dated)
  pub ready : List (ℕ × List ℕ)

-- the items of one slot
abbrev pub of_slot : {A : Type 0} → ℕ → List (ℕ × A) → List A
of_slot slot all = filter_map (λ x. if nat_eq x.0 slot then Some x.1 else None) all

-- the rows of one slot
abbrev pub rows_in : ℕ → List (ℕ × Dated) → List Dated
rows_in slot rows = of_slot slot rows

abbrev pub rows_of : ℕ → Contents → List Dated
rows_of slot store = rows_in slot store.rows

-- the keys of one slot whose `insert` allocates nothing
abbrev pub ready_of : ℕ → Contents → List (List ℕ)
ready_of slot store = of_slot slot store.ready

-- an `insert` of the slot and key allocates nothing
abbrev pub HasRoom : ℕ → List ℕ → Contents → Type 0
HasRoom slot key store = Contains store.ready (slot, key)

-- the bytes of an entry's key and value
abbrev pub size_of : Entry → ℕ
size_of e = length e.key + length e.value

-- the number of rows, and their bytes
abbrev pub use_of : List Dated → InUse
use_of rows = record { records = length rows; bytes = sum_by (λ k. size_of k.record_of.entry) rows }

-- no row has that key and version
abbrev pub LacksVersion : List ℕ → Timestamp → List Dated → Type 0
LacksVersion key version rows = AllByRecursion (λ k. k.record_of.entry.key ≡ key → k.record_of.entry.version ≢ version) rows

-- no record was committed after the timestamp
abbrev pub NoneLater : ℕ → List Tracked → Type 0
NoneLater now tracked = AllByRecursion (λ r. r.at ≤ now) (ever tracked)

-- the reason to refuse one more record of this size if so much is in use
abbrev pub refusal : Quota → ℕ → InUse → Option Fault
refusal quota size used = first_refusal (
    (nat_lt quota.versions (used.records + 1), VersionQuota)
    ∷ (nat_lt quota.bytes (used.bytes + size), ByteQuota)
    ∷ [])

-- a record that is stale from then on may be removed: it has been stale for longer than trans_time
abbrev pub is_ripe : ℕ → ℕ → Option ℕ → Bool
is_ripe now trans_time None = false
is_ripe now trans_time (Some moment) = nat_lt trans_time (now - moment)

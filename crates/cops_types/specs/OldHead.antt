-- The head of an audit file of layout 1: at most 16 shards, and clocks of 56 bits. Otherwise it is a head of today.
use Rattle.std.specs.Prelude.{ℕ, Bool, true, ◌+◌, ◌-◌, ◌^◌, nat_le, if◌then◌else◌, List, [], ◌∷◌, Option, Some, None}
use Rattle.std.specs.List.{list_all}
use Rattle.std.specs.Option.{option_map, option_and_then}
use Rattle.std.specs.Str.{bytes_eq}
use Rattle.cops_types.specs.declared.configs.Config.{Config}
use Rattle.cops_types.specs.declared.configs.Tenant.{Tenant}
use Rattle.cops_types.specs.Head.{Front, AtStart, Within, Begun, HeadReading, Whole, BadAt, head_with}
use Rattle.cops_types.specs.HeadLines.{begin_line, cluster_in, tenant_in_to}

abbrev pub last_old_clock : ℕ
last_old_clock = 2 ^ 56 - 1

abbrev pub most_old_shards : ℕ
most_old_shards = 16

abbrev pub with_few_shards : Config → Option Config
with_few_shards config = if nat_le config.shards most_old_shards then Some config else None

abbrev pub old_cluster_in : List ℕ → Option Config
old_cluster_in line = option_and_then with_few_shards (cluster_in line)

abbrev pub old_tenant_in : List ℕ → Option Tenant
old_tenant_in line = tenant_in_to last_old_clock line

abbrev pub old_next_within : Config → List ℕ → Option Front
old_next_within config line =
    if bytes_eq line begin_line
    then Some (Begun config)
    else option_and_then (head_with config) (old_tenant_in line)

-- how far the head has come with one more line, if the line may follow here
abbrev pub old_front_after : Front → List ℕ → Option Front
old_front_after AtStart line = option_map Within (old_cluster_in line)
old_front_after (Within config) line = old_next_within config line
old_front_after (Begun config) line = None

abbrev pub old_front_with : Option Front → List ℕ → Option Front
old_front_with front line = option_and_then (λ front. old_front_after front line) front

-- the lines from this number on
abbrev pub old_reading_from : List (List ℕ) → ℕ → Front → HeadReading
old_reading_from lines number (Begun config) = Whole config lines
old_reading_from [] number AtStart = BadAt number
old_reading_from [] number (Within config) = BadAt number
old_reading_from (line ∷ lines) number AtStart = elim (old_front_after AtStart line) [ None ↦ BadAt number | Some next ↦ old_reading_from lines (number + 1) next ]
old_reading_from (line ∷ lines) number (Within config) = elim (old_front_after (Within config) line) [ None ↦ BadAt number | Some next ↦ old_reading_from lines (number + 1) next ]

-- a whole head of layout 1 and the lines after it, or the number of the first bad line
abbrev pub old_head_of : List (List ℕ) → HeadReading
old_head_of lines = old_reading_from lines 1 AtStart

-- the first clock of each tenant so far is at most this number
abbrev pub has_clocks_to : ℕ → Option Front → Bool
has_clocks_to last None = true
has_clocks_to last (Some AtStart) = true
has_clocks_to last (Some (Within config)) = list_all (λ (tenant : Tenant). nat_le tenant.first_clock last) config.tenants
has_clocks_to last (Some (Begun config)) = list_all (λ (tenant : Tenant). nat_le tenant.first_clock last) config.tenants

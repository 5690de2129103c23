-- The form of the pairs in a list, whose keys and versions have their types.
use Rattle.std.specs.Prelude.{Bool, ◌&&◌, nat_le, nat_lt, List}
use Rattle.std.specs.List.{list_all}
use Rattle.std.specs.Ordering.{on}
use Rattle.cops_types.specs.declared.pairs.Pair.{Pair}
use Rattle.cops_types.specs.Key.{is_key, key_cmp}
use Rattle.cops_types.specs.Layout.{NODES}
use Rattle.cops_types.specs.Pairs.{pair_cmp}
use Rattle.cops_types.specs.Search.{is_rising}
use Rattle.cops_types.specs.Version.{Timestamp, last_clock}

-- a clock and a node that a version may have
abbrev pub is_version : Timestamp → Bool
is_version version = nat_le version.clock last_clock && nat_lt version.node NODES

-- a key at a version
abbrev pub is_pair : Pair → Bool
is_pair pair = is_key pair.key && is_version pair.version

-- each key once, in order
abbrev pub are_deps : List Pair → Bool
are_deps pairs = list_all is_pair pairs && is_rising (on (λ p. p.key) key_cmp) pairs

-- each pair once, in order
abbrev pub are_near : List Pair → Bool
are_near pairs = list_all is_pair pairs && is_rising pair_cmp pairs

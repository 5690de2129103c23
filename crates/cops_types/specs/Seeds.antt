-- The state from which each hash of a table starts.
use Rattle.std.specs.Prelude.{ℕ, List, ◌++◌}
use Rattle.std.specs.List.{fold}
use Rattle.std.specs.Hash as fed
use Rattle.std.specs.Hash.DefaultHasher as sip
use Rattle.std.specs.declared.hash.DefaultHasher.{DefaultHasher}

-- SipHash after reading two numbers
abbrev pub start_of : ℕ → ℕ → DefaultHasher
start_of one other = fold sip.write sip.initial (fed.u64 one ++ fed.u64 other)

-- the hash of these tokens after a first number
abbrev pub digest : ℕ → List (List ℕ) → ℕ
digest first tokens = sip.finish (fold sip.write sip.initial (fed.u64 first ++ tokens))

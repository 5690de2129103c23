-- What a contract sees of a `Source`.
use Rattle.std.specs.Prelude.{ℕ}
use Rattle.cops_types.specs.declared.sources.Source.{Source}

-- the reader whose failures it counts
abbrev pub source_reader : {R : Type 0} → Source R → R
source_reader source = source.reader

-- `source.failures()`
abbrev pub source_failures : {R : Type 0} → Source R → ℕ
source_failures source = source.failures

-- `source.reads()`
abbrev pub source_reads : {R : Type 0} → Source R → ℕ
source_reads source = source.reads

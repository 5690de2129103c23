-- What a contract sees of a `Sink`.
use Rattle.std.specs.Prelude.{◌≡◌, ℕ, List, ◌++◌, Option}
use Rattle.std.specs.Io.KnownBytes.{Appends}
use Rattle.cops_types.specs.declared.sinks.Sink.{Sink}

-- the writer whose failures it counts
abbrev pub sink_writer : {W : Type 0} → Sink W → W
sink_writer sink = sink.writer

-- `sink.failures()`
abbrev pub sink_failures : {W : Type 0} → Sink W → ℕ
sink_failures sink = sink.failures

-- known bytes grew by a prefix of these; the rest of these is still to come
pub record AppendsAllBut (old new : Option (List ℕ)) (bytes rest : List ℕ) : Type 0 where
  pub written : List ℕ
  pub whole : bytes ≡ written ++ rest
  pub appended : Appends old new written

-- known bytes grew by a prefix of these
abbrev pub AppendsFront : Option (List ℕ) → Option (List ℕ) → List ℕ → Type 0
AppendsFront old new bytes = (rest : List ℕ) × AppendsAllBut old new bytes rest

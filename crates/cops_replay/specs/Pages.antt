-- Text buffered for a writer.
use Rattle.std.specs.Prelude.{◌≡◌, ℕ, ⊤, List, ◌++◌, Option, Result, Ok, Err}
use Rattle.cops_types.specs.declared.faults.Fault.TheVariants.{WriteFault}
use Rattle.cops_types.specs.declared.request_errors.RequestError.{RequestError}
use Rattle.cops_types.specs.declared.request_errors.RequestError.TheVariants.{OutOfMemory, Refused}
use Rattle.cops_types.specs.Counts.{HasRisen}
use Rattle.cops_types.specs.Sink.{AppendsAllBut, AppendsFront}

-- the buffered text, the bytes that the writer has, and the number of its failures
pub record Page : Type 0 where
  pub waiting : List ℕ
  pub contents : Option (List ℕ)
  pub failures : ℕ

abbrev pub page : List ℕ → Option (List ℕ) → ℕ → Page
page waiting contents failures = record { waiting = waiting; contents = contents; failures = failures }

-- memory ran out, or the writer failed
abbrev pub FailsBy : RequestError → ℕ → ℕ → Type 0
FailsBy OutOfMemory old new = ⊤
FailsBy (Refused fault) old new = (fault ≡ WriteFault) × HasRisen old new

-- the text follows the buffered text, a prefix of which is written; or the call ended early, and a prefix of all is written
abbrev pub PutsText : {T : Type 0} → List ℕ → Page → Result T RequestError → Page → Type 0
PutsText text old (Ok done) new = AppendsAllBut old.contents new.contents (old.waiting ++ text) new.waiting × (new.failures ≡ old.failures)
PutsText text old (Err error) new = AppendsFront old.contents new.contents (old.waiting ++ text) × FailsBy error old.failures new.failures

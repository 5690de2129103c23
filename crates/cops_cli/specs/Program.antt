-- The program, by the words of its command line.
use Rattle.std.specs.Prelude.{◌≡◌, ◌⊎◌, ℕ, List, Result, IfErr, IsErrAnd, IsSomeAnd, codes, slice_get}
use Rattle.cops_cli.specs.CommandLine.{ArePlain}
use Rattle.cops_cli.specs.Commands.{EndsTask, RefusesTask, Streams}
use Rattle.cops_cli.specs.Faults.{IsOfWords}
use Rattle.cops_cli.specs.Statuses.{status_of}
use Rattle.cops_cli.specs.declared.faults.CliFault.{CliFault}

-- the words have an outcome, of which the exit status tells
pub record EndsProgram (words : List (List ℕ)) (old new : Streams) (status : ℕ) : Type 0 where
  pub outcome : Result Unit CliFault
  -- either the words are refused, and nothing is read or written; or this is an end of the command that they ask for
  pub ends : IsErrAnd outcome (RefusesTask words old new) ⊎ EndsTask words old new outcome
  pub plain : ArePlain words → IfErr outcome (λ ended. IsOfWords ended → ⊥)
  pub status_is : status ≡ status_of outcome

-- behind the program's name the words, which have these texts, ask for a service
abbrev pub AsksForService : {W : Type 0} → (W → List ℕ) → List W → Type 0
AsksForService text words = IsSomeAnd (slice_get words 1) (λ word. text word ≡ codes "serve")

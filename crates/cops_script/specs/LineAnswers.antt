-- A machine's answers to the lines of a text.
use Rattle.std.specs.Prelude.{◌≡◌, ℕ, List, ◌++◌, ⊤}
use Rattle.cops_script.specs.declared.line_runs.machine.Stop.{Stop}
use Rattle.cops_script.specs.declared.line_runs.machine.Stop.TheVariants.{Refused, OutOfMemory}

-- if the machine refused, this was the refusal
abbrev pub IfRefused : {F : Type 0} → Stop F → (F → Type 0) → Type 0
IfRefused (Refused refusal) P = P refusal
IfRefused OutOfMemory P = ⊤

-- some permitted answer, after which the state is new, was appended to the output
pub record Answers {M : Type 0} (may_answer : List ℕ → M → Type 0) (new : M) (old_output new_output : List ℕ) : Type 0 where
  pub text : List ℕ
  pub answered : may_answer text new
  pub appended : new_output ≡ old_output ++ text

-- The answers of a context that changes in place.
use Rattle.std.proofs.Common.{◌≡◌, ℕ, Bool, true, false, refl, sym, ◌∙◌, ap}
use Rattle.std.specs.Prelude.{Some, Result, Ok, Err, not}
use Rattle.cops_types.specs.declared.faults.Fault.TheVariants.{DependenciesFull}
use Rattle.cops_types.specs.declared.request_errors.RequestError.{RequestError}
use Rattle.cops_types.specs.declared.request_errors.RequestError.TheVariants.{OutOfMemory, Refused}
use Rattle.cops_types.specs.Refusal.{refused_if}
use Rattle.cops_types.specs.RequestErrors.{told_refusal}
use Rattle.cops_context.specs.Lists.{AnswersWithin, Lists}
use Rattle.cops_handles.specs.Rows.{AreIssued, Rows, row_at, replaced}
use Rattle.cops_session.proofs.ContextRows.{replaced-same}

-- a put past the limit gets that answer, whatever memory there is
pub full_is_told : {A : Type 0} (told : Result A RequestError) (can : Bool) → AnswersWithin can told → (can ≡ false → told ≡ Err (Refused DependenciesFull)) → refused_if (not can) DependenciesFull ≡ told_refusal told
full_is_told told false is full = sym (ap told_refusal (full refl))
full_is_told (Ok answer) true is full = refl
full_is_told (Err (Refused fault)) true is full = cc
full_is_told (Err OutOfMemory) true is full = refl

-- the contexts are the same if the one is
pub same_contexts : (number : ℕ) (before after : Lists) (contexts : Rows Lists) → AreIssued contexts.rows contexts.next → row_at number contexts.rows ≡ Some before → after ≡ before →
    record contexts { rows = replaced number after contexts.rows } ≡ contexts
same_contexts number before after contexts issued is same =
    let rows = ap (λ lists. replaced number lists contexts.rows) same ∙ replaced-same number contexts.next before contexts.rows issued is in
    λ i. record { rows = rows i; next = contexts.next; limit = contexts.limit }

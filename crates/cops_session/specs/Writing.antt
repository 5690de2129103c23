-- The one step of a put.
use Rattle.std.specs.Prelude.{ℕ, List, Result, Ok, Err}
use Rattle.std.specs.declared.alloc.AllocError.{AllocError}
use Rattle.cops_types.specs.declared.faults.Fault.TheVariants.{OutOfMemory, Torn}
use Rattle.cops_types.specs.declared.request_errors.RequestError.{RequestError}
use Rattle.cops_types.specs.RequestErrors.{fault_told}
use Rattle.cops_types.specs.declared.versions.Version.{Version}
use Rattle.cops_model.specs.declared.calls.NodeReply.{NodeReply}
use Rattle.cops_model.specs.declared.calls.NodeReply.TheVariants.{Stored as StoredAt, Refused as RefusedAt}
use Rattle.cops_model.specs.declared.requests.Answer.{Answer}
use Rattle.cops_model.specs.declared.requests.Answer.TheVariants.{Stored, Refused}

-- the answer to a request; if memory ran out, the answer that says so
abbrev pub told_answer : Result Answer AllocError → Answer
told_answer (Ok answer) = answer
told_answer (Err error) = Refused OutOfMemory

-- the same for a put of the key
abbrev pub told_put : List ℕ → Result Version RequestError → Answer
told_put key (Ok version) = Stored (record { key = key; version = version })
told_put key (Err error) = Refused (fault_told error)

-- the answer to a put of the key after this reply
abbrev pub answer_to_put : List ℕ → NodeReply → Answer
answer_to_put key (StoredAt version) = Stored (record { key = key; version = version })
answer_to_put key (RefusedAt fault) = Refused fault
answer_to_put key reply = Refused Torn

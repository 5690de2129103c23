-- The result of a request, which fails with a fault or because memory ran out.
use Rattle.std.specs.Prelude.{◌≡◌, Option, Some, None, Result, Ok, Err}
use Rattle.cops_types.specs.declared.faults.Fault.{Fault}
use Rattle.cops_types.specs.declared.faults.Fault.TheVariants.{OutOfMemory as Lack}
use Rattle.cops_types.specs.declared.request_errors.RequestError.{RequestError}
use Rattle.cops_types.specs.declared.request_errors.RequestError.TheVariants.{OutOfMemory, Refused}

-- what holds of the fault, if the request was refused
abbrev pub IfRefusal : {A : Type 0} → Result A RequestError → (Fault → Type 0) → Type 0
IfRefusal (Ok answer) P = Unit {0}
IfRefusal (Err (Refused fault)) P = P fault
IfRefusal (Err OutOfMemory) P = Unit {0}

-- what holds if the request was refused
abbrev pub OnRefusal : {A : Type 0} → Result A RequestError → Type 0 → Type 0
OnRefusal (Ok answer) P = Unit {0}
OnRefusal (Err (Refused fault)) P = P
OnRefusal (Err OutOfMemory) P = Unit {0}

-- what holds if memory ran out
abbrev pub OnOutOfMemory : {A : Type 0} → Result A RequestError → Type 0 → Type 0
OnOutOfMemory (Ok answer) P = Unit {0}
OnOutOfMemory (Err (Refused fault)) P = Unit {0}
OnOutOfMemory (Err OutOfMemory) P = P

-- the fault of a refusal; out of memory is none
abbrev pub refusal_in : RequestError → Option Fault
refusal_in (Refused fault) = Some fault
refusal_in OutOfMemory = None

-- the fault that says the error
abbrev pub fault_told : RequestError → Fault
fault_told (Refused fault) = fault
fault_told OutOfMemory = Lack

-- the fault with which the request was refused, if it was
abbrev pub told_refusal : {A : Type 0} → Result A RequestError → Option Fault
told_refusal (Ok answer) = None
told_refusal (Err error) = refusal_in error

-- the request is refused with this fault exactly if there is one, unless memory runs out
abbrev pub AnswersUnless : {A : Type 0} → Option Fault → Result A RequestError → Type 0
AnswersUnless refusal (Ok answer) = refusal ≡ None
AnswersUnless refusal (Err (Refused fault)) = refusal ≡ Some fault
AnswersUnless refusal (Err OutOfMemory) = Unit {0}

-- The logs of a request, and how many node replies they have.
use Rattle.std.specs.Prelude.{◌≡◌, ◌+◌, ◌*◌, ◌≤◌, List, [], ◌∷◌, ◌++◌, length, None}
use Rattle.cops_types.specs.TenantConfig.{TenantConfig}
use Rattle.cops_model.specs.Log.{LogStep, replies_of}
use Rattle.cops_node.specs.Taken.{IsTaken}
use Rattle.cops_model.specs.Request.{Action, Write, Fetch, Request, next, answer}

-- each later step is what the request did next, whatever the nodes replied
abbrev pub IsLogAfter : TenantConfig → Request → List LogStep → List LogStep → Type 0
IsLogAfter config request log [] = Unit {0}
IsLogAfter config request log (step ∷ later) = IsTaken (next config request log step.moment) step.outcome × IsLogAfter config request (log ++ step ∷ []) later

abbrev pub IsLogOf : TenantConfig → Request → List LogStep → Type 0
IsLogOf config request log = IsLogAfter config request [] log

-- without an answer a put has had no node reply, and a transaction at most two for each key in each attempt
abbrev pub HasFewReplies : TenantConfig → List LogStep → Action → Type 0
HasFewReplies config log (Write key value) = replies_of log ≡ []
HasFewReplies config log (Fetch keys) = length (replies_of log) ≤ (config.restarts + 1) * (2 * length keys)

abbrev pub IsBounded : TenantConfig → Request → List LogStep → Type 0
IsBounded config request log = IsLogOf config request log → answer config request log ≡ None → HasFewReplies config log request.action

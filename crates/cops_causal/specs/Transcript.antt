-- The operations that a tenant reads off its acts and replies, each with what it asked for.
use Rattle.std.specs.Prelude.{ℕ, List, [], ◌∷◌, map, Option, Some, None, if◌then◌else◌}
use Rattle.std.specs.List.{cons_option}
use Rattle.std.specs.Option.{option_map, option_and_then}
use Rattle.cops_types.specs.Key.{key_eq}
use Rattle.cops_model.specs.declared.acts.Act.{Act}
use Rattle.cops_model.specs.declared.acts.Act.TheVariants.{Put, Get}
use Rattle.cops_model.specs.declared.replies.Reply.{Reply}
use Rattle.cops_model.specs.declared.replies.Reply.TheVariants.{Started}
use Rattle.cops_model.specs.Causal.{Effect, Operation, Traced, effect_of, stepped_actor, traced}
use Rattle.cops_model.specs.Request.{Action, Write, Fetch}

-- a put or get that started: its context, and what it asks for
pub record Begun : Type 0 where
  pub context : ℕ
  pub asked : Action

-- the last put or get of each session that started
abbrev pub Requests : Type 0
Requests = List ℕ → Option Begun

abbrev pub with_request : List ℕ → ℕ → Action → Requests → Requests
with_request session number asked requests name = if key_eq name session then Some (record { context = number; asked = asked }) else requests name

abbrev pub requests_after : Act → Reply → Requests → Requests
requests_after (Put session number key value) Started requests = with_request session number (Write key value) requests
requests_after (Get session number keys) Started requests = with_request session number (Fetch keys) requests
requests_after act reply requests = requests

-- an operation that ended, and what it was asked for
pub record Ended : Type 0 where
  pub operation : Operation
  pub asked : Action

abbrev pub ended_with : List ℕ → Effect → Begun → Ended
ended_with session effect begun = record { operation = record { session = session; context = begun.context; effect = effect }; asked = begun.asked }

-- an operation ends at the step whose reply reports the stored pair or the reads
abbrev pub ended_told : Requests → Act → Reply → Option Ended
ended_told requests act reply =
    option_and_then (λ effect. option_and_then (λ session. option_map (ended_with session effect) (requests session)) (stepped_actor act)) (effect_of reply)

abbrev pub transcript_from : List Act → List Reply → Requests → List Ended
transcript_from [] told requests = []
transcript_from (act ∷ acts) [] requests = []
transcript_from (act ∷ acts) (reply ∷ told) requests = cons_option (ended_told requests act reply) (transcript_from acts told (requests_after act reply requests))

-- the operations in the order of their ends
abbrev pub transcript : List Act → List Reply → List Ended
transcript acts told = transcript_from acts told (λ name. None)

abbrev pub operations_in : List Ended → List Operation
operations_in es = map (λ e. e.operation) es

-- each with its past
abbrev pub history_in : List Ended → List Traced
history_in es = traced (operations_in es)

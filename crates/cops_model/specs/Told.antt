-- The operations that a tenant reads off its acts and the replies to them.
use Rattle.std.specs.Prelude.{ℕ, List, [], ◌∷◌, Option, Some, None, if◌then◌else◌}
use Rattle.std.specs.List.{cons_option}
use Rattle.std.specs.Option.{option_map, option_and_then}
use Rattle.cops_types.specs.Key.{key_eq}
use Rattle.cops_model.specs.declared.acts.Act.{Act}
use Rattle.cops_model.specs.declared.acts.Act.TheVariants.{Put, Get}
use Rattle.cops_model.specs.declared.replies.Reply.{Reply}
use Rattle.cops_model.specs.declared.replies.Reply.TheVariants.{Started}
use Rattle.cops_model.specs.Causal.{Operation, Traced, effect_of, stepped_actor, traced}

-- the context that the last put or get of each session names
abbrev pub Contexts : Type 0
Contexts = List ℕ → Option ℕ

-- a put or a get sets the session's context, if the reply is that it started
abbrev pub contexts_after : Act → Reply → Contexts → Contexts
contexts_after (Put session number key value) Started contexts = λ name. if key_eq name session then Some number else contexts name
contexts_after (Get session number keys) Started contexts = λ name. if key_eq name session then Some number else contexts name
contexts_after act reply contexts = contexts

-- an operation ends at the step whose reply reports the stored pair or the reads
abbrev pub operation_told : Contexts → Act → Reply → Option Operation
operation_told contexts act reply =
    option_and_then (λ effect. option_and_then (λ session. option_map (λ number. record { session = session; context = number; effect = effect }) (contexts session))
    (stepped_actor act)) (effect_of reply)

-- the operations in the order of their ends
abbrev pub operations_told_from : List Act → List Reply → Contexts → List Operation
operations_told_from [] told contexts = []
operations_told_from (act ∷ acts) [] contexts = []
operations_told_from (act ∷ acts) (reply ∷ told) contexts =
    cons_option (operation_told contexts act reply) (operations_told_from acts told (contexts_after act reply contexts))

abbrev pub operations_told : List Act → List Reply → List Operation
operations_told acts told = operations_told_from acts told (λ name. None)

-- each with its past
abbrev pub history_told : List Act → List Reply → List Traced
history_told acts told = traced (operations_told acts told)

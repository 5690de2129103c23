-- The dependencies of an operation, computed from the operations themselves and not from stored lists.
use Rattle.std.specs.Prelude.{ℕ, Bool, true, ◌==◌, ◌&&◌, ◌||◌, List, [], ◌∷◌, ◌++◌, is_some, Option, Some, None, if◌then◌else◌}
use Rattle.std.specs.List.{list_any, list_all, flat_map}
use Rattle.cops_types.specs.declared.contexts.ReadParts.{ReadParts as Read}
use Rattle.cops_types.specs.declared.pairs.Pair.{Pair}
use Rattle.cops_types.specs.Key.{key_eq}
use Rattle.cops_types.specs.Pairs.{holds, greatest_per_key}
use Rattle.cops_types.specs.Version.{version_le}
use Rattle.cops_model.specs.declared.acts.Act.{Act}
use Rattle.cops_model.specs.declared.acts.Act.TheVariants.{Step, Done}
use Rattle.cops_model.specs.declared.replies.Reply.{Reply}
use Rattle.cops_model.specs.declared.replies.Reply.TheVariants.{Stored, Values}

-- an operation that succeeded: its session and context, and the pair that it put or the reads that it returned
pub data Effect : Type 0 where
  Wrote : Pair → Effect
  Returned : List Read → Effect

pub record Operation : Type 0 where
  pub session : List ℕ
  pub context : ℕ
  pub effect : Effect

-- ---- the operation that a reply ends

abbrev pub effect_of : Reply → Option Effect
effect_of (Stored pair) = Some (Wrote pair)
effect_of (Values reads) = Some (Returned reads)
effect_of reply = None

-- the actor that an act steps
abbrev pub stepped_actor : Act → Option (List ℕ)
stepped_actor (Step name moment) = Some name
stepped_actor (Done name moment) = Some name
stepped_actor act = None

-- ---- what precedes an operation

-- the pair that an operation put
abbrev pub put_by : Effect → List Pair
put_by (Wrote pair) = pair ∷ []
put_by (Returned reads) = []

-- the pairs that an operation returned: those of the reads that found a value
abbrev pub returned_by : Effect → List Pair
returned_by (Wrote pair) = []
returned_by (Returned reads) = flat_map (λ read. if is_some read.value then record { key = read.key; version = read.version } ∷ [] else []) reads

-- an earlier operation leads to a later one: they are of one context, or the later one returned what the earlier one put
abbrev pub leads_to : Operation → Operation → Bool
leads_to earlier later =
    key_eq earlier.session later.session && earlier.context == later.context
    || list_any (holds (returned_by later.effect)) (put_by earlier.effect)

-- an operation, with the pairs put by all operations that precede it
pub record Traced : Type 0 where
  pub operation : Operation
  pub past : List Pair

-- `past`: what the operations that lead to this one put, and the pasts of those
abbrev pub past_after : List Traced → Operation → List Pair
past_after earlier operation = flat_map (λ t. if leads_to t.operation operation then put_by t.operation.effect ++ t.past else []) earlier

-- the operations in order, each with its past
abbrev pub traced_from : List Traced → List Operation → List Traced
traced_from earlier [] = earlier
traced_from earlier (o ∷ later) = traced_from (earlier ++ record { operation = o; past = past_after earlier o } ∷ []) later

abbrev pub traced : List Operation → List Traced
traced ops = traced_from [] ops

-- the past of the put of this pair; empty if no operation put it
abbrev pub past_of_put : List Traced → Pair → List Pair
past_of_put ts pair = flat_map (λ t. if holds (put_by t.operation.effect) pair then t.past else []) ts

-- ---- consequences for stored records and for answers

-- `deps_of`: for each key in the past of the put, its greatest version there
abbrev pub deps_of : List Traced → Pair → List Pair
deps_of ts pair = greatest_per_key (past_of_put ts pair)

-- the past has no greater version of the key than the one read
abbrev pub is_not_older : List Pair → Read → Bool
is_not_older past read = list_all (λ p. if key_eq p.key read.key then version_le p.version read.version else true) past

-- a causally consistent answer: no value is older than the transaction's past allows
abbrev pub answers_consistently : Traced → Effect → Bool
answers_consistently t (Wrote pair) = true
answers_consistently t (Returned reads) = list_all (is_not_older t.past) reads

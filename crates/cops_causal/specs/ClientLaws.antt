-- The causal laws as a client can check them: of the operations in its transcript, and of nothing else.
use Rattle.std.specs.Prelude.{◌≡◌, ℕ, ◌<◌, ◌==◌, ◌&&◌, List, [], ◌∷◌, ◌++◌, map, slice_get, IsTrue, Bool, Option, Some, None, if◌then◌else◌}
use Rattle.std.specs.List.{AllByRecursion, cons_option, flat_map, list_all}
use Rattle.cops_types.specs.declared.contexts.ReadParts.{ReadParts as Read}
use Rattle.cops_types.specs.declared.pairs.Pair.{Pair}
use Rattle.cops_types.specs.Context.{Observation, Put, near_of, observations_of}
use Rattle.cops_types.specs.Key.{key_eq}
use Rattle.cops_types.specs.Pairs.{greatest_per_key}
use Rattle.cops_types.specs.Version.{no_version, version_lt}
use Rattle.cops_model.specs.declared.acts.Act.{Act}
use Rattle.cops_model.specs.declared.acts.Act.TheVariants.{Show}
use Rattle.cops_model.specs.declared.replies.Reply.{Reply}
use Rattle.cops_model.specs.declared.replies.Reply.TheVariants.{Lists}
use Rattle.cops_model.specs.Causal.{Effect, Operation, Traced, Wrote, Returned, deps_of, past_after, put_by}
use Rattle.cops_model.specs.Laws.{AreConsistent}
use Rattle.cops_model.specs.Precedence.{AreLeastPasts, PutsAt}
use Rattle.cops_model.specs.Request.{Action, Write, Fetch}
use Rattle.cops_causal.specs.Transcript.{Ended, Requests, ended_told, history_in, operations_in, requests_after}

-- a put has the key that was asked for, and a get the keys, in order
abbrev pub AnswersTo : Action → Effect → Type 0
AnswersTo (Write key value) (Wrote pair) = pair.key ≡ key
AnswersTo (Fetch keys) (Returned reads) = map (λ r. r.key) reads ≡ keys
AnswersTo asked effect = ⊥

abbrev pub AllAnswer : List Ended → Type 0
AllAnswer es = AllByRecursion (λ e. AnswersTo e.asked e.operation.effect) es

-- ---- values

abbrev pub reads_in : Effect → List Read
reads_in (Wrote pair) = []
reads_in (Returned reads) = reads

abbrev pub pair_of_read : Read → Pair
pair_of_read read = record { key = read.key; version = read.version }

-- an earlier put has this key, version and value, and exactly these dependencies
pub record IsOfPut (es : List Ended) (place : ℕ) (read : Read) (value : List ℕ) : Type 0 where
  pub before : ℕ
  pub earlier : before < place
  pub put : Ended
  pub stands : slice_get es before ≡ Some put
  pub wrote : put.operation.effect ≡ Wrote (pair_of_read read)
  pub asked : put.asked ≡ Write read.key value
  pub deps : read.deps ≡ deps_of (history_in es) (pair_of_read read)

-- a value is of such a put; an absent key has version 0.0 and no dependencies
abbrev pub IsTrueRead : List Ended → ℕ → Read → Option (List ℕ) → Type 0
IsTrueRead es place read (Some value) = IsOfPut es place read value
IsTrueRead es place read None = (read.version ≡ no_version) × (read.deps ≡ [])

-- so is each value that a get returned
abbrev pub AreOfPuts : List Ended → Type 0
AreOfPuts es = (place : ℕ) (e : Ended) → slice_get es place ≡ Some e → AllByRecursion (λ read. IsTrueRead es place read read.value) (reads_in e.operation.effect)

-- ---- versions

-- no two puts have one version
abbrev pub HaveDistinctVersions : List Operation → Type 0
HaveDistinctVersions ops = (one other : ℕ) (p q : Pair) → PutsAt ops one p → PutsAt ops other q → p.version ≡ q.version → one ≡ other

-- the put is above its whole past
abbrev pub is_above_past : Traced → Bool
is_above_past t = list_all (λ p. list_all (λ q. version_lt q.version p.version) t.past) (put_by t.operation.effect)

abbrev pub AreAbovePasts : List Traced → Type 0
AreAbovePasts history = IsTrue (list_all is_above_past history)

-- ---- lists that were shown

abbrev pub observed_by : Effect → List Observation
observed_by (Wrote pair) = Put pair ∷ []
observed_by (Returned reads) = observations_of reads

-- the operation ended in this context
abbrev pub is_in_context : List ℕ → ℕ → Operation → Bool
is_in_context session number o = key_eq o.session session && o.context == number

-- what a context has seen
abbrev pub seen_in_context : List Traced → List ℕ → ℕ → List Observation
seen_in_context history session number = flat_map (λ t. if is_in_context session number t.operation then observed_by t.operation.effect else []) history

-- the past of what comes next in a context
abbrev pub past_in_context : List Traced → List ℕ → ℕ → List Pair
past_in_context history session number = past_after history (record { session = session; context = number; effect = Returned [] })

-- a context shows the greatest version of each key of its past, and the near pairs of what it has seen
abbrev pub ShowsContext : List Traced → Act → Reply → Type 0
ShowsContext history (Show session number) (Lists deps near) =
    (deps ≡ greatest_per_key (past_in_context history session number)) × (near ≡ near_of (seen_in_context history session number))
ShowsContext history act reply = Unit {0}

-- so does each reply, after the operations before it
abbrev pub AreShown : List Ended → Requests → List Act → List Reply → Type 0
AreShown es requests [] told = Unit {0}
AreShown es requests (act ∷ acts) [] = Unit {0}
AreShown es requests (act ∷ acts) (reply ∷ told) =
    ShowsContext (history_in es) act reply × AreShown (es ++ cons_option (ended_told requests act reply) []) (requests_after act reply requests) acts told

-- so it is of a whole transcript
abbrev pub ShowsTrueLists : List Act → List Reply → Type 0
ShowsTrueLists acts told = AreShown [] (λ name. None) acts told

-- ---- all laws

pub record KeepsClientLaws (es : List Ended) : Type 0 where
  pub answers : AllAnswer es
  pub of_puts : AreOfPuts es
  pub distinct : HaveDistinctVersions (operations_in es)
  pub above : AreAbovePasts (history_in es)
  -- of no key that a transaction returned is there a newer version in the past of what it returned
  pub consistent : AreConsistent (history_in es)
  -- pasts follow from the least relation closed under the rules of `Precedes`
  pub least_pasts : AreLeastPasts (operations_in es)

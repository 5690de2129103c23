-- What nodes found is within the limits of a head; what was read is as its types allow.
use Rattle.std.specs.Prelude.{◌≡◌, ◌⊎◌, ℕ, ◌≤◌, true, List, [], length, None}
use Rattle.std.specs.List.{AllByRecursion}
use Rattle.std.specs.Option.{option_map_or}
use Rattle.cops_types.specs.declared.contexts.ReadParts.{ReadParts as Read}
use Rattle.cops_types.specs.Pairs.{IsDeps}
use Rattle.cops_model.specs.declared.requests.Answer.{Answer}
use Rattle.cops_model.specs.declared.requests.Answer.TheVariants as answer
use Rattle.cops_model.specs.declared.calls.NodeReply.{NodeReply}
use Rattle.cops_model.specs.declared.calls.NodeReply.TheVariants.{Found}
use Rattle.cops_model.specs.Log.{LogStep, Late, Outcome, Replied}
use Rattle.cops_wire.specs.Requests.{is_one_frame}

abbrev pub IsShort : List ℕ → Type 0
IsShort key = length key ≤ 64

-- the value isn't too long, there are few dependencies, and their keys aren't too long
abbrev pub IsFoundLimited : NodeReply → Type 0
IsFoundLimited (Found f) = (length f.value ≤ 4096) × (length f.deps ≤ 1024) × AllByRecursion (λ pair. IsShort pair.key) f.deps
IsFoundLimited reply = Unit {0}

abbrev pub IsOutcomeOf : (NodeReply → Type 0) → Outcome → Type 0
IsOutcomeOf Are Late = Unit {0}
IsOutcomeOf Are (Replied reply) = Are reply

-- each reply in the log of a request is so
abbrev pub AreLogged : (NodeReply → Type 0) → List LogStep → Type 0
AreLogged Are log = AllByRecursion (λ (s : LogStep). IsOutcomeOf Are s.outcome) log

-- ---- what was read

-- as `Key`, `Value` and `Deps` are: no key and no value is too long, and each key is there once among the dependencies; an absent key has none
pub record IsTyped (read : Read) : Type 0 where
  pub short_key : IsShort read.key
  pub short_value : option_map_or length read.value 0 ≤ 4096
  pub once : IsDeps read.deps
  pub short_keys : AllByRecursion (λ pair. IsShort pair.key) read.deps
  pub none : read.value ≡ None → read.deps ≡ []

-- a frame holds the answer, or its reads are as their types allow
abbrev pub IsHeldOrTyped : Answer → Type 0
IsHeldOrTyped (answer.Values reads) = (is_one_frame reads ≡ true) ⊎ AllByRecursion IsTyped reads
IsHeldOrTyped others = Unit {0}

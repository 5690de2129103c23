-- The effect of the lines of a head.
use Rattle.std.specs.Prelude.{◌≡◌, ℕ, List, [], Some, None}
use Rattle.cops_types.specs.declared.configs.Config.{Config}
use Rattle.cops_types.specs.Counts.{counted}
use Rattle.cops_types.specs.Head.{Front, AtStart, Within, Begun}
use Rattle.cops_types.specs.HeadReader.{front_with}
use Rattle.cops_script.specs.declared.scripts.BadConfig.{BadConfig}
use Rattle.cops_script.specs.declared.scripts.HeadSoFar.{HeadSoFar}
use Rattle.cops_script.specs.declared.scripts.Script.{Script}
use Rattle.cops_script.specs.declared.scripts.Script.TheVariants.{Head, Running}

-- the head has come this far, with this many lines
abbrev pub IsHeadAt : {W : Type 0} → Front → ℕ → Script W → Type 0
IsHeadAt front count (Head head) = (head.reader ≡ Some front) × (head.lines ≡ count)
IsHeadAt front count (Running world) = ⊥

-- with this line the head goes on, or a world of its configuration starts
abbrev pub GoesOn : {W : Type 0} → (Config → W → Type 0) → ℕ → Front → Script W → Type 0
GoesOn Starts count AtStart new = ⊥
GoesOn Starts count (Within config) new = IsHeadAt (Within config) (counted count) new
GoesOn {W = W} Starts count (Begun config) new = (world : W) × Starts config world × (new ≡ Running world)

-- the line may follow in the head, and its answer is empty
abbrev pub HeadAnswers : {W : Type 0} → (Config → W → Type 0) → HeadSoFar → List ℕ → List ℕ → Script W → Type 0
HeadAnswers Starts head line text new = (next : Front) × (front_with head.reader line ≡ Some next) × (text ≡ []) × GoesOn Starts head.lines next new

-- the line may not follow in the head
abbrev pub HeadRefuses : HeadSoFar → List ℕ → BadConfig → Type 0
HeadRefuses head line bad = (front_with head.reader line ≡ None) × (bad.line ≡ counted head.lines)

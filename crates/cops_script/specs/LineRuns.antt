-- Runs of a machine over the bytes read, and the bytes written.
use Rattle.std.specs.Prelude.{◌≡◌, ◌≢◌, ℕ, ◌+◌, ◌≤◌, length, List, [], ◌∷◌, ◌++◌, ◌⊎◌, Option, ⊤}
use Rattle.std.specs.Io.KnownBytes.{Appends, Consumes, IsAtEnd}
use Rattle.cops_types.specs.Sink.{AppendsFront}
use Rattle.cops_types.specs.Lines.{cut_lines, IsUnbroken}
use Rattle.cops_script.specs.LineRules.{LineRules, Run}
use Rattle.cops_script.specs.declared.line_runs.fault.RunFault.{RunFault}
use Rattle.cops_script.specs.declared.line_runs.fault.RunFault.TheVariants.{Refused, OutOfMemory, ReadFault, WriteFault}

-- whatever follows, the lines of old are these, and then those of new
abbrev pub SplitsOff : ℕ → List ℕ → List (List ℕ) → List ℕ → Type 0
SplitsOff limit old lines new = (later : List ℕ) → cut_lines limit (old ++ later) ≡ lines ++ cut_lines limit (new ++ later)

-- whatever follows, the first lines of the bytes are these
abbrev pub HasFirst : ℕ → List ℕ → List (List ℕ) → Type 0
HasFirst limit bytes lines = (later : List ℕ) → (others : List (List ℕ)) × (cut_lines limit (bytes ++ later) ≡ lines ++ others)

-- the state of a run: the machine, the buffered text, and the bytes that the writer has
pub record Stage (M : Type 0) : Type 0 where
  pub machine : M
  pub waiting : List ℕ
  pub contents : Option (List ℕ)

abbrev pub stage : {M : Type 0} → M → List ℕ → Option (List ℕ) → Stage M
stage machine waiting contents = record { machine = machine; waiting = waiting; contents = contents }

-- between the two stages the lines were answered, and a prefix of the text to write was written
pub record Advances {M F : Type 0} (rules : LineRules M F) (old : Stage M) (lines : List (List ℕ)) (new : Stage M) : Type 0 where
  pub text : List ℕ
  pub written : List ℕ
  pub run : Run rules old.machine lines text new.machine
  pub whole : old.waiting ++ text ≡ written ++ new.waiting
  pub appended : Appends old.contents new.contents written

-- if the machine refused, this was the refusal
abbrev pub IfRunRefused : {F : Type 0} → RunFault F → (F → Type 0) → Type 0
IfRunRefused (Refused refusal) P = P refusal
IfRunRefused OutOfMemory P = ⊤
IfRunRefused ReadFault P = ⊤
IfRunRefused WriteFault P = ⊤

-- the begun part of a line that is not over, as far as a machine sees it
pub record IsLineFront (limit : ℕ) (bytes : List ℕ) : Type 0 where
  pub unbroken : IsUnbroken bytes
  pub short : length bytes ≤ limit + 1

-- some of the lines of old were answered, and new is the rest
pub record Answered {M F : Type 0} (rules : LineRules M F) (limit : ℕ) (old_bytes : List ℕ) (old : Stage M) (new_bytes : List ℕ) (new : Stage M) : Type 0 where
  pub lines : List (List ℕ)
  pub split : SplitsOff limit old_bytes lines new_bytes
  pub advanced : Advances rules old lines new

-- if the writer failed, there was something to write
abbrev pub IfWriteFault : {F : Type 0} → RunFault F → Type 0 → Type 0
IfWriteFault WriteFault P = P
IfWriteFault (Refused refusal) P = ⊤
IfWriteFault OutOfMemory P = ⊤
IfWriteFault ReadFault P = ⊤

-- the first lines of the bytes were answered; a refusal was of the next line
pub record Stops {M F : Type 0} (rules : LineRules M F) (limit : ℕ) (bytes : List ℕ) (old : Stage M) (contents : Option (List ℕ)) (fault : RunFault F) : Type 0 where
  pub lines : List (List ℕ)
  pub machine : M
  pub waiting : List ℕ
  pub advanced : Advances rules old lines (record { machine = machine; waiting = waiting; contents = contents })
  pub first : HasFirst limit bytes lines
  pub refused : IfRunRefused fault (λ refusal. (line : List ℕ) × HasFirst limit bytes (lines ++ line ∷ []) × rules.refuses machine line refusal)
  pub to_write : IfWriteFault fault (old.waiting ++ advanced.text ≢ [])

-- all was read, each line was answered and then the end of the input, and all answers were written
pub record AnswersAll {M F : Type 0} (rules : LineRules M F) (limit : ℕ) (old_remaining new_remaining : Option (List ℕ)) (old new : M) (old_contents new_contents : Option (List ℕ)) : Type 0 where
  pub input : List ℕ
  pub read : Consumes old_remaining new_remaining input
  pub at_end : IsAtEnd new_remaining
  pub text : List ℕ
  pub machine : M
  pub run : Run rules old (cut_lines limit input) text machine
  pub last : List ℕ
  pub ended : rules.ends machine last new
  pub written : Appends old_contents new_contents (text ++ last)

-- the first lines of what was read are these, whatever follows it, or because nothing follows
abbrev pub StartsWithLines : ℕ → List ℕ → Option (List ℕ) → List (List ℕ) → Type 0
StartsWithLines limit input remaining lines = HasFirst limit input lines
    ⊎ (IsAtEnd remaining × (others : List (List ℕ)) × (cut_lines limit input ≡ lines ++ others))

-- all that was read was answered, and nothing follows
abbrev pub IsWhole : ℕ → List ℕ → Option (List ℕ) → List (List ℕ) → Type 0
IsWhole limit input remaining lines = IsAtEnd remaining × (cut_lines limit input ≡ lines)

-- Some first lines of what was read were answered, perhaps all and then the end of the input, and a prefix of the answers was written. A refusal
-- was of the next line, or of the end of the input
pub record StopsEarly {M F : Type 0} (rules : LineRules M F) (limit : ℕ) (old_remaining new_remaining : Option (List ℕ)) (old : M) (old_contents new_contents : Option (List ℕ)) (fault : RunFault F) : Type 0 where
  pub input : List ℕ
  pub read : Consumes old_remaining new_remaining input
  pub lines : List (List ℕ)
  pub first : StartsWithLines limit input new_remaining lines
  pub text : List ℕ
  pub machine : M
  pub run : Run rules old lines text machine
  pub last : List ℕ
  pub ended : (last ≡ []) ⊎ (IsWhole limit input new_remaining lines × (new : M) × rules.ends machine last new)
  pub written : AppendsFront old_contents new_contents (text ++ last)
  pub refused : IfRunRefused fault (λ refusal. (last ≡ []) × (
      ((line : List ℕ) × StartsWithLines limit input new_remaining (lines ++ line ∷ []) × rules.refuses machine line refusal)
      ⊎ (IsWhole limit input new_remaining lines × rules.refuses_end machine refusal)))
  pub to_write : IfWriteFault fault (text ++ last ≢ [])

-- the line without a newline, if there is one
abbrev pub last_line : List ℕ → List (List ℕ)
last_line [] = []
last_line (byte ∷ bytes) = (byte ∷ bytes) ∷ []

-- that line was answered and then the end of the input, and all answers were written
pub record Finishes {M F : Type 0} (rules : LineRules M F) (front : List ℕ) (old : Stage M) (new : M) (contents : Option (List ℕ)) : Type 0 where
  pub text : List ℕ
  pub machine : M
  pub run : Run rules old.machine (last_line front) text machine
  pub last : List ℕ
  pub ended : rules.ends machine last new
  pub written : Appends old.contents contents (old.waiting ++ (text ++ last))

-- some of that was done, and a prefix of the answers was written
pub record StopsAtEnd {M F : Type 0} (rules : LineRules M F) (front : List ℕ) (old : Stage M) (contents : Option (List ℕ)) (fault : RunFault F) : Type 0 where
  pub lines : List (List ℕ)
  pub others : List (List ℕ)
  pub split : last_line front ≡ lines ++ others
  pub text : List ℕ
  pub machine : M
  pub run : Run rules old.machine lines text machine
  pub last : List ℕ
  pub ended : (last ≡ []) ⊎ ((others ≡ []) × (new : M) × rules.ends machine last new)
  pub written : AppendsFront old.contents contents (old.waiting ++ (text ++ last))
  pub refused : IfRunRefused fault (λ refusal. (last ≡ []) × (
      ((line : List ℕ) × (others ≡ line ∷ []) × rules.refuses machine line refusal)
      ⊎ ((others ≡ []) × rules.refuses_end machine refusal)))
  pub to_write : IfWriteFault fault (old.waiting ++ (text ++ last) ≢ [])

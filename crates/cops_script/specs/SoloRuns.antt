-- The output of a script run for the tenants of one name alone, if the bytes of its reader are known.
use Rattle.std.specs.Prelude.{◌≡◌, ℕ, List, ◌++◌, ◌⊎◌, length, Option, IsTrue}
use Rattle.std.specs.Io.KnownBytes.{Appends, Keeps}
use Rattle.cops_types.specs.declared.configs.Config.{Config}
use Rattle.cops_types.specs.Head.{Whole, BadAt, head_of}
use Rattle.cops_types.specs.Lines.{lines_of}
use Rattle.cops_types.specs.Sink.{AppendsFront}
use Rattle.cops_script.specs.declared.solo_machine.SoloRefusal.{SoloRefusal}
use Rattle.cops_script.specs.declared.solo_machine.SoloRefusal.TheVariants.{BadConfig, UnknownTenant}
use Rattle.cops_script.specs.Answers.{Answer}
use Rattle.cops_script.specs.Script.{NoTenant, answers_to, own_lines, solo_out, text_for, was_open}
use Rattle.cops_script.specs.ScriptRuns.{AreAnswered, AreSpared, config_told, lives_told, text_in}

-- The bytes are a script in which a tenant of this name is open at some time. Each line of the host and of the name is answered, and of the
-- answers those to tenants of the name are written; its lives are the tenants of the theorem. If none of these is out of memory, they are those
-- of the definition.
pub record WritesSolo (name bytes : List ℕ) (old_contents new_contents : Option (List ℕ)) : Type 0 where
  pub config : Config
  pub lines : List (List ℕ)
  pub head : head_of (lines_of bytes) ≡ Whole config lines
  pub there : IsTrue (was_open config name lines)
  pub told : List Answer
  pub each : length told ≡ length (own_lines name lines)
  pub answered : AreAnswered (config_told config (own_lines name lines) told) (lives_told config (own_lines name lines) told) told
  pub right : AreSpared told → told ≡ answers_to config (own_lines name lines)
  pub written : Appends old_contents new_contents (text_for (config_told config (own_lines name lines) told).tenants name told)

-- The bytes are a script, its first lines are answered in this way, and a prefix of the answers is written. If none of these is out of memory, it
-- is a prefix of the definition's.
pub record WritesSomeSolo (name bytes : List ℕ) (old_contents new_contents : Option (List ℕ)) : Type 0 where
  pub config : Config
  pub lines : List (List ℕ)
  pub others : List (List ℕ)
  pub head : head_of (lines_of bytes) ≡ Whole config (lines ++ others)
  pub told : List Answer
  pub each : length told ≡ length (own_lines name lines)
  pub answered : AreAnswered (config_told config (own_lines name lines) told) (lives_told config (own_lines name lines) told) told
  pub right : AreSpared told → AppendsFront old_contents new_contents (text_in (solo_out name bytes))
  pub written : AppendsFront old_contents new_contents (text_for (config_told config (own_lines name lines) told).tenants name told)

-- nothing is written, or a prefix of the answers
abbrev pub WritesSoloFront : List ℕ → List ℕ → Option (List ℕ) → Option (List ℕ) → Type 0
WritesSoloFront name bytes old_contents new_contents = Keeps old_contents new_contents ⊎ WritesSomeSolo name bytes old_contents new_contents

-- the first bad line of the head is this one; or the head is complete and no tenant of the name is ever open
abbrev pub IsRefusedFor : List ℕ → List ℕ → SoloRefusal → Type 0
IsRefusedFor name bytes (BadConfig bad) = head_of (lines_of bytes) ≡ BadAt bad.line
IsRefusedFor name bytes UnknownTenant = solo_out name bytes ≡ NoTenant

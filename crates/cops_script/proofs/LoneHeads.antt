-- What is read of a head alone.
use Rattle.std.proofs.Common.{◌≡◌, ℕ, List, inl, inr, refl, sym, subst}
use Rattle.std.specs.Prelude.{IsTrue, Option, IfSome}
use Rattle.cops_types.specs.declared.configs.Config.{Config}
use Rattle.cops_types.specs.Head.{AtStart, BadAt, head_of}
use Rattle.cops_types.specs.Head as head
use Rattle.cops_types.specs.Lines.{lines_of, longest_line}
use Rattle.cops_script.specs.GoodHeads.{is_good}
use Rattle.cops_script.specs.HeadRules.{IsHeadAt}
use Rattle.cops_script.specs.LineRuns.{AnswersAll, StopsEarly}
use Rattle.cops_script.specs.LoneHead.{lone_rules}
use Rattle.cops_script.specs.ScriptRules.{end_refuses, line_refuses, script_rules}
use Rattle.cops_script.specs.declared.head_machine.ScriptMachine.{ScriptMachine}
use Rattle.cops_script.specs.declared.heads.HeadAlone.{HeadAlone}
use Rattle.cops_script.specs.declared.heads.HeadEnd.{HeadEnd}
use Rattle.cops_script.specs.declared.heads.HeadEnd.TheVariants.{Whole, Bad}
use Rattle.cops_script.specs.declared.line_runs.fault.RunFault.{RunFault}
use Rattle.cops_script.specs.declared.line_runs.fault.RunFault.TheVariants as fault
use Rattle.cops_script.specs.declared.scripts.Script.{Script}
use Rattle.cops_script.specs.declared.scripts.Script.TheVariants.{Head, Running}
use Rattle.cops_script.proofs.BodyRuns.{RefusedBy, BadHead, NotBegun, AtLine, AtEnd, all_answered, never_written as never_written_in, refused}

-- what an end of the reading says of the bytes
abbrev SaysOf : List ℕ → HeadEnd → Type 0
SaysOf bytes (Whole config) = (lines : List (List ℕ)) × (head_of (lines_of bytes) ≡ head.Whole config lines)
SaysOf bytes (Bad bad) = head_of (lines_of bytes) ≡ BadAt bad.line

says : (body : HeadAlone) (bytes : List ℕ) (end : HeadEnd) → RefusedBy lone_rules body bytes end → SaysOf bytes end
says body bytes end (BadHead bad is head) = subst (SaysOf bytes) (sym is) head
says body bytes end (NotBegun config lines head refused) = subst (SaysOf bytes) (sym refused.0) (lines, head)
says body bytes end (AtLine state line refused) = absurd refused
says body bytes end (AtEnd text state behind refused) = absurd refused

module _ (old_contents new_contents old_remaining new_remaining : Option (List ℕ)) (begins : ScriptMachine HeadAlone (Unit {0})) (begun : IsHeadAt AtStart 0 begins.script) where
  abbrev StopsAt : RunFault HeadEnd → Type 0
  StopsAt why = StopsEarly (script_rules lone_rules) longest_line old_remaining new_remaining begins old_contents new_contents why

  -- what the reading stopped at
  pub stopped_at : (why : RunFault HeadEnd) (end : HeadEnd) → why ≡ fault.Refused end → StopsAt why → IfSome old_remaining (λ bytes. SaysOf bytes end)
  stopped_at why end is p =
      refused lone_rules begins.body old_contents new_contents old_remaining new_remaining begins refl begun SaysOf (says begins.body) old_remaining (fault.Refused end) (subst StopsAt is p)

  -- a configuration that it gives is within the limits
  good_line : (script : Script (Unit {0})) (line : List ℕ) (config : Config) → line_refuses lone_rules begins.body script line (Whole config) → IsTrue (is_good config)
  good_line (Head so_far) line config (inl (bad, refused, is)) = cc
  good_line (Head so_far) line config (inr (other, ends, (is, good))) = subst (λ k. IsTrue (is_good k)) (let same : other ≡ config = cc in same) good
  good_line (Running state) line config refused = absurd refused

  good_end : (script : Script (Unit {0})) (config : Config) → end_refuses lone_rules begins.body script (Whole config) → IsTrue (is_good config)
  good_end (Head so_far) config (bad, number, is) = cc
  good_end (Running state) config refused = absurd refused

  pub good_head : (why : RunFault HeadEnd) (config : Config) → why ≡ fault.Refused (Whole config) → StopsAt why → IsTrue (is_good config)
  good_head why config is p = by (subst StopsAt is p)
    where
      by : StopsAt (fault.Refused (Whole config)) → IsTrue (is_good config)
      by q = elim q.refused.1 [ inl (line, first, refused) ↦ good_line q.machine.script line config refused | inr (whole, refused) ↦ good_end q.machine.script config refused ]

  -- it doesn't come to the end of its input, and writes nothing
  pub never_ended : (new : ScriptMachine HeadAlone (Unit {0})) → AnswersAll (script_rules lone_rules) longest_line old_remaining new_remaining begins new old_contents new_contents → ⊥
  never_ended new p = (all_answered lone_rules begins.body old_contents new_contents old_remaining new_remaining begins refl begun new p).behind.starts

  pub never_written : (why : RunFault HeadEnd) → why ≡ fault.WriteFault → StopsAt why → ⊥
  never_written why is p = never_written_in lone_rules begins.body old_contents new_contents old_remaining new_remaining begins refl begun (λ body old text new h. h) (λ body old line text new h. h) why is p

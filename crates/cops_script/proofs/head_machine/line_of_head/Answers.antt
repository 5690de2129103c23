use Rattle.std.proofs.Common.{◌≡◌, ℕ, List, [], Some, refl, sym, subst}
use Rattle.cops_types.specs.declared.configs.Config.{Config}
use Rattle.cops_types.specs.Head.{Within, Begun}
use Rattle.cops_types.specs.HeadReader.{front_with}
use Rattle.cops_script.specs.BodyRules.{BodyRules}
use Rattle.cops_script.specs.GoodHeads.{HeadContinues}
use Rattle.cops_script.specs.ScriptRules.{line_answers}
use Rattle.cops_script.specs.declared.scripts.HeadSoFar.{HeadSoFar}
use Rattle.cops_script.specs.declared.scripts.Script.{Script}
use Rattle.cops_script.specs.declared.scripts.Script.TheVariants.{Head, Running}
use Rattle.cops_script.proofs.head_machine.line_of_head.Goals as goal

module _ {B R F : Type 0} (rules : BodyRules B R F) (body : B) (script : Script R) (head : HeadSoFar) (at : script ≡ Head head) (line : List ℕ) where
  goes_on : (new : HeadSoFar) → HeadContinues head.reader head.lines line new.reader new.lines → line_answers rules body script line [] (Head new)
  goes_on new more = subst (λ (s : Script R). line_answers rules body s line [] (Head new)) (sym at) (Within more.config, more.found, refl, (more.kept, more.counts))

  begins : (config : Config) (state : R) → front_with head.reader line ≡ Some (Begun config) → rules.starts body config state → line_answers rules body script line [] (Running state)
  begins config state follows starts = subst (λ (s : Script R). line_answers rules body s line [] (Running state)) (sym at) (Begun config, follows, refl, (state, starts, refl))

pub returns-in_default-2-clause-ok : goal.returns-in_default-2-clause-ok
returns-in_default-2-clause-ok g c = goes_on g.B.Body.rules c.args.body.now c.args.script.now c.in-Head.head c.in-Head.is c.args.line.now c.read_line.new.head (rw c.in_default-2.is at c.in_ok-state.ensures.more)

pub returns-clause-ok : goal.returns-clause-ok
returns-clause-ok g c =
    let begun = (rw c.in-Some.is at c.in_ok-state.ensures.begun) in
    begins g.B.Body.rules c.args.body.now c.args.script.now c.in-Head.head c.in-Head.is c.args.line.now begun.0 c.in-Some.state begun.1 begun.2

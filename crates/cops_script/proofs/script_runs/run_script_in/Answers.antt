use Rattle.std.proofs.lemmas.Result.{MatchResult-weaker, on_ok_weaker}
use Rattle.cops_script.proofs.ScriptLemmas.{all_written, bad_head, front_written, unwritten}
use Rattle.cops_script.proofs.script_runs.run_script_in.Goals as goal

pub returns-clause-ok : goal.returns-clause-ok
returns-clause-ok g c = on_ok_weaker c.run_lines-result.result (all_written g.W.Tenancy.setup g.W.Tenancy.StandsFor _ _ _ _ c.new_script-machine.ensures.head _ _) c.run_lines-result.ensures.ok

pub returns-clause-err : goal.returns-clause-err
returns-clause-err g c =
    MatchResult-weaker c.run_lines-result.result c.run_lines-result.ensures.err (λ x h. tt) (λ fault. front_written g.W.Tenancy.setup g.W.Tenancy.StandsFor _ _ _ _ c.new_script-machine.ensures.head _ fault)

pub returns-clause-bad_head : goal.returns-clause-bad_head
returns-clause-bad_head g c =
    MatchResult-weaker c.run_lines-result.result c.run_lines-result.ensures.err (λ x h. tt) (λ fault. bad_head g.W.Tenancy.setup g.W.Tenancy.StandsFor _ _ _ _ c.new_script-machine.ensures.head _ fault)

pub returns-clause-unwritten : goal.returns-clause-unwritten
returns-clause-unwritten g c =
    MatchResult-weaker c.run_lines-result.result c.run_lines-result.ensures.err (λ x h. tt) (λ fault. unwritten g.W.Tenancy.setup g.W.Tenancy.StandsFor _ _ _ _ c.new_script-machine.ensures.head _ fault)

use Rattle.std.proofs.Common.{ap, ◌∙◌}
use Rattle.cops_script.specs.declared.solo_machine.LinesOf.{LinesOf}
use Rattle.std.proofs.lemmas.Result.{MatchResult-weaker, on_ok_weaker}
use Rattle.cops_types.specs.Sink.{sink_writer}
use Rattle.cops_types.specs.Source.{source_reader}
use Rattle.cops_script.proofs.SoloLemmas.{all_written, front_written, nothing_done, refused_for, unwritten_alone}
use Rattle.cops_script.proofs.solo_runs.solo_script_in.Goals as goal

pub returns-in_err-name-clause-err : goal.returns-in_err-name-clause-err
returns-in_err-name-clause-err g c = nothing_done c.from_residual.result c.args.tenant.now (g.R.Read.remaining (source_reader c.args.source.now)) (g.O.Write.contents (sink_writer c.args.sink.now))

pub returns-clause-ok : goal.returns-clause-ok
returns-clause-ok g c =
    on_ok_weaker c.run_lines.result (all_written g.W.Tenancy.setup g.W.Tenancy.StandsFor c.args.tenant.now _ _ _ c.new_script-solo.result (ap (λ (b : LinesOf). b.name) c.new_script-solo.ensures.body ∙ c.in_ok-name.ensures) c.new_script-solo.ensures.head _ _) c.run_lines.ensures.ok

pub returns-clause-err : goal.returns-clause-err
returns-clause-err g c =
    MatchResult-weaker c.run_lines.result c.run_lines.ensures.err (λ x h. tt) (λ fault. front_written g.W.Tenancy.setup g.W.Tenancy.StandsFor c.args.tenant.now _ _ _ c.new_script-solo.result (ap (λ (b : LinesOf). b.name) c.new_script-solo.ensures.body ∙ c.in_ok-name.ensures) c.new_script-solo.ensures.head _ fault)

pub returns-clause-refused : goal.returns-clause-refused
returns-clause-refused g c =
    MatchResult-weaker c.run_lines.result c.run_lines.ensures.err (λ x h. tt) (λ fault. refused_for g.W.Tenancy.setup g.W.Tenancy.StandsFor c.args.tenant.now _ _ _ c.new_script-solo.result (ap (λ (b : LinesOf). b.name) c.new_script-solo.ensures.body ∙ c.in_ok-name.ensures) c.new_script-solo.ensures.head _ fault)

pub returns-clause-unwritten : goal.returns-clause-unwritten
returns-clause-unwritten g c =
    MatchResult-weaker c.run_lines.result c.run_lines.ensures.err (λ x h. tt) (λ fault. unwritten_alone g.W.Tenancy.setup g.W.Tenancy.StandsFor c.args.tenant.now _ _ _ c.new_script-solo.result (ap (λ (b : LinesOf). b.name) c.new_script-solo.ensures.body ∙ c.in_ok-name.ensures) c.new_script-solo.ensures.head _ fault)

use Rattle.cops_replay.proofs.Names.{ap, ◌∙◌, MatchResult-weaker, on_ok_weaker, sink_writer, source_reader, ReplaysOf}
use Rattle.cops_replay.proofs.AuditRunLemmas.{on_err_any}
use Rattle.cops_replay.proofs.ReplayRunLemmas.{all_replayed, front_replayed, nothing_replayed, refused_for, unwritten}
use Rattle.cops_replay.proofs.replay_runs.replay_text.Goals as goal

pub returns-in_err-name-clause-err : goal.returns-in_err-name-clause-err
returns-in_err-name-clause-err g c =
    on_err_any _ c.from_residual.result (nothing_replayed c.args.tenant.now (g.R.Read.remaining (source_reader c.args.source.now)) (g.O.Write.contents (sink_writer c.args.sink.now)))

pub returns-clause-ok : goal.returns-clause-ok
returns-clause-ok g c =
    on_ok_weaker c.run_lines.result (all_replayed c.args.tenant.now _ _ _ c.new_audit-replay.result (ap (λ (b : ReplaysOf). b.name) c.new_audit-replay.ensures.body ∙ c.in_ok-name.ensures) c.new_audit-replay.ensures.head _ _) c.run_lines.ensures.ok

pub returns-clause-err : goal.returns-clause-err
returns-clause-err g c =
    MatchResult-weaker c.run_lines.result c.run_lines.ensures.err (λ x h. tt) (λ fault. front_replayed c.args.tenant.now _ _ _ c.new_audit-replay.result (ap (λ (b : ReplaysOf). b.name) c.new_audit-replay.ensures.body ∙ c.in_ok-name.ensures) c.new_audit-replay.ensures.head _ fault)

pub returns-clause-refused : goal.returns-clause-refused
returns-clause-refused g c =
    MatchResult-weaker c.run_lines.result c.run_lines.ensures.err (λ x h. tt) (λ fault. refused_for c.args.tenant.now _ _ _ c.new_audit-replay.result (ap (λ (b : ReplaysOf). b.name) c.new_audit-replay.ensures.body ∙ c.in_ok-name.ensures) c.new_audit-replay.ensures.head _ fault)

pub returns-clause-unwritten : goal.returns-clause-unwritten
returns-clause-unwritten g c =
    MatchResult-weaker c.run_lines.result c.run_lines.ensures.err (λ x h. tt) (λ fault. unwritten _ _ _ _ _ fault)

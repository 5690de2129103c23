use Rattle.cops_replay.proofs.Names.{ap, ◌∙◌, MatchResult-weaker, on_ok_weaker, sink_writer, source_reader, PartOf}
use Rattle.cops_replay.proofs.AuditRunLemmas.{on_err_any}
use Rattle.cops_replay.proofs.ExtractionLines.{all_extracted, front_extracted, no_part, nothing_extracted, nothing_written}
use Rattle.cops_replay.proofs.extractions.extract_text.Goals as goal

pub returns-in_err-name-clause-err : goal.returns-in_err-name-clause-err
returns-in_err-name-clause-err g c =
    on_err_any _ c.from_residual.result (nothing_extracted c.args.tenant.now (g.R.Read.remaining (source_reader c.args.source.now)) (g.O.Write.contents (sink_writer c.args.sink.now)))

pub returns-clause-ok : goal.returns-clause-ok
returns-clause-ok g c =
    on_ok_weaker c.run_lines.result (all_extracted c.args.tenant.now _ _ _ c.new_audit-part.result (ap (λ (b : PartOf). b.name) c.new_audit-part.ensures.body ∙ c.in_ok-name.ensures) c.new_audit-part.ensures.head _ _) c.run_lines.ensures.ok

pub returns-clause-err : goal.returns-clause-err
returns-clause-err g c =
    MatchResult-weaker c.run_lines.result c.run_lines.ensures.err (λ x h. tt) (λ fault. front_extracted c.args.tenant.now _ _ _ c.new_audit-part.result (ap (λ (b : PartOf). b.name) c.new_audit-part.ensures.body ∙ c.in_ok-name.ensures) c.new_audit-part.ensures.head _ fault)

pub returns-clause-refused : goal.returns-clause-refused
returns-clause-refused g c =
    MatchResult-weaker c.run_lines.result c.run_lines.ensures.err (λ x h. tt) (λ fault. no_part c.args.tenant.now _ _ _ c.new_audit-part.result (ap (λ (b : PartOf). b.name) c.new_audit-part.ensures.body ∙ c.in_ok-name.ensures) c.new_audit-part.ensures.head _ fault)

pub returns-clause-unwritten : goal.returns-clause-unwritten
returns-clause-unwritten g c =
    MatchResult-weaker c.run_lines.result c.run_lines.ensures.err (λ x h. tt) (λ fault. nothing_written _ _ _ _ _ fault)

use Rattle.cops_replay.proofs.MigrationLemmas.{front_written, outcome_told, refusal_told, text_written}
use Rattle.cops_replay.proofs.migrations.migrate_text.Goals as goal

pub returns-in-Ok-clause-ok : goal.returns-in-Ok-clause-ok
returns-in-Ok-clause-ok g c =
    outcome_told _ _ _ c.new_old_audit-audit.result c.new_old_audit-audit.ensures.part c.new_old_audit-audit.ensures.lines c.run_lines.new.machine c.records_of.result _ c.records_of.ensures c.in-Ok.ensures.ok

pub returns-in-Ok-clause-text : goal.returns-in-Ok-clause-text
returns-in-Ok-clause-text g c =
    text_written _ _ _ c.new_old_audit-audit.result c.new_old_audit-audit.ensures.part c.new_old_audit-audit.ensures.lines c.run_lines.new.machine _ c.in-Ok.ensures.ok

pub returns-clause-front : goal.returns-clause-front
returns-clause-front g c =
    front_written _ _ _ c.new_old_audit-audit.result c.new_old_audit-audit.ensures.part c.new_old_audit-audit.ensures.lines _ c.in-Err.fault c.in-Err.ensures.err

pub returns-clause-refused : goal.returns-clause-refused
returns-clause-refused g c =
    refusal_told _ _ _ c.new_old_audit-audit.result c.new_old_audit-audit.ensures.part c.new_old_audit-audit.ensures.lines _ c.in-Err.fault c.in-Err.ensures.err

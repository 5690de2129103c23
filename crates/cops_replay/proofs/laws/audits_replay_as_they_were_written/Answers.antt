use Rattle.cops_replay.proofs.AuditLines.{lines_his}
use Rattle.cops_replay.proofs.WrittenAudits.{says_same}
use Rattle.cops_replay.proofs.laws.audits_replay_as_they_were_written.Goals as goal

pub returns-clause-lines : goal.returns-clause-lines
returns-clause-lines c = λ lines rest config nodes slot tenant. lines_his config nodes lines rest slot tenant

pub returns-clause-nodes : goal.returns-clause-nodes
returns-clause-nodes c = says_same

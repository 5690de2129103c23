use Rattle.cops_replay.proofs.OwnAuditParts.{own_is_part}
use Rattle.cops_replay.proofs.laws.own_audits_are_parts.Goals as goal

pub returns-clause-part : goal.returns-clause-part
returns-clause-part c = own_is_part

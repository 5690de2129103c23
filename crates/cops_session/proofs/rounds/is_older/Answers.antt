use Rattle.std.proofs.Common.{◌∙◌, ap}
use Rattle.cops_types.specs.Version.{Timestamp}
use Rattle.cops_session.proofs.SettledReads.{past-newest}
use Rattle.cops_session.proofs.rounds.is_older.Goals as goal

pub returns-else-clock-newest : goal.returns-else-clock-newest
returns-else-clock-newest c = past-newest c.args.read.now c.args.other.now.deps c.clock.result c.args.newest c.requires (c.clock.ensures.value ∙ ap (λ (v : Timestamp). v.clock) c.version.ensures) c.if-clock-newest.false

use Rattle.cops_replay.proofs.Names.{Early, Today}
use Rattle.cops_replay.proofs.EarlyRecords.{replayed_alike}
use Rattle.cops_replay.proofs.HeadTexts.{replays_alike, text_is_todays, text_reads_back}
use Rattle.cops_replay.proofs.WholeMigrations.{alike}
use Rattle.cops_replay.proofs.laws.migrated_audits_replay_alike.Goals as goal

pub returns-clause-alike : goal.returns-clause-alike
returns-clause-alike c = alike

pub returns-clause-layout : goal.returns-clause-layout
returns-clause-layout c = text_is_todays

pub returns-clause-back : goal.returns-clause-back
returns-clause-back c = text_reads_back

pub returns-clause-moved : goal.returns-clause-moved
returns-clause-moved c = λ name old moved config records text at to clocks early. (replayed_alike Early Today name old moved config records at to clocks early text, replayed_alike Today Early name moved old config records to at clocks early text)

pub returns-clause-replays : goal.returns-clause-replays
returns-clause-replays c = λ bytes config lines name text is. replays_alike bytes config lines is name text

use Rattle.cops_replay.proofs.EarlySteps.{early_record, record_of_layout_1}
use Rattle.cops_replay.proofs.laws.layouts_agree_on_early_clocks.Goals as goal

pub returns-clause-today : goal.returns-clause-today
returns-clause-today c = early_record

pub returns-clause-old : goal.returns-clause-old
returns-clause-old c = record_of_layout_1

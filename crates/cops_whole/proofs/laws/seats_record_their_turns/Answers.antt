use Rattle.cops_whole.proofs.Recording.{call_recorded, none_recorded, other_recorded}
use Rattle.cops_whole.proofs.laws.seats_record_their_turns.Goals as goal

pub returns-clause-call : goal.returns-clause-call
returns-clause-call c = call_recorded

pub returns-clause-none : goal.returns-clause-none
returns-clause-none c = none_recorded

pub returns-clause-other : goal.returns-clause-other
returns-clause-other c = other_recorded

use Rattle.cops_service.proofs.Hosted.{unknown_after_close, unknown_in_another}
use Rattle.cops_service.proofs.laws.earlier_lives_are_unknown.Goals as goal

pub returns-clause-closed : goal.returns-clause-closed
returns-clause-closed c = unknown_after_close

pub returns-clause-given_again : goal.returns-clause-given_again
returns-clause-given_again c = unknown_in_another

use Rattle.cops_whole.proofs.SmallService.{lacking_service, small_service}
use Rattle.cops_whole.proofs.laws.small_service_ran.Goals as goal

pub returns-clause-all : goal.returns-clause-all
returns-clause-all c = small_service

pub returns-clause-lacking : goal.returns-clause-lacking
returns-clause-lacking c = lacking_service

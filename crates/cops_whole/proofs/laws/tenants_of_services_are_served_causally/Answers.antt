use Rattle.cops_whole.proofs.Services.{tenants_of_service}
use Rattle.cops_whole.proofs.laws.tenants_of_services_are_served_causally.Goals as goal

pub returns : goal.returns
returns c = λ config cluster history seats actors some run. tenants_of_service config cluster history seats actors run some

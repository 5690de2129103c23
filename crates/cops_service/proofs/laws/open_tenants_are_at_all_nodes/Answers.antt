use Rattle.cops_service.proofs.OpenTenants.{have_lives, left_with_tenants}
use Rattle.cops_service.proofs.laws.open_tenants_are_at_all_nodes.Goals as goal

pub returns-clause-tenants : goal.returns-clause-tenants
returns-clause-tenants g c = λ config workers moments nodes roster served. left_with_tenants g.M.Moments.Gives moments config workers nodes roster served

pub returns-clause-lives : goal.returns-clause-lives
returns-clause-lives g c = λ config workers moments nodes roster served. have_lives g.M.Moments.Gives moments config workers nodes roster served

use Rattle.cops_script.proofs.Meanings.{meant_is_said, said_is_meant}
use Rattle.cops_script.proofs.laws.rules_give_one_meaning.Goals as goal

pub returns-clause-found : goal.returns-clause-found
returns-clause-found c = λ tenants line named. said_is_meant tenants line named

pub returns-clause-only : goal.returns-clause-only
returns-clause-only c = λ tenants line said named means. meant_is_said tenants line named said means

use Rattle.std.proofs.Common.{ap, subst, sym}
use Rattle.cops_gate.specs.Accounts.{IsComplete}
use Rattle.cops_service.proofs.Leaving.{some_weaker, ended}
use Rattle.cops_service.proofs.cluster.Cluster.close.Goals as goal

pub returns-clause-machines : goal.returns-clause-machines
returns-clause-machines g c =
    some_weaker c.all_of.result _ _ (λ machines is. ended g.M.Machine.turns g.M.Machine.place c.args.self c.self.inside.gate c.args.seat c.into_seat.result c.close-left.result.items machines.items
    (ap (λ x. x.gate) c.self.view_is) c.into_seat.ensures c.close-left.ensures.history c.close-left.ensures.all is) c.all_of.ensures.machines

pub returns-clause-complete : goal.returns-clause-complete
returns-clause-complete g c complete = c.all_of.ensures.all (c.close-left.ensures.complete (subst IsComplete (ap (λ s. s.account) (sym c.into_seat.ensures)) complete))

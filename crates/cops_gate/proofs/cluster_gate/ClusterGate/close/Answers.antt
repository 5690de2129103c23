use Rattle.std.proofs.Common.{ap, arith, sym, subst}
use Rattle.std.specs.Mem.Slots.{slots_items}
use Rattle.cops_gate.specs.Accounts.{IsComplete}
use Rattle.cops_gate.specs.Rule.{start}
use Rattle.cops_gate.proofs.Keeps.{all_served, gives_back}
use Rattle.cops_gate.proofs.cluster_gate.ClusterGate.close.Goals as goal

pub returns-clause-history : goal.returns-clause-history
returns-clause-history g c =
    gives_back g.M.Machine.turns g.M.Machine.place (start c.self.inside.board.shared.key.value) c.into_place.result.id c.into_place.result.me.0
    (slots_items c.close_with-closed.result.words) (slots_items c.close_with-closed.result.slots) c.take_all.result.items c.args.self c.args.seat c.into_place.ensures.home.2
    c.close_with-closed.ensures.values.2 c.take_all.ensures.left
    (ap (λ o. o.opening) c.self.view_is) (ap (λ o. o.ticket) c.self.view_is) c.into_place.ensures.sight.0 c.into_place.ensures.sight.1 c.into_place.ensures.sight.2 c.into_place.ensures.account

pub returns-clause-complete : goal.returns-clause-complete
returns-clause-complete g c complete =
    c.take_all.ensures.served
    (λ n inside. all_served g.M.Machine.turns g.M.Machine.place (start c.self.inside.board.shared.key.value) c.into_place.result.id c.into_place.result.me.0
    (slots_items c.close_with-closed.result.words) (slots_items c.close_with-closed.result.slots) c.into_place.ensures.idle.1 c.close_with-closed.ensures.values.2
    (subst IsComplete (sym c.into_place.ensures.account) complete) n (omega arith))

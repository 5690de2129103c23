use Rattle.std.proofs.Common.{◌≡◌, []}
use Rattle.std.specs.Prelude.{Some}
use Rattle.cops_types.specs.TenantConfig.{TenantConfig}
use Rattle.cops_model.specs.Session.{Running, Session}
use Rattle.cops_session.specs.SessionStands.{SessionStandsFor}
use Rattle.cops_wire.specs.Requests.{KeepsShape, HasFewRestarts, backend}
use Rattle.cops_wire.specs.Running.{HasFewKeys}
use Rattle.cops_wire.proofs.StepLemmas.{IsOngoing}
use Rattle.cops_wire.proofs.steps.finish.Given as goal

abbrev pub invariant-loop : goal.invariant-loop
invariant-loop g l = record {
  ongoing : (config : TenantConfig) (solo : Session) (running : Running) → HasFewRestarts config → SessionStandsFor config l.fn.session solo → solo.running ≡ Some running → running.log ≡ [] → HasFewKeys running.action →
      IsOngoing (KeepsShape g.N.Nodes.shape g.N.Nodes.Answers) g.M.Moments.Gives config l.fn.session.setting.slot (backend solo l.fn.nodes l.fn.moments) running.action l.session l.nodes l.moments l.counter;
  out : l.out.items ≡ l.fn.out.items;
  setting : l.session.setting ≡ l.fn.session.setting;
  shape : g.N.Nodes.shape l.nodes ≡ g.N.Nodes.shape l.fn.nodes;
}

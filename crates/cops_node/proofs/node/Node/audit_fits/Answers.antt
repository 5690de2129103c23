use Rattle.std.proofs.Common.{subst}
use Rattle.cops_node.specs.Parts.{AuditFits}
use Rattle.cops_node.proofs.node.Node.audit_fits.Goals as goal

pub returns : goal.returns
returns c = subst AuditFits c.self.view_is c.self.invariant.fitting

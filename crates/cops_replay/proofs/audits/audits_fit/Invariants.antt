use Rattle.cops_replay.proofs.Names.{take, AllByRecursion, AuditFits}
use Rattle.cops_replay.proofs.audits.audits_fit.Given as goal

abbrev pub invariant-loop-node : goal.invariant-loop-node
invariant-loop-node l = AllByRecursion AuditFits (take l.node-index l.nodes)

use Rattle.cops_replay.proofs.Names.{◌≡◌, length, tenant_config}
use Rattle.cops_replay.proofs.ReplayLemmas.{AreNew}
use Rattle.cops_replay.proofs.replaying.LoneNodes.new.Given as goal

abbrev pub invariant-loop-number : goal.invariant-loop-number
invariant-loop-number l = record {
  counted : length l.nodes.items ≡ l.number;
  new : AreNew (tenant_config l.config l.tenant) l.nodes.items;
}

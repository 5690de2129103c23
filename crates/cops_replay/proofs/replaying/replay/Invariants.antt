use Rattle.cops_replay.proofs.Names.{◌≡◌, drop, List, slice_get, Some, Tenant, tenant_config, SoloNode, Replayed, Finds, FindsFrom, AreLoneNodes}
use Rattle.cops_replay.proofs.replaying.replay.Given as goal

abbrev pub invariant-loop-told : goal.invariant-loop-told
invariant-loop-told l = record {
  counted : l.passed ≡ l.told-index;
  leads : (tenant : Tenant) → slice_get l.config.tenants l.slot ≡ Some tenant →
      (solos : List SoloNode) × AreLoneNodes (tenant_config l.config tenant) l.nodes solos
      × ((found : Replayed) → FindsFrom (tenant_config l.config tenant) l.passed solos (drop l.told-index l.records) found → Finds (tenant_config l.config tenant) l.records found);
}

use Rattle.cops_replay.proofs.Names.{◌≡◌, ◌++◌, take, flat_map, tenant_text}
use Rattle.cops_replay.proofs.heads.push_tenants.Given as goal

abbrev pub invariant-loop-tenant : goal.invariant-loop-tenant
invariant-loop-tenant l = l.out.items ≡ l.fn.out.items ++ flat_map tenant_text (take l.tenant-index l.tenants)

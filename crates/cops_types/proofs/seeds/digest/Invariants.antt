use Rattle.std.specs.Prelude.{◌≡◌, ◌++◌, map, take}
use Rattle.std.specs.List.{fold}
use Rattle.std.specs.Hash as fed
use Rattle.std.specs.Hash.DefaultHasher as sip
use Rattle.cops_types.specs.declared.configs.Tenant.{Tenant}
use Rattle.cops_types.proofs.seeds.digest.Given as goal

abbrev pub invariant-loop-tenant : goal.invariant-loop-tenant
invariant-loop-tenant l = l.hasher ≡ fold sip.write sip.initial (fed.u64 l.first ++ map (λ (tenant : Tenant). tenant.token) (take l.tenant-index l.tenants))

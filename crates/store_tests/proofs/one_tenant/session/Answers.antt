use Rattle.std.proofs.Common.{◌≡◌, List, [], ◌∷◌, length, refl, arith}
use Rattle.std.specs.Prelude.{Some, slice_get}
use Rattle.cops_types.specs.declared.configs.Tenant.{Tenant}
use Rattle.store_tests.proofs.one_tenant.session.Goals as goal

first_of : (tenants : List Tenant) → length tenants ≡ 1 → (tenant : Tenant) × (slice_get tenants 0 ≡ Some tenant)
first_of [] one = absurd (omega arith)
first_of (t ∷ tenants) one = (t, refl)

pub returns : goal.returns
returns c =
    let first = first_of c.args.config.now.tenants c.requires.tenant in
    let setting = (c.starting_at.ensures.stands first.0 first.1).setting_is in
    record {
      data_centres_are = setting.data_centres;
      shards_are = setting.shards;
    }

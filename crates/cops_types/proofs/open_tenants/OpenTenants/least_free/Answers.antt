use Rattle.std.proofs.Common.{◌≤◌, length, subst, sym}
use Rattle.std.specs.Prelude.{List, Option}
use Rattle.cops_types.specs.declared.configs.Tenant.{Tenant}
use Rattle.cops_types.specs.HeadLines.{most_tenants}
use Rattle.cops_types.proofs.OpenSlotLemmas.{long_front}
use Rattle.cops_types.proofs.open_tenants.OpenTenants.least_free.Goals as goal

pub slice_bounds-first_free-end : goal.slice_bounds-first_free-end
slice_bounds-first_free-end c = long_front 64 c.deref.result.now (subst (λ (slots : List (Option Tenant)). most_tenants ≤ length slots) (sym c.deref.ensures.value) c.self.invariant.enough)

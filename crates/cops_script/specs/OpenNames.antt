-- Each open tenant has a name.
use Rattle.std.specs.Prelude.{List, Option}
use Rattle.std.specs.List.{AllByRecursion}
use Rattle.cops_types.specs.declared.configs.Tenant.{Tenant}
use Rattle.cops_types.specs.OpenSlots.{IsNamed}

abbrev pub AreOpenNamed : List (Option Tenant) → Type 0
AreOpenNamed tenants = AllByRecursion IsNamed tenants

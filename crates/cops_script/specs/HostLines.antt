-- The lines of the host, which admits and closes tenants.
use Rattle.std.specs.Prelude.{ℕ, ◌==◌, ◌&&◌, if◌then◌else◌, List, [], ◌∷◌, ◌++◌, codes, Option, Some, None}
use Rattle.cops_types.specs.declared.configs.Tenant.{Tenant}
use Rattle.cops_types.specs.HeadLines.{tenant_in}
use Rattle.cops_types.specs.Key.{is_name}
use Rattle.cops_types.specs.Words.{space}

-- the sign before a tenant that is admitted, and before one that is closed
abbrev pub plus : ℕ
plus = 43

abbrev pub hyphen : ℕ
hyphen = 45

-- the tenant that a line admits: a plus in place of the first word of a tenant's line of a head
abbrev pub admitted_in : List ℕ → Option Tenant
admitted_in [] = None
admitted_in (sign ∷ rest) = if sign == plus then tenant_in (codes "tenant" ++ rest) else None

-- the name of the tenant that a line closes: a hyphen, a space and the name
abbrev pub closed_in : List ℕ → Option (List ℕ)
closed_in (sign ∷ gap ∷ name) = if sign == hyphen && gap == space && is_name name then Some name else None
closed_in line = None

-- The texts that identify tenants; no two tenants share one.
use Rattle.std.specs.Prelude.{◌≡◌, ℕ, Bool, false, List, [], ◌∷◌, Option, Some, None}
use Rattle.std.specs.List.{list_any}
use Rattle.std.specs.Str.{bytes_eq}
use Rattle.cops_types.specs.declared.configs.Tenant.{Tenant}

-- the slot has a tenant with this text
abbrev pub has_text : (Tenant → List ℕ) → List ℕ → Option Tenant → Bool
has_text text_of text None = false
has_text text_of text (Some tenant) = bytes_eq (text_of tenant) text

-- no two tenants share a text
abbrev pub AreApart : (Tenant → List ℕ) → List (Option Tenant) → Type 0
AreApart text_of [] = Unit {0}
AreApart text_of (None ∷ slots) = AreApart text_of slots
AreApart text_of (Some tenant ∷ slots) = (list_any (has_text text_of (text_of tenant)) slots ≡ false) × AreApart text_of slots

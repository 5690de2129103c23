-- The meaning of a line of a script, as rules. `said_in` computes it.
use Rattle.std.specs.Prelude.{◌≡◌, ◌≢◌, ℕ, List, [], ◌∷◌, ◌++◌, codes, is_none, position, take, IsTrue, IsFalse, Option, Some, None}
use Rattle.cops_types.specs.declared.configs.Tenant.{Tenant}
use Rattle.cops_types.specs.declared.faults.Fault.TheVariants.{NameTaken, NoSlot, OutOfMemory, Syntax, UnknownTenant}
use Rattle.cops_types.specs.HeadLines.{IsTenantLineTo, most_tenants}
use Rattle.cops_types.specs.Key.{is_name}
use Rattle.cops_types.specs.OpenSlots.{has_name, is_new}
use Rattle.cops_types.specs.Version.{last_clock}
use Rattle.cops_types.specs.Words.{first_word}
use Rattle.cops_model.specs.declared.acts.Act.{Act}
use Rattle.cops_script.specs.ActLines.{IsActLine}
use Rattle.cops_script.specs.Said.{Admits, Closes, Refuses, Said, OfHost, Unformed, Acts, tenants_after}

-- the line admits this tenant: it is the tenant's line of a head, with a plus in place of the first word
pub record IsAdmissionLine (line : List ℕ) (tenant : Tenant) : Type 0 where
  pub rest : List ℕ
  pub signed : line ≡ codes "+" ++ rest
  pub said : IsTenantLineTo last_clock (codes "tenant" ++ rest) tenant

-- the line closes the tenant of this name: a hyphen, a space, the name
pub record IsClosingLine (line name : List ℕ) : Type 0 where
  pub signed : line ≡ codes "- " ++ name
  pub named : IsTrue (is_name name)

-- while these tenants are open, the line means this request
pub data Means (tenants : List (Option Tenant)) (line : List ℕ) : Said → Type 0 where
  -- an admission, which gets the least free slot, unless memory runs out for it
  Admission : (tenant : Tenant) (slot : ℕ) → IsAdmissionLine line tenant → IsTrue (is_new tenants tenant) → position is_none (take most_tenants tenants) ≡ Some slot → Means tenants line (OfHost (Admits slot tenant))
  NoMemory : (tenant : Tenant) (slot : ℕ) → IsAdmissionLine line tenant → IsTrue (is_new tenants tenant) → position is_none (take most_tenants tenants) ≡ Some slot → Means tenants line (OfHost (Refuses OutOfMemory))
  KnownTenant : (tenant : Tenant) → IsAdmissionLine line tenant → IsFalse (is_new tenants tenant) → Means tenants line (OfHost (Refuses NameTaken))
  NoRoom : (tenant : Tenant) → IsAdmissionLine line tenant → IsTrue (is_new tenants tenant) → position is_none (take most_tenants tenants) ≡ None → Means tenants line (OfHost (Refuses NoSlot))
  BadAdmission : first_word line ≡ codes "+" → ((tenant : Tenant) → IsAdmissionLine line tenant → ⊥) → Means tenants line (OfHost (Refuses Syntax))
  -- a close
  Closing : (name : List ℕ) (slot : ℕ) → IsClosingLine line name → position (has_name name) tenants ≡ Some slot → Means tenants line (OfHost (Closes slot name))
  NoneToClose : (name : List ℕ) → IsClosingLine line name → position (has_name name) tenants ≡ None → Means tenants line (OfHost (Refuses UnknownTenant))
  BadClosing : first_word line ≡ codes "-" → ((name : List ℕ) → IsClosingLine line name → ⊥) → Means tenants line (OfHost (Refuses Syntax))
  -- a tenant's line, which begins with its name
  Action : (slot : ℕ) (act : Act) → position (has_name (first_word line)) tenants ≡ Some slot → IsActLine (first_word line) line act → Means tenants line (Acts (record { slot = slot; act = act }))
  BadAction : (slot : ℕ) → position (has_name (first_word line)) tenants ≡ Some slot → ((act : Act) → IsActLine (first_word line) line act → ⊥) → Means tenants line (Unformed slot)
  -- a line that begins with no open tenant's name
  Stray : first_word line ≢ codes "+" → first_word line ≢ codes "-" → position (has_name (first_word line)) tenants ≡ None → Means tenants line (OfHost (Refuses UnknownTenant))

-- lines, one after another, mean these requests
abbrev pub AreMeant : List (Option Tenant) → List (List ℕ) → List Said → Type 0
AreMeant tenants [] [] = Unit {0}
AreMeant tenants [] (said ∷ more) = ⊥
AreMeant tenants (line ∷ lines) [] = ⊥
AreMeant tenants (line ∷ lines) (said ∷ more) = Means tenants line said × AreMeant (tenants_after tenants said) lines more

-- A line that was done: which tenants are open after it, and what was written for it.
use Rattle.std.proofs.Common.{◌≡◌, ℕ, Bool, true, false, cond, inl, inr, List, [], map, refl, sym, subst, ap, ◌∙◌}
use Rattle.std.specs.Prelude.{slice_get, Option, Some}
use Rattle.std.specs.Option.{option_map, option_map_or}
use Rattle.std.proofs.lemmas.Option.{get_or_from_slice_get, slice_get-map}
use Rattle.cops_types.specs.declared.configs.Config.{Config}
use Rattle.cops_types.specs.declared.configs.Tenant.{Tenant}
use Rattle.cops_types.specs.declared.faults.Fault.TheVariants.{OutOfMemory, Syntax}
use Rattle.cops_model.specs.declared.replies.Reply.{Reply}
use Rattle.cops_model.specs.declared.replies.Reply.TheVariants.{Refused}
use Rattle.cops_model.specs.Cluster.{SoloCluster}
use Rattle.cops_script.specs.Lives.{Lives}
use Rattle.cops_script.specs.Said.{HostDeed, Admits, Closes, Refuses, Said, OfHost, Unformed, Acts}
use Rattle.cops_model.specs.Setups.{Setup}
use Rattle.cops_script.specs.Acting.{told_act}
use Rattle.cops_script.specs.Answers.{Answer, ToHost, ToTenant, answer_line, is_lack, name_at, reply_line, slot_line}
use Rattle.cops_script.specs.Doing.{IsDone, IsHosted}
use Rattle.cops_script.specs.ScriptRuns.{heard}
use Rattle.cops_script.proofs.LifeRuns.{answer_of, setup_after}
use Rattle.cops_script.proofs.Numbered.{AreNumbered, HasTenantAt, IsPlaced}
use Rattle.cops_script.proofs.SaidLines.{AdmitsNamed}

-- ---- what was heard

module _ (tenants : List (Option Tenant)) where
  pub heard_placed : (said : Said) (answer : Answer) → IsPlaced tenants said → IsPlaced tenants (heard said answer)
  heard_placed (OfHost (Admits slot tenant)) answer placed = by (is_lack answer)
    where
      by : (t : Bool) → IsPlaced tenants (cond t (OfHost (Refuses OutOfMemory)) (OfHost (Admits slot tenant)))
      by true = tt
      by false = placed
  heard_placed (OfHost (Closes slot name)) answer placed = placed
  heard_placed (OfHost (Refuses fault)) answer placed = placed
  heard_placed (Unformed slot) answer placed = placed
  heard_placed (Acts event) answer placed = placed

  pub heard_named : (said : Said) (answer : Answer) → AdmitsNamed tenants said → AdmitsNamed tenants (heard said answer)
  heard_named (OfHost (Admits slot tenant)) answer named = by (is_lack answer)
    where
      by : (t : Bool) → AdmitsNamed tenants (cond t (OfHost (Refuses OutOfMemory)) (OfHost (Admits slot tenant)))
      by true = tt
      by false = named
  heard_named (OfHost (Closes slot name)) answer named = named
  heard_named (OfHost (Refuses fault)) answer named = named
  heard_named (Unformed slot) answer named = named
  heard_named (Acts event) answer named = named

-- an answer says that memory was refused, whoever it is to
pub lack_of_life : (lives : Lives) (answer : Answer) → is_lack (answer_of lives answer) ≡ is_lack answer
lack_of_life lives (ToHost reply) = refl
lack_of_life lives (ToTenant slot reply) = refl

-- ---- names

pub name_there : (tenants : List Tenant) (number : ℕ) (tenant : Tenant) → slice_get tenants number ≡ Some tenant → name_at tenants number ≡ tenant.name
name_there tenants number tenant e = get_or_from_slice_get (map (λ (t : Tenant). t.name) tenants) number tenant.name [] (slice_get-map (λ (t : Tenant). t.name) tenants number ∙ ap (option_map (λ (t : Tenant). t.name)) e)

-- the line of who is open at a slot is that of its life
pub slot_line_is : (config : Config) (tenants : List (Option Tenant)) (lives : Lives) (slot : ℕ) (reply : Reply) → AreNumbered config tenants lives → HasTenantAt tenants slot →
    slot_line tenants (ToTenant slot reply) ≡ answer_line config.tenants (ToTenant (lives.last_at slot) reply)
slot_line_is config tenants lives slot reply numbered (tenant, there) =
    ap (λ name. reply_line name reply)
    (ap (λ o. option_map_or (λ (t : Tenant). t.name) o []) there ∙ sym (name_there config.tenants (lives.last_at slot) tenant (numbered.tenant_is slot tenant there)))

module _ {W : Type 0} (setup : W → Setup) (StandsFor : W → ℕ → SoloCluster → Type 0) (old mid : W) (lives : Lives) where
  -- ---- who is open after it

  abbrev pub IsAfter : Said → Answer → Type 0
  IsAfter said answer = setup mid ≡ setup_after (setup old) (heard said answer)

  hosted_setup : (deed : HostDeed) (answer : Answer) → IsHosted setup StandsFor old deed answer mid → IsAfter (OfHost deed) (answer_of lives answer)
  hosted_setup (Refuses fault) answer (is, stayed) = stayed.same
  hosted_setup (Closes slot name) answer (is, closed) = closed.setup_is
  hosted_setup (Admits slot tenant) answer (inl (is, admitted)) = subst (λ a. IsAfter (OfHost (Admits slot tenant)) (answer_of lives a)) (sym is) admitted.setup_is
  hosted_setup (Admits slot tenant) answer (inr (is, stayed)) = subst (λ a. IsAfter (OfHost (Admits slot tenant)) (answer_of lives a)) (sym is) stayed.same

  pub done_setup : (said : Said) (answer : Answer) → IsDone setup StandsFor old said answer mid → IsAfter said (answer_of lives answer)
  done_setup (OfHost deed) answer done = hosted_setup deed answer done
  done_setup (Unformed slot) answer (is, stayed) = stayed.same
  done_setup (Acts event) answer (answered, is, acted) = acted.same

  -- ---- what was written

  abbrev pub IsLine : Config → Answer → Type 0
  IsLine config answer = slot_line (setup old).tenants answer ≡ answer_line config.tenants (answer_of lives answer)

  hosted_line : (deed : HostDeed) (answer : Answer) (config : Config) → IsHosted setup StandsFor old deed answer mid → IsLine config answer
  hosted_line (Refuses fault) answer config (is, stayed) = subst (IsLine config) (sym is) refl
  hosted_line (Closes slot name) answer config (is, closed) = subst (IsLine config) (sym is) refl
  hosted_line (Admits slot tenant) answer config (inl (is, admitted)) = subst (IsLine config) (sym is) refl
  hosted_line (Admits slot tenant) answer config (inr (is, stayed)) = subst (IsLine config) (sym is) refl

  pub line_of_life : (said : Said) (answer : Answer) (config : Config) → IsDone setup StandsFor old said answer mid → IsPlaced (setup old).tenants said → AreNumbered config (setup old).tenants lives → IsLine config answer
  line_of_life (OfHost deed) answer config done placed numbered = hosted_line deed answer config done
  line_of_life (Unformed slot) answer config (is, stayed) placed numbered = subst (IsLine config) (sym is) (slot_line_is config (setup old).tenants lives slot (Refused Syntax) numbered placed)
  line_of_life (Acts event) answer config (answered, is, acted) placed numbered = subst (IsLine config) (sym is) (slot_line_is config (setup old).tenants lives event.slot (told_act answered) numbered placed)

-- What the machine of one name has answered keeps to its rules.
use Rattle.std.proofs.Common.{◌≡◌, ◌≢◌, ℕ, Bool, true, false, cond, ◌||◌, true≢false, List, [], set, inl, refl, sym, subst, ap, ◌∙◌, append-nil, arith}
use Rattle.std.specs.Prelude.{IsFalse, IfSome, IsOk, OnOk, Option, Some, None, Result, Ok, Err}
use Rattle.std.specs.Option.{option_map_or}
use Rattle.std.specs.Str.{bytes_eq}
use Rattle.std.proofs.lemmas.Result.{IfOk-weaker}
use Rattle.cops_types.specs.declared.configs.Config.{Config}
use Rattle.cops_types.specs.declared.configs.Tenant.{Tenant}
use Rattle.cops_types.specs.declared.faults.Fault.{Fault}
use Rattle.cops_types.specs.declared.faults.Fault.TheVariants.{Syntax, UnknownTenant}
use Rattle.cops_script.specs.LineAnswers.{Answers}
use Rattle.cops_types.specs.OpenSlots.{open_at, open_slot_of_name}
use Rattle.cops_types.specs.TenantTexts.{AreApart}
use Rattle.cops_types.specs.TenantConfig.{TenantConfig}
use Rattle.cops_types.specs.Words.{first_word}
use Rattle.cops_types.proofs.WordLemmas.{bytes_from_test, same_bytes}
use Rattle.cops_model.specs.declared.acts.Act.{Act}
use Rattle.cops_model.specs.declared.replies.HostReply.TheVariants.{Admitted, Closed, Denied}
use Rattle.cops_model.specs.declared.replies.Reply.{Reply}
use Rattle.cops_model.specs.declared.replies.Reply.TheVariants.{Refused}
use Rattle.cops_script.specs.ActLines.{act_in}
use Rattle.cops_model.specs.Cluster.{SoloCluster, cluster_step}
use Rattle.cops_model.specs.MainTheorem.{with_tenant_alone}
use Rattle.cops_script.specs.Said.{Admits, Closes, Refuses, Said, OfHost, admission_of, admission_unless, closing_at, closing_of, is_host_line, said_found, said_by, said_in}
use Rattle.cops_model.specs.Setups.{Setup, config_in, config_of, new_setup, next_slot, with_slot}
use Rattle.cops_script.specs.declared.solo_scripts.SoloRun.{SoloRun}
use Rattle.cops_script.specs.Acting.{HasStayed, IsNew, told_act}
use Rattle.cops_script.specs.Answers.{Answer, ToHost, ToTenant, reply_line, slot_line}
use Rattle.cops_script.specs.Doing.{IsDone}
use Rattle.cops_model.specs.Lacks.{Lacks}
use Rattle.cops_script.specs.AllRules.{IsAnswered}
use Rattle.cops_script.specs.SoloRules.{AnswersOwn, IsGiven, IsKept, IsSilent, IsTaken, IsWorldOf, SoloStands, Takes, is_own, solo_setup}
use Rattle.cops_script.proofs.NamedSlots.{HasNamedAt, admitted_apart, admitted_found, admitted_here, admitted_others, closed_apart, closed_found, closed_others, found_alone, named_found, open_to}

pub or_false : (b : Bool) → (b || false) ≡ b
or_false true = refl
or_false false = refl

or_true : (b : Bool) → (b || true) ≡ true
or_true true = refl
or_true false = refl

module _ {W : Type 0} (setup : W → Setup) (StandsFor : W → ℕ → SoloCluster → Type 0) where
  -- ---- what is kept

  -- who is found is open still
  world_elsewhere : (name : List ℕ) (head : Config) (old new : List (Option Tenant)) (held : Option W) (found : Option ℕ) →
      ((slot : ℕ) (tenant : Tenant) → bytes_eq tenant.name name ≡ true → open_at slot old ≡ Some tenant → open_at slot new ≡ Some tenant) → IsWorldOf setup StandsFor name head old held found → IsWorldOf setup StandsFor name head new held found
  world_elsewhere name head old new held None stay h = h
  world_elsewhere name head old new held (Some slot) stay (tenant, world, there, named, is, alone) = (tenant, world, stay slot tenant named there, named, is, alone)

  -- if the same slot is found for the name
  kept_at : (name : List ℕ) (old new : SoloRun W) → new.head ≡ old.head → new.world ≡ old.world → AreApart (λ tenant. tenant.name) new.tenants → open_slot_of_name new.tenants name ≡ open_slot_of_name old.tenants name →
      ((slot : ℕ) (tenant : Tenant) → bytes_eq tenant.name name ≡ true → open_at slot old.tenants ≡ Some tenant → open_at slot new.tenants ≡ Some tenant) → IsKept setup StandsFor name old → IsKept setup StandsFor name new
  kept_at name old new head_is world_is apart found stay kept = record {
    apart = apart;
    world_is =
        subst (λ (h : Config). IsWorldOf setup StandsFor name h new.tenants new.world (open_slot_of_name new.tenants name)) (sym head_is)
        (subst (λ (w : Option W). IsWorldOf setup StandsFor name old.head new.tenants w (open_slot_of_name new.tenants name)) (sym world_is)
        (subst (λ o. IsWorldOf setup StandsFor name old.head new.tenants old.world o) (sym found) (world_elsewhere name old.head old.tenants new.tenants old.world (open_slot_of_name old.tenants name) stay kept.world_is)));
  }

  kept_same : (name : List ℕ) (old new : SoloRun W) → new.head ≡ old.head → new.world ≡ old.world → new.tenants ≡ old.tenants → IsKept setup StandsFor name old → IsKept setup StandsFor name new
  kept_same name old new head_is world_is tenants_are kept =
      kept_at name old new head_is world_is (subst (AreApart (λ tenant. tenant.name)) (sym tenants_are) kept.apart) (ap (λ ts. open_slot_of_name ts name) tenants_are)
      (λ slot tenant named there. ap (open_at slot) tenants_are ∙ there) kept

  -- ---- a line that changes nothing

  stays : (name : List ℕ) (old new : SoloRun W) → new.head ≡ old.head → new.world ≡ old.world → new.tenants ≡ old.tenants → HasStayed solo_setup (SoloStands setup StandsFor name) old new
  stays name old new head_is world_is tenants_are = record {
    same = λ i. record { head = head_is i; tenants = tenants_are i };
    clusters = λ slot cluster h found. let before = h (ap (λ ts. open_slot_of_name ts name) (sym tenants_are) ∙ found) in (before.0, world_is ∙ before.1, before.2);
  }

  pub refused_taken : (name : List ℕ) (old new : SoloRun W) (fault : Fault) → new.head ≡ old.head → new.world ≡ old.world → new.tenants ≡ old.tenants → new.was_open ≡ old.was_open → IsKept setup StandsFor name old →
      IsTaken setup StandsFor name old (OfHost (Refuses fault)) [] new
  refused_taken name old new fault head_is world_is tenants_are was_is kept = record {
    answer = ToHost (Denied fault);
    done = (refl, stays name old new head_is world_is tenants_are);
    heard_whole = refl;
    text_is = refl;
    kept = kept_same name old new head_is world_is tenants_are kept;
    was = was_is ∙ sym (or_false old.was_open);
  }

  quiet : (old new : SoloRun W) → new.was_open ≡ old.was_open → IsSilent setup StandsFor old [] new
  quiet old new was_is still = (sym was_is ∙ still, refl)

  pub refused_takes : (name : List ℕ) (old new : SoloRun W) (fault : Fault) → new.head ≡ old.head → new.world ≡ old.world → new.tenants ≡ old.tenants → new.was_open ≡ old.was_open → Takes setup StandsFor name old (OfHost (Refuses fault)) [] new
  refused_takes name old new fault head_is world_is tenants_are was_is = (quiet old new was_is, refused_taken name old new fault head_is world_is tenants_are was_is)

  -- ---- an admission

  module _ (name : List ℕ) (old new : SoloRun W) (tenant : Tenant) (head_is : new.head ≡ old.head) where
    module _ (given : IsGiven old.tenants tenant true new.tenants) where
      found_then : open_slot_of_name new.tenants name ≡ cond (bytes_eq tenant.name name) (Some (next_slot old.tenants)) (open_slot_of_name old.tenants name)
      found_then = ap (λ ts. open_slot_of_name ts name) given.1 ∙ admitted_found old.tenants (next_slot old.tenants) tenant (open_to old.tenants tenant given.0) name

      apart_then : IsKept setup StandsFor name old → AreApart (λ tenant. tenant.name) new.tenants
      apart_then kept = subst (AreApart (λ tenant. tenant.name)) (sym given.1) (admitted_apart old.tenants (next_slot old.tenants) tenant (open_to old.tenants tenant given.0) kept.apart)

      setup_then : solo_setup new ≡ with_slot (next_slot old.tenants) (Some tenant) (solo_setup old)
      setup_then = λ i. record { head = head_is i; tenants = given.1 i }

      -- the tenant has the name
      named_taken : (world : W) → bytes_eq tenant.name name ≡ true → new.world ≡ Some world → new.was_open ≡ true → IsNew setup StandsFor (with_tenant_alone old.head tenant) world → IsKept setup StandsFor name old →
          IsTaken setup StandsFor name old (OfHost (Admits (next_slot old.tenants) tenant)) [] new
      named_taken world named world_is was_is fresh kept =
          let found : open_slot_of_name new.tenants name ≡ Some (next_slot old.tenants) = found_then ∙ ap (λ b. cond b (Some (next_slot old.tenants)) (open_slot_of_name old.tenants name)) named in
          record {
            answer = ToHost (Admitted tenant.name);
            done = inl (
              refl,
              record {
                setup_is = setup_then;
                begins = λ e. (world, world_is, fresh.empty 0 (omega arith));
                others = λ other differs cluster h e. let same : Some (next_slot old.tenants) ≡ Some other = sym found ∙ e in absurd (differs cc);
              },
            );
            heard_whole = refl;
            text_is = refl;
            kept = record {
              apart = apart_then kept;
              world_is = subst (λ o. IsWorldOf setup StandsFor name new.head new.tenants new.world o) (sym found) (
                tenant,
                world,
                ap (open_at (next_slot old.tenants)) given.1 ∙ admitted_here old.tenants (next_slot old.tenants) tenant (open_to old.tenants tenant given.0),
                named,
                world_is,
                fresh.setup_is ∙ ap (λ (h : Config). new_setup (with_tenant_alone h tenant)) (sym head_is),
              );
            };
            was = was_is ∙ sym (ap (λ b. old.was_open || b) named ∙ or_true old.was_open);
          }

      -- the tenant has another name
      other_taken : bytes_eq tenant.name name ≡ false → new.world ≡ old.world → new.was_open ≡ old.was_open → IsKept setup StandsFor name old → IsTaken setup StandsFor name old (OfHost (Admits (next_slot old.tenants) tenant)) [] new
      other_taken differs world_is was_is kept =
          let may = open_to old.tenants tenant given.0 in
          let found : open_slot_of_name new.tenants name ≡ open_slot_of_name old.tenants name = found_then ∙ ap (λ b. cond b (Some (next_slot old.tenants)) (open_slot_of_name old.tenants name)) differs in
          record {
            answer = ToHost (Admitted tenant.name);
            done = inl (
              refl,
              record {
                setup_is = setup_then;
                begins = λ e.
                    let there = named_found old.tenants name (next_slot old.tenants) (sym found ∙ e) in
                    let clash : None ≡ Some there.0 = sym may.vacant ∙ there.1 in absurd cc;
                others = λ other apart cluster h e. let before = h (sym found ∙ e) in (before.0, world_is ∙ before.1, before.2);
              },
            );
            heard_whole = refl;
            text_is = refl;
            kept = kept_at name old new head_is world_is (apart_then kept) found (λ place t named there. ap (open_at place) given.1 ∙ admitted_others old.tenants (next_slot old.tenants) tenant may place t there) kept;
            was = was_is ∙ sym (ap (λ b. old.was_open || b) differs ∙ or_false old.was_open);
          }

  admitted_said : (tenants : List (Option Tenant)) (tenant : Tenant) (new : List (Option Tenant)) → IsGiven tenants tenant true new → OfHost (admission_of tenants (Some tenant)) ≡ OfHost (Admits (next_slot tenants) tenant)
  admitted_said tenants tenant new given = ap (λ o. OfHost (admission_unless tenants tenant o)) given.0

  pub named_takes : (old new : SoloRun W) (tenant : Tenant) (world : W) (given : Bool) → given ≡ true → IsGiven old.tenants tenant given new.tenants → new.head ≡ old.head → new.world ≡ Some world → new.was_open ≡ true →
      IsNew setup StandsFor (with_tenant_alone old.head tenant) world → Takes setup StandsFor tenant.name old (OfHost (admission_of old.tenants (Some tenant))) [] new
  named_takes old new tenant world given is h head_is world_is was_is fresh = (
    (λ still. absurd (true≢false (sym was_is ∙ still))),
    (λ kept.
        let granted = subst (λ b. IsGiven old.tenants tenant b new.tenants) is h in
        subst (λ s. IsTaken setup StandsFor tenant.name old s [] new) (sym (admitted_said old.tenants tenant new.tenants granted))
        (named_taken tenant.name old new tenant head_is granted world (same_bytes tenant.name) world_is was_is fresh kept)),
  )

  -- the table refuses the tenant
  pub denied_takes : (name : List ℕ) (old new : SoloRun W) (tenant : Tenant) (given : Bool) → given ≡ false → IsGiven old.tenants tenant given new.tenants → new.head ≡ old.head → new.world ≡ old.world → new.was_open ≡ old.was_open →
      Takes setup StandsFor name old (OfHost (admission_of old.tenants (Some tenant))) [] new
  denied_takes name old new tenant given is h head_is world_is was_is =
      let denied = subst (λ b. IsGiven old.tenants tenant b new.tenants) is h in
      subst (λ s. Takes setup StandsFor name old s [] new) (sym (ap (λ o. OfHost (admission_unless old.tenants tenant o)) denied.1)) (refused_takes name old new denied.0 head_is world_is denied.2 was_is)

  other_given : (name : List ℕ) (old new : SoloRun W) (tenant : Tenant) (given : Bool) → bytes_eq tenant.name name ≡ false → IsGiven old.tenants tenant given new.tenants → new.head ≡ old.head → new.world ≡ old.world → new.was_open ≡ old.was_open →
      Takes setup StandsFor name old (OfHost (admission_of old.tenants (Some tenant))) [] new
  other_given name old new tenant false differs h head_is world_is was_is = denied_takes name old new tenant false refl h head_is world_is was_is
  other_given name old new tenant true differs h head_is world_is was_is = (
    quiet old new was_is,
    (λ kept.
        subst (λ s. IsTaken setup StandsFor name old s [] new) (sym (admitted_said old.tenants tenant new.tenants h)) (other_taken name old new tenant head_is h differs world_is was_is kept)),
  )

  pub other_takes : (name : List ℕ) (old new : SoloRun W) (read : Option Tenant) (tenant : Tenant) (given : Bool) → read ≡ Some tenant → bytes_eq tenant.name name ≡ false → IsGiven old.tenants tenant given new.tenants → new.head ≡ old.head → new.world ≡ old.world →
      new.was_open ≡ old.was_open → Takes setup StandsFor name old (OfHost (admission_of old.tenants read)) [] new
  other_takes name old new read tenant given is differs h head_is world_is was_is =
      subst (λ o. Takes setup StandsFor name old (OfHost (admission_of old.tenants o)) [] new) (sym is) (other_given name old new tenant given differs h head_is world_is was_is)

  -- ---- a close

  pub closed_tenants : {T E : Type 0} (result : Result T E) (tenants new : List (Option Tenant)) (slot : ℕ) (tenant : Tenant) → open_at slot tenants ≡ Some tenant → OnOk result (new ≡ set tenants slot None) →
      IfSome (open_at slot tenants) (λ t. IsOk result) → new ≡ set tenants slot None
  closed_tenants (Ok done) tenants new slot tenant there held must = held
  closed_tenants {T = T} {E = E} (Err fault) tenants new slot tenant there held must =
      absurd (true≢false (sym (subst (λ o. IfSome o (λ (t : Tenant). IsOk {T = T} {E = E} (Err fault))) there must)))

  module _ (name : List ℕ) (old new : SoloRun W) (closed : List ℕ) (slot : ℕ) (found : open_slot_of_name old.tenants closed ≡ Some slot) (head_is : new.head ≡ old.head) (tenants_are : new.tenants ≡ set old.tenants slot None)
      (was_is : new.was_open ≡ old.was_open) where
    -- what the name finds then
    found_after : (there : HasNamedAt old.tenants closed slot) → IsKept setup StandsFor name old → open_slot_of_name new.tenants name ≡ cond (bytes_eq closed name) None (open_slot_of_name old.tenants name)
    found_after there kept =
        ap (λ ts. open_slot_of_name ts name) tenants_are ∙ closed_found old.tenants slot there.0 there.1 kept.apart name
        ∙ ap (λ n. cond (bytes_eq n name) None (open_slot_of_name old.tenants name)) (bytes_from_test there.0.name closed there.2)

    apart_after : (there : HasNamedAt old.tenants closed slot) → IsKept setup StandsFor name old → AreApart (λ tenant. tenant.name) new.tenants
    apart_after there kept = subst (AreApart (λ tenant. tenant.name)) (sym tenants_are) (closed_apart old.tenants slot there.0 there.1 kept.apart)

    closing_said : (said : Said) → said ≡ OfHost (Closes slot closed) → IsSilent setup StandsFor old [] new → (IsKept setup StandsFor name old → IsTaken setup StandsFor name old (OfHost (Closes slot closed)) [] new) → Takes setup StandsFor name old said [] new
    closing_said said is silent taken = subst (λ s. Takes setup StandsFor name old s [] new) (sym is) (silent, taken)

    -- the tenant's world ends
    named_closed : bytes_eq closed name ≡ true → new.world ≡ None → IsKept setup StandsFor name old → IsTaken setup StandsFor name old (OfHost (Closes slot closed)) [] new
    named_closed named world_is kept =
        let there = named_found old.tenants closed slot found in
        let gone : open_slot_of_name new.tenants name ≡ None = found_after there kept ∙ ap (λ b. cond b None (open_slot_of_name old.tenants name)) named in
        record {
          answer = ToHost (Closed closed);
          done = (
            refl,
            record {
              setup_is = λ i. record { head = head_is i; tenants = tenants_are i };
              others = λ other apart cluster h e. let clash : None ≡ Some other = sym gone ∙ e in absurd cc;
            },
          );
          heard_whole = refl;
          text_is = refl;
          kept = record { apart = apart_after there kept; world_is = subst (λ o. IsWorldOf setup StandsFor name new.head new.tenants new.world o) (sym gone) world_is };
          was = was_is ∙ sym (or_false old.was_open);
        }

    other_closed : bytes_eq closed name ≡ false → new.world ≡ old.world → IsKept setup StandsFor name old → IsTaken setup StandsFor name old (OfHost (Closes slot closed)) [] new
    other_closed differs world_is kept =
        let there = named_found old.tenants closed slot found in
        let same : open_slot_of_name new.tenants name ≡ open_slot_of_name old.tenants name = found_after there kept ∙ ap (λ b. cond b None (open_slot_of_name old.tenants name)) differs in
        let apart_name : bytes_eq there.0.name name ≡ false = ap (λ n. bytes_eq n name) (bytes_from_test there.0.name closed there.2) ∙ differs in
        record {
          answer = ToHost (Closed closed);
          done = (
            refl,
            record {
              setup_is = λ i. record { head = head_is i; tenants = tenants_are i };
              others = λ other apart cluster h e. let before = h (sym same ∙ e) in (before.0, world_is ∙ before.1, before.2);
            },
          );
          heard_whole = refl;
          text_is = refl;
          kept = kept_at name old new head_is world_is (apart_after there kept) same
              (λ place t named at. ap (open_at place) tenants_are ∙ closed_others old.tenants slot there.0 there.1 kept.apart name apart_name place t named at) kept;
          was = was_is ∙ sym (or_false old.was_open);
        }

    pub named_closes : (read : Option (List ℕ)) → read ≡ Some closed → bytes_eq closed name ≡ true → new.world ≡ None → Takes setup StandsFor name old (OfHost (closing_of old.tenants read)) [] new
    named_closes read is named world_is =
        closing_said (OfHost (closing_of old.tenants read)) (ap (λ o. OfHost (closing_of old.tenants o)) is ∙ ap (λ o. OfHost (closing_at closed o)) found) (quiet old new was_is) (named_closed named world_is)

    pub other_closes : (read : Option (List ℕ)) → read ≡ Some closed → bytes_eq closed name ≡ false → new.world ≡ old.world → Takes setup StandsFor name old (OfHost (closing_of old.tenants read)) [] new
    other_closes read is differs world_is =
        closing_said (OfHost (closing_of old.tenants read)) (ap (λ o. OfHost (closing_of old.tenants o)) is ∙ ap (λ o. OfHost (closing_at closed o)) found) (quiet old new was_is) (other_closed differs world_is)

  -- ---- a line of the name

  -- nobody has it, and there is no world
  module _ (name line : List ℕ) (old new : SoloRun W) (head_is : new.head ≡ old.head) (world_is : new.world ≡ old.world) (tenants_are : new.tenants ≡ old.tenants) (was_is : new.was_open ≡ old.was_open) (none : old.world ≡ None) where
    nobody_taken : (found : Option ℕ) → open_slot_of_name old.tenants name ≡ found → IsKept setup StandsFor name old → IsTaken setup StandsFor name old (said_found line found) [] new
    nobody_taken None e kept = refused_taken name old new UnknownTenant head_is world_is tenants_are was_is kept
    nobody_taken (Some slot) e kept =
        let held = subst (λ o. IsWorldOf setup StandsFor name old.head old.tenants old.world o) e kept.world_is in
        let clash : None ≡ Some held.1 = sym none ∙ held.4 in absurd cc

    pub nobody_takes : name ≡ first_word line → (out : List ℕ) → Answers (λ text r. Takes setup StandsFor name old (said_found line (open_slot_of_name old.tenants (first_word line))) text r) new out out
    nobody_takes is_first out = record {
      text = [];
      answered = subst (λ w. Takes setup StandsFor name old (said_found line (open_slot_of_name old.tenants w)) [] new) is_first (quiet old new was_is, nobody_taken (open_slot_of_name old.tenants name) refl);
      appended = sym (append-nil out);
    }

  module _ (name line : List ℕ) (old new : SoloRun W) (world after : W) (text : List ℕ) (world_is : old.world ≡ Some world) (after_is : new.world ≡ Some after) (head_is : new.head ≡ old.head) (tenants_are : new.tenants ≡ old.tenants)
      (was_is : new.was_open ≡ old.was_open) where
    module _ (slot : ℕ) (tenant : Tenant) (found : open_slot_of_name old.tenants name ≡ Some slot) (there : open_at slot old.tenants ≡ Some tenant) (named : bytes_eq tenant.name name ≡ true) (alone : setup world ≡ new_setup (with_tenant_alone old.head tenant))
        (kept : IsKept setup StandsFor name old) where
      config_is : config_in (solo_setup old) slot ≡ config_in (setup world) 0
      config_is = ap (config_of old.head) there ∙ sym (ap (λ (s : Setup). config_in s 0) alone)

      -- the tenant's world has the cluster that represents it
      his : (cluster : SoloCluster) → SoloStands setup StandsFor name old slot cluster → StandsFor world 0 cluster
      his cluster h = let held = h found in let same : Some held.0 ≡ Some world = sym held.1 ∙ world_is in subst (λ w. StandsFor w 0 cluster) (let is : held.0 ≡ world = cc in is) held.2

      stands_then : (cluster : SoloCluster) → StandsFor after 0 cluster → SoloStands setup StandsFor name new slot cluster
      stands_then cluster h e = (after, after_is, h)

      setup_stays : solo_setup new ≡ solo_setup old
      setup_stays = λ i. record { head = head_is i; tenants = tenants_are i }

      no_other : {C : Type 0} (other : ℕ) → slot ≢ other → open_slot_of_name new.tenants name ≡ Some other → C
      no_other {C} other differs e = let same : Some slot ≡ Some other = sym found ∙ ap (λ ts. open_slot_of_name ts name) (sym tenants_are) ∙ e in absurd (differs cc)

      kept_then : setup after ≡ setup world → IsKept setup StandsFor name new
      kept_then same = record {
        apart = subst (AreApart (λ tenant. tenant.name)) (sym tenants_are) kept.apart;
        world_is = subst (λ o. IsWorldOf setup StandsFor name new.head new.tenants new.world o) (sym (ap (λ ts. open_slot_of_name ts name) tenants_are ∙ found))
            (tenant, after, ap (open_at slot) tenants_are ∙ there, named, after_is, same ∙ alone ∙ ap (λ (h : Config). new_setup (with_tenant_alone h tenant)) (sym head_is));
      }

      -- the line is written under the tenant's name
      line_is : (reply : Reply) → slot_line (setup world).tenants (ToTenant 0 reply) ≡ slot_line old.tenants (ToTenant slot reply)
      line_is reply = ap (λ (s : Setup). slot_line s.tenants (ToTenant 0 reply)) alone ∙ sym (ap (λ o. reply_line (option_map_or (λ (t : Tenant). t.name) o []) reply) there)

      told : (act : Option Act) (answer : Answer) → IsDone setup StandsFor world (said_by 0 act) answer after → text ≡ slot_line (setup world).tenants answer → IsTaken setup StandsFor name old (said_by slot act) text new
      told None answer (is, stayed) text_is = record {
        answer = ToTenant slot (Refused Syntax);
        done = (
          refl,
          record {
            same = setup_stays;
            clusters = λ other cluster h e.
                let same : Some slot ≡ Some other = sym found ∙ ap (λ ts. open_slot_of_name ts name) (sym tenants_are) ∙ e in
                let at : slot ≡ other = cc in
                (after, after_is, stayed.clusters 0 cluster (his cluster (subst (λ n. SoloStands setup StandsFor name old n cluster) (sym at) h)));
          },
        );
        heard_whole = refl;
        text_is = text_is ∙ ap (slot_line (setup world).tenants) is ∙ line_is (Refused Syntax);
        kept = kept_then stayed.same;
        was = was_is ∙ sym (or_false old.was_open);
      }
      told (Some act) answer (answered, is, acted) text_is = record {
        answer = ToTenant slot (told_act answered);
        done = (
          answered,
          refl,
          record {
            same = setup_stays;
            own = IfOk-weaker answered _ _ (λ reply own exact cluster h.
                let turned = own exact cluster (his cluster h) in
                let turn : (config : TenantConfig) → record { reply : Reply; after : SoloCluster } = λ config. cluster_step config act cluster in
                (turned.0 ∙ ap (λ c. (turn c).reply) (sym config_is), λ e. (after, after_is, subst (λ c. StandsFor after 0 (turn c).after) (sym config_is) turned.1))) acted.own;
            lack = λ lacks cluster h.
                let turned = acted.lack lacks cluster (his cluster h) in
                (turned.0, subst (λ c. Lacks c act cluster turned.0) (sym config_is) turned.1, λ e. (after, after_is, turned.2));
            others = λ other differs cluster h e. no_other other differs e;
          },
        );
        heard_whole = refl;
        text_is = text_is ∙ ap (slot_line (setup world).tenants) is ∙ line_is (told_act answered);
        kept = kept_then acted.same;
        was = was_is ∙ sym (or_false old.was_open);
      }

      answered : IsAnswered setup StandsFor world (said_found line (open_slot_of_name (setup world).tenants name)) text after → IsTaken setup StandsFor name old (said_by slot (act_in (first_word line) line)) text new
      answered h =
          let at : open_slot_of_name (setup world).tenants name ≡ Some 0 = ap (λ (s : Setup). open_slot_of_name s.tenants name) alone ∙ found_alone tenant name named in
          let here = subst (λ o. IsAnswered setup StandsFor world (said_found line o) text after) at h in
          told (act_in (first_word line) line) here.0 here.1 here.2

    answered_at : (found : Option ℕ) → open_slot_of_name old.tenants name ≡ found → IsAnswered setup StandsFor world (said_found line (open_slot_of_name (setup world).tenants name)) text after → IsKept setup StandsFor name old →
        IsTaken setup StandsFor name old (said_found line found) text new
    answered_at None e h kept =
        let held = subst (λ o. IsWorldOf setup StandsFor name old.head old.tenants old.world o) e kept.world_is in
        let clash : None ≡ Some world = sym held ∙ world_is in absurd cc
    answered_at (Some slot) e h kept =
        let held = subst (λ o. IsWorldOf setup StandsFor name old.head old.tenants old.world o) e kept.world_is in
        let same : Some held.1 ≡ Some world = sym held.4 ∙ world_is in
        let is : held.1 ≡ world = cc in
        answered slot held.0 e held.2 held.3 (ap setup (sym is) ∙ held.5) kept h

  pub world_takes : (word line : List ℕ) (old new : SoloRun W) (world after : W) (out new_out : List ℕ) → word ≡ first_word line → (IsFalse old.was_open → old.world ≡ None) → old.world ≡ Some world → new.world ≡ Some after → new.head ≡ old.head → new.tenants ≡ old.tenants →
      new.was_open ≡ old.was_open → Answers (λ text w. IsAnswered setup StandsFor world (said_found line (open_slot_of_name (setup world).tenants (first_word line))) text w) after out new_out →
      Answers (λ text r. Takes setup StandsFor word old (said_found line (open_slot_of_name old.tenants (first_word line))) text r) new out new_out
  world_takes word line old new world after out new_out is_first silent world_is after_is head_is tenants_are was_is p = record {
    text = p.text;
    answered = subst (λ w. Takes setup StandsFor word old (said_found line (open_slot_of_name old.tenants w)) p.text new) is_first (
      (λ still. let clash : None ≡ Some world = sym (silent (sym was_is ∙ still)) ∙ world_is in absurd cc),
      (λ kept.
          answered_at word line old new world after p.text world_is after_is head_is tenants_are was_is (open_slot_of_name old.tenants word) refl
          (subst (λ w. IsAnswered setup StandsFor world (said_found line (open_slot_of_name (setup world).tenants w)) p.text after) (sym is_first) p.answered) kept),
    );
    appended = p.appended;
  }

  -- ---- a line of the host

  pub answers_taken : (name line : List ℕ) (old new : SoloRun W) (said : Said) (out : List ℕ) → is_host_line line ≡ true → said_in old.tenants line ≡ said → Takes setup StandsFor name old said [] new →
      Answers (λ text r. AnswersOwn setup StandsFor (is_own name line) name old line text r) new out out
  answers_taken name line old new said out is_host says takes = record {
    text = [];
    answered = subst (λ b. AnswersOwn setup StandsFor b name old line [] new) (sym (ap (λ b. b || bytes_eq (first_word line) name) is_host)) (subst (λ s. Takes setup StandsFor name old s [] new) (sym says) takes);
    appended = sym (append-nil out);
  }

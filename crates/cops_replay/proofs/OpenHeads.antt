-- The tenants who are open behind the lines of a script could stand in a head.
use Rattle.cops_replay.proofs.Names.{◌≡◌, ℕ, zero, suc, ◌+◌, ◌-◌, ◌<◌, ◌≤◌, Bool, true, false, cond, ◌==◌, List, [], ◌∷◌, ◌++◌, length, map, set, refl, sym, ap, ◌∙◌, append-nil, arith, codes, replicate, slice_get, Option, Some, None, AllByRecursion, list_any, bytes_eq, length-set, nat_tests, Config, Tenant, Fault, AtStart, Whole, head_of, most_tenants, begun_with, has_name, open_at, open_slot_of_name, AreApart, has_text, first_word, last_clock, both_fail, left_fails, right_fails, said_to, left_config, open_tenants, with_tenants, tenant_in, admitted_in, closed_in, plus, admission_refusal, has_token, apart_behind, tenant_in-is, admitted-good, apart_left, apart_put, Said, OfHost, admission_of, admission_unless, begins_admission, begins_closing, closing_of, said_found, said_in, tenants_after, tenants_past, next_slot, may_be_given}
use Rattle.cops_replay.proofs.AuditTexts.{each_at}
use Rattle.cops_replay.proofs.HeadsBack.{AreAllApart, AreFit, IsFit, IsOfHead, IsToken, head_leads, head_read, of_head, parsed_token, written_head}

-- ---- tenants who are open

abbrev IsFitThere : Option Tenant → Type 0
IsFitThere None = Unit {0}
IsFitThere (Some tenant) = IsFit last_clock tenant

-- each slot that may be given is there, who is open is fit for a head, and no two have one name or one token
record CanStand (tenants : List (Option Tenant)) : Type 0 where
  all : length tenants ≡ most_tenants
  fit : AllByRecursion IsFitThere tenants
  apart : AreAllApart tenants

begun_stands : (config : Config) → IsOfHead last_clock config → CanStand (begun_with config.tenants)
begun_stands config is = record {
  all = (let long = long_behind config.tenants (most_tenants - length config.tenants) in let few = is.few in omega (arith, long, few));
  fit = fit_behind config.tenants (most_tenants - length config.tenants) is.fit;
  apart = record {
    names = apart_behind (λ t. t.name) config.tenants (most_tenants - length config.tenants) is.apart.names;
    tokens = apart_behind (λ t. t.token) config.tenants (most_tenants - length config.tenants) is.apart.tokens;
  };
}
  where
    long_behind : (tenants : List Tenant) (free : ℕ) → length (map (λ (t : Tenant). Some t) tenants ++ replicate free None) ≡ length tenants + free
    long_behind [] zero = refl
    long_behind [] (suc free) = let more = long_behind [] free in omega (arith, more)
    long_behind (x ∷ tenants) free = let more = long_behind tenants free in omega (arith, more)

    fit_behind : (tenants : List Tenant) (free : ℕ) → AreFit last_clock tenants → AllByRecursion IsFitThere (map Some tenants ++ replicate free None)
    fit_behind [] zero fit = tt
    fit_behind [] (suc free) fit = (tt, fit_behind [] free fit)
    fit_behind (x ∷ tenants) free fit = (fit.0, fit_behind tenants free fit.1)

fit_set : (tenants : List (Option Tenant)) (slot : ℕ) (o : Option Tenant) → AllByRecursion IsFitThere tenants → IsFitThere o → AllByRecursion IsFitThere (set tenants slot o)
fit_set [] slot o fit own = tt
fit_set (t ∷ tenants) zero o fit own = (own, fit.1)
fit_set (t ∷ tenants) (suc slot) o fit own = (fit.0, fit_set tenants slot o fit.1 own)

free_there : (tenants : List (Option Tenant)) (slot : ℕ) → slot < length tenants → open_at slot tenants ≡ None → slice_get tenants slot ≡ Some None
free_there [] slot below vacant = absurd (omega arith)
free_there (t ∷ tenants) zero below vacant = ap Some vacant
free_there (t ∷ tenants) (suc slot) below vacant = free_there tenants slot (omega arith) vacant

-- no open tenant has its name, or its token
fresh_to : (tenants : List (Option Tenant)) (slot : ℕ) (tenant : Tenant) → admission_refusal tenants slot tenant ≡ None → (list_any (has_name tenant.name) tenants ≡ false) × (list_any (has_token tenant.token) tenants ≡ false)
fresh_to tenants slot tenant e = grind (arith, nat_tests)

admitted_token : (line : List ℕ) (tenant : Tenant) → admitted_in line ≡ Some tenant → IsToken tenant.token
admitted_token [] tenant e = absurd cc
admitted_token (sign ∷ rest) tenant e = by (sign == plus) e
  where
    by : (t : Bool) → cond t (tenant_in (codes "tenant" ++ rest)) None ≡ Some tenant → IsToken tenant.token
    by true e = let is = tenant_in-is (codes "tenant" ++ rest) tenant e in parsed_token is.token tenant.token is.parses
    by false e = absurd cc

-- ---- one line more

module _ (tenants : List (Option Tenant)) (can : CanStand tenants) where
  abbrev After : Said → Type 0
  After said = CanStand (tenants_after tenants said)

  unless_stands : (tenant : Tenant) (refusal : Option Fault) → IsFit last_clock tenant → admission_refusal tenants (next_slot tenants) tenant ≡ refusal → After (OfHost (admission_unless tenants tenant refusal))
  unless_stands tenant refusal h2 h3 = grind (arith, nat_tests, apart_put, fit_set, free_there, fresh_to, length-set, may_be_given)

  admission_stands : (line : List ℕ) (found : Option Tenant) → admitted_in line ≡ found → After (OfHost (admission_of tenants found))
  admission_stands line None e = can
  admission_stands line (Some tenant) e =
      unless_stands tenant (admission_refusal tenants (next_slot tenants) tenant) (record { good = admitted-good line tenant e; token = admitted_token line tenant e }) refl

  closing_stands : (found : Option (List ℕ)) → After (OfHost (closing_of tenants found))
  closing_stands found = grind (arith, nat_tests, apart_left, fit_set, length-set)

  at_stands : (line : List ℕ) (found : Option ℕ) → After (said_found line found)
  at_stands line found = grind (arith, nat_tests)

  after_stands : (line : List ℕ) → After (said_in tenants line)
  after_stands line =
      by (begins_admission line) (begins_closing line) (OfHost (admission_of tenants (admitted_in line))) (OfHost (closing_of tenants (closed_in line))) (said_found line (open_slot_of_name tenants (first_word line)))
      (admission_stands line (admitted_in line) refl) (closing_stands (closed_in line)) (at_stands line (open_slot_of_name tenants (first_word line)))
    where
      by : (a b : Bool) (x y z : Said) → After x → After y → After z → After (cond a x (cond b y z))
      by true b x y z p q r = p
      by false true x y z p q r = q
      by false false x y z p q r = r

past_stands : (tenants : List (Option Tenant)) (lines : List (List ℕ)) → CanStand tenants → CanStand (tenants_past tenants (said_to tenants lines))
past_stands tenants [] can = can
past_stands tenants (line ∷ lines) can = past_stands (tenants_after tenants (said_in tenants line)) lines (after_stands tenants can line)

-- ---- who is open, in a head of its own

fit_open : (tenants : List (Option Tenant)) → AllByRecursion IsFitThere tenants → AreFit last_clock (open_tenants tenants)
fit_open [] fit = tt
fit_open (None ∷ tenants) fit = fit_open tenants fit.1
fit_open (Some t ∷ tenants) fit = (fit.0, fit_open tenants fit.1)

few_open : (tenants : List (Option Tenant)) → length (open_tenants tenants) ≤ length tenants
few_open [] = omega arith
few_open (None ∷ tenants) = let few = few_open tenants in omega (arith, few)
few_open (Some t ∷ tenants) = let few = few_open tenants in omega (arith, few)

module _ (text_of : Tenant → List ℕ) where
  none_open : (text : List ℕ) (tenants : List (Option Tenant)) → list_any (has_text text_of text) tenants ≡ false → list_any (has_text text_of text) (map Some (open_tenants tenants)) ≡ false
  none_open text [] h = refl
  none_open text (None ∷ tenants) h = none_open text tenants h
  none_open text (Some t ∷ tenants) h =
      let mine = bytes_eq (text_of t) text in
      both_fail mine (list_any (has_text text_of text) (map Some (open_tenants tenants))) (left_fails mine (list_any (has_text text_of text) tenants) h)
      (none_open text tenants (right_fails mine (list_any (has_text text_of text) tenants) h))

  apart_open : (tenants : List (Option Tenant)) → AreApart text_of tenants → AreApart text_of (map Some (open_tenants tenants))
  apart_open [] apart = tt
  apart_open (None ∷ tenants) apart = apart_open tenants apart
  apart_open (Some t ∷ tenants) apart = (none_open (text_of t) tenants apart.0, apart_open tenants apart.1)

module _ (lines rest : List (List ℕ)) (config : Config) (head : head_of lines ≡ Whole config rest) where
  abbrev tenants : List (Option Tenant)
  tenants = tenants_past (begun_with config.tenants) (said_to (begun_with config.tenants) rest)

  is : IsOfHead last_clock config
  is = of_head lines rest config head

  can : CanStand tenants
  can = past_stands (begun_with config.tenants) rest (begun_stands config is)

  -- the lines of such a head
  pub open_head : head_of (written_head (left_config config rest)) ≡ Whole (left_config config rest) []
  open_head =
      let few = few_open tenants in
      let all = can.all in
      let leads = head_leads config (open_tenants tenants) is.sizes (omega (arith, few, all)) (fit_open tenants can.fit)
      (record { names = apart_open (λ t. t.name) tenants can.apart.names; tokens = apart_open (λ t. t.token) tenants can.apart.tokens }) in
      ap head_of (sym (append-nil (written_head (left_config config rest)))) ∙ head_read (written_head (left_config config rest)) [] 1 AtStart (left_config config rest) leads

  -- and those of a head with one of them alone
  pub lone_head : (place : ℕ) (tenant : Tenant) → slice_get (left_config config rest).tenants place ≡ Some tenant → head_of (written_head (with_tenants config (tenant ∷ []))) ≡ Whole (with_tenants config (tenant ∷ [])) []
  lone_head place tenant at =
      let fit = each_at (IsFit last_clock) (open_tenants tenants) place tenant (fit_open tenants can.fit) at in
      let lone = with_tenants config (tenant ∷ []) in
      let leads = head_leads config (tenant ∷ []) is.sizes (omega arith) (fit, tt) (record { names = (refl, tt); tokens = (refl, tt) }) in
      ap head_of (sym (append-nil (written_head lone))) ∙ head_read (written_head lone) [] 1 AtStart lone leads

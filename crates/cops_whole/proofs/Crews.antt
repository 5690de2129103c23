-- A list of seats with what they did, by number.
use Rattle.std.proofs.Common.{◌≡◌, ℕ, suc, ◌<◌, ◌≤◌, max, true, false, cond, ◌==◌, List, [], ◌∷◌, map, inl, inr, refl, sym, ◌∙◌, ap, subst, true≢false, arith}
use Rattle.std.specs.List.{AllByRecursion}
use Rattle.std.proofs.lemmas.Bool.Decides.{Decides-eqb}
use Rattle.cops_types.specs.declared.configs.Config.{Config}
use Rattle.cops_gate.specs.declared.history.Turn.{Turn}
use Rattle.cops_gate.specs.Accounts.{no_account}
use Rattle.cops_gate.specs.History.{turns_of}
use Rattle.cops_gate.specs.Rule.{AreDistinctNumbers, Met}
use Rattle.cops_gate.specs.Seats.{AreMadeBy, gate_home}
use Rattle.cops_gate.proofs.Ending.{all_weaker}
use Rattle.cops_node.specs.Parts.{Shared}
use Rattle.cops_service.specs.Desks.{NodeSeat}
use Rattle.cops_service.specs.Gates.{Gates}
use Rattle.cops_service.specs.Slots.{NodeLog}
use Rattle.cops_whole.specs.Services.{IsCrewRun, IsNumbered, IsServiceRun, SeatActors, SeatDeeds, SeatDid, did_by, past_numbers}

module _ {D : Type 0} where
  -- the largest number is less
  within : (crew : List (SeatDeeds D)) (number : ℕ) → IsNumbered crew number → number < past_numbers crew
  within [] number is = absurd is
  within (s ∷ crew) number (inl is) = subst (λ n. n < max (suc s.number) (past_numbers crew)) is (omega arith)
  within (s ∷ crew) number (inr is) = let below : number < past_numbers crew = within crew number is in omega (arith, below)

  -- a number that no seat has
  none_numbered : (crew : List (SeatDeeds D)) (number : ℕ) → (IsNumbered crew number → ⊥) → did_by crew number ≡ []
  none_numbered [] number none = refl
  none_numbered (s ∷ crew) number none = elim (s.number == number) as (λ b. (s.number == number) ≡ b → cond b s.did (did_by crew number) ≡ []) [
    | true ↦ λ is. absurd (none (inl ((Decides-eqb s.number number).0 is)))
    | false ↦ λ apart. none_numbered crew number (λ is. none (inr is))
  ] refl

  pub none_past : (crew : List (SeatDeeds D)) (number : ℕ) → past_numbers crew ≤ number → did_by crew number ≡ []
  none_past crew number past = none_numbered crew number (λ is. let below : number < past_numbers crew = within crew number is in omega (arith, below, past))

  -- a number that is there has what its first seat did, and any other number nothing
  pub by_number : (P : ℕ → List D → Type 0) (crew : List (SeatDeeds D)) → AllByRecursion (λ (s : SeatDeeds D). P s.number s.did) crew → (number : ℕ) → ((IsNumbered crew number → ⊥) → P number []) → P number (did_by crew number)
  by_number P [] all number unless = unless (λ is. is)
  by_number P (s ∷ crew) all number unless = elim (s.number == number) as (λ b. (s.number == number) ≡ b → P number (cond b s.did (did_by crew number))) [
    | true ↦ λ is. subst (λ n. P n s.did) ((Decides-eqb s.number number).0 is) all.0
    | false ↦ λ apart. by_number P crew all.1 number (λ none. unless (λ is. elim is [
      | inl same ↦ true≢false (sym ((Decides-eqb s.number number).1 same) ∙ apart)
      | inr later ↦ none later
    ]))
  ] refl

  is_numbered : (crew : List (SeatDeeds D)) (number : ℕ) → Met number (map (λ (s : SeatDeeds D). s.number) crew) → IsNumbered crew number
  is_numbered [] number met = absurd met
  is_numbered (s ∷ crew) number (inl this) = inl (sym this)
  is_numbered (s ∷ crew) number (inr later) = inr (is_numbered crew number later)

  -- others have another number
  others_known : (s : SeatDeeds D) (did : ℕ → List D) (crew : List (SeatDeeds D)) → (Met s.number (map (λ (t : SeatDeeds D). t.number) crew) → ⊥) → AllByRecursion (λ (t : SeatDeeds D). did t.number ≡ t.did) crew →
      AllByRecursion (λ (t : SeatDeeds D). cond (s.number == t.number) s.did (did t.number) ≡ t.did) crew
  others_known s did [] never all = tt
  others_known s did (t ∷ crew) never all = (
    elim (s.number == t.number) as (λ b. (s.number == t.number) ≡ b → cond b s.did (did t.number) ≡ t.did) [
      | true ↦ λ is. absurd (never (inl ((Decides-eqb s.number t.number).0 is)))
      | false ↦ λ apart. all.0
    ] refl,
    others_known s did crew (λ met. never (inr met)) all.1,
  )

  -- seats with different numbers are each the first with theirs
  pub by_own_number : (crew : List (SeatDeeds D)) → AreDistinctNumbers (map (λ (s : SeatDeeds D). s.number) crew) → AllByRecursion (λ (s : SeatDeeds D). did_by crew s.number ≡ s.did) crew
  by_own_number [] apart = tt
  by_own_number (s ∷ crew) apart = (
    ap (λ b. cond b s.did (did_by crew s.number)) ((Decides-eqb s.number s.number).1 refl),
    others_known s (did_by crew) crew apart.0 (by_own_number crew apart.1),
  )

-- ---- turns of these seats

module _ {C R D : Type 0} where
  pub all_within : (crew : List (SeatDeeds D)) (history : List (Turn C R)) → AllByRecursion (λ (t : Turn C R). IsNumbered crew t.seat) history → AllByRecursion (λ (t : Turn C R). t.seat < past_numbers crew) history
  all_within crew [] all = tt
  all_within crew (t ∷ ts) all = (within crew t.seat all.0, all_within crew ts all.1)

  pub no_turns : (crew : List (SeatDeeds D)) (number : ℕ) (history : List (Turn C R)) → (IsNumbered crew number → ⊥) → AllByRecursion (λ (t : Turn C R). IsNumbered crew t.seat) history → turns_of number history ≡ []
  no_turns crew number [] none all = refl
  no_turns crew number (t ∷ ts) none all = elim (t.seat == number) as (λ b. (t.seat == number) ≡ b → cond b (t ∷ turns_of number ts) (turns_of number ts) ≡ []) [
    | true ↦ λ is. absurd (none (subst (IsNumbered crew) ((Decides-eqb t.seat number).0 is) all.0))
    | false ↦ λ apart. no_turns crew number ts none all.1
  ] refl

  pub all_numbered : (crew : List (SeatDeeds D)) (history : List (Turn C R)) → AreMadeBy (map (λ (s : SeatDeeds D). s.number) crew) history → AllByRecursion (λ (t : Turn C R). IsNumbered crew t.seat) history
  all_numbered crew history made =
      all_weaker (λ (t : Turn C R). Met t.seat (map (λ (s : SeatDeeds D). s.number) crew)) (λ (t : Turn C R). IsNumbered crew t.seat) history (λ t met. is_numbered crew t.seat met) made

-- ---- a crew of actors

module _ (config : Config) (cluster : Gates Shared) (history : NodeLog) where
  -- a seat that made no turn had no actors
  idle : (number : ℕ) → turns_of number history ≡ [] → SeatDid config cluster history number []
  idle number none = record { first = unused; last = unused; number_is = refl; no_turn = refl; made = refl; behave = tt; all_of = ((history, refl), none) }
    where
      unused : NodeSeat
      unused = record { gate = gate_home cluster.gate; number = number; history = []; spent = []; account = no_account }

  pub run_of_crew : (crew : List SeatActors) → IsCrewRun config cluster history crew → IsServiceRun config cluster history (past_numbers crew) (did_by crew)
  run_of_crew crew run = record {
    gate = run.gate;
    seated = all_within crew history run.seated;
    did = λ number below. by_number (SeatDid config cluster history) crew run.did number (λ none. idle number (no_turns crew number history none run.seated));
    few = λ number past. none_past crew number past;
  }

-- The small history is one.
use Rattle.std.proofs.Common.{◌≡◌, ℕ, zero, suc, ◌≤◌, true, false, ◌==◌, [], ◌∷◌, inl, refl, sym, subst, arith}
use Rattle.std.specs.List.{AllByRecursion, flat_map}
use Rattle.std.specs.Prelude.{None, Some}
use Rattle.std.proofs.lemmas.Bool.Decides.{Decides-eqb}
use Rattle.cops_model.specs.Carrier.{Carrier, carrier_after, new_carrier}
use Rattle.cops_model.specs.Cluster.{OfCarrier, OfSession}
use Rattle.cops_model.specs.Log.{LogStep, Replied}
use Rattle.cops_model.specs.Request.{Action, Write, Fetch}
use Rattle.cops_model.specs.Session.{Running, Session, context_created, new_session, progress, request_begun, request_of, session_after}
use Rattle.cops_history.specs.Turns.{Turn, IsLegal, IsLegalAtEach, all_new, node_numbered, turns_at}
use Rattle.cops_history.specs.Commands.{turn_made_by}
use Rattle.cops_history.specs.History.{Behaves, IsServed, turns, turns_by}
use Rattle.cops_history.specs.Example.{carries, collects, commit_turn, config, did, get_turn, here, key, log, pull_turn, put_turn, reads, writes}

-- a session that begins this in its first context, and its one step
abbrev begun : ℕ → Action → Session
begun dc action = request_begun 1 action (context_created (new_session dc 1))

abbrev run : Action → Running
run action = record { number = 1; context = 1; action = action; log = [] }

abbrev step : Turn → LogStep
step t = record { moment = t.moment; outcome = Replied t.reply }

abbrev after : ℕ → Action → Turn → Session
after dc action t = session_after (begun dc action) (run action) (step t) (progress config (request_of (begun dc action) (run action)) [] (step t))

written : Behaves config None writes
written = (
  Some (OfSession (new_session 0 1)),
  (refl, refl, refl, refl),
  (
    Some (OfSession (context_created (new_session 0 1))),
    (new_session 0 1, refl, refl, refl, refl),
    (
      Some (OfSession (begun 0 (Write key (118 ∷ [])))),
      (refl, refl, (context_created (new_session 0 1), refl, refl, refl, refl)),
      (Some (OfSession (after 0 (Write key (118 ∷ [])) put_turn)), (begun 0 (Write key (118 ∷ [])), run (Write key (118 ∷ [])), refl, refl, refl, refl, (refl, refl)), tt),
    ),
  ),
)

was_read : Behaves config None reads
was_read = (
  Some (OfSession (new_session 1 1)),
  (refl, refl, refl, refl),
  (
    Some (OfSession (context_created (new_session 1 1))),
    (new_session 1 1, refl, refl, refl, refl),
    (
      Some (OfSession (begun 1 (Fetch (key ∷ [])))),
      (refl, refl, (context_created (new_session 1 1), refl, refl, refl, refl)),
      (Some (OfSession (after 1 (Fetch (key ∷ [])) get_turn)), (begun 1 (Fetch (key ∷ [])), run (Fetch (key ∷ [])), refl, refl, refl, refl, (refl, refl)), tt),
    ),
  ),
)

abbrev first_carrier : Carrier
first_carrier = new_carrier (record { origin = here; to_dc = 1 })

abbrev pulled : Carrier
pulled = carrier_after (new_carrier (record { origin = here; to_dc = 1 })) (step pull_turn)

abbrev stored : Carrier
stored = carrier_after (carrier_after (new_carrier (record { origin = here; to_dc = 1 })) (step pull_turn)) (step commit_turn)

was_carried : Behaves config None carries
was_carried = (
  Some (OfCarrier first_carrier),
  (refl, refl, refl, refl),
  (
    Some (OfCarrier pulled),
    (first_carrier, refl, refl, refl, (refl, refl)),
    (
      Some (OfCarrier stored),
      (pulled, refl, refl, refl, (refl, refl)),
      (None, (stored, refl, refl, refl, (refl, refl)), tt),
    ),
  ),
)

was_collected : Behaves config None collects
was_collected = (None, (refl, refl, refl), tt)

all_behave : (seat : ℕ) → AllByRecursion (Behaves config None) (did seat)
all_behave zero = (written, tt)
all_behave (suc zero) = (was_carried, tt)
all_behave (suc (suc zero)) = (was_read, (was_collected, tt))
all_behave (suc (suc (suc seat))) = tt

apart : (n m : ℕ) → (n ≡ m → ⊥) → (n == m) ≡ false
apart n m differ = elim (n == m) as (λ b. (n == m) ≡ b → b ≡ false) [ true ↦ λ is. absurd (differ ((Decides-eqb n m).0 is)) | false ↦ λ is. refl ] refl

all_made : (seat : ℕ) → flat_map (flat_map (λ t. turn_made_by t.command)) (did seat) ≡ turns_by seat log
all_made zero = refl
all_made (suc zero) = refl
all_made (suc (suc zero)) = refl
all_made (suc (suc (suc seat))) =
    let zeroth : (0 == suc (suc (suc seat))) ≡ false = apart 0 (suc (suc (suc seat))) (λ e. omega (arith, e)) in
    let one : (1 == suc (suc (suc seat))) ≡ false = apart 1 (suc (suc (suc seat))) (λ e. omega (arith, e)) in
    let two : (2 == suc (suc (suc seat))) ≡ false = apart 2 (suc (suc (suc seat))) (λ e. omega (arith, e)) in
    rw (zeroth, one, two) refl

all_legal : IsLegalAtEach config (all_new config) (turns log)
all_legal zero = (refl, inl refl, (refl, inl refl, (refl, inl refl, (refl, inl refl, tt))))
all_legal (suc zero) = (refl, inl refl, (refl, inl refl, tt))
all_legal (suc (suc number)) =
    let zeroth : (0 == suc (suc number)) ≡ false = apart 0 (suc (suc number)) (λ e. omega (arith, e)) in
    let one : (1 == suc (suc number)) ≡ false = apart 1 (suc (suc number)) (λ e. omega (arith, e)) in
    let none : turns_at config (suc (suc number)) (turns log) ≡ [] = rw (zeroth, one) refl in
    subst (IsLegal config (node_numbered config (suc (suc number)) (all_new config))) (sym none) tt

nothing : (seat : ℕ) → 3 ≤ seat → did seat ≡ []
nothing zero past = absurd (omega (arith, past))
nothing (suc zero) past = absurd (omega (arith, past))
nothing (suc (suc zero)) past = absurd (omega (arith, past))
nothing (suc (suc (suc seat))) past = refl

pub example : IsServed config log 3 did
example = record { legal = all_legal; behave = all_behave; make = all_made; few = nothing }

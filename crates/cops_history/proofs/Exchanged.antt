-- Each history is legal and each actor behaves, but no log has these histories and these actors.
use Rattle.std.proofs.Common.{◌≡◌, ℕ, zero, suc, Bool, true, false, cond, ◌==◌, List, [], ◌∷◌, map, inl, refl, sym, ◌∙◌, ap, true≢false}
use Rattle.std.specs.Prelude.{None, Some, filter}
use Rattle.std.specs.List.{AllByRecursion, flat_map}
use Rattle.cops_model.specs.Carrier.{Carrier, carrier_after, new_carrier}
use Rattle.cops_model.specs.Cluster.{OfCarrier, OfSession}
use Rattle.cops_model.specs.Log.{LogStep, Replied}
use Rattle.cops_model.specs.Request.{Action, Write, Fetch}
use Rattle.cops_model.specs.Session.{Running, Session, context_created, new_session, progress, request_begun, request_of, session_after}
use Rattle.cops_history.specs.Turns.{Turn, IsLegal, all_new, is_at, node_numbered}
use Rattle.cops_history.specs.Commands.{turn_made_by}
use Rattle.cops_history.specs.Example.{logged}
use Rattle.cops_history.specs.Exchanged.{actors_at, carrier_of_x, carrier_of_y, check_x, commit_x, commit_y, get_x, get_y, history_at, logged_at, node_at, pull_x, pull_y, put_x, put_y, reader, two_shards, value, writer, x, y}
use Rattle.cops_history.specs.History.{Behaves, Logged, turns, turns_by}

-- ---- each by itself

abbrev request : ℕ → Action → Running
request number action = record { number = number; context = 1; action = action; log = [] }

abbrev step : Turn → LogStep
step t = record { moment = t.moment; outcome = Replied t.reply }

-- a session after the one step of its request
abbrev after : Session → Running → Turn → Session
after s running t = session_after s running (step t) (progress two_shards (request_of s running) [] (step t))

abbrev puts_x : Session
puts_x = request_begun 1 (Write x.key value) (context_created (new_session 0 1))

abbrev puts_y : Session
puts_y = request_begun 1 (Write y.key value) (after puts_x (request 1 (Write x.key value)) put_x)

written : Behaves two_shards None writer
written = (
  Some (OfSession (new_session 0 1)),
  (refl, refl, refl, refl),
  (
    Some (OfSession (context_created (new_session 0 1))),
    (new_session 0 1, refl, refl, refl, refl),
    (
      Some (OfSession puts_x),
      (refl, refl, (context_created (new_session 0 1), refl, refl, refl, refl)),
      (
        Some (OfSession (after puts_x (request 1 (Write x.key value)) put_x)),
        (puts_x, request 1 (Write x.key value), refl, refl, refl, refl, (refl, refl)),
        (
          Some (OfSession puts_y),
          (refl, refl, (after puts_x (request 1 (Write x.key value)) put_x, refl, refl, refl, refl)),
          (Some (OfSession (after puts_y (request 2 (Write y.key value)) put_y)), (puts_y, request 2 (Write y.key value), refl, refl, refl, refl, (refl, refl)), tt),
        ),
      ),
    ),
  ),
)

abbrev gets_y : Session
gets_y = request_begun 1 (Fetch (y.key ∷ [])) (context_created (new_session 1 1))

abbrev gets_x : Session
gets_x = request_begun 1 (Fetch (x.key ∷ [])) (after gets_y (request 1 (Fetch (y.key ∷ []))) get_y)

was_read : Behaves two_shards None reader
was_read = (
  Some (OfSession (new_session 1 1)),
  (refl, refl, refl, refl),
  (
    Some (OfSession (context_created (new_session 1 1))),
    (new_session 1 1, refl, refl, refl, refl),
    (
      Some (OfSession gets_y),
      (refl, refl, (context_created (new_session 1 1), refl, refl, refl, refl)),
      (
        Some (OfSession (after gets_y (request 1 (Fetch (y.key ∷ []))) get_y)),
        (gets_y, request 1 (Fetch (y.key ∷ [])), refl, refl, refl, refl, (refl, refl)),
        (
          Some (OfSession gets_x),
          (refl, refl, (after gets_y (request 1 (Fetch (y.key ∷ []))) get_y, refl, refl, refl, refl)),
          (Some (OfSession (after gets_x (request 2 (Fetch (x.key ∷ []))) get_x)), (gets_x, request 2 (Fetch (x.key ∷ [])), refl, refl, refl, refl, (refl, refl)), tt),
        ),
      ),
    ),
  ),
)

abbrev carries_x : Carrier
carries_x = new_carrier (record { origin = node_at 0 0; to_dc = 1 })

abbrev carries_y : Carrier
carries_y = new_carrier (record { origin = node_at 0 1; to_dc = 1 })

x_carried : Behaves two_shards None carrier_of_x
x_carried = (
  Some (OfCarrier carries_x),
  (refl, refl, refl, refl),
  (
    Some (OfCarrier (carrier_after carries_x (step pull_x))),
    (carries_x, refl, refl, refl, (refl, refl)),
    (Some (OfCarrier (carrier_after (carrier_after carries_x (step pull_x)) (step commit_x))), (carrier_after carries_x (step pull_x), refl, refl, refl, (refl, refl)), tt),
  ),
)

y_carried : Behaves two_shards None carrier_of_y
y_carried = (
  Some (OfCarrier carries_y),
  (refl, refl, refl, refl),
  (
    Some (OfCarrier (carrier_after carries_y (step pull_y))),
    (carries_y, refl, refl, refl, (refl, refl)),
    (
      Some (OfCarrier (carrier_after (carrier_after carries_y (step pull_y)) (step check_x))),
      (carrier_after carries_y (step pull_y), refl, refl, refl, (refl, refl)),
      (
        Some (OfCarrier (carrier_after (carrier_after (carrier_after carries_y (step pull_y)) (step check_x)) (step commit_y))),
        (carrier_after (carrier_after carries_y (step pull_y)) (step check_x), refl, refl, refl, (refl, refl)),
        tt,
      ),
    ),
  ),
)

pub each_behaves : (seat : ℕ) → AllByRecursion (Behaves two_shards None) (actors_at seat)
each_behaves zero = (written, tt)
each_behaves (suc zero) = (x_carried, tt)
each_behaves (suc (suc zero)) = (y_carried, tt)
each_behaves (suc (suc (suc zero))) = (was_read, tt)
each_behaves (suc (suc (suc (suc seat)))) = tt

pub each_is_legal : (number : ℕ) → IsLegal two_shards (node_numbered two_shards number (all_new two_shards)) (turns (history_at number))
each_is_legal zero = (refl, inl refl, (refl, inl refl, tt))
each_is_legal (suc zero) = (refl, inl refl, (refl, inl refl, tt))
each_is_legal (suc (suc zero)) = (refl, inl refl, (refl, inl refl, (refl, inl refl, tt)))
each_is_legal (suc (suc (suc zero))) = (refl, inl refl, (refl, inl refl, tt))
each_is_legal (suc (suc (suc (suc number)))) = tt

-- ---- no log

head_is : {A : Type 0} (a b : A) (xs ys : List A) → a ∷ xs ≡ b ∷ ys → a ≡ b
head_is a b xs ys e = cc

tail_is : {A : Type 0} (a b : A) (xs ys : List A) → a ∷ xs ≡ b ∷ ys → xs ≡ ys
tail_is a b xs ys e = cc

abbrev At : ℕ → Turn → Bool
At number t = is_at two_shards number t

-- two turns of which one is at a node and the other isn't
differ : (number : ℕ) (t u : Turn) → At number t ≡ true → At number u ≡ false → t ≡ u → ⊥
differ number t u there elsewhere same = true≢false (sym there ∙ ap (At number) same ∙ elsewhere)

abbrev by_seat : ℕ → List Logged → List Logged
by_seat seat log = filter (λ (l : Logged). l.seat == seat) log

abbrev turn_in : Logged → Turn
turn_in l = l.turn

-- A log's first turn at one of the two nodes would be the reader's, whose own first is at the other node; or the carrier's of y, likewise. `own` is the
-- carrier's next turn, and `Rest` says what follows it.
module _ (own : Turn) (elsewhere : At 3 own ≡ false) (Rest : List Turn → Type 0) where
  abbrev NoLog : List Logged → Type 0
  NoLog log = (r0 r1 : List Logged) (rr rc : List Turn) → Rest rc → logged_at 2 log ≡ logged 3 get_x ∷ r0 → logged_at 3 log ≡ logged 2 commit_y ∷ r1 → turns_by 3 log ≡ get_y ∷ rr → turns_by 2 log ≡ own ∷ rc → ⊥

  -- the carrier took its turn, and the rest is refused
  abbrev GoesOn : Logged → List Logged → Type 0
  GoesOn l log = (r0 r1 : List Logged) (rr rc : List Turn) → Rest rc → At 2 l.turn ≡ false → l.turn ≡ own → logged_at 2 log ≡ logged 3 get_x ∷ r0 → logged_at 3 log ≡ logged 2 commit_y ∷ r1 → turns_by 3 log ≡ get_y ∷ rr → turns_by 2 log ≡ rc → ⊥

  at_first : (l : Logged) (log : List Logged) → NoLog log → GoesOn l log → NoLog (l ∷ log)
  at_first l log later carrier r0 r1 rr rc follows = by (At 2 l.turn) (At 3 l.turn) (l.seat == 3) (l.seat == 2) refl refl refl refl
    where
      by : (a b c d : Bool) → At 2 l.turn ≡ a → At 3 l.turn ≡ b → (l.seat == 3) ≡ c → (l.seat == 2) ≡ d → cond a (l ∷ logged_at 2 log) (logged_at 2 log) ≡ logged 3 get_x ∷ r0 → cond b (l ∷ logged_at 3 log) (logged_at 3 log) ≡ logged 2 commit_y ∷ r1 →
          map turn_in (cond c (l ∷ by_seat 3 log) (by_seat 3 log)) ≡ get_y ∷ rr → map turn_in (cond d (l ∷ by_seat 2 log) (by_seat 2 log)) ≡ own ∷ rc → ⊥
      by true b true d at2 at3 seat3 seat2 e2 e3 er ec =
          let it : l ≡ logged 3 get_x = head_is l (logged 3 get_x) (logged_at 2 log) r0 e2 in
          differ 2 get_x get_y refl refl (sym (ap turn_in it) ∙ head_is l.turn get_y (map turn_in (by_seat 3 log)) rr er)
      by true b false d at2 at3 seat3 seat2 e2 e3 er ec =
          let it : l ≡ logged 3 get_x = head_is l (logged 3 get_x) (logged_at 2 log) r0 e2 in
          true≢false (sym (ap (λ (k : Logged). k.seat == 3) it) ∙ seat3)
      by false true c true at2 at3 seat3 seat2 e2 e3 er ec =
          let it : l ≡ logged 2 commit_y = head_is l (logged 2 commit_y) (logged_at 3 log) r1 e3 in
          differ 3 commit_y own refl elsewhere (sym (ap turn_in it) ∙ head_is l.turn own (map turn_in (by_seat 2 log)) rc ec)
      by false true c false at2 at3 seat3 seat2 e2 e3 er ec =
          let it : l ≡ logged 2 commit_y = head_is l (logged 2 commit_y) (logged_at 3 log) r1 e3 in
          true≢false (sym (ap (λ (k : Logged). k.seat == 2) it) ∙ seat2)
      by false false true d at2 at3 seat3 seat2 e2 e3 er ec =
          let it : l.turn ≡ get_y = head_is l.turn get_y (map turn_in (by_seat 3 log)) rr er in
          true≢false (sym (ap (At 3) it) ∙ at3)
      by false false false true at2 at3 seat3 seat2 e2 e3 er ec =
          carrier r0 r1 rr rc follows at2 (head_is l.turn own (map turn_in (by_seat 2 log)) rc ec) e2 e3 er (tail_is l.turn own (map turn_in (by_seat 2 log)) rc ec)
      by false false false false at2 at3 seat3 seat2 e2 e3 er ec = later r0 r1 rr rc follows e2 e3 er ec

abbrev Any : List Turn → Type 0
Any rc = Unit {0}

abbrev Checks : List Turn → Type 0
Checks rc = (rest : List Turn) × (rc ≡ check_x ∷ rest)

-- the carrier has still to check
no_log_checks : (log : List Logged) → NoLog check_x refl Any log
no_log_checks [] r0 r1 rr rc follows e2 e3 er ec = cc
no_log_checks (l ∷ log) r0 r1 rr rc follows e2 e3 er ec = at_first check_x refl Any l log (no_log_checks log) (λ s0 s1 sr sc goes at2 it f2 f3 fr fc. true≢false (sym (ap (At 2) it) ∙ at2)) r0 r1 rr rc follows e2 e3 er ec

-- the carrier has still to pull
no_log_pulls : (log : List Logged) → NoLog pull_y refl Checks log
no_log_pulls [] r0 r1 rr rc follows e2 e3 er ec = cc
no_log_pulls (l ∷ log) r0 r1 rr rc follows e2 e3 er ec = at_first pull_y refl Checks l log (no_log_pulls log) (λ s0 s1 sr sc goes at2 it f2 f3 fr fc. no_log_checks log s0 s1 sr goes.0 tt f2 f3 fr (fc ∙ goes.1)) r0 r1 rr rc follows e2 e3 er ec

pub no_log : (log : List Logged) → ((number : ℕ) → logged_at number log ≡ history_at number) → ((seat : ℕ) → flat_map (flat_map (λ t. turn_made_by t.command)) (actors_at seat) ≡ turns_by seat log) → ⊥
no_log log histories made =
    no_log_pulls log (logged 1 commit_x ∷ logged 2 check_x ∷ []) (logged 3 get_y ∷ []) (get_x ∷ []) (check_x ∷ commit_y ∷ []) (commit_y ∷ [], refl) (histories 2) (histories 3) (sym (made 3)) (sym (made 2))

-- The history of a gate, with the calls that its no-op turns were, for any machines.
use Rattle.std.proofs.Common.{◌≡◌, ℕ, ◌<◌, ◌≤◌, Bool, true, false, cond, ◌==◌, List, [], ◌∷◌, ◌++◌, map, length, inl, inr, refl, sym, ◌∙◌, ap, subst, append_assoc, ◌⊎◌, arith}
use Rattle.std.specs.Prelude.{Option, Some, None, if◌then◌else◌}
use Rattle.std.specs.List.{AllByRecursion}
use Rattle.std.proofs.lemmas.Bool.Decides.{Decides-eqb, leb_tells}
use Rattle.std.proofs.lemmas.List.{length-map, map-append}
use Rattle.std.proofs.lemmas.List.Elements.{filter-append}
use mathlib.Core.Option.{some, some-injective}
use lib.ListN.{get_elem?}
use Rattle.cops_gate.specs.declared.history.Entry.{Entry}
use Rattle.cops_gate.specs.declared.history.Turn.{Turn}
use Rattle.cops_gate.specs.History.{IsLegal, Leads, turn, turns_at, turns_of}
use Rattle.cops_gate.specs.Seats.{HasAllOf, Known}
use Rattle.cops_whole.proofs.FilledLogs.{Filled, filled_in, heads_same, same_place, seat_kept, seat_parts, tails_same}
use Rattle.cops_whole.proofs.Nodes.{some_same}
use Rattle.cops_whole.proofs.PlacedTurns.{ArePlaced, of_each}
use Rattle.cops_whole.proofs.SeatTurns.{AllLacked, CallAt, Grown, LackedHere, MakesCalls, MemoryRule, all_grown, all_lacked, as_kept, kept, kept_entry, kept_turn, lacked_at, turn_by, turns_by, with_memory}

-- ---- lists

-- the parts of a list whose image has these
record Parts {A B : Type 0} (f : A → B) (xs : List A) (ys : List B) (y : B) (zs : List B) : Type 0 where
  pub before : List A
  pub it : A
  pub later : List A
  pub are : xs ≡ before ++ it ∷ later
  pub before_is : map f before ≡ ys
  pub it_is : f it ≡ y

parts_of : {A B : Type 0} (f : A → B) (xs : List A) (ys : List B) (y : B) (zs : List B) → map f xs ≡ ys ++ y ∷ zs → Parts f xs ys y zs
parts_of f [] [] y zs e = absurd (no e)
  where
    no : [] ≡ y ∷ zs → ⊥
    no h = cc
parts_of f [] (z ∷ ys) y zs e = absurd (no e)
  where
    no : [] ≡ z ∷ (ys ++ y ∷ zs) → ⊥
    no h = cc
parts_of f (x ∷ xs) [] y zs e = record { before = []; it = x; later = xs; are = refl; before_is = refl; it_is = heads_same (f x) y (map f xs) zs e }
parts_of f (x ∷ xs) (z ∷ ys) y zs e =
    let rest = parts_of f xs ys y zs (tails_same (f x) z (map f xs) (ys ++ y ∷ zs) e) in
    let head : f x ≡ z = heads_same (f x) z (map f xs) (ys ++ y ∷ zs) e in
    record { before = x ∷ rest.before; it = rest.it; later = rest.later; are = ap (λ l. x ∷ l) rest.are; before_is = (λ i. head i ∷ rest.before_is i); it_is = rest.it_is }

-- ---- calls at one node, some of which were refused memory

module _ {C R : Type 0} where
  -- what was called at the node of this number
  abbrev pub entries_there : ℕ → List (Turn C R) → List (Option (Entry C R))
  entries_there number [] = []
  entries_there number (t ∷ ts) = if t.node == number then t.entry ∷ entries_there number ts else entries_there number ts

module _ {M C R : Type 0} (turns : M → ℕ → ℕ → C → R → M → Type 0) (may_lack : M → ℕ → C → Type 0) (lacking : R) where
  -- the call is a turn of the machine; or memory was refused, if it may be, and nothing changed
  abbrev pub IsTurnOrLack : M → Entry C R → M → Type 0
  IsTurnOrLack old e new = turns old e.slot e.moment e.call e.reply new ⊎ ((e.reply ≡ lacking) × (new ≡ old) × may_lack old e.slot e.call)

  -- these calls lead from the first state to the second
  abbrev pub LeadsLacking : M → List (Option (Entry C R)) → M → Type 0
  LeadsLacking old [] new = new ≡ old
  LeadsLacking old (None ∷ entries) new = LeadsLacking old entries new
  LeadsLacking old (Some e ∷ entries) new = (between : M) × IsTurnOrLack old e between × LeadsLacking between entries new

-- ---- the seats

-- The seat of this number had made no turn. Then it made these calls, each with a ticket. The history has all that the seat has seen as a prefix, and
-- no other turn of it.
pub record SeatCalled {M C R : Type 0} (turns : M → ℕ → ℕ → C → R → M → Type 0) (may_lack : M → ℕ → C → Type 0) (lacking : R) (states : List M) (history : List (Turn C R)) (seat : ℕ) (calls : List (CallAt C R)) : Type 0 where
  pub first : Known M C R
  pub last : Known M C R
  pub number_is : first.number ≡ seat
  pub no_turn : turns_of first.number first.history ≡ []
  pub made : MakesCalls turns may_lack lacking states first calls last
  pub all_of : HasAllOf history last

-- one history of all nodes, and the calls of each seat
pub record AreCallsOf {M C R : Type 0} (turns : M → ℕ → ℕ → C → R → M → Type 0) (may_lack : M → ℕ → C → Type 0) (lacking : R) (states : List M) (history : List (Turn C R)) (seats : ℕ) (calls : ℕ → List (CallAt C R)) : Type 0 where
  pub legal : (number : ℕ) (first : M) → get_elem? states number ≡ some first → IsLegal turns first (turns_at number history)
  pub seated : AllByRecursion (λ (t : Turn C R). t.seat < seats) history
  pub did : (seat : ℕ) → seat < seats → SeatCalled turns may_lack lacking states history seat (calls seat)
  pub few : (seat : ℕ) → seats ≤ seat → calls seat ≡ []

none_beyond : {C R : Type 0} (seats seat : ℕ) (history : List (Turn C R)) → seats ≤ seat → AllByRecursion (λ (t : Turn C R). t.seat < seats) history → turns_of seat history ≡ []
none_beyond seats seat [] past all = refl
none_beyond seats seat (t ∷ ts) past all = elim (t.seat == seat) as (λ b. (t.seat == seat) ≡ b → cond b (t ∷ turns_of seat ts) (turns_of seat ts) ≡ []) [
  | true ↦ λ same. let is : t.seat ≡ seat = (Decides-eqb t.seat seat).0 same in let below : t.seat < seats = all.0 in absurd (omega (arith, is, below, past))
  | false ↦ λ apart. none_beyond seats seat ts past all.1
] refl

leads_both : {M C R : Type 0} (turns : M → ℕ → ℕ → C → R → M → Type 0) (log later : List (Turn C R)) (old mid new : M) → Leads turns old log mid → Leads turns mid later new → Leads turns old (log ++ later) new
leads_both turns [] later old mid new first second = subst (λ s. Leads turns s later new) (sym first) second
leads_both turns (t ∷ log) later old mid new (between, makes, first) second = (between, makes, leads_both turns log later between mid new first second)

module _ {M C R : Type 0} (turns : M → ℕ → ℕ → C → R → M → Type 0) (may_lack : M → ℕ → C → Type 0) (memory : MemoryRule turns may_lack) (states : List M) (history : List (Turn C R)) (seats : ℕ) (calls : ℕ → List (CallAt C R))
    (run : AreCallsOf turns may_lack memory.lacking states history seats calls) where
  abbrev keep : Turn C R → Turn C R
  keep t = kept_turn memory.is_lacking t

  abbrev seat_of : Turn C R → ℕ
  seat_of t = t.seat

  pub same_seat : (t : Turn C R) → seat_of (keep t) ≡ seat_of t
  same_seat t = refl

  by_number : (P : List (CallAt C R) → Type 0) (seat : ℕ) → (seat < seats → P (calls seat)) → (seats ≤ seat → P []) → P (calls seat)
  by_number P seat inside beyond = elim (leb_tells seats seat) [
    | inl past ↦ subst P (sym (run.few seat past.1)) (beyond past.1)
    | inr within ↦ inside within.1
  ]

  abbrev Did : ℕ → Type 0
  Did seat = SeatCalled turns may_lack memory.lacking states history seat (calls seat)

  none_first : (seat : ℕ) (did : Did seat) → turns_of seat did.first.history ≡ []
  none_first seat did = subst (λ n. turns_of n did.first.history ≡ []) did.number_is did.no_turn

  grown_of : (seat : ℕ) (did : Did seat) → Grown turns may_lack memory states seat did.first (calls seat) did.last
  grown_of seat did = all_grown turns may_lack memory states seat (calls seat) did.first did.last did.number_is did.made

  own_is : (seat : ℕ) (did : Did seat) → turns_of seat history ≡ turns_of seat did.last.history
  own_is seat did = subst (λ n. turns_of n history ≡ turns_of n did.last.history) (grown_of seat did).number_is did.all_of.1

  -- each turn is at a node that exists, since its seat saw a reply from there
  history_placed : ArePlaced (length states) history
  history_placed = of_each (λ (t : Turn C R). t.node < length states) (λ t. t.seat) seats history run.seated (λ seat within.
      let did = run.did seat within in
      subst (ArePlaced (length states)) (sym (own_is seat did)) ((grown_of seat did).there (subst (ArePlaced (length states)) (sym (none_first seat did)) tt)))

  spared : kept memory.is_lacking history ≡ history
  spared = as_kept memory.is_lacking history (with_memory turns may_lack memory states history history_placed run.legal)

  calls_kept : (seat : ℕ) → kept memory.is_lacking (turns_by seat (calls seat)) ≡ turns_of seat history
  calls_kept seat = by_number (λ list. kept memory.is_lacking (turns_by seat list) ≡ turns_of seat history) seat (λ within. inside (run.did seat within)) (λ past. sym (none_beyond seats seat history past run.seated))
    where
      inside : (did : Did seat) → kept memory.is_lacking (turns_by seat (calls seat)) ≡ turns_of seat history
      inside did =
          sym ((grown_of seat did).own ∙ ap (λ ts. kept memory.is_lacking ts ++ kept memory.is_lacking (turns_by seat (calls seat))) (none_first seat did)) ∙ ap (kept memory.is_lacking) (sym (own_is seat did))
          ∙ sym (seat_kept seat_of keep same_seat seat history) ∙ ap (turns_of seat) spared

  pub filled : Filled seat_of keep same_seat history (λ seat. turns_by seat (calls seat))
  filled = filled_in seat_of keep same_seat history (λ seat. turns_by seat (calls seat)) calls_kept

  lacking : (seat : ℕ) → AllLacked turns may_lack memory states seat history [] (calls seat)
  lacking seat = by_number (AllLacked turns may_lack memory states seat history []) seat (λ within. inside (run.did seat within)) (λ past. tt)
    where
      inside : (did : Did seat) → AllLacked turns may_lack memory states seat history [] (calls seat)
      inside did = all_lacked turns may_lack memory states seat history (calls seat) [] did.first did.last did.number_is (ap (kept memory.is_lacking) (none_first seat did)) did.all_of.0 did.made

  -- ---- a call that was refused memory

  -- the state before it, in which the machine may lack memory
  record StateBefore (node : ℕ) (before : List (Turn C R)) (e : Entry C R) : Type 0 where
    pub opened : M
    pub opened_is : get_elem? states node ≡ some opened
    pub state : M
    pub leads : Leads turns opened (turns_at node (kept memory.is_lacking before)) state
    pub lacks : may_lack state e.slot e.call

  lacks_there : (before later : List (Turn C R)) (w : Turn C R) (e : Entry C R) → filled.log ≡ before ++ w ∷ later → w.entry ≡ Some e → memory.is_lacking e.reply ≡ true → StateBefore w.node before e
  lacks_there before later w e log_is entry_is lack =
      let own : turns_by w.seat (calls w.seat) ≡ turns_of w.seat before ++ w ∷ turns_of w.seat later = sym (filled.of_seats w.seat) ∙ seat_parts seat_of filled.log before later w log_is in
      let p = parts_of (turn_by w.seat) (calls w.seat) (turns_of w.seat before) w (turns_of w.seat later) own in
      let it_is : p.it.entry ≡ e = some_same p.it.entry e (ap (λ (t : Turn C R). t.entry) p.it_is ∙ entry_is) in
      let node_is : p.it.node ≡ w.node = ap (λ (t : Turn C R). t.node) p.it_is in
      let k : LackedHere turns may_lack memory states w.seat history p.before p.it =
      lacked_at turns may_lack memory states w.seat history [] p.before p.later p.it (subst (AllLacked turns may_lack memory states w.seat history []) p.are (lacking w.seat)) (ap (λ (x : Entry C R). memory.is_lacking x.reply) it_is ∙ lack) in
      let many : length (turns_of w.seat (kept memory.is_lacking before)) ≡ length (turns_of w.seat k.earlier) =
      ap length (seat_kept seat_of keep same_seat w.seat before ∙ ap (kept memory.is_lacking) (sym p.before_is) ∙ sym k.own) ∙ length-map (turns_of w.seat k.earlier) keep in
      let before_is : kept memory.is_lacking before ≡ k.earlier =
      same_place seat_of w.seat (kept memory.is_lacking before) k.earlier (kept memory.is_lacking later) k.later (keep w) (turn w.seat p.it.node None) refl refl
      (sym (map-append keep before (w ∷ later)) ∙ ap (kept memory.is_lacking) (sym log_is) ∙ filled.log_kept ∙ k.place) many in
      record {
        opened = k.opened;
        opened_is = subst (λ n. get_elem? states n ≡ some k.opened) node_is k.opened_is;
        state = k.state;
        leads = subst (λ ts. Leads turns k.opened (turns_at w.node ts) k.state) (sym before_is) (subst (λ n. Leads turns k.opened (turns_at n k.earlier) k.state) node_is k.leads);
        lacks = subst (λ (x : Entry C R). may_lack k.state x.slot x.call) it_is k.lacks;
      }

  -- ---- one node

  module _ (number : ℕ) (opened : M) (opened_is : get_elem? states number ≡ some opened) where
    abbrev Kept : List (Turn C R) → List (Turn C R)
    Kept part = turns_at number (kept memory.is_lacking part)

    -- one turn more was passed
    passed : (before : List (Turn C R)) (w : Turn C R) (mid next : M) → Leads turns opened (Kept before) mid → Leads turns mid (Kept (w ∷ [])) next → Leads turns opened (Kept (before ++ w ∷ [])) next
    passed before w mid next first second =
        let parts : Kept (before ++ w ∷ []) ≡ Kept before ++ Kept (w ∷ []) =
        ap (turns_at number) (map-append keep before (w ∷ [])) ∙ filter-append (λ (t : Turn C R). t.node == number) (kept memory.is_lacking before) (kept memory.is_lacking (w ∷ [])) in
        subst (λ ts. Leads turns opened ts next) (sym parts) (leads_both turns (Kept before) (Kept (w ∷ [])) opened mid next first second)

    led : (before later : List (Turn C R)) (mid left : M) → filled.log ≡ before ++ later → Leads turns opened (Kept before) mid → Leads turns mid (Kept later) left → LeadsLacking turns may_lack memory.lacking mid (entries_there number later) left
    led before [] mid left whole first second = sym second
    led before (w ∷ later) mid left whole first second =
        by (w.node == number) w.entry refl refl second (λ next. led (before ++ w ∷ []) later next left (whole ∙ sym (append_assoc before (w ∷ []) later)))
      where
        by : (here : Bool) (e : Option (Entry C R)) → (w.node == number) ≡ here → w.entry ≡ e → Leads turns mid (cond here (turn w.seat w.node (kept_entry memory.is_lacking e) ∷ Kept later) (Kept later)) left →
            ((next : M) → Leads turns opened (Kept (before ++ w ∷ [])) next → Leads turns next (Kept later) left → LeadsLacking turns may_lack memory.lacking next (entries_there number later) left) →
            LeadsLacking turns may_lack memory.lacking mid (cond here (e ∷ entries_there number later) (entries_there number later)) left
        by false e apart entry_is leads rest = rest mid (passed before w mid mid first (rw apart refl)) leads
        by true None at entry_is (between, stays, leads) rest =
            rest mid (passed before w mid mid first (rw (at, entry_is) (mid, refl, refl))) (subst (λ s. Leads turns s (Kept later) left) (sym stays) leads)
        by true (Some e) at entry_is leads rest = either (memory.is_lacking e.reply) refl leads
          where
            here : w.node ≡ number
            here = (Decides-eqb w.node number).0 at

            either : (b : Bool) → memory.is_lacking e.reply ≡ b → Leads turns mid (turn w.seat w.node (cond b None (Some e)) ∷ Kept later) left → LeadsLacking turns may_lack memory.lacking mid (Some e ∷ entries_there number later) left
            either true lack (between, stays, later_leads) =
                let known = lacks_there before later w e whole entry_is lack in
                let same : known.opened ≡ opened = some-injective known.opened opened (sym known.opened_is ∙ ap (get_elem? states) here ∙ opened_is) in
                let there : Leads turns opened (Kept before) known.state =
                subst (λ s. Leads turns s (Kept before) known.state) same (subst (λ n. Leads turns known.opened (turns_at n (kept memory.is_lacking before)) known.state) here known.leads) in
                let may : may_lack mid e.slot e.call = memory.alike opened known.state mid (Kept before) e.slot e.call there first known.lacks in (
                  mid,
                  inr (memory.only e.reply lack, refl, may),
                  rest mid (passed before w mid mid first (rw (at, entry_is, lack) (mid, refl, refl))) (subst (λ s. Leads turns s (Kept later) left) (sym stays) later_leads),
                )
            either false spared_it (next, makes, later_leads) = (next, inl makes, rest next (passed before w mid next first (rw (at, entry_is, spared_it) (next, makes, refl))) later_leads)

    -- what the history leaves is what the log leaves
    pub leads_filled : (left : M) → Leads turns opened (turns_at number history) left → LeadsLacking turns may_lack memory.lacking opened (entries_there number filled.log) left
    leads_filled left leads = led [] filled.log opened left refl refl (subst (λ ts. Leads turns opened (turns_at number ts) left) (sym filled.log_kept) leads)

  -- ---- the log

  log_placed : ArePlaced (length states) filled.log
  log_placed = back filled.log (subst (ArePlaced (length states)) (sym filled.log_kept) history_placed)
    where
      back : (log : List (Turn C R)) → ArePlaced (length states) (kept memory.is_lacking log) → ArePlaced (length states) log
      back [] all = tt
      back (t ∷ ts) all = (all.0, back ts all.1)

  -- a log with all calls, which the gate keeps as this history
  pub record GateLog : Type 0 where
    pub log : List (Turn C R)
    pub log_kept : kept memory.is_lacking log ≡ history
    pub of_seats : (seat : ℕ) → turns_of seat log ≡ turns_by seat (calls seat)
    pub is_placed : ArePlaced (length states) log
    pub leads : (number : ℕ) (opened left : M) → get_elem? states number ≡ some opened → Leads turns opened (turns_at number history) left → LeadsLacking turns may_lack memory.lacking opened (entries_there number log) left

  pub gate_log : GateLog
  gate_log = record {
    log = filled.log;
    log_kept = filled.log_kept;
    of_seats = filled.of_seats;
    is_placed = log_placed;
    leads = λ number opened left opened_is leads. leads_filled number opened opened_is left leads;
  }

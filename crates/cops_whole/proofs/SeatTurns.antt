-- What one seat did at a gate, and its calls that were refused memory, for any machines.
use Rattle.std.proofs.Common.{◌≡◌, ℕ, Bool, true, false, cond, List, [], ◌∷◌, ◌++◌, map, length, inl, inr, refl, sym, ◌∙◌, ap, subst, true≢false, append_assoc, append-nil, ◌⊎◌}
use Rattle.std.specs.Prelude.{Option, Some, None}
use Rattle.std.specs.List.{AllByRecursion}
use Rattle.std.proofs.lemmas.List.{append_cancel_right, map-append}
use mathlib.Core.Option.{some}
use lib.ListN.{get_elem?}
use Rattle.cops_gate.specs.declared.history.Entry.{Entry}
use Rattle.cops_gate.specs.declared.history.Turn.{Turn}
use Rattle.cops_gate.specs.History.{IsLegal, Leads, LeavesLacking, Makes, StartsWith, turn, turns_at, turns_of}
use Rattle.cops_gate.specs.Seats.{Extends, Known}
use Rattle.cops_gate.proofs.Ending.{starts_again}
use Rattle.cops_gate.proofs.Histories.{turns_mine}
use Rattle.cops_gate.proofs.Keeps.{there_at}
use Rattle.cops_service.specs.Gates.{HasSeenMore}
use Rattle.cops_whole.proofs.PlacedTurns.{ArePlaced, of_each, placed, placed_of}
use Rattle.cops_whole.proofs.SeenMore.{extends_before, seen_both}

-- ---- memory

-- Which reply says that a machine lacked memory. No turn gives it, and whether memory may be lacking depends on the turns that were made.
pub record MemoryRule {M C R : Type 0} (turns : M → ℕ → ℕ → C → R → M → Type 0) (may_lack : M → ℕ → C → Type 0) : Type 0 where
  pub lacking : R
  pub is_lacking : R → Bool
  pub says : is_lacking lacking ≡ true
  pub only : (reply : R) → is_lacking reply ≡ true → reply ≡ lacking
  pub spared : (old new : M) (slot moment : ℕ) (call : C) (reply : R) → turns old slot moment call reply new → is_lacking reply ≡ false
  pub alike : (opened one other : M) (log : List (Turn C R)) (slot : ℕ) (call : C) → Leads turns opened log one → Leads turns opened log other → may_lack one slot call → may_lack other slot call

-- ---- what gates keep

module _ {C R : Type 0} (is_lacking : R → Bool) where
  -- no entry if memory was refused
  abbrev pub kept_entry : Option (Entry C R) → Option (Entry C R)
  kept_entry None = None
  kept_entry (Some e) = cond (is_lacking e.reply) None (Some e)

  abbrev pub kept_turn : Turn C R → Turn C R
  kept_turn t = turn t.seat t.node (kept_entry t.entry)

  abbrev pub kept : List (Turn C R) → List (Turn C R)
  kept log = map kept_turn log

  abbrev pub IsNotLacking : Option (Entry C R) → Type 0
  IsNotLacking None = Unit {0}
  IsNotLacking (Some e) = is_lacking e.reply ≡ false

  abbrev pub AreNotLacking : List (Turn C R) → Type 0
  AreNotLacking log = AllByRecursion (λ (t : Turn C R). IsNotLacking t.entry) log

  -- the last turn of a history
  pub last_with_memory : (log : List (Turn C R)) (t : Turn C R) → AreNotLacking (log ++ t ∷ []) → IsNotLacking t.entry
  last_with_memory [] t all = all.0
  last_with_memory (x ∷ log) t all = last_with_memory log t all.1

  entry_as_kept : (seat node : ℕ) (e : Option (Entry C R)) → IsNotLacking e → kept_turn (turn seat node e) ≡ turn seat node e
  entry_as_kept seat node None is = refl
  entry_as_kept seat node (Some e) is = ap (λ b. turn seat node (cond b None (Some e))) is

  -- gates keep such a history as it is
  pub as_kept : (log : List (Turn C R)) → AreNotLacking log → kept log ≡ log
  as_kept [] all = refl
  as_kept (t ∷ ts) all = λ i. entry_as_kept t.seat t.node t.entry all.0 i ∷ as_kept ts all.1 i

-- ---- no turn is one that was refused memory

module _ {M C R : Type 0} (turns : M → ℕ → ℕ → C → R → M → Type 0) (may_lack : M → ℕ → C → Type 0) (memory : MemoryRule turns may_lack) where
  made_with_memory : (e : Option (Entry C R)) (old new : M) → Makes turns old e new → IsNotLacking memory.is_lacking e
  made_with_memory None old new makes = tt
  made_with_memory (Some e) old new makes = memory.spared old new e.slot e.moment e.call e.reply makes

  led_with_memory : (log : List (Turn C R)) (old left : M) → Leads turns old log left → AreNotLacking memory.is_lacking log
  led_with_memory [] old left leads = tt
  led_with_memory (t ∷ ts) old left (between, makes, leads) = (made_with_memory t.entry old between makes, led_with_memory ts between left leads)

  pub with_memory : (states : List M) (log : List (Turn C R)) → ArePlaced (length states) log → ((n : ℕ) (first : M) → get_elem? states n ≡ some first → IsLegal turns first (turns_at n log)) → AreNotLacking memory.is_lacking log
  with_memory states log there legal = of_each (λ (t : Turn C R). IsNotLacking memory.is_lacking t.entry) (λ t. t.node) (length states) log there (λ n within.
      let first = there_at states n within in
      let led = legal n first.0 first.1 in
      led_with_memory (turns_at n log) first.0 led.0 led.1)

-- ---- what one seat did

-- a call at the node of this number, with its reply
pub record CallAt (C R : Type 0) : Type 0 where
  pub node : ℕ
  pub entry : Entry C R

-- such calls, as turns of the seat
abbrev pub turn_by : {C R : Type 0} → ℕ → CallAt C R → Turn C R
turn_by seat c = turn seat c.node (Some c.entry)

abbrev pub turns_by : {C R : Type 0} → ℕ → List (CallAt C R) → List (Turn C R)
turns_by seat calls = map (turn_by seat) calls

module _ {M C R : Type 0} (turns : M → ℕ → ℕ → C → R → M → Type 0) (may_lack : M → ℕ → C → Type 0) (lacking : R) (states : List M) where
  -- the seat got a ticket for the call: the node made a turn, a no-op turn if memory ran out
  abbrev pub IsTurnAt : Known M C R → CallAt C R → Known M C R → Type 0
  IsTurnAt old c new =
      (new.number ≡ old.number)
      × (Extends turns states c.node old (Some c.entry) new
      ⊎ (c.entry.reply ≡ lacking) × Extends turns states c.node old None new × LeavesLacking turns may_lack states old.number c.node c.entry.slot c.entry.call new.history)

  -- these calls, one after another; in the end the seat may see more
  abbrev pub MakesCalls : Known M C R → List (CallAt C R) → Known M C R → Type 0
  MakesCalls old [] new = HasSeenMore old new
  MakesCalls old (c ∷ calls) new = (mid : Known M C R) × IsTurnAt old c mid × MakesCalls mid calls new

  -- the seat had seen more by then
  turn_before : (old seen new : Known M C R) (c : CallAt C R) → HasSeenMore old seen → IsTurnAt seen c new → IsTurnAt old c new
  turn_before old seen new c more h = (
    h.0 ∙ more.same.1,
    elim (h.1) [
      | inl grows ↦ inl (extends_before turns states c.node (Some c.entry) old seen new more grows)
      | inr lacked ↦ inr (
        lacked.0,
        extends_before turns states c.node None old seen new more lacked.1,
        subst (λ n. LeavesLacking turns may_lack states n c.node c.entry.slot c.entry.call new.history) more.same.1 lacked.2,
      )
    ],
  )

  pub makes_later : (calls : List (CallAt C R)) (old seen new : Known M C R) → HasSeenMore old seen → MakesCalls seen calls new → MakesCalls old calls new
  makes_later [] old seen new more again = seen_both old seen new more again
  makes_later (c ∷ calls) old seen new more (mid, call, later) = (mid, turn_before old seen mid c more call, later)

  pub makes_both : (calls later : List (CallAt C R)) (old mid new : Known M C R) → MakesCalls old calls mid → MakesCalls mid later new → MakesCalls old (calls ++ later) new
  makes_both [] later old mid new first second = makes_later later old mid new first second
  makes_both (c ∷ calls) later old mid new (between, call, first) second = (between, call, makes_both calls later between mid new first second)

module _ {M C R : Type 0} (turns : M → ℕ → ℕ → C → R → M → Type 0) (may_lack : M → ℕ → C → Type 0) (memory : MemoryRule turns may_lack) (states : List M) (seat : ℕ) where
  -- the seat's turns in a history, as gates keep them
  abbrev KeptOwn : List (Turn C R) → List (Turn C R)
  KeptOwn history = kept memory.is_lacking (turns_of seat history)

  abbrev keep : Turn C R → Turn C R
  keep t = kept_turn memory.is_lacking t

  abbrev Calls : Known M C R → List (CallAt C R) → Known M C R → Type 0
  Calls old calls new = MakesCalls turns may_lack memory.lacking states old calls new

  -- a seat after some calls, which it has added to its own turns
  pub record Grown (old : Known M C R) (calls : List (CallAt C R)) (new : Known M C R) : Type 0 where
    pub number_is : new.number ≡ seat
    pub own : KeptOwn new.history ≡ KeptOwn old.history ++ kept memory.is_lacking (turns_by seat calls)
    pub seen : StartsWith new.history old.history
    pub there : ArePlaced (length states) (turns_of seat old.history) → ArePlaced (length states) (turns_of seat new.history)

  stays : (old new : Known M C R) → old.number ≡ seat → HasSeenMore old new → Grown old [] new
  stays old new number_is more =
      let same : turns_of seat new.history ≡ turns_of seat old.history =
      (λ i. turns_of (sym (more.same.1 ∙ number_is) i) new.history) ∙ more.no_turn ∙ ap (λ n. turns_of n old.history) number_is in
      record {
        number_is = more.same.1 ∙ number_is;
        own = ap (map keep) same ∙ sym (append-nil (KeptOwn old.history));
        seen = more.seen;
        there = λ before. subst (ArePlaced (length states)) (sym same) before;
      }

  after_one : (old mid new : Known M C R) (c : CallAt C R) (later : List (CallAt C R)) → Grown old (c ∷ []) mid → Grown mid later new → Grown old (c ∷ later) new
  after_one old mid new c later first second = record {
    number_is = second.number_is;
    own = second.own ∙ ap (λ ts. ts ++ kept memory.is_lacking (turns_by seat later)) first.own ∙ append_assoc (KeptOwn old.history) (keep (turn_by seat c) ∷ []) (kept memory.is_lacking (turns_by seat later));
    seen = (first.seen.0 ++ second.seen.0, second.seen.1 ∙ ap (λ l. l ++ second.seen.0) first.seen.1 ∙ append_assoc old.history first.seen.0 second.seen.0);
    there = λ before. second.there (first.there before);
  }

  extended : (c : CallAt C R) (old new : Known M C R) (e : Option (Entry C R)) → old.number ≡ seat → new.number ≡ old.number → Extends turns states c.node old e new → keep (turn seat c.node e) ≡ keep (turn_by seat c) → Grown old (c ∷ []) new
  extended c old new e number_is same grows as_turn =
      let own : turns_of seat new.history ≡ turns_of seat old.history ++ turn seat c.node e ∷ [] =
      subst (λ n. turns_of n new.history ≡ turns_of n old.history ++ turn n c.node e ∷ []) number_is grows.2 in
      record {
        number_is = same ∙ number_is;
        own = ap (map keep) own ∙ map-append keep (turns_of seat old.history) (turn seat c.node e ∷ []) ∙ ap (λ x. KeptOwn old.history ++ x ∷ []) as_turn;
        seen = (grows.1.0 ++ turn old.number c.node e ∷ [], grows.1.1 ∙ append_assoc old.history grows.1.0 (turn old.number c.node e ∷ []));
        there = λ before. placed_of (length states) seat new.history (placed (length states) new.history grows.0.0);
      }

  called : (old new : Known M C R) (c : CallAt C R) → old.number ≡ seat → IsTurnAt turns may_lack memory.lacking states old c new → Grown old (c ∷ []) new
  called old new c number_is h = elim (h.1) [
    | inl grows ↦ extended c old new (Some c.entry) number_is h.0 grows refl
    | inr lacked ↦
        extended c old new None number_is h.0 lacked.1
        (ap (λ b. turn seat c.node (cond b None (Some c.entry))) (sym (ap memory.is_lacking lacked.0 ∙ memory.says)))
  ]

  pub all_grown : (calls : List (CallAt C R)) (old new : Known M C R) → old.number ≡ seat → Calls old calls new → Grown old calls new
  all_grown [] old new number_is more = stays old new number_is more
  all_grown (c ∷ calls) old new number_is (mid, call, later) =
      let first = called old mid c number_is call in
      after_one old mid new c calls first (all_grown calls mid new first.number_is later)

  -- ---- calls that were refused memory

  module _ (history : List (Turn C R)) where
    -- the history has the no-op turn of a call that was refused memory, after as many turns of the seat as came before the call
    pub record LackedHere (before : List (CallAt C R)) (c : CallAt C R) : Type 0 where
      pub earlier : List (Turn C R)
      pub later : List (Turn C R)
      pub place : history ≡ earlier ++ turn seat c.node None ∷ later
      pub own : KeptOwn earlier ≡ kept memory.is_lacking (turns_by seat before)
      pub opened : M
      pub opened_is : get_elem? states c.node ≡ some opened
      pub state : M
      pub leads : Leads turns opened (turns_at c.node earlier) state
      pub lacks : may_lack state c.entry.slot c.entry.call

    abbrev pub IfLacked : List (CallAt C R) → CallAt C R → Type 0
    IfLacked before c = memory.is_lacking c.entry.reply ≡ true → LackedHere before c

    abbrev pub AllLacked : List (CallAt C R) → List (CallAt C R) → Type 0
    AllLacked before [] = Unit {0}
    AllLacked before (c ∷ calls) = IfLacked before c × AllLacked (before ++ c ∷ []) calls

    pub lacked_at : (before calls later : List (CallAt C R)) (c : CallAt C R) → AllLacked before (calls ++ c ∷ later) → IfLacked (before ++ calls) c
    lacked_at before [] later c all = subst (λ b. IfLacked b c) (sym (append-nil before)) all.0
    lacked_at before (x ∷ calls) later c all = subst (λ b. IfLacked b c) (append_assoc before (x ∷ []) calls) (lacked_at (before ++ x ∷ []) calls later c all.1)

    -- the seat's history before its call
    then_before : (node : ℕ) (old new : Known M C R) (earlier : List (Turn C R)) → old.number ≡ seat → Extends turns states node old None new → new.history ≡ earlier ++ turn old.number node None ∷ [] →
        turns_of seat earlier ≡ turns_of seat old.history
    then_before node old new earlier number_is grows is = subst (λ n. turns_of n earlier ≡ turns_of n old.history) number_is
        (append_cancel_right (turns_of old.number earlier) (turns_of old.number old.history) (turn old.number node None ∷ [])
        (sym (turns_mine earlier old.number node None) ∙ ap (turns_of old.number) (sym is) ∙ grows.2))

    lacked : (before : List (CallAt C R)) (old new : Known M C R) (c : CallAt C R) → old.number ≡ seat → KeptOwn old.history ≡ kept memory.is_lacking (turns_by seat before) → StartsWith history new.history →
        IsTurnAt turns may_lack memory.lacking states old c new → IfLacked before c
    lacked before old new c number_is own seen h lack = elim (h.1) [
      | inl grows ↦ absurd (true≢false (sym lack ∙ last_with_memory memory.is_lacking (old.history ++ grows.1.0) (turn old.number c.node (Some c.entry))
          (subst (AreNotLacking memory.is_lacking) grows.1.1 (with_memory turns may_lack memory states new.history (placed (length states) new.history grows.0.0) grows.0.1))))
      | inr lacks ↦
          let l = lacks.2 in
          record {
            earlier = l.0;
            later = seen.0;
            place = seen.1 ∙ ap (λ ts. ts ++ seen.0) l.3 ∙ append_assoc l.0 (turn old.number c.node None ∷ []) seen.0 ∙ ap (λ n. l.0 ++ turn n c.node None ∷ seen.0) number_is;
            own = ap (map keep) (then_before c.node old new l.0 number_is lacks.1 l.3) ∙ own;
            opened = l.1;
            opened_is = l.4;
            state = l.2;
            leads = l.5;
            lacks = l.6;
          }
    ]

    pub all_lacked : (calls before : List (CallAt C R)) (old new : Known M C R) → old.number ≡ seat → KeptOwn old.history ≡ kept memory.is_lacking (turns_by seat before) → StartsWith history new.history →
        Calls old calls new → AllLacked before calls
    all_lacked [] before old new number_is own seen more = tt
    all_lacked (c ∷ calls) before old new number_is own seen (mid, call, later) =
        let first = called old mid c number_is call in
        let rest = all_grown calls mid new first.number_is later in
        let own_then : KeptOwn mid.history ≡ kept memory.is_lacking (turns_by seat (before ++ c ∷ [])) =
        first.own ∙ ap (λ ts. ts ++ keep (turn_by seat c) ∷ []) own ∙ sym (map-append keep (turns_by seat before) (turn_by seat c ∷ [])) ∙ ap (map keep) (sym (map-append (turn_by seat) before (c ∷ []))) in (
          lacked before old mid c number_is own (starts_again history new.history mid.history seen rest.seen) call,
          all_lacked calls (before ++ c ∷ []) mid new first.number_is own_then seen later,
        )

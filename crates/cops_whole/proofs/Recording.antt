-- What a seat's own turns say of one tenant.
use Rattle.std.proofs.Common.{◌≡◌, ◌≢◌, ℕ, true, false, cond, ◌==◌, nat_eq, List, [], ◌∷◌, ◌++◌, map, refl, sym, ◌∙◌, ap, append-nil}
use Rattle.std.specs.Prelude.{Option, Some, None, filter}
use Rattle.std.proofs.lemmas.Bool.Decides.{Decides-eqb}
use Rattle.std.proofs.lemmas.Bool.{eqb-true}
use Rattle.std.proofs.lemmas.List.{map-append}
use Rattle.cops_types.specs.declared.configs.Config.{Config}
use Rattle.cops_history.specs.History.{Logged, turns, turns_by}
use Rattle.cops_whole.specs.Whole.{CallEntry, WholeTurn, joins_own, own_log, own_turns, seat_turns, tenant_turn, whole_turn}

module _ (config : Config) (slot : ℕ) where
  -- the tenant's turns by a seat are what its own turns say of the tenant
  pub by_seat : (seat : ℕ) (log : List WholeTurn) → own_turns config slot seat log ≡ turns (own_log config slot (seat_turns seat log))
  by_seat seat [] = refl
  by_seat seat (w ∷ log) = by w.entry (by_seat seat log)
    where
      by : (entry : Option CallEntry) → own_turns config slot seat log ≡ turns (own_log config slot (seat_turns seat log)) →
          turns_by seat (joins_own config slot w.seat w.node entry (own_log config slot log)) ≡ turns (own_log config slot (cond (w.seat == seat) (whole_turn w.seat w.node entry ∷ seat_turns seat log) (seat_turns seat log)))
      by None ih = elim (w.seat == seat) as (λ b. own_turns config slot seat log ≡ turns (own_log config slot (cond b (whole_turn w.seat w.node None ∷ seat_turns seat log) (seat_turns seat log)))) [ true ↦ ih | false ↦ ih ]
      by (Some e) ih = elim (nat_eq e.slot slot) as (λ b. nat_eq e.slot slot ≡ b → turns_by seat (cond b (record { seat = w.seat; turn = tenant_turn config w.node e } ∷ own_log config slot log) (own_log config slot log))
          ≡ turns (own_log config slot (cond (w.seat == seat) (whole_turn w.seat w.node (Some e) ∷ seat_turns seat log) (seat_turns seat log)))) [
            | true ↦ λ own. elim (w.seat == seat) as (λ b. map (λ (l : Logged). l.turn) (cond b (record { seat = w.seat; turn = tenant_turn config w.node e } ∷ filter (λ (l : Logged). l.seat == seat) (own_log config slot log)) (filter (λ (l : Logged). l.seat == seat) (own_log config slot log)))
                ≡ turns (own_log config slot (cond b (whole_turn w.seat w.node (Some e) ∷ seat_turns seat log) (seat_turns seat log)))) [
                  | true ↦ rw own (ap (λ ts. tenant_turn config w.node e ∷ ts) ih)
                  | false ↦ ih
                ]
            | false ↦ λ others. elim (w.seat == seat) as (λ b. own_turns config slot seat log ≡ turns (own_log config slot (cond b (whole_turn w.seat w.node (Some e) ∷ seat_turns seat log) (seat_turns seat log)))) [
              | true ↦ rw others ih
              | false ↦ ih
            ]
          ] refl

  -- the tenant's part of two logs
  joins_both : (seat node : ℕ) (entry : Option CallEntry) (prefix later : List Logged) → joins_own config slot seat node entry (prefix ++ later) ≡ joins_own config slot seat node entry prefix ++ later
  joins_both seat node None prefix later = refl
  joins_both seat node (Some e) prefix later = elim (nat_eq e.slot slot) as (λ b. cond b (record { seat = seat; turn = tenant_turn config node e } ∷ (prefix ++ later)) (prefix ++ later) ≡ cond b (record { seat = seat; turn = tenant_turn config node e } ∷ prefix) prefix ++ later) [ true ↦ refl | false ↦ refl ]

  own_both : (prefix later : List WholeTurn) → own_log config slot (prefix ++ later) ≡ own_log config slot prefix ++ own_log config slot later
  own_both [] later = refl
  own_both (w ∷ prefix) later = ap (joins_own config slot w.seat w.node w.entry) (own_both prefix later) ∙ joins_both w.seat w.node w.entry (own_log config slot prefix) (own_log config slot later)

  one_more : (seat node : ℕ) (entry : Option CallEntry) (before after : List WholeTurn) → seat_turns seat after ≡ seat_turns seat before ++ whole_turn seat node entry ∷ [] →
      own_turns config slot seat after ≡ own_turns config slot seat before ++ turns (joins_own config slot seat node entry [])
  one_more seat node entry before after is =
      by_seat seat after ∙ ap (λ ws. turns (own_log config slot ws)) is ∙ ap turns (own_both (seat_turns seat before) (whole_turn seat node entry ∷ []))
      ∙ map-append (λ (l : Logged). l.turn) (own_log config slot (seat_turns seat before)) (joins_own config slot seat node entry [])
      ∙ ap (λ ts. ts ++ turns (joins_own config slot seat node entry [])) (sym (by_seat seat before))

pub call_recorded : (config : Config) (slot seat node : ℕ) (e : CallEntry) (before after : List WholeTurn) → e.slot ≡ slot → seat_turns seat after ≡ seat_turns seat before ++ whole_turn seat node (Some e) ∷ [] →
    own_turns config slot seat after ≡ own_turns config slot seat before ++ tenant_turn config node e ∷ []
call_recorded config slot seat node e before after own is =
    let test : nat_eq e.slot slot ≡ true = (Decides-eqb e.slot slot).1 own in
    let it : turns (joins_own config slot seat node (Some e) []) ≡ tenant_turn config node e ∷ [] = rw test refl in
    one_more config slot seat node (Some e) before after is ∙ ap (λ ts. own_turns config slot seat before ++ ts) it

pub none_recorded : (config : Config) (slot seat node : ℕ) (before after : List WholeTurn) → seat_turns seat after ≡ seat_turns seat before ++ whole_turn seat node None ∷ [] →
    own_turns config slot seat after ≡ own_turns config slot seat before
none_recorded config slot seat node before after is = one_more config slot seat node None before after is ∙ append-nil (own_turns config slot seat before)

pub other_recorded : (config : Config) (slot seat node : ℕ) (e : CallEntry) (before after : List WholeTurn) → e.slot ≢ slot → seat_turns seat after ≡ seat_turns seat before ++ whole_turn seat node (Some e) ∷ [] →
    own_turns config slot seat after ≡ own_turns config slot seat before
other_recorded config slot seat node e before after other is =
    let it : turns (joins_own config slot seat node (Some e) []) ≡ [] = elim (nat_eq e.slot slot) as (λ b. nat_eq e.slot slot ≡ b → turns (cond b (record { seat = seat; turn = tenant_turn config node e } ∷ []) []) ≡ []) [
      | true ↦ λ same. absurd (other (eqb-true e.slot slot same))
      | false ↦ λ apart. refl
    ] refl in
    one_more config slot seat node (Some e) before after is ∙ ap (λ ts. own_turns config slot seat before ++ ts) it ∙ append-nil (own_turns config slot seat before)

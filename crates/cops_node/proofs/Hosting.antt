-- What turns at a node, and tenants that come and go, do to what its slots hold.
use Rattle.std.proofs.Common.{◌≡◌, ◌≢◌, ℕ, ◌<◌, ◌⊎◌, inl, inr, Bool, true, false, true≢false, cond, eqb, ◌||◌, List, [], length, refl, sym, ap, ◌∙◌, subst, Option, None, Some, is_some, nat_le, get_or, set}
use Rattle.std.specs.Prelude.{IsOk, IsSome, Ok, Err, Result}
use Rattle.std.specs.Option.{option_map}
use Rattle.std.proofs.lemmas.Bool.{eq-eqb}
use Rattle.std.proofs.lemmas.List.{get_or-set_other, get_or-set_same}
use Rattle.cops_types.specs.declared.configs.Tenant.{Tenant}
use Rattle.cops_types.specs.declared.faults.Fault.{Fault}
use Rattle.cops_types.specs.declared.faults.Fault.TheVariants.{NoSlot, UnknownTenant}
use Rattle.cops_model.specs.declared.calls.AuditEntry.{AuditEntry}
use Rattle.cops_model.specs.declared.calls.NodeCall.{NodeCall}
use Rattle.cops_model.specs.declared.calls.NodeReply.{NodeReply}
use Rattle.cops_model.specs.Place.{Place}
use Rattle.cops_model.specs.Step.{node_step}
use Rattle.cops_node.specs.declared.hosted.SlotCall.TheVariants.{Own, Admit, Close}
use Rattle.cops_node.specs.declared.hosted.SlotReply.TheVariants as told
use Rattle.cops_node.specs.Hosting.{Held, Hosted, IsSlotTurn, SlotEffect, admit_turn, close_turn, held_in, held_turn, host_in, life_at, newly_held, own_turn, slot_holds, unknown_tenant}
use Rattle.cops_node.specs.declared.Home.{Home}
use Rattle.cops_node.specs.Parts.{IsMachineTurn, IsSlotKept, MOST_SLOTS, Shared, is_taken, left_by, place_at, place_for, solo_of, trail_of}
use Rattle.cops_node.proofs.Admissions.{none_from, or_left, or_right}

-- ---- what a slot holds

holds_none : (slot : ℕ) (hosted : Hosted) → place_at slot hosted.node ≡ None → slot_holds slot hosted ≡ None
holds_none slot hosted vacant = ap (option_map (held_in slot hosted)) vacant

pub holds_some : (slot : ℕ) (hosted : Hosted) (place : Place) → place_at slot hosted.node ≡ Some place → slot_holds slot hosted ≡ Some (held_in slot hosted place)
holds_some slot hosted place is = ap (option_map (held_in slot hosted)) is

-- it is made of its life, its place and its trail
abbrev held_of : ℕ → List AuditEntry → Option Place → Option Held
held_of life trail place = option_map (λ (p : Place). record { life = life; place = p; solo = left_by p trail }) place

holds_same : (other : ℕ) (old new : Hosted) → life_at other new ≡ life_at other old → IsSlotKept other old.node new.node → slot_holds other new ≡ slot_holds other old
holds_same other old new life kept =
    ap (held_of (life_at other new) (trail_of other new.node.audit)) kept.0
    ∙ ap (λ t. held_of (life_at other new) t (place_at other old.node)) kept.1
    ∙ ap (λ l. held_of l (trail_of other old.node.audit) (place_at other old.node)) life

-- ---- a call of the slot's life

module _ (old : Hosted) (slot moment life : ℕ) (call : NodeCall) (reply : NodeReply) (new : Hosted)
    (turn : IsMachineTurn old.node slot moment call reply new.node) (lives : new.lives ≡ old.lives) (present : life ≡ life_at slot old) where
  place_stays : (at : ℕ) → place_at at new.node ≡ place_at at old.node
  place_stays at =
      let home = turn.home in
      let terms = turn.terms in
      λ i. place_at at (record { home = home i; terms = terms i; audit = new.node.audit })

  life_stays : (at : ℕ) → life_at at new ≡ life_at at old
  life_stays at = ap (λ l. get_or l at 0) lives

  -- the turn of what the slot holds
  abbrev IsOwn : Option Held → Type 0
  IsOwn held = (told.Own reply ≡ (own_turn moment life call held).reply) × (slot_holds slot new ≡ (own_turn moment life call held).after)

  vacant_turn : place_at slot old.node ≡ None → IsOwn None
  vacant_turn vacant = let stays = turn.vacant vacant in (ap told.Own stays.0, holds_none slot new (place_stays slot ∙ vacant))

  its_turn : (place : Place) → own_turn moment life call (Some (held_in slot old place)) ≡ held_turn moment call (held_in slot old place)
  its_turn place =
      ap (λ b. cond b (held_turn moment call (held_in slot old place)) (record { reply = unknown_tenant; after = Some (held_in slot old place) }))
      (eq-eqb life (life_at slot old) present)

  its_own : (place : Place) → place_at slot old.node ≡ Some place → IsOwn (Some (held_in slot old place))
  its_own place is =
      let own = turn.own place is in
      let its = its_turn place in
      let after : slot_holds slot new ≡ (held_turn moment call (held_in slot old place)).after =
      holds_some slot new place (place_stays slot ∙ is)
      ∙ ap (λ solo. Some (record { life = life_at slot new; place = place; solo = solo })) own.1
      ∙ ap (λ l. Some (record { life = l; place = place; solo = (node_step place moment call (solo_of slot place old.node)).after })) (life_stays slot) in
      (ap told.Own own.0 ∙ ap (λ (e : SlotEffect). e.reply) (sym its), after ∙ ap (λ (e : SlotEffect). e.after) (sym its))

  by_place : (p : Option Place) → place_at slot old.node ≡ p → IsOwn (slot_holds slot old)
  by_place None is = subst IsOwn (sym (holds_none slot old is)) (vacant_turn is)
  by_place (Some place) is = subst IsOwn (sym (holds_some slot old place is)) (its_own place is)

  pub own_turns : IsSlotTurn old slot moment (Own life call) (told.Own reply) new
  own_turns = let own = by_place (place_at slot old.node) refl in record {
    reply_is = own.0;
    after = own.1;
    others = λ other differ. holds_same other old new (life_stays other) (place_stays other, turn.others other differ);
    home = turn.home;
  }

-- ---- a call of another life

module _ (old : Hosted) (slot moment life : ℕ) (call : NodeCall) (apart : eqb life (life_at slot old) ≡ false) where
  unknown_at : (p : Option Place) → place_at slot old.node ≡ p → own_turn moment life call (slot_holds slot old) ≡ record { reply = unknown_tenant; after = slot_holds slot old }
  unknown_at None is =
      let none = holds_none slot old is in
      ap (own_turn moment life call) none ∙ ap (λ h. record { reply = unknown_tenant; after = h }) (sym none)
  unknown_at (Some place) is =
      let held = holds_some slot old place is in
      ap (own_turn moment life call) held
      ∙ ap (λ b. cond b (held_turn moment call (held_in slot old place)) (record { reply = unknown_tenant; after = Some (held_in slot old place) })) apart
      ∙ ap (λ h. record { reply = unknown_tenant; after = h }) (sym held)

  pub unknown_turn : IsSlotTurn old slot moment (Own life call) unknown_tenant old
  unknown_turn = let unknown = unknown_at (place_at slot old.node) refl in record {
    reply_is = ap (λ (e : SlotEffect). e.reply) (sym unknown);
    after = ap (λ (e : SlotEffect). e.after) (sym unknown);
    others = λ other differ. refl;
    home = refl;
  }

-- ---- a tenant comes

module _ (old : Hosted) (slot moment life : ℕ) (tenant : Tenant) where
  abbrev home : Home
  home = host_in old

  abbrev no_slot : SlotEffect
  no_slot = record { reply = told.Refused NoSlot; after = None }

  abbrev comes : SlotEffect
  comes = record { reply = told.Admitted; after = Some (newly_held home life tenant) }

  -- not if there is one, or no such slot
  refuses : (b : Bool) → nat_le MOST_SLOTS slot ≡ b → (p : Option Place) → place_at slot old.node ≡ p → (b || is_some p) ≡ true →
      (told.Refused NoSlot ≡ (admit_turn home slot life tenant (slot_holds slot old)).reply) × (slot_holds slot old ≡ (admit_turn home slot life tenant (slot_holds slot old)).after)
  refuses b past (Some place) is taken =
      let held = holds_some slot old place is in
      (ap (λ h. (admit_turn home slot life tenant h).reply) (sym held), held ∙ ap (λ h. (admit_turn home slot life tenant h).after) (sym held))
  refuses true past None is taken =
      let none = holds_none slot old is in
      let refused : admit_turn home slot life tenant None ≡ no_slot = ap (λ b. cond b no_slot comes) past in
      (ap (λ (e : SlotEffect). e.reply) (sym (ap (admit_turn home slot life tenant) none ∙ refused)), none ∙ ap (λ (e : SlotEffect). e.after) (sym (ap (admit_turn home slot life tenant) none ∙ refused)))
  refuses false past None is taken = absurd (true≢false (sym taken))

  pub taken_turn : is_taken slot old.node ≡ true → IsSlotTurn old slot moment (Admit life tenant) (told.Refused NoSlot) old
  taken_turn taken = let r = refuses (nat_le MOST_SLOTS slot) refl (place_at slot old.node) refl taken in record {
    reply_is = r.0;
    after = r.1;
    others = λ other differ. refl;
    home = refl;
  }

  -- else the slot is the tenant's
  pub admitted_turn : (new : Hosted) → is_taken slot old.node ≡ false → place_at slot new.node ≡ Some (place_for home tenant.first_clock tenant.quota) → trail_of slot new.node.audit ≡ [] →
      ((other : ℕ) → other ≢ slot → IsSlotKept other old.node new.node) → host_in new ≡ home → new.lives ≡ set old.lives slot life → slot < length old.lives →
      IsSlotTurn old slot moment (Admit life tenant) told.Admitted new
  admitted_turn new free place empty others same lives within_lives =
      let within : nat_le MOST_SLOTS slot ≡ false = or_left (nat_le MOST_SLOTS slot) (is_some (place_at slot old.node)) free in
      let vacant : slot_holds slot old ≡ None = holds_none slot old (none_from (place_at slot old.node) (or_right (nat_le MOST_SLOTS slot) (is_some (place_at slot old.node)) free)) in
      let came : admit_turn home slot life tenant (slot_holds slot old) ≡ comes = ap (admit_turn home slot life tenant) vacant ∙ ap (λ b. cond b no_slot comes) within in
      let own = place_for home tenant.first_clock tenant.quota in
      let numbered : life_at slot new ≡ life = ap (λ l. get_or l slot 0) lives ∙ get_or-set_same old.lives slot life 0 within_lives in
      let kept : (other : ℕ) → other ≢ slot → life_at other new ≡ life_at other old = λ other differ. ap (λ l. get_or l other 0) lives ∙ get_or-set_other old.lives slot other life 0 differ in
      record {
        reply_is = ap (λ (e : SlotEffect). e.reply) (sym came);
        after =
            holds_some slot new own place
            ∙ ap (λ trail. held_of (life_at slot new) trail (Some own)) empty
            ∙ ap (λ l. held_of l [] (Some own)) numbered
            ∙ ap (λ (e : SlotEffect). e.after) (sym came);
        others = λ other differ. holds_same other old new (kept other differ) (others other differ);
        home = same;
      }

-- ---- a tenant goes

module _ (old : Hosted) (slot moment : ℕ) (new : Hosted) where
  goes : (p : Option Place) → place_at slot old.node ≡ p → IsSome p → place_at slot new.node ≡ None →
      (told.Closed ≡ (close_turn (slot_holds slot old)).reply) × (slot_holds slot new ≡ (close_turn (slot_holds slot old)).after)
  goes None is there vacant = absurd (true≢false (sym there))
  goes (Some place) is there vacant =
      let held = holds_some slot old place is in
      (ap (λ h. (close_turn h).reply) (sym held), holds_none slot new vacant ∙ ap (λ h. (close_turn h).after) (sym held))

  pub closed_turn : IsSome (place_at slot old.node) → place_at slot new.node ≡ None → ((other : ℕ) → other ≢ slot → IsSlotKept other old.node new.node) → host_in new ≡ host_in old →
      new.lives ≡ old.lives → IsSlotTurn old slot moment Close told.Closed new
  closed_turn there vacant others same lives = let g = goes (place_at slot old.node) refl there vacant in record {
    reply_is = g.0;
    after = g.1;
    others = λ other differ. holds_same other old new (ap (λ l. get_or l other 0) lives) (others other differ);
    home = same;
  }

pub nothing_closed : (old : Hosted) (slot moment : ℕ) → place_at slot old.node ≡ None → IsSlotTurn old slot moment Close (told.Refused UnknownTenant) old
nothing_closed old slot moment vacant = let none = holds_none slot old vacant in record {
  reply_is = ap (λ h. (close_turn h).reply) (sym none);
  after = none ∙ ap (λ h. (close_turn h).after) (sym none);
  others = λ other differ. refl;
  home = refl;
}

-- a slot that could be closed had a tenant, and one that couldn't had none
pub was_there : (p : Option Place) (result : Result Unit Fault) → (p ≡ None → result ≡ Err UnknownTenant) → IsOk result → IsSome p
was_there None result refused ok = absurd (true≢false (sym (subst IsOk (refused refl) ok)))
was_there (Some place) result refused ok = refl

abbrev fault_or : Fault → Result Unit Fault → Fault
fault_or other (Ok x) = other
fault_or other (Err f) = f

pub was_vacant : (p : Option Place) (result : Result Unit Fault) (fault : Fault) → (p ≡ None → result ≡ Err UnknownTenant) → (IsSome p → IsOk result) → result ≡ Err fault → (p ≡ None) × (fault ≡ UnknownTenant)
was_vacant None result fault refused ok is = (refl, ap (fault_or fault) (sym is ∙ refused refl))
was_vacant (Some place) result fault refused ok is = absurd (true≢false (sym (subst IsOk is (ok refl))))

-- The host's lines keep its roster and the nodes in agreement.
use Rattle.std.proofs.Common.{◌≡◌, ◌≢◌, ◌∙◌, ℕ, zero, suc, ◌<◌, ◌≤◌, Bool, true, false, cond, not, nat_eq, nat_lt, inl, inr, ◌⊎◌, ◌==◌, ◌&&◌, List, [], ◌∷◌, ◌++◌, length, get_or, set, arith, refl, sym, ap, subst, length-set}
use Rattle.std.specs.Prelude.{Option, Some, None, Ok, Err, Result, is_none}
use Rattle.std.proofs.lemmas.Bool.{eq-eqb, eqb-false, eqb-true, ne_eqb}
use Rattle.std.proofs.lemmas.Bool.Decides.{nat_tests}
use Rattle.std.proofs.lemmas.List.{get_or-set_other, get_or-set_same}
use Rattle.std.proofs.lemmas.Option.{slice_get_within}
use Rattle.std.specs.declared.alloc.AllocError.{AllocError}
use Rattle.cops_types.specs.declared.configs.Tenant.{Tenant}
use Rattle.cops_types.specs.declared.faults.Fault.TheVariants.{GateSpent, NameTaken, NoSlot, OutOfMemory}
use Rattle.cops_types.specs.declared.request_errors.RequestError.{RequestError}
use Rattle.cops_types.specs.HeadLines.{most_tenants}
use Rattle.cops_types.specs.OpenSlots.{admission_refusal, is_new, open_at, open_slot_of_name}
use Rattle.cops_types.specs.Search.{first_refusal}
use Rattle.cops_types.proofs.OpenSlotLemmas.{at_open}
use Rattle.cops_gate.specs.History.{entry, turn, turns_at, turns_of}
use Rattle.cops_gate.specs.Rule.{Met}
use Rattle.cops_model.specs.declared.replies.HostReply.{HostReply}
use Rattle.cops_model.specs.declared.replies.HostReply.TheVariants.{Admitted, Closed, Denied}
use Rattle.cops_model.specs.Setups.{next_slot}
use Rattle.cops_node.specs.declared.hosted.SlotCall.{SlotCall}
use Rattle.cops_node.specs.declared.hosted.SlotCall.TheVariants.{Admit, Close}
use Rattle.cops_node.specs.declared.hosted.SlotReply.{SlotReply}
use Rattle.cops_node.specs.declared.hosted.SlotReply.TheVariants as told
use Rattle.cops_node.specs.Hosting.{Hosted}
use Rattle.cops_node.specs.Lacking.{MayLackAtSlot}
use Rattle.cops_node.specs.Parts.{MOST_SLOTS, terms_of}
use Rattle.cops_service.specs.Gates.{Gates, openings}
use Rattle.cops_service.specs.Hosted.{HostedEntry}
use Rattle.cops_service.specs.HostedCrews.{Hosting, IsLineTold, IsTenantLineTold}
use Rattle.cops_service.specs.HostedDesks.{CallsFirst, HostedSeat, IsAdmittedAtAll, IsClosedAtAll, IsHostCall, IsRefusal, IsTakenBack, told_at_slot}
use Rattle.cops_service.specs.LifeCrews.{FollowsSomeLine}
use Rattle.cops_service.specs.Repeated.{Repeats}
use Rattle.cops_service.specs.Rosters.{BeginsLife, IsAdmissionTold, IsCloseTold, IsNotAdmitted, IsNotKept, Roster}
use Rattle.cops_service.specs.declared.host_lines.HostLine.{HostLine}
use Rattle.cops_service.specs.declared.host_lines.HostLine.TheVariants as line
use Rattle.cops_service.specs.declared.roster.Life.{Life}
use Rattle.cops_service.proofs.Rosters.{given_within, named_open}
use Rattle.cops_service.proofs.SlotTenants.{Resident, after_call, after_entry, after_turn, if_admitted, in_life, resident_after, resident_in}

-- ---- slots of a roster

set_there : (slots : List (Option Tenant)) (slot : ℕ) (o : Option Tenant) → slot < length slots → open_at slot (set slots slot o) ≡ o
set_there [] slot o below = absurd (omega arith)
set_there (x ∷ slots) zero o below = refl
set_there (x ∷ slots) (suc slot) o below = set_there slots slot o (omega arith)

set_else : (slots : List (Option Tenant)) (slot at : ℕ) (o : Option Tenant) → at ≢ slot → open_at at (set slots slot o) ≡ open_at at slots
set_else [] slot at o apart = refl
set_else (x ∷ slots) zero zero o apart = absurd (apart refl)
set_else (x ∷ slots) zero (suc at) o apart = refl
set_else (x ∷ slots) (suc slot) zero o apart = refl
set_else (x ∷ slots) (suc slot) (suc at) o apart = set_else slots slot at o (λ same. apart (ap suc same))

-- a slot that may be given has no tenant
given_free : (tenants : List (Option Tenant)) (slot : ℕ) (tenant : Tenant) → admission_refusal tenants slot tenant ≡ None → open_at slot tenants ≡ None
given_free tenants slot tenant e = by (is_new tenants tenant) (nat_lt slot most_tenants) (open_at slot tenants) e
  where
    by : (a b : Bool) (o : Option Tenant) → first_refusal ((not a, NameTaken) ∷ (not (b && is_none o), NoSlot) ∷ []) ≡ None → o ≡ None
    by false b o e = cc
    by true false o e = cc
    by true true None e = refl
    by true true (Some there) e = cc

open_within : (tenants : List (Option Tenant)) (slot : ℕ) (tenant : Tenant) → open_at slot tenants ≡ Some tenant → slot < length tenants
open_within tenants slot tenant is = slice_get_within tenants slot (Some tenant) (at_open tenants slot tenant (sym is))

some_is : (one other : Tenant) → Some one ≡ Some other → one ≡ other
some_is one other e = cc

no_tenant : (tenant : Tenant) (o : Option Tenant) → o ≡ None → o ≡ Some tenant → ⊥
no_tenant tenant o none some = let both : None ≡ Some tenant = sym none ∙ some in cc

-- ---- a call of the host

-- the seat met no last ticket
abbrev pub HasMetNone : HostedSeat → Type 0
HasMetNone seat = (n : ℕ) → Met n seat.spent → ⊥

either_same : {A : Type 0} (b : Bool) (x : A) → cond b x x ≡ x
either_same true x = refl
either_same false x = refl

lacks_not : told.Admitted ≡ told.Refused OutOfMemory → ⊥
lacks_not e = cc

spent_not : told.Admitted ≡ told.Refused GateSpent → ⊥
spent_not e = cc

not_admitted_so : (answer : Result SlotReply AllocError) (error : RequestError) → IsRefusal answer error → told_at_slot answer ≡ told.Admitted → ⊥
not_admitted_so (Ok told.Admitted) error refuses is = refuses
not_admitted_so (Ok (told.Refused fault)) error refuses is = cc
not_admitted_so (Ok (told.Own reply)) error refuses is = cc
not_admitted_so (Ok told.Closed) error refuses is = cc
not_admitted_so (Err lack) error refuses is = cc

if_not : (life : ℕ) (tenant : Tenant) (reply : SlotReply) (found : Option Resident) → (reply ≡ told.Admitted → ⊥) → if_admitted life tenant reply found ≡ found
if_not life tenant told.Admitted found not_so = absurd (not_so refl)
if_not life tenant (told.Refused fault) found not_so = refl
if_not life tenant (told.Own reply) found not_so = refl
if_not life tenant told.Closed found not_so = refl

module _ (cluster : Gates Hosted) (node : ℕ) (first : Hosted) where
  -- the tenant of a slot of the node, as the seat's own turns leave it
  abbrev pub led : HostedSeat → ℕ → Option Resident
  led seat slot = resident_after slot (turns_at node (turns_of seat.number seat.history)) (resident_in slot first)

  abbrev Keeps : HostedSeat → HostedSeat → Type 0
  Keeps old new = (at : ℕ) → led new at ≡ led old at

  -- the turn changes the tenant of the slot at the node of this number
  abbrev Takes : ℕ → Option HostedEntry → HostedSeat → HostedSeat → Type 0
  Takes number e old new = (at : ℕ) → led new at ≡ cond (number == node) (after_entry at e (led old at)) (led old at)

  -- such a call changes no tenant
  abbrev IsIdle : ℕ → SlotCall → SlotReply → HostedSeat → Type 0
  IsIdle number call reply new = (reply ≡ told.Admitted → ⊥) × (call ≡ Close → Met number new.spent)

  grown : (e : Option HostedEntry) (number : ℕ) (old new : HostedSeat) → new.number ≡ old.number → turns_of old.number new.history ≡ turns_of old.number old.history ++ turn old.number number e ∷ [] → Takes number e old new
  grown e number old new same is at =
      ap (λ n. resident_after at (turns_at node (turns_of n new.history)) (resident_in at first)) same
      ∙ ap (λ ts. resident_after at (turns_at node ts) (resident_in at first)) is
      ∙ after_turn node at (turns_of old.number old.history) (turn old.number number e) (resident_in at first)

  module _ (slot : ℕ) (call : SlotCall) where
    called : (number : ℕ) (reply : SlotReply) (old new : HostedSeat) → IsHostCall cluster slot call number reply old new → Takes number (Some (entry slot 0 call reply)) old new ⊎ (Keeps old new × IsIdle number call reply new)
    called number reply old new h = elim (h.grows) [
      | inl grows ↦ inl (grown (Some (entry slot 0 call reply)) number old new h.same.1 grows.2)
      | inr other ↦ elim other [
        | inl lacked ↦ inr (
          (λ at. grown None number old new h.same.1 lacked.1.2 at ∙ either_same (number == node) (led old at)),
          ((λ is. lacks_not (sym is ∙ lacked.0)), (λ is. absurd (subst (MayLackAtSlot lacked.2.2 slot) is lacked.2.6))),
        )
        | inr spent ↦ inr (
          (λ at. ap (λ n. resident_after at (turns_at node (turns_of n new.history)) (resident_in at first)) h.same.1
              ∙ ap (λ log. resident_after at (turns_at node (turns_of old.number log)) (resident_in at first)) spent.1),
          ((λ is. spent_not (sym is ∙ spent.0)), (λ is. spent.2)),
        )
      ]
    ]

    -- ---- other slots

    entry_else : (b : Bool) (at : ℕ) (reply : SlotReply) (found : Option Resident) → at ≢ slot → cond b (after_entry at (Some (entry slot 0 call reply)) found) found ≡ found
    entry_else true at reply found apart = ap (λ c. cond c (after_call call reply found) found) (ne_eqb slot at (λ same. apart (sym same)))
    entry_else false at reply found apart = refl

    call_else : (number : ℕ) (reply : SlotReply) (old new : HostedSeat) → IsHostCall cluster slot call number reply old new → (at : ℕ) → at ≢ slot → led new at ≡ led old at
    call_else number reply old new h at apart = elim (called number reply old new h) [
      | inl takes ↦ takes at ∙ entry_else (number == node) at reply (led old at) apart
      | inr idle ↦ idle.0 at
    ]

    pub first_else : (Is : SlotReply → Type 0) (n : ℕ) (old new : HostedSeat) → CallsFirst cluster slot call Is n old new → (at : ℕ) → at ≢ slot → led new at ≡ led old at
    first_else Is zero old new same at apart = ap (λ (s : HostedSeat). led s at) same
    first_else Is (suc n) old new (between, reply, earlier, h, is) at apart = call_else n reply between new h at apart ∙ first_else Is n old between earlier at apart

    -- ---- other nodes

    call_past : (number : ℕ) (reply : SlotReply) (old new : HostedSeat) → IsHostCall cluster slot call number reply old new → number ≢ node → Keeps old new
    call_past number reply old new h apart = elim (called number reply old new h) [
      | inl takes ↦ (λ at. takes at ∙ ap (λ b. cond b (after_entry at (Some (entry slot 0 call reply)) (led old at)) (led old at)) (ne_eqb number node apart))
      | inr idle ↦ idle.0
    ]

    first_past : (Is : SlotReply → Type 0) (n : ℕ) (old new : HostedSeat) → CallsFirst cluster slot call Is n old new → n ≤ node → Keeps old new
    first_past Is zero old new same past at = ap (λ (s : HostedSeat). led s at) same
    first_past Is (suc n) old new (between, reply, earlier, h, is) past at =
        call_past n reply between new h (λ same. absurd (omega (arith, same))) at ∙ first_past Is n old between earlier (omega arith) at

    -- ---- tickets

    pub first_none : (Is : SlotReply → Type 0) (n : ℕ) (old new : HostedSeat) → CallsFirst cluster slot call Is n old new → HasMetNone new → HasMetNone old
    first_none Is zero old new same none = subst HasMetNone same none
    first_none Is (suc n) old new (between, reply, earlier, h, is) none = first_none Is n old between earlier (λ m met. none m (h.met m met))

    -- ---- this slot of this node

    entry_here : (reply : SlotReply) (found : Option Resident) → cond (node == node) (after_entry slot (Some (entry slot 0 call reply)) found) found ≡ after_call call reply found
    entry_here reply found =
        ap (λ b. cond b (after_entry slot (Some (entry slot 0 call reply)) found) found) (eq-eqb node node refl)
        ∙ ap (λ b. cond b (after_call call reply found) found) (eq-eqb slot slot refl)

    takes_here : (number : ℕ) (reply : SlotReply) (old new : HostedSeat) → number ≡ node → Takes number (Some (entry slot 0 call reply)) old new → led new slot ≡ after_call call reply (led old slot)
    takes_here number reply old new same takes =
        takes slot ∙ ap (λ n. cond (n == node) (after_entry slot (Some (entry slot 0 call reply)) (led old slot)) (led old slot)) same ∙ entry_here reply (led old slot)

  -- ---- admissions

  pub first_admits : (slot life : ℕ) (tenant : Tenant) (n : ℕ) (old new : HostedSeat) → CallsFirst cluster slot (Admit life tenant) (λ reply. reply ≡ told.Admitted) n old new → node < n → led new slot ≡ Some (in_life life (terms_of tenant))
  first_admits slot life tenant zero old new same within = absurd (omega arith)
  first_admits slot life tenant (suc n) old new (between, reply, earlier, h, is) within = by (nat_eq n node) refl (first_admits slot life tenant n old between earlier)
    where
      here : n ≡ node → led new slot ≡ Some (in_life life (terms_of tenant))
      here same = elim (called slot (Admit life tenant) n reply between new h) [
        | inl takes ↦ takes_here slot (Admit life tenant) n reply between new same takes ∙ ap (λ r. if_admitted life tenant r (led between slot)) is
        | inr idle ↦ absurd (idle.1.0 is)
      ]

      by : (b : Bool) → nat_eq n node ≡ b → (node < n → led between slot ≡ Some (in_life life (terms_of tenant))) → led new slot ≡ Some (in_life life (terms_of tenant))
      by true at before = here (eqb-true n node at)
      by false at before = let apart : n ≢ node = eqb-false n node at in call_past slot (Admit life tenant) n reply between new h apart slot ∙ before (omega (arith, apart))

  -- an admission that is refused gives the slot to nobody
  refused_free : (slot life : ℕ) (tenant : Tenant) (number : ℕ) (reply : SlotReply) (old new : HostedSeat) → IsHostCall cluster slot (Admit life tenant) number reply old new → (reply ≡ told.Admitted → ⊥) → led old slot ≡ None → led new slot ≡ None
  refused_free slot life tenant number reply old new h not_so free = elim (called slot (Admit life tenant) number reply old new h) [
    | inl takes ↦ takes slot ∙ by (number == node)
    | inr idle ↦ idle.0 slot ∙ free
  ]
    where
      by : (b : Bool) → cond b (after_entry slot (Some (entry slot 0 (Admit life tenant) reply)) (led old slot)) (led old slot) ≡ None
      by true = ap (λ c. cond c (if_admitted life tenant reply (led old slot)) (led old slot)) (eq-eqb slot slot refl) ∙ if_not life tenant reply (led old slot) not_so ∙ free
      by false = free

  -- ---- closes

  pub first_closes : (slot : ℕ) (Is : SlotReply → Type 0) (n : ℕ) (old new : HostedSeat) → CallsFirst cluster slot Close Is n old new → HasMetNone new → node < n → led new slot ≡ None
  first_closes slot Is zero old new same none within = absurd (omega arith)
  first_closes slot Is (suc n) old new (between, reply, earlier, h, is) none within = by (nat_eq n node) refl (first_closes slot Is n old between earlier (λ m met. none m (h.met m met)))
    where
      by : (b : Bool) → nat_eq n node ≡ b → (node < n → led between slot ≡ None) → led new slot ≡ None
      by true at before = elim (called slot Close n reply between new h) [
        | inl takes ↦ takes_here slot Close n reply between new (eqb-true n node at) takes
        | inr idle ↦ absurd (none n (idle.1.1 refl))
      ]
      by false at before = let apart : n ≢ node = eqb-false n node at in call_past slot Close n reply between new h apart slot ∙ before (omega (arith, apart))

  -- a refused admission is taken back at the nodes before
  taken_back : (slot life : ℕ) (tenant : Tenant) (error : RequestError) (old new : HostedSeat) → IsTakenBack cluster slot life tenant error old new → HasMetNone new → led old slot ≡ None → led new slot ≡ None
  taken_back slot life tenant error old new back none free = by (nat_lt node back.refuser) refl
    where
      past : back.refuser ≤ node → led new slot ≡ None
      past beyond =
          first_past slot Close _ back.refuser back.refused new back.closed beyond slot
          ∙ refused_free slot life tenant back.refuser (told_at_slot back.answer) back.tried back.refused back.refuses (not_admitted_so back.answer error back.reason)
          (first_past slot (Admit life tenant) _ back.refuser old back.tried back.admitted beyond slot ∙ free)

      by : (b : Bool) → nat_lt node back.refuser ≡ b → led new slot ≡ None
      by true below = first_closes slot _ back.refuser back.refused new back.closed none (grind (arith, nat_tests))
      by false beyond = past (grind (arith, nat_tests))

  -- ---- the roster's tenants

  -- Each open tenant of the roster has its slot of the node, in the roster's life. If the seat met no last ticket, no other tenant has a slot
  pub record Agrees (roster : Roster) (seat : HostedSeat) : Type 0 where
    pub many : length roster.lives ≡ MOST_SLOTS
    pub wide : most_tenants ≤ length roster.tenants
    pub each : (slot : ℕ) (tenant : Tenant) → open_at slot roster.tenants ≡ Some tenant → led seat slot ≡ Some (in_life (get_or roster.lives slot 0) (terms_of tenant))
    pub free : HasMetNone seat → (slot : ℕ) → open_at slot roster.tenants ≡ None → led seat slot ≡ None

  -- only this slot may change
  record ChangesAt (slot : ℕ) (old new : Roster) (seat new_seat : HostedSeat) : Type 0 where
    tenants : (at : ℕ) → at ≢ slot → open_at at new.tenants ≡ open_at at old.tenants
    lives : (at : ℕ) → at ≢ slot → get_or new.lives at 0 ≡ get_or old.lives at 0
    many : length new.lives ≡ length old.lives
    wide : length new.tenants ≡ length old.tenants
    keeps : (at : ℕ) → at ≢ slot → led new_seat at ≡ led seat at
    none : HasMetNone new_seat → HasMetNone seat

  agrees_on : (slot : ℕ) (old new : Roster) (seat new_seat : HostedSeat) → Agrees old seat → ChangesAt slot old new seat new_seat →
      ((tenant : Tenant) → open_at slot new.tenants ≡ Some tenant → led new_seat slot ≡ Some (in_life (get_or new.lives slot 0) (terms_of tenant))) →
      (HasMetNone new_seat → open_at slot new.tenants ≡ None → led new_seat slot ≡ None) → Agrees new new_seat
  agrees_on slot old new seat new_seat agrees changes here free = record {
    many = changes.many ∙ agrees.many;
    wide = let enough = agrees.wide in let same = changes.wide in omega (arith, enough, same);
    each = λ at tenant is. each_by at tenant is (nat_eq at slot) refl;
    free = λ none at is. free_by none at is (nat_eq at slot) refl;
  }
    where
      each_by : (at : ℕ) (tenant : Tenant) → open_at at new.tenants ≡ Some tenant → (b : Bool) → nat_eq at slot ≡ b → led new_seat at ≡ Some (in_life (get_or new.lives at 0) (terms_of tenant))
      each_by at tenant is true same =
          let same_slot : at ≡ slot = eqb-true at slot same in
          subst (λ n. led new_seat n ≡ Some (in_life (get_or new.lives n 0) (terms_of tenant))) (sym same_slot) (here tenant (subst (λ n. open_at n new.tenants ≡ Some tenant) same_slot is))
      each_by at tenant is false apart =
          let differ : at ≢ slot = eqb-false at slot apart in
          changes.keeps at differ ∙ agrees.each at tenant (sym (changes.tenants at differ) ∙ is) ∙ ap (λ n. Some (in_life n (terms_of tenant))) (sym (changes.lives at differ))

      free_by : HasMetNone new_seat → (at : ℕ) → open_at at new.tenants ≡ None → (b : Bool) → nat_eq at slot ≡ b → led new_seat at ≡ None
      free_by none at is true same =
          let same_slot : at ≡ slot = eqb-true at slot same in
          subst (λ n. led new_seat n ≡ None) (sym same_slot) (free none (subst (λ n. open_at n new.tenants ≡ None) same_slot is))
      free_by none at is false apart =
          let differ : at ≢ slot = eqb-false at slot apart in
          changes.keeps at differ ∙ agrees.free (changes.none none) at (sym (changes.tenants at differ) ∙ is)

  -- ---- lines

  abbrev pub AgreesThere : Hosting → Type 0
  AgreesThere hosting = Agrees hosting.roster hosting.seat

  module _ (within : node < length (openings cluster)) where
    admits : (life : Life) (tenant : Tenant) (old new : Roster) (seat new_seat : HostedSeat) → Agrees old seat → BeginsLife life tenant old new → IsAdmittedAtAll cluster life.slot life.number tenant seat new_seat → Agrees new new_seat
    admits life tenant old new seat new_seat agrees begins at_all =
        agrees_on life.slot old new seat new_seat agrees changes (λ other is. subst (λ t. led new_seat life.slot ≡ Some (in_life (get_or new.lives life.slot 0) (terms_of t))) (some_is tenant other (sym there ∙ is)) here)
        (λ none is. absurd (no_tenant tenant _ is there))
      where
        inside : life.slot < most_tenants
        inside = subst (λ n. n < most_tenants) (sym begins.slot) (given_within old.tenants (next_slot old.tenants) tenant begins.may)

        there : open_at life.slot new.tenants ≡ Some tenant
        there = ap (open_at life.slot) begins.tenants ∙ set_there old.tenants life.slot (Some tenant) (let enough = agrees.wide in omega (arith, inside, enough))

        life_is : get_or new.lives life.slot 0 ≡ life.number
        life_is = ap (λ ls. get_or ls life.slot 0) begins.lives ∙ get_or-set_same old.lives life.slot life.number 0 (let enough = agrees.many in omega (arith, inside, enough))

        here : led new_seat life.slot ≡ Some (in_life (get_or new.lives life.slot 0) (terms_of tenant))
        here = first_admits life.slot life.number tenant (length (openings cluster)) seat new_seat at_all within ∙ ap (λ n. Some (in_life n (terms_of tenant))) (sym life_is)

        changes : ChangesAt life.slot old new seat new_seat
        changes = record {
          tenants = λ at apart. ap (open_at at) begins.tenants ∙ set_else old.tenants life.slot at (Some tenant) apart;
          lives = λ at apart. ap (λ ls. get_or ls at 0) begins.lives ∙ get_or-set_other old.lives life.slot at life.number 0 apart;
          many = ap length begins.lives ∙ length-set old.lives life.slot life.number;
          wide = ap length begins.tenants ∙ length-set old.tenants life.slot (Some tenant);
          keeps = first_else life.slot (Admit life.number tenant) _ (length (openings cluster)) seat new_seat at_all;
          none = first_none life.slot (Admit life.number tenant) _ (length (openings cluster)) seat new_seat at_all;
        }

    -- what isn't kept leaves the slot free
    record IsFreed (slot : ℕ) (seat new_seat : HostedSeat) : Type 0 where
      keeps : (at : ℕ) → at ≢ slot → led new_seat at ≡ led seat at
      none : HasMetNone new_seat → HasMetNone seat
      free : HasMetNone new_seat → led seat slot ≡ None → led new_seat slot ≡ None

    not_kept : (roster : Roster) (tenant : Tenant) (error : RequestError) (seat new_seat : HostedSeat) → IsNotKept cluster roster tenant error seat new_seat → IsFreed (next_slot roster.tenants) seat new_seat
    not_kept roster tenant error seat new_seat (inl back) =
        let slot : ℕ = next_slot roster.tenants in
        let call : SlotCall = Admit roster.next tenant in
        record {
          keeps = λ at apart. first_else slot Close _ back.refuser back.refused new_seat back.closed at apart ∙ call_else slot call back.refuser (told_at_slot back.answer) back.tried back.refused back.refuses at apart
              ∙ first_else slot call _ back.refuser seat back.tried back.admitted at apart;
          none = λ none. first_none slot call _ back.refuser seat back.tried back.admitted (λ m met. first_none slot Close _ back.refuser back.refused new_seat back.closed none m (back.refuses.met m met));
          free = taken_back slot roster.next tenant error seat new_seat back;
        }
    not_kept roster tenant error seat new_seat (inr (lack, between, admitted, closed)) =
        let slot : ℕ = next_slot roster.tenants in
        let call : SlotCall = Admit roster.next tenant in
        let count : ℕ = length (openings cluster) in
        record {
          keeps = λ at apart. first_else slot Close _ count between new_seat closed at apart ∙ first_else slot call _ count seat between admitted at apart;
          none = λ none. first_none slot call _ count seat between admitted (first_none slot Close _ count between new_seat closed none);
          free = λ none was. first_closes slot _ count between new_seat closed none within;
        }

    -- the roster has the same tenants in the same lives
    agrees_still : (old new : Roster) (seat new_seat : HostedSeat) → new.tenants ≡ old.tenants → new.lives ≡ old.lives → new_seat ≡ seat → Agrees old seat → Agrees new new_seat
    agrees_still old new seat new_seat tenants lives same agrees =
        subst (Agrees new) (sym same) (record {
          many = ap length lives ∙ agrees.many;
          wide = subst (λ ts. most_tenants ≤ length ts) (sym tenants) agrees.wide;
          each = λ slot tenant is. agrees.each slot tenant (ap (open_at slot) (sym tenants) ∙ is) ∙ ap (λ ls. Some (in_life (get_or ls slot 0) (terms_of tenant))) (sym lives);
          free = λ none slot is. agrees.free none slot (ap (open_at slot) (sym tenants) ∙ is);
        })

    refuses : (old new : Roster) (tenant : Tenant) (error : RequestError) (seat new_seat : HostedSeat) → new.tenants ≡ old.tenants → new.lives ≡ old.lives → IsNotAdmitted cluster old tenant error seat new_seat new.next → Agrees old seat → Agrees new new_seat
    refuses old new tenant error seat new_seat tenants lives (inl (refused, same, stays)) agrees = agrees_still old new seat new_seat tenants lives same agrees
    refuses old new tenant error seat new_seat tenants lives (inr (may, kept, taken)) agrees =
        let slot : ℕ = next_slot old.tenants in
        let freed = not_kept old tenant error seat new_seat kept in
        let vacant : open_at slot old.tenants ≡ None = given_free old.tenants slot tenant may in
        let now_vacant : open_at slot new.tenants ≡ None = ap (open_at slot) tenants ∙ vacant in
        agrees_on slot old new seat new_seat agrees (record {
          tenants = λ at apart. ap (open_at at) tenants;
          lives = λ at apart. ap (λ ls. get_or ls at 0) lives;
          many = ap length lives;
          wide = ap length tenants;
          keeps = freed.keeps;
          none = freed.none;
        }) (λ other is. absurd (no_tenant other _ now_vacant is)) (λ none is. freed.free none (agrees.free (freed.none none) slot vacant))

    closes : (slot : ℕ) (tenant : Tenant) (old new : Roster) (seat new_seat : HostedSeat) → open_at slot old.tenants ≡ Some tenant → new.tenants ≡ set old.tenants slot None → new.lives ≡ old.lives → IsClosedAtAll cluster slot seat new_seat → Agrees old seat → Agrees new new_seat
    closes slot tenant old new seat new_seat there tenants lives closed agrees =
        let count : ℕ = length (openings cluster) in
        let gone : open_at slot new.tenants ≡ None = ap (open_at slot) tenants ∙ set_there old.tenants slot None (open_within old.tenants slot tenant there) in
        agrees_on slot old new seat new_seat agrees (record {
          tenants = λ at apart. ap (open_at at) tenants ∙ set_else old.tenants slot at None apart;
          lives = λ at apart. ap (λ ls. get_or ls at 0) lives;
          many = ap length lives;
          wide = ap length tenants ∙ length-set old.tenants slot None;
          keeps = first_else slot Close _ count seat new_seat closed;
          none = first_none slot Close _ count seat new_seat closed;
        }) (λ other is. absurd (no_tenant other _ gone is)) (λ none is. first_closes slot _ count seat new_seat closed none within)

    admission : (tenant : Tenant) (old : Roster) (seat : HostedSeat) (reply : HostReply) (new : Roster) (new_seat : HostedSeat) → IsAdmissionTold cluster tenant old seat reply new new_seat → Agrees old seat → Agrees new new_seat
    admission tenant old seat (Admitted name) new new_seat (name_is, life, begins, at_all) agrees = admits life tenant old new seat new_seat agrees begins at_all
    admission tenant old seat (Denied fault) new new_seat (error, fault_is, not_so, tenants, lives) agrees = refuses old new tenant error seat new_seat tenants lives not_so agrees
    admission tenant old seat (Closed name) new new_seat h agrees = absurd h

    closing : (name : List ℕ) (found : Option ℕ) (old : Roster) (seat : HostedSeat) (reply : HostReply) (new : Roster) (new_seat : HostedSeat) → open_slot_of_name old.tenants name ≡ found → IsCloseTold cluster name found old seat reply new new_seat → Agrees old seat → Agrees new new_seat
    closing name None old seat reply new new_seat is (reply_is, stays, same) agrees = agrees_still old new seat new_seat (ap (λ (r : Roster). r.tenants) stays) (ap (λ (r : Roster). r.lives) stays) same agrees
    closing name (Some slot) old seat reply new new_seat is (reply_is, tenants, lives, next, closed) agrees =
        let there = named_open old.tenants name slot is in
        closes slot there.0 old new seat new_seat there.1 tenants lives closed agrees

    same_there : (old new : Hosting) → new ≡ old → AgreesThere old → AgreesThere new
    same_there old new same agrees = subst AgreesThere (sym same) agrees

    tenant_line : (tenant : Tenant) (old : Hosting) (reply : HostReply) (new : Hosting) → IsTenantLineTold cluster tenant old reply new → AgreesThere old → AgreesThere new
    tenant_line tenant old reply new (inl (fits, h)) agrees = admission tenant old.roster old.seat reply new.roster new.seat h agrees
    tenant_line tenant old reply new (inr (past, reply_is, same)) agrees = same_there old new same agrees

    followed : (said : HostLine) (old : Hosting) (answer : Option HostReply) (new : Hosting) → IsLineTold cluster said old answer new → AgreesThere old → AgreesThere new
    followed (line.Admit tenant) old None new h agrees = absurd h
    followed (line.Admit tenant) old (Some reply) new h agrees = tenant_line tenant old reply new h agrees
    followed (line.Close name) old None new h agrees = absurd h
    followed (line.Close name) old (Some reply) new h agrees = closing name (open_slot_of_name old.roster.tenants name) old.roster old.seat reply new.roster new.seat refl h agrees
    followed line.Unknown old answer new (told_is, same) agrees = same_there old new same agrees
    followed line.End old answer new (told_is, same) agrees = same_there old new same agrees

    pub all_followed : (count : ℕ) (old new : Hosting) → Repeats (FollowsSomeLine cluster) count old new → AgreesThere old → AgreesThere new
    all_followed zero old new same agrees = same_there old new same agrees
    all_followed (suc count) old new (between, earlier, (said, follows)) agrees = followed said between follows.told new follows.is_told (all_followed count old between earlier agrees)

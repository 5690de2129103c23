-- The life and the terms of a slot's tenant, as a history leaves them. Only calls of the host change them.
use Rattle.std.proofs.Common.{◌≡◌, ◌∙◌, ℕ, Bool, true, false, cond, nat_eq, nat_le, inl, inr, ◌⊎◌, ◌==◌, [], ◌∷◌, ◌++◌, refl, sym, ap, subst}
use Rattle.std.specs.Prelude.{Option, Some, None}
use Rattle.std.specs.List.{AllByRecursion}
use Rattle.std.specs.Option.{option_map}
use Rattle.std.proofs.lemmas.Bool.{eqb-false, eqb-true}
use Rattle.std.proofs.lemmas.List.Elements.{filter-append}
use Rattle.cops_types.specs.declared.configs.Tenant.{Tenant}
use Rattle.cops_types.specs.declared.faults.Fault.TheVariants.{NoSlot}
use Rattle.cops_gate.specs.declared.history.Turn.{Turn}
use Rattle.cops_gate.specs.History.{Leads, Makes, turns_at, turns_of}
use Rattle.cops_model.specs.declared.calls.NodeCall.{NodeCall}
use Rattle.cops_node.specs.declared.hosted.SlotCall.{SlotCall}
use Rattle.cops_node.specs.declared.hosted.SlotCall.TheVariants.{Own, Admit, Close}
use Rattle.cops_node.specs.declared.hosted.SlotReply.{SlotReply}
use Rattle.cops_node.specs.declared.hosted.SlotReply.TheVariants as told
use Rattle.cops_node.specs.declared.Home.{Home}
use Rattle.cops_node.specs.declared.Terms.{Terms}
use Rattle.cops_node.specs.Hosting.{Held, Hosted, IsSlotTurn, SlotEffect, admit_turn, close_turn, held_in, held_turn, host_in, life_at, newly_held, own_turn, slot_holds, slot_turn, unknown_tenant}
use Rattle.cops_node.specs.Parts.{MOST_SLOTS, place_under, terms_at, terms_of}
use Rattle.cops_service.specs.Hosted.{HostedEntry, HostedLog}

abbrev pub HostedTurn : Type 0
HostedTurn = Turn SlotCall SlotReply

-- ---- a slot's tenant

pub record Resident : Type 0 where
  pub life : ℕ
  pub terms : Terms

abbrev pub in_life : ℕ → Terms → Resident
in_life life terms = record { life = life; terms = terms }

-- the tenant of the slot of a node, and that of what it holds
abbrev pub resident_in : ℕ → Hosted → Option Resident
resident_in slot hosted = option_map (in_life (life_at slot hosted)) (terms_at slot hosted.node)

abbrev resident_of : Held → Resident
resident_of held = in_life held.life (record { first_clock = held.place.first_clock; quota = held.place.quota })

resident_held : (slot : ℕ) (hosted : Hosted) → resident_in slot hosted ≡ option_map resident_of (slot_holds slot hosted)
resident_held slot hosted = by (terms_at slot hosted.node)
  where
    by : (o : Option Terms) → option_map (in_life (life_at slot hosted)) o ≡ option_map resident_of (option_map (held_in slot hosted) (option_map (place_under hosted.node.home) o))
    by None = refl
    by (Some terms) = refl

-- a tenant that has these terms in this life
pub has_terms : (slot life : ℕ) (terms : Terms) (hosted : Hosted) → resident_in slot hosted ≡ Some (in_life life terms) → (terms_at slot hosted.node ≡ Some terms) × (life_at slot hosted ≡ life)
has_terms slot life terms hosted is = by (terms_at slot hosted.node) is
  where
    by : (o : Option Terms) → option_map (in_life (life_at slot hosted)) o ≡ Some (in_life life terms) → (o ≡ Some terms) × (life_at slot hosted ≡ life)
    by None e = cc
    by (Some own) e =
        let same : in_life (life_at slot hosted) own ≡ in_life life terms = cc in
        (ap (λ (r : Resident). Some r.terms) same, ap (λ (r : Resident). r.life) same)

pub has_none : (slot : ℕ) (hosted : Hosted) → resident_in slot hosted ≡ None → terms_at slot hosted.node ≡ None
has_none slot hosted is = by (terms_at slot hosted.node) is
  where
    by : (o : Option Terms) → option_map (in_life (life_at slot hosted)) o ≡ None → o ≡ None
    by None e = refl
    by (Some own) e = cc

-- ---- after a turn

-- an admission that succeeds gives the slot to the tenant
abbrev pub if_admitted : ℕ → Tenant → SlotReply → Option Resident → Option Resident
if_admitted life tenant told.Admitted found = Some (in_life life (terms_of tenant))
if_admitted life tenant others found = found

abbrev pub after_call : SlotCall → SlotReply → Option Resident → Option Resident
after_call (Own life call) reply found = found
after_call (Admit life tenant) reply found = if_admitted life tenant reply found
after_call Close reply found = None

abbrev pub after_entry : ℕ → Option HostedEntry → Option Resident → Option Resident
after_entry slot None found = found
after_entry slot (Some e) found = cond (nat_eq e.slot slot) (after_call e.call e.reply found) found

own_so : (moment life : ℕ) (call : NodeCall) (held : Option Held) → option_map resident_of (own_turn moment life call held).after ≡ option_map resident_of held
own_so moment life call None = refl
own_so moment life call (Some held) = by (nat_eq life held.life)
  where
    by : (b : Bool) → option_map resident_of (cond b (held_turn moment call held) (record { reply = unknown_tenant; after = Some held })).after ≡ Some (resident_of held)
    by true = refl
    by false = refl

abbrev admitted_unless : Home → ℕ → Tenant → Bool → SlotEffect
admitted_unless home life tenant past = cond past (record { reply = told.Refused NoSlot; after = None }) (record { reply = told.Admitted; after = Some (newly_held home life tenant) })

admit_so : (home : Home) (slot life : ℕ) (tenant : Tenant) (held : Option Held) →
    option_map resident_of (admit_turn home slot life tenant held).after ≡ if_admitted life tenant (admit_turn home slot life tenant held).reply (option_map resident_of held)
admit_so home slot life tenant (Some held) = refl
admit_so home slot life tenant None = by (nat_le MOST_SLOTS slot)
  where
    by : (past : Bool) → option_map resident_of (admitted_unless home life tenant past).after ≡ if_admitted life tenant (admitted_unless home life tenant past).reply None
    by true = refl
    by false = refl

close_so : (held : Option Held) → option_map resident_of (close_turn held).after ≡ None
close_so None = refl
close_so (Some held) = refl

slot_so : (home : Home) (slot moment : ℕ) (call : SlotCall) (held : Option Held) →
    option_map resident_of (slot_turn home slot moment call held).after ≡ after_call call (slot_turn home slot moment call held).reply (option_map resident_of held)
slot_so home slot moment (Own life call) held = own_so moment life call held
slot_so home slot moment (Admit life tenant) held = admit_so home slot life tenant held
slot_so home slot moment Close held = close_so held

-- the slot of the turn
own_slot : (old new : Hosted) (slot moment : ℕ) (call : SlotCall) (reply : SlotReply) → IsSlotTurn old slot moment call reply new → resident_in slot new ≡ after_call call reply (resident_in slot old)
own_slot old new slot moment call reply turn =
    resident_held slot new ∙ ap (option_map resident_of) turn.after ∙ slot_so (host_in old) slot moment call (slot_holds slot old)
    ∙ ap (λ r. after_call call r (option_map resident_of (slot_holds slot old))) (sym turn.reply_is)
    ∙ ap (after_call call reply) (sym (resident_held slot old))

made_so : (slot : ℕ) (old new : Hosted) (e : Option HostedEntry) → Makes IsSlotTurn old e new → resident_in slot new ≡ after_entry slot e (resident_in slot old)
made_so slot old new None same = ap (resident_in slot) (sym same)
made_so slot old new (Some e) turn = by (nat_eq e.slot slot) refl
  where
    by : (b : Bool) → nat_eq e.slot slot ≡ b → resident_in slot new ≡ cond b (after_call e.call e.reply (resident_in slot old)) (resident_in slot old)
    by true is = subst (λ n. resident_in n new ≡ after_call e.call e.reply (resident_in n old)) (eqb-true e.slot slot is) (own_slot old new e.slot e.moment e.call e.reply turn)
    by false is =
        resident_held slot new ∙ ap (option_map resident_of) (turn.others slot (λ same. eqb-false e.slot slot is (sym same))) ∙ sym (resident_held slot old)

-- ---- after a history of the node

abbrev pub resident_after : ℕ → HostedLog → Option Resident → Option Resident
resident_after slot [] found = found
resident_after slot (t ∷ log) found = resident_after slot log (after_entry slot t.entry found)

pub led_so : (slot : ℕ) (opening left : Hosted) (log : HostedLog) → Leads IsSlotTurn opening log left → resident_in slot left ≡ resident_after slot log (resident_in slot opening)
led_so slot opening left [] same = ap (resident_in slot) (sym same)
led_so slot opening left (t ∷ log) (between, made, later) = led_so slot between left log later ∙ ap (resident_after slot log) (made_so slot opening between t.entry made)

pub after_both : (slot : ℕ) (log more : HostedLog) (found : Option Resident) → resident_after slot (log ++ more) found ≡ resident_after slot more (resident_after slot log found)
after_both slot [] more found = refl
after_both slot (t ∷ log) more found = after_both slot log more (after_entry slot t.entry found)

-- one turn more, at this node or another
pub after_turn : (node slot : ℕ) (log : HostedLog) (t : HostedTurn) (found : Option Resident) →
    resident_after slot (turns_at node (log ++ t ∷ [])) found ≡ cond (t.node == node) (after_entry slot t.entry (resident_after slot (turns_at node log) found)) (resident_after slot (turns_at node log) found)
after_turn node slot log t found =
    ap (λ ts. resident_after slot ts found) (filter-append (λ (u : HostedTurn). u.node == node) log (t ∷ []))
    ∙ after_both slot (turns_at node log) (turns_at node (t ∷ [])) found ∙ by (t.node == node)
  where
    by : (b : Bool) → resident_after slot (cond b (t ∷ []) []) (resident_after slot (turns_at node log) found) ≡ cond b (after_entry slot t.entry (resident_after slot (turns_at node log) found)) (resident_after slot (turns_at node log) found)
    by true = refl
    by false = refl

-- ---- whose turns count

abbrev pub is_hosts_call : SlotCall → Bool
is_hosts_call (Own life call) = false
is_hosts_call (Admit life tenant) = true
is_hosts_call Close = true

-- an admission or a close
abbrev pub is_hosts : Option HostedEntry → Bool
is_hosts None = false
is_hosts (Some e) = is_hosts_call e.call

idle_call : (call : SlotCall) (reply : SlotReply) (found : Option Resident) → is_hosts_call call ≡ false → after_call call reply found ≡ found
idle_call (Own life call) reply found is = refl
idle_call (Admit life tenant) reply found is = cc
idle_call Close reply found is = cc

idle_entry : (slot : ℕ) (e : Option HostedEntry) (found : Option Resident) → is_hosts e ≡ false → after_entry slot e found ≡ found
idle_entry slot None found is = refl
idle_entry slot (Some e) found is = by (nat_eq e.slot slot)
  where
    by : (b : Bool) → cond b (after_call e.call e.reply found) found ≡ found
    by true = idle_call e.call e.reply found is
    by false = refl

module _ (host : ℕ) where
  abbrev pub IsHostsOrIdle : HostedTurn → Type 0
  IsHostsOrIdle t = (t.seat ≡ host) ⊎ (is_hosts t.entry ≡ false)

  module _ (node slot : ℕ) where
    -- the seat's turns leave the same tenant as all turns
    abbrev IsSame : HostedLog → Type 0
    IsSame log = (found : Option Resident) → resident_after slot (turns_at node log) found ≡ resident_after slot (turns_at node (turns_of host log)) found

    own_more : (t : HostedTurn) (log : HostedLog) → IsSame log → (found : Option Resident) (there : Bool) →
        resident_after slot (cond there (t ∷ turns_at node log) (turns_at node log)) found ≡ resident_after slot (cond there (t ∷ turns_at node (turns_of host log)) (turns_at node (turns_of host log))) found
    own_more t log later found true = later (after_entry slot t.entry found)
    own_more t log later found false = later found

    idle_more : (t : HostedTurn) (log : HostedLog) → IsSame log → is_hosts t.entry ≡ false → (found : Option Resident) (there : Bool) →
        resident_after slot (cond there (t ∷ turns_at node log) (turns_at node log)) found ≡ resident_after slot (turns_at node (turns_of host log)) found
    idle_more t log later idle found true = ap (resident_after slot (turns_at node log)) (idle_entry slot t.entry found idle) ∙ later found
    idle_more t log later idle found false = later found

    one_more : (t : HostedTurn) (log : HostedLog) → IsSame log → IsHostsOrIdle t → (found : Option Resident) (own : Bool) → (t.seat == host) ≡ own →
        resident_after slot (turns_at node (t ∷ log)) found ≡ resident_after slot (turns_at node (cond own (t ∷ turns_of host log) (turns_of host log))) found
    one_more t log later either found true is = own_more t log later found (t.node == node)
    one_more t log later (inl same) found false is = absurd (eqb-false t.seat host is same)
    one_more t log later (inr idle) found false is = idle_more t log later idle found (t.node == node)

    pub only_hosts : (log : HostedLog) → AllByRecursion IsHostsOrIdle log → IsSame log
    only_hosts [] all = λ found. refl
    only_hosts (t ∷ log) all = λ found. one_more t log (only_hosts log all.1) all.0 found (t.seat == host) refl

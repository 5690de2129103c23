-- At a node at which tenants come and go, a slot's replies depend on that slot alone.
use Rattle.std.proofs.Common.{◌≡◌, ◌≢◌, ℕ, ◌∙◌, Bool, true, false, true≢false, eqb, cond, List, [], ◌∷◌, ◌++◌, map, refl, sym, ap, subst, Option, Some, None, nat_le}
use Rattle.std.proofs.lemmas.Bool.{eqb-true, eqb-false, ne_eqb}
use Rattle.cops_types.specs.declared.configs.Tenant.{Tenant}
use Rattle.cops_types.specs.declared.faults.Fault.TheVariants.{NoSlot}
use Rattle.cops_gate.specs.History.{Makes, Leads, IsLegal, entry, turn}
use Rattle.cops_model.specs.declared.calls.NodeCall.{NodeCall}
use Rattle.cops_model.specs.Place.{Place}
use Rattle.cops_model.specs.SoloNode.{SoloNode, new_node}
use Rattle.cops_model.specs.Step.{node_step}
use Rattle.cops_node.specs.declared.hosted.SlotCall.{SlotCall}
use Rattle.cops_node.specs.declared.hosted.SlotCall.TheVariants.{Own, Admit, Close}
use Rattle.cops_node.specs.declared.hosted.SlotReply.{SlotReply}
use Rattle.cops_node.specs.declared.hosted.SlotReply.TheVariants as told
use Rattle.cops_node.specs.Hosting.{Held, Hosted, IsSlotTurn, SlotEffect, TimedSlotCall, admit_turn, close_turn, held_turn, host_in, newly_held, own_turn, slot_after, slot_holds, slot_replies, slot_turn, unknown_tenant}
use Rattle.cops_node.specs.declared.Home.{Home}
use Rattle.cops_node.specs.Parts.{MOST_SLOTS, place_for}
use Rattle.cops_node.specs.Run.{TimedCall, node_replies}
use Rattle.cops_service.specs.Hosted.{HostedEntry, HostedLog, IsNoClose, BeginsNoSuchLife, NeverBegins, IsNeverClosed, joins_calls, joins_replies, life_calls, life_calls_at, life_replies_at, replies_of_life, slot_calls_at, timed_slot}
use Rattle.cops_service.specs.Slots.{joins_at, replies_at, slot_entries}
use Rattle.cops_service.proofs.Told.{goes_on}

-- the turns get the replies of the slot alone, and leave in it what they leave there
abbrev AsHeld : Home → ℕ → Option Held → List HostedEntry → Hosted → Type 0
AsHeld home slot held es left =
    (map (λ (e : HostedEntry). e.reply) es ≡ slot_replies home slot (map timed_slot es) held) × (slot_holds slot left ≡ slot_after home slot (map timed_slot es) held)

module _ (slot : ℕ) (home : Home) (held : Option Held) (before between left : Hosted) (here : host_in before ≡ home) (holds : slot_holds slot before ≡ held)
    (e : HostedEntry) (es : List HostedEntry) (made : IsSlotTurn before e.slot e.moment e.call e.reply between)
    (later : (next : Option Held) → slot_holds slot between ≡ next → AsHeld home slot next es left) where
  -- a turn of this slot, and then the rest
  own : e.slot ≡ slot → AsHeld home slot held (e ∷ es) left
  own is =
      let there : slot_turn (host_in before) e.slot e.moment e.call (slot_holds e.slot before) ≡ slot_turn home slot e.moment e.call held =
      ap (λ n. slot_turn (host_in before) n e.moment e.call (slot_holds n before)) is
      ∙ ap (slot_turn (host_in before) slot e.moment e.call) holds
      ∙ ap (λ (h : Home). slot_turn h slot e.moment e.call held) here in
      let reply_is : e.reply ≡ (slot_turn home slot e.moment e.call held).reply = made.reply_is ∙ ap (λ (effect : SlotEffect). effect.reply) there in
      let next_is : slot_holds slot between ≡ (slot_turn home slot e.moment e.call held).after =
      ap (λ n. slot_holds n between) (sym is) ∙ made.after ∙ ap (λ (effect : SlotEffect). effect.after) there in
      let rest = later (slot_turn home slot e.moment e.call held).after next_is in
      ((λ i. reply_is i ∷ rest.0 i), rest.1)

  -- a turn of another slot
  other : slot ≢ e.slot → AsHeld home slot held es left
  other differ = later held (made.others slot differ ∙ holds)

  either : (b : Bool) → eqb e.slot slot ≡ b → AsHeld home slot held (cond b (e ∷ es) es) left
  either true is = own (eqb-true e.slot slot is)
  either false is = other (λ same. eqb-false e.slot slot is (sym same))

  pub joined : AsHeld home slot held (joins_at slot (Some e) es) left
  joined = either (eqb e.slot slot) refl

-- a turn, or a blank one, leaves the node the same
same_home : (before between : Hosted) (e : Option HostedEntry) → Makes IsSlotTurn before e between → host_in between ≡ host_in before
same_home before between None same = ap host_in (sym same)
same_home before between (Some e) made = made.home

module _ (slot : ℕ) (home : Home) (held : Option Held) (before between left : Hosted) (here : host_in before ≡ home) (holds : slot_holds slot before ≡ held)
    (es : List HostedEntry) (later : (next : Option Held) → slot_holds slot between ≡ next → AsHeld home slot next es left) where
  after_turn : (e : Option HostedEntry) → Makes IsSlotTurn before e between → AsHeld home slot held (joins_at slot e es) left
  after_turn None same = later held (ap (slot_holds slot) (sym same) ∙ holds)
  after_turn (Some e) made = joined slot home held before between left here holds e es made later

as_held : (slot : ℕ) (home : Home) (held : Option Held) (opening left : Hosted) (log : HostedLog) → host_in opening ≡ home → slot_holds slot opening ≡ held → Leads IsSlotTurn opening log left →
    AsHeld home slot held (slot_entries slot log) left
as_held slot home held opening left [] here holds l = (refl, ap (slot_holds slot) (sym l) ∙ holds)
as_held slot home held opening left (t ∷ ts) here holds l =
    after_turn slot home held opening l.0 left here holds (slot_entries slot ts)
    (λ next is. as_held slot home next l.0 left ts (same_home opening l.0 t.entry l.1 ∙ here) is l.2) t.entry l.1

pub replies_as_held : (slot : ℕ) (opening : Hosted) (log : HostedLog) → IsLegal IsSlotTurn opening log → replies_at slot log ≡ slot_replies (host_in opening) slot (slot_calls_at slot log) (slot_holds slot opening)
replies_as_held slot opening log legal = (as_held slot (host_in opening) (slot_holds slot opening) opening legal.0 log refl refl legal.1).0

pub left_as_held : (slot : ℕ) (opening left : Hosted) (log : HostedLog) → Leads IsSlotTurn opening log left → slot_holds slot left ≡ slot_after (host_in opening) slot (slot_calls_at slot log) (slot_holds slot opening)
left_as_held slot opening left log l = (as_held slot (host_in opening) (slot_holds slot opening) opening left log refl refl l).1

pub stays_there : (opening left : Hosted) (log : HostedLog) → Leads IsSlotTurn opening log left → host_in left ≡ host_in opening
stays_there opening left [] l = ap host_in (sym l)
stays_there opening left (t ∷ ts) l = stays_there l.0 left ts l.2 ∙ same_home opening l.0 t.entry l.1

-- ---- the effect of an admission at a slot without a tenant: the slot is past the last, or is the tenant's

abbrev admitted_unless : Home → ℕ → Tenant → Bool → SlotEffect
admitted_unless home life tenant past = cond past (record { reply = told.Refused NoSlot; after = None }) (record { reply = told.Admitted; after = Some (newly_held home life tenant) })

-- ---- replies one by one

abbrev first_or : SlotReply → List SlotReply → SlotReply
first_or other [] = other
first_or other (r ∷ rs) = r

abbrev others_of : List SlotReply → List SlotReply
others_of [] = []
others_of (r ∷ rs) = rs

-- the turns get the replies of the slot alone
abbrev Told : Home → ℕ → Option Held → List HostedEntry → Type 0
Told home slot held es = map (λ (e : HostedEntry). e.reply) es ≡ slot_replies home slot (map timed_slot es) held

told_first : (home : Home) (slot : ℕ) (held : Option Held) (e : HostedEntry) (es : List HostedEntry) → Told home slot held (e ∷ es) → e.reply ≡ (slot_turn home slot e.moment e.call held).reply
told_first home slot held e es is = ap (first_or e.reply) is

told_others : (home : Home) (slot : ℕ) (held : Option Held) (e : HostedEntry) (es : List HostedEntry) → Told home slot held (e ∷ es) → Told home slot (slot_turn home slot e.moment e.call held).after es
told_others home slot held e es is = ap others_of is

-- ---- the calls of a life, and others between them

abbrev unless_held : ℕ → NodeCall → Held → Bool → SlotEffect
unless_held moment call held same = cond same (held_turn moment call held) (record { reply = unknown_tenant; after = Some held })

-- the calls of this life get the replies of its solo node
abbrev InLife : ℕ → Place → SoloNode → List TimedSlotCall → List HostedEntry → Type 0
InLife n place solo calls es = replies_of_life n es ≡ map told.Own (node_replies place (life_calls n calls) solo)

module _ (home : Home) (slot n : ℕ) (held : Held) (mine : held.life ≡ n) (es : List HostedEntry)
    (later : (next : Held) → next.life ≡ n → Told home slot (Some next) es → InLife n next.place next.solo (map timed_slot es) es) where
  abbrev rest : List TimedCall
  rest = life_calls n (map timed_slot es)

  -- a call of some life
  of_some_life : (moment life : ℕ) (call : NodeCall) (reply : SlotReply) (b : Bool) → eqb life n ≡ b → reply ≡ (unless_held moment call held b).reply →
      Told home slot (unless_held moment call held b).after es →
      cond b (reply ∷ replies_of_life n es) (replies_of_life n es) ≡ map told.Own (node_replies held.place (cond b (record { moment = moment; call = call } ∷ rest) rest) held.solo)
  of_some_life moment life call reply true is said after =
      let turn = node_step held.place moment call held.solo in
      let more = later (record { life = held.life; place = held.place; solo = turn.after }) mine after in
      λ i. said i ∷ more i
  of_some_life moment life call reply false is said after = later held mine after

  same_life : (life : ℕ) → eqb life held.life ≡ eqb life n
  same_life life = ap (eqb life) mine

  in_life : (moment : ℕ) (call : SlotCall) (reply : SlotReply) → IsNoClose call → reply ≡ (slot_turn home slot moment call (Some held)).reply →
      Told home slot (slot_turn home slot moment call (Some held)).after es →
      joins_replies n call reply (replies_of_life n es) ≡ map told.Own (node_replies held.place (joins_calls n moment call rest) held.solo)
  in_life moment (Own life call) reply lasts said after =
      let same = same_life life in
      of_some_life moment life call reply (eqb life n) refl (said ∙ ap (λ b. (unless_held moment call held b).reply) same)
      (subst (λ b. Told home slot (unless_held moment call held b).after es) same after)
  in_life moment (Admit life tenant) reply lasts said after = later held mine after
  in_life moment Close reply lasts said after = absurd lasts

life_alone : (home : Home) (slot n : ℕ) (es : List HostedEntry) (held : Held) → held.life ≡ n → Told home slot (Some held) es → IsNeverClosed (map timed_slot es) →
    InLife n held.place held.solo (map timed_slot es) es
life_alone home slot n [] held mine is lasts = refl
life_alone home slot n (e ∷ es) held mine is lasts =
    in_life home slot n held mine es (λ next its after. life_alone home slot n es next its after lasts.1)
    e.moment e.call e.reply lasts.0 (told_first home slot (Some held) e es is) (told_others home slot (Some held) e es is)

-- ---- the calls of a life that isn't the slot's

abbrev is_life : ℕ → Option Held → Bool
is_life n None = false
is_life n (Some held) = eqb held.life n

abbrev AllUnknown : ℕ → List TimedSlotCall → List HostedEntry → Type 0
AllUnknown n calls es = replies_of_life n es ≡ map (λ _. unknown_tenant) (life_calls n calls)

module _ (home : Home) (slot n : ℕ) (es : List HostedEntry)
    (later : (next : Option Held) → is_life n next ≡ false → Told home slot next es → AllUnknown n (map timed_slot es) es) where
  abbrev more : List TimedCall
  more = life_calls n (map timed_slot es)

  abbrev Unknown : ℕ → SlotCall → SlotReply → Type 0
  Unknown moment call reply = joins_replies n call reply (replies_of_life n es) ≡ map (λ _. unknown_tenant) (joins_calls n moment call more)

  -- a call of this life at a slot of another one, or of none
  own_unknown : (moment life : ℕ) (call : NodeCall) (held : Option Held) → is_life n held ≡ false → eqb life n ≡ true →
      own_turn moment life call held ≡ record { reply = unknown_tenant; after = held }
  own_unknown moment life call None apart mine = refl
  own_unknown moment life call (Some held) apart mine =
      ap (unless_held moment call held) (ne_eqb life held.life (λ same. true≢false (sym mine ∙ ap (λ l. eqb l n) same ∙ apart)))

  -- a call of a life leaves the slot in the life that it was in
  own_stays : (moment life : ℕ) (call : NodeCall) (held : Option Held) → is_life n (own_turn moment life call held).after ≡ is_life n held
  own_stays moment life call None = refl
  own_stays moment life call (Some held) = by (eqb life held.life)
    where
      by : (b : Bool) → is_life n (unless_held moment call held b).after ≡ is_life n (Some held)
      by true = refl
      by false = refl

  of_some : (moment life : ℕ) (call : NodeCall) (reply : SlotReply) (held : Option Held) → is_life n held ≡ false → (b : Bool) → eqb life n ≡ b →
      reply ≡ (own_turn moment life call held).reply → Told home slot (own_turn moment life call held).after es →
      cond b (reply ∷ replies_of_life n es) (replies_of_life n es) ≡ map (λ _. unknown_tenant) (cond b (record { moment = moment; call = call } ∷ more) more)
  of_some moment life call reply held apart true is said after =
      let unknown = own_unknown moment life call held apart is in
      let reply_is : reply ≡ unknown_tenant = said ∙ ap (λ (e : SlotEffect). e.reply) unknown in
      let rest = later (own_turn moment life call held).after (own_stays moment life call held ∙ apart) after in
      λ i. reply_is i ∷ rest i
  of_some moment life call reply held apart false is said after = later (own_turn moment life call held).after (own_stays moment life call held ∙ apart) after

  -- what an admission leaves isn't this life, nor what a close leaves
  admit_stays : (life : ℕ) (tenant : Tenant) (held : Option Held) → is_life n held ≡ false → eqb life n ≡ false → is_life n (admit_turn home slot life tenant held).after ≡ false
  admit_stays life tenant (Some held) apart other = apart
  admit_stays life tenant None apart other = by (nat_le MOST_SLOTS slot)
    where
      by : (past : Bool) → is_life n (admitted_unless home life tenant past).after ≡ false
      by true = refl
      by false = other

  close_leaves : (held : Option Held) → is_life n (close_turn held).after ≡ false
  close_leaves None = refl
  close_leaves (Some held) = refl

  unknown : (moment : ℕ) (call : SlotCall) (reply : SlotReply) (held : Option Held) → is_life n held ≡ false → BeginsNoSuchLife n call → reply ≡ (slot_turn home slot moment call held).reply →
      Told home slot (slot_turn home slot moment call held).after es → Unknown moment call reply
  unknown moment (Own life call) reply held apart other said after = of_some moment life call reply held apart (eqb life n) refl said after
  unknown moment (Admit life tenant) reply held apart other said after = later (admit_turn home slot life tenant held).after (admit_stays life tenant held apart other) after
  unknown moment Close reply held apart other said after = later (close_turn held).after (close_leaves held) after

all_unknown : (home : Home) (slot n : ℕ) (es : List HostedEntry) (held : Option Held) → is_life n held ≡ false → Told home slot held es → NeverBegins n (map timed_slot es) →
    AllUnknown n (map timed_slot es) es
all_unknown home slot n [] held apart is never = refl
all_unknown home slot n (e ∷ es) held apart is never =
    unknown home slot n es (λ next its after. all_unknown home slot n es next its after never.1)
    e.moment e.call e.reply held apart never.0 (told_first home slot held e es is) (told_others home slot held e es is)

-- ---- in a history

-- what a turn of the slot left, and what follows it
after_turn_of : (slot moment seat node : ℕ) (call : SlotCall) (reply : SlotReply) (opening : Hosted) (before later : HostedLog) →
    IsLegal IsSlotTurn opening (before ++ turn seat node (Some (entry slot moment call reply)) ∷ later) →
    (held : Option Held) × (reply ≡ (slot_turn (host_in opening) slot moment call held).reply) × Told (host_in opening) slot (slot_turn (host_in opening) slot moment call held).after (slot_entries slot later)
after_turn_of slot moment seat node call reply opening before later legal =
    let split = goes_on IsSlotTurn opening legal.0 before (turn seat node (Some (entry slot moment call reply)) ∷ later) legal.1 in
    let there : Hosted = split.0 in
    let made : IsSlotTurn there slot moment call reply split.2.0 = split.2.1 in
    let same : host_in there ≡ host_in opening = stays_there opening there before split.1 in
    let held = slot_holds slot there in
    let effect : slot_turn (host_in there) slot moment call held ≡ slot_turn (host_in opening) slot moment call held = ap (λ (h : Home). slot_turn h slot moment call held) same in
    let after = made.after ∙ ap (λ (e : SlotEffect). e.after) effect in (
      held,
      made.reply_is ∙ ap (λ (e : SlotEffect). e.reply) effect,
      (as_held slot (host_in opening) (slot_turn (host_in opening) slot moment call held).after split.2.0 legal.0 later (made.home ∙ same) after split.2.2).0,
    )

-- who was admitted has a new solo node
newly : (home : Home) (slot life : ℕ) (tenant : Tenant) (held : Option Held) → told.Admitted ≡ (admit_turn home slot life tenant held).reply → (admit_turn home slot life tenant held).after ≡ Some (newly_held home life tenant)
newly home slot life tenant (Some held) is = cc
newly home slot life tenant None is = by (nat_le MOST_SLOTS slot) is
  where
    by : (past : Bool) → told.Admitted ≡ (admitted_unless home life tenant past).reply → (admitted_unless home life tenant past).after ≡ Some (newly_held home life tenant)
    by true is = cc
    by false is = refl

pub life_as_alone : (slot moment seat node life : ℕ) (tenant : Tenant) (opening : Hosted) (before later : HostedLog) →
    IsLegal IsSlotTurn opening (before ++ turn seat node (Some (entry slot moment (Admit life tenant) told.Admitted)) ∷ later) → IsNeverClosed (slot_calls_at slot later) →
    life_replies_at slot life later ≡ map told.Own (node_replies (place_for (host_in opening) tenant.first_clock tenant.quota) (life_calls_at slot life later) (new_node (host_in opening).shape.data_centres))
life_as_alone slot moment seat node life tenant opening before later legal lasts =
    let at = after_turn_of slot moment seat node (Admit life tenant) told.Admitted opening before later legal in
    let came = newly (host_in opening) slot life tenant at.0 at.1 in
    life_alone (host_in opening) slot life (slot_entries slot later) (newly_held (host_in opening) life tenant) refl
    (subst (λ held. Told (host_in opening) slot held (slot_entries slot later)) came at.2) lasts

pub unknown_after_close : (slot moment seat node life : ℕ) (opening : Hosted) (before later : HostedLog) →
    IsLegal IsSlotTurn opening (before ++ turn seat node (Some (entry slot moment Close told.Closed)) ∷ later) → NeverBegins life (slot_calls_at slot later) →
    life_replies_at slot life later ≡ map (λ _. unknown_tenant) (life_calls_at slot life later)
unknown_after_close slot moment seat node life opening before later legal never =
    let at = after_turn_of slot moment seat node Close told.Closed opening before later legal in
    all_unknown (host_in opening) slot life (slot_entries slot later) (close_turn at.0).after (left_by_close at.0) at.2 never
  where
    left_by_close : (held : Option Held) → is_life life (close_turn held).after ≡ false
    left_by_close None = refl
    left_by_close (Some held) = refl

pub unknown_in_another : (slot moment seat node life next : ℕ) (tenant : Tenant) (opening : Hosted) (before later : HostedLog) → next ≢ life →
    IsLegal IsSlotTurn opening (before ++ turn seat node (Some (entry slot moment (Admit next tenant) told.Admitted)) ∷ later) → NeverBegins life (slot_calls_at slot later) →
    life_replies_at slot life later ≡ map (λ _. unknown_tenant) (life_calls_at slot life later)
unknown_in_another slot moment seat node life next tenant opening before later apart legal never =
    let at = after_turn_of slot moment seat node (Admit next tenant) told.Admitted opening before later legal in
    let came = newly (host_in opening) slot next tenant at.0 at.1 in
    all_unknown (host_in opening) slot life (slot_entries slot later) (Some (newly_held (host_in opening) next tenant)) (ne_eqb next life apart)
    (subst (λ held. Told (host_in opening) slot held (slot_entries slot later)) came at.2) never

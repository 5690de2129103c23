-- The calls of a life at one node are those of a node that its tenant has to itself.
use Rattle.std.proofs.Common.{◌≡◌, ◌≢◌, ◌⊎◌, ℕ, ◌*◌, ◌<◌, inl, inr, Bool, true, false, cond, nat_eq, nat_le, nat_lt, IsTrue, List, [], ◌∷◌, ◌++◌, map, length, refl, sym, ◌∙◌, ap, subst}
use Rattle.std.specs.Prelude.{Option, Some, None, filter, replicate, slice_get}
use Rattle.std.specs.Option.{option_map}
use Rattle.std.specs.List.{AllByRecursion, cons_option, filter_map}
use Rattle.std.proofs.lemmas.Bool.Decides.{Decides-eqb}
use Rattle.std.proofs.lemmas.Bool.{eqb-true}
use Rattle.cops_types.specs.declared.configs.Config.{Config}
use Rattle.cops_types.specs.declared.configs.Tenant.{Tenant}
use Rattle.cops_types.specs.declared.faults.Fault.TheVariants.{NoSlot, OutOfMemory}
use Rattle.cops_types.specs.TenantConfig.{TenantConfig, tenant_config}
use Rattle.cops_model.specs.declared.calls.NodeCall.{NodeCall}
use Rattle.cops_model.specs.declared.calls.NodeReply.{NodeReply}
use Rattle.cops_model.specs.declared.calls.NodeReply.TheVariants as node_reply
use Rattle.cops_model.specs.Cluster.{has_node}
use Rattle.cops_model.specs.Place.{Place, place_of}
use Rattle.cops_model.specs.SoloNode.{SoloNode, new_node}
use Rattle.cops_model.specs.Step.{node_step}
use Rattle.cops_node.specs.Clusters.{id_of, new_shared}
use Rattle.cops_node.specs.declared.Home.{Home}
use Rattle.cops_node.specs.declared.hosted.SlotCall.{SlotCall}
use Rattle.cops_node.specs.declared.hosted.SlotCall.TheVariants.{Own, Admit, Close}
use Rattle.cops_node.specs.declared.hosted.SlotReply.{SlotReply}
use Rattle.cops_node.specs.declared.hosted.SlotReply.TheVariants as told
use Rattle.cops_node.specs.Hosting.{Held, Hosted, IsSlotTurn, SlotEffect, admit_turn, held_in, held_turn, host_in, life_at, newly_held, close_turn, own_turn, slot_holds, slot_turn, unknown_tenant}
use Rattle.cops_node.specs.Lacking.{MayLack, MayLackAtSlot}
use Rattle.cops_node.specs.Parts.{MOST_SLOTS, home_of, left_by, place_at, solo_of}
use Rattle.cops_node.proofs.Clusters.{place_new}
use Rattle.cops_node.proofs.Fresh.{replicate_read}
use Rattle.cops_node.proofs.Hosting.{holds_some}
use Rattle.cops_history.specs.Turns.{Turn, IsLegal, IsReplyOf, has_audit_left, left_by_turn, left_of, was_refused_memory}
use Rattle.cops_history.specs.Lives.{SlotEntry, AsksForLife, AsksOnce, IsCallInLife, IsLifeOf, IsSlotCallAt, IsToldUnknown, IsUnknown, LeadsOnSlots, NeverAsksFor, NeverToldUnknown, call_in_life, held_there, new_hosted, reply_in_life, slot_entry, turn_in_life}
use Rattle.cops_history.proofs.Cutting.{all_prefix}
use Rattle.cops_history.proofs.SparedNodes.{node_spared}

pub some_same : {A : Type 0} (a b : A) → Some a ≡ Some b → a ≡ b
some_same a b e = cc

all_suffix : {A : Type 0} (P : A → Type 0) (prefix later : List A) → AllByRecursion P (prefix ++ later) → AllByRecursion P later
all_suffix P [] later is = is
all_suffix P (x ∷ prefix) later is = all_suffix P prefix later is.1

abbrev pub HeldCalls : Type 0
HeldCalls = List (Option SlotEntry)

-- ---- any calls

pub led_parts : (earlier later : HeldCalls) (old left : Hosted) → LeadsOnSlots old (earlier ++ later) left → (between : Hosted) × LeadsOnSlots old earlier between × LeadsOnSlots between later left
led_parts [] later old left leads = (old, refl, leads)
led_parts (None ∷ earlier) later old left leads = led_parts earlier later old left leads
led_parts (Some e ∷ earlier) later old left (mid, call, leads) = let rest = led_parts earlier later mid left leads in (rest.0, (mid, call, rest.1), rest.2)

home_kept : (e : SlotEntry) (old new : Hosted) → IsSlotCallAt old e new → host_in new ≡ host_in old
home_kept e old new (inl turn) = turn.home
home_kept e old new (inr (lack, stays, may)) = ap host_in stays

homes_kept : (entries : HeldCalls) (old left : Hosted) → LeadsOnSlots old entries left → host_in left ≡ host_in old
homes_kept [] old left same = ap host_in same
homes_kept (None ∷ entries) old left leads = homes_kept entries old left leads
homes_kept (Some e ∷ entries) old left (mid, call, leads) = homes_kept entries mid left leads ∙ home_kept e old mid call

-- no call of another slot changes it
others_kept : (slot : ℕ) (e : SlotEntry) (old new : Hosted) → slot ≢ e.slot → IsSlotCallAt old e new → slot_holds slot new ≡ slot_holds slot old
others_kept slot e old new differ (inl turn) = turn.others slot differ
others_kept slot e old new differ (inr (lack, stays, may)) = ap (slot_holds slot) stays

differs : (slot : ℕ) (e : SlotEntry) → nat_eq e.slot slot ≡ false → slot ≢ e.slot
differs slot e is same = let yes_same : nat_eq e.slot slot ≡ true = (Decides-eqb e.slot slot).1 (sym same) in cc

-- a slot without a tenant, after an admission: it is past the last, or it is the tenant's
abbrev granted : Home → ℕ → Tenant → Bool → SlotEffect
granted home life tenant past = cond past (record { reply = told.Refused NoSlot; after = None }) (record { reply = told.Admitted; after = Some (newly_held home life tenant) })

pub joined_parts : {A : Type 0} (o : Option A) (first second both : List A) → both ≡ first ++ second → cons_option o both ≡ cons_option o first ++ second
joined_parts None first second both is = is
joined_parts (Some x) first second both is = ap (λ xs. x ∷ xs) is

-- ---- calls of a life

module _ (config : Config) (tenant : Tenant) (slot life number : ℕ) (there : has_node (tenant_config config tenant) (id_of config.shards number).dc (id_of config.shards number).shard ≡ true) where
  abbrev own : TenantConfig
  own = tenant_config config tenant

  abbrev place : Place
  place = place_of own (id_of config.shards number)

  abbrev pub held : SoloNode → Held
  held = held_there config tenant life number

  abbrev pub mine : HeldCalls → List Turn
  mine entries = filter_map (turn_in_life config.shards slot life number) entries

  -- a call of the life, as a turn of its tenant
  abbrev turn_with : SlotEntry → NodeCall → Turn
  turn_with e call = record { node = id_of config.shards number; moment = e.moment; call = call; reply = reply_in_life e.reply }

  -- these turns are legal alone, and what they leave alone is what the slot holds, if it has the life
  pub record AloneThere (solo : SoloNode) (turns : List Turn) (left : Hosted) : Type 0 where
    pub legal : IsLegal own solo turns
    pub stands : (h : Held) → slot_holds slot left ≡ Some h → h.life ≡ life → h ≡ held (left_of own solo turns)

  -- ---- while the node doesn't have the life

  -- the slot doesn't hold this life
  abbrev pub IsNotHeld : Hosted → Type 0
  IsNotHeld hosted = (h : Held) → slot_holds slot hosted ≡ Some h → h.life ≡ life → ⊥

  abbrev NotHeld : Option Held → Type 0
  NotHeld found = (h : Held) → found ≡ Some h → h.life ≡ life → ⊥

  none_held : (h : Held) → None ≡ Some h → h.life ≡ life → ⊥
  none_held h is = cc

  module _ (e : SlotEntry) (old between : Hosted) (same : e.slot ≡ slot) (apart : IsNotHeld old) where
    effect_now : (call : SlotCall) → e.call ≡ call → slot_turn (host_in old) e.slot e.moment e.call (slot_holds e.slot old) ≡ slot_turn (host_in old) slot e.moment call (slot_holds slot old)
    effect_now call is =
        ap (λ n. slot_turn (host_in old) n e.moment e.call (slot_holds n old)) same
        ∙ ap (λ c. slot_turn (host_in old) slot e.moment c (slot_holds slot old)) is

    after_now : (call : SlotCall) → e.call ≡ call → IsSlotTurn old e.slot e.moment e.call e.reply between → slot_holds slot between ≡ (slot_turn (host_in old) slot e.moment call (slot_holds slot old)).after
    after_now call is turn = ap (λ n. slot_holds n between) (sym same) ∙ turn.after ∙ ap (λ (s : SlotEffect). s.after) (effect_now call is)

    -- a call of a life leaves the slot in the life that it is in
    own_leaves : (other moment : ℕ) (call : NodeCall) (found : Option Held) → NotHeld found → NotHeld (own_turn moment other call found).after
    own_leaves other moment call None not_it = none_held
    own_leaves other moment call (Some h) not_it = by (nat_eq other h.life)
      where
        by : (b : Bool) → NotHeld (cond b (held_turn moment call h) (record { reply = unknown_tenant; after = Some h })).after
        by true = λ k is mine_is. not_it h refl (ap (λ (g : Held). g.life) (some_same (record { life = h.life; place = h.place; solo = (node_step h.place moment call h.solo).after }) k is) ∙ mine_is)
        by false = not_it

    -- so the life's call is refused
    own_unknown : (moment : ℕ) (call : NodeCall) (found : Option Held) → NotHeld found → (own_turn moment life call found).reply ≡ unknown_tenant
    own_unknown moment call None not_it = refl
    own_unknown moment call (Some h) not_it = by (nat_eq life h.life) refl
      where
        by : (b : Bool) → nat_eq life h.life ≡ b → (cond b (held_turn moment call h) (record { reply = unknown_tenant; after = Some h })).reply ≡ unknown_tenant
        by true is = absurd (not_it h refl (sym (eqb-true life h.life is)))
        by false is = refl

    admit_leaves : (other : ℕ) (newcomer : Tenant) (found : Option Held) → other ≢ life → NotHeld found → NotHeld (admit_turn (host_in old) slot other newcomer found).after
    admit_leaves other newcomer (Some h) differ not_it = not_it
    admit_leaves other newcomer None differ not_it = by (nat_le MOST_SLOTS slot)
      where
        by : (past : Bool) → NotHeld (granted (host_in old) other newcomer past).after
        by true = none_held
        by false = λ k is mine_is. differ (ap (λ (g : Held). g.life) (some_same (newly_held (host_in old) other newcomer) k is) ∙ mine_is)

    close_leaves : (found : Option Held) → NotHeld (close_turn found).after
    close_leaves None = none_held
    close_leaves (Some h) = none_held

    leaves : (call : SlotCall) → e.call ≡ call → NotHeld (slot_turn (host_in old) slot e.moment call (slot_holds slot old)).after → IsSlotCallAt old e between → IsNotHeld between
    leaves call is not_then (inl turn) h found = not_then h (sym (after_now call is turn) ∙ found)
    leaves call is not_then (inr (lack, stays, may)) h found = apart h (ap (slot_holds slot) (sym stays) ∙ found)

    -- no call of the life comes, and the slot doesn't get it
    unheld_still : (call : SlotCall) → e.call ≡ call → (AsksForLife slot life (Some e) → ⊥) → IsSlotCallAt old e between → IsNotHeld between
    unheld_still (Own other call) is none at = leaves (Own other call) is (own_leaves other e.moment call (slot_holds slot old) apart) at
    unheld_still (Admit other newcomer) is none at =
        leaves (Admit other newcomer) is (admit_leaves other newcomer (slot_holds slot old) (λ same_life. none (same, newcomer, is ∙ ap (λ n. Admit n newcomer) same_life)) apart) at
    unheld_still Close is none at = leaves Close is (close_leaves (slot_holds slot old)) at

    -- a call of the life gets that reply
    told_unknown : (call : NodeCall) → e.call ≡ Own life call → IsSlotCallAt old e between → e.reply ≡ unknown_tenant
    told_unknown call is (inl turn) = turn.reply_is ∙ ap (λ (s : SlotEffect). s.reply) (effect_now (Own life call) is) ∙ own_unknown e.moment call (slot_holds slot old) apart
    told_unknown call is (inr (lack, stays, may)) =
        let at_slot : MayLackAtSlot old slot (Own life call) = subst (λ n. MayLackAtSlot old n (Own life call)) same (subst (MayLackAtSlot old e.slot) is may) in
        absurd (apart (held_in slot old at_slot.1.0) (holds_some slot old at_slot.1.0 at_slot.1.1) (sym at_slot.0))

  call_not : (call : SlotCall) → ((own_call : NodeCall) → call ≡ Own life own_call → ⊥) → call_in_life life call ≡ None
  call_not (Own other call) never = by (nat_eq other life) refl
    where
      by : (b : Bool) → nat_eq other life ≡ b → cond b (Some call) None ≡ None
      by true is = absurd (never call (ap (λ l. Own l call) (eqb-true other life is)))
      by false is = refl
  call_not (Admit other newcomer) never = refl
  call_not Close never = refl

  turn_not : (entry : Option SlotEntry) → (IsCallInLife slot life entry → ⊥) → turn_in_life config.shards slot life number entry ≡ None
  turn_not None never = refl
  turn_not (Some e) never = by (nat_eq e.slot slot) refl
    where
      by : (b : Bool) → nat_eq e.slot slot ≡ b → cond b (option_map (turn_with e) (call_in_life life e.call)) None ≡ None
      by true is = ap (option_map (turn_with e)) (call_not e.call (λ c c_is. never (eqb-true e.slot slot is, c, c_is)))
      by false is = refl

  -- the calls are none of the life, and it isn't there at the end
  pub record Unheld (entries : HeldCalls) (left : Hosted) : Type 0 where
    pub none : mine entries ≡ []
    pub still : IsNotHeld left

  pub unheld_there : (entries : HeldCalls) (old left : Hosted) → IsNotHeld old → NeverAsksFor slot life entries → NeverToldUnknown slot life entries → LeadsOnSlots old entries left → Unheld entries left
  unheld_there [] old left apart begins known same = record { none = refl; still = λ h found. apart h (ap (slot_holds slot) (sym same) ∙ found) }
  unheld_there (None ∷ entries) old left apart begins known leads =
      let rest = unheld_there entries old left apart begins.1 known.1 leads in
      record { none = rest.none; still = rest.still }
  unheld_there (Some e ∷ entries) old left apart begins known (between, call, leads) =
      let rest = unheld_there entries between left (next (nat_eq e.slot slot) refl) begins.1 known.1 leads in
      let nothing : turn_in_life config.shards slot life number (Some e) ≡ None = turn_not (Some e) (λ in_life. known.0 (in_life, told_unknown e old between in_life.0 apart in_life.1 in_life.2 call)) in
      record { none = (λ i. cons_option (nothing i) (mine entries)) ∙ rest.none; still = rest.still }
    where
      next : (b : Bool) → nat_eq e.slot slot ≡ b → IsNotHeld between
      next true is = unheld_still e old between (eqb-true e.slot slot is) apart e.call refl begins.0 call
      next false is = λ h found. apart h (sym (others_kept slot e old between (differs slot e is) call) ∙ found)

  -- so do all calls of the life
  pub all_unknown : (entries : HeldCalls) (old left : Hosted) → IsNotHeld old → NeverAsksFor slot life entries → LeadsOnSlots old entries left → AllByRecursion (λ (e : Option SlotEntry). IsUnknown slot life e) entries
  all_unknown [] old left apart begins same = tt
  all_unknown (None ∷ entries) old left apart begins leads = (tt, all_unknown entries old left apart begins.1 leads)
  all_unknown (Some e ∷ entries) old left apart begins (between, call, leads) =
      (λ in_life. told_unknown e old between in_life.0 apart in_life.1 in_life.2 call, all_unknown entries between left (next (nat_eq e.slot slot) refl) begins.1 leads)
    where
      next : (b : Bool) → nat_eq e.slot slot ≡ b → IsNotHeld between
      next true is = unheld_still e old between (eqb-true e.slot slot is) apart e.call refl begins.0 call
      next false is = λ h found. apart h (sym (others_kept slot e old between (differs slot e is) call) ∙ found)

  -- so do those that come after a close
  pub unknown_after_close : (moment : ℕ) (reply : SlotReply) (earlier later : HeldCalls) (left : Hosted) → NeverAsksFor slot life later →
      LeadsOnSlots (new_hosted config number) (earlier ++ Some (slot_entry slot moment Close reply) ∷ later) left → AllByRecursion (λ (e : Option SlotEntry). IsUnknown slot life e) later
  unknown_after_close moment reply earlier later left begins leads =
      let parts = led_parts earlier (Some (slot_entry slot moment Close reply) ∷ later) (new_hosted config number) left leads in
      all_unknown later parts.2.0 left (closed parts.0 parts.2.0 parts.2.1) begins parts.2.2
    where
      closed : (old between : Hosted) → IsSlotCallAt old (slot_entry slot moment Close reply) between → IsNotHeld between
      closed old between (inl turn) = by (slot_holds slot old) turn.after
        where
          by : (found : Option Held) → slot_holds slot between ≡ (close_turn found).after → IsNotHeld between
          by None is = λ h found. none_held h (sym is ∙ found)
          by (Some k) is = λ h found. none_held h (sym is ∙ found)
      closed old between (inr (lack, stays, may)) = absurd may

  -- ---- while it has the life

  module _ (e : SlotEntry) (solo : SoloNode) (old between left : Hosted) (rest : List Turn) (same : e.slot ≡ slot) (holds : slot_holds slot old ≡ Some (held solo))
      (later : (next : SoloNode) → slot_holds slot between ≡ Some (held next) → AloneThere next rest left)
      (ended : IsNotHeld between → AloneThere solo rest left) where
    -- the effect of the call, by what the slot holds
    effect_is : (call : SlotCall) → e.call ≡ call → slot_turn (host_in old) e.slot e.moment e.call (slot_holds e.slot old) ≡ slot_turn (host_in old) slot e.moment call (Some (held solo))
    effect_is call is =
        ap (λ n. slot_turn (host_in old) n e.moment e.call (slot_holds n old)) same
        ∙ ap (slot_turn (host_in old) slot e.moment e.call) holds
        ∙ ap (λ c. slot_turn (host_in old) slot e.moment c (Some (held solo))) is

    reply_of : (call : SlotCall) → e.call ≡ call → IsSlotTurn old e.slot e.moment e.call e.reply between → e.reply ≡ (slot_turn (host_in old) slot e.moment call (Some (held solo))).reply
    reply_of call is turn = turn.reply_is ∙ ap (λ (s : SlotEffect). s.reply) (effect_is call is)

    after_of : (call : SlotCall) → e.call ≡ call → IsSlotTurn old e.slot e.moment e.call e.reply between → slot_holds slot between ≡ (slot_turn (host_in old) slot e.moment call (Some (held solo))).after
    after_of call is turn = ap (λ n. slot_holds n between) (sym same) ∙ turn.after ∙ ap (λ (s : SlotEffect). s.after) (effect_is call is)

    abbrev turn_is : NodeCall → Turn
    turn_is = turn_with e

    -- a call that leaves what the slot holds
    passed : (call : SlotCall) → e.call ≡ call → (slot_turn (host_in old) slot e.moment call (Some (held solo))).after ≡ Some (held solo) → IsSlotCallAt old e between → AloneThere solo rest left
    passed call is stays (inl turn) = later solo (after_of call is turn ∙ stays)
    passed call is stays (inr (lack, at, may)) = later solo (ap (slot_holds slot) at ∙ holds)

    one_more : (call : NodeCall) (next : SoloNode) → IsReplyOf own (turn_is call) solo → left_by_turn own (turn_is call) solo ≡ next → slot_holds slot between ≡ Some (held next) → AloneThere solo (turn_is call ∷ rest) left
    one_more call next replied left_is here =
        let more = later next here in
        record {
          legal = (there, replied, subst (λ s. IsLegal own s rest) (sym left_is) more.legal);
          stands = λ h found its. more.stands h found its ∙ ap (λ s. held (left_of own s rest)) (sym left_is);
        }

    -- a call that the node took
    abbrev Effect : Bool → NodeCall → SlotEffect
    Effect b call = cond b (held_turn e.moment call (held solo)) (record { reply = unknown_tenant; after = Some (held solo) })

    taken : (other : ℕ) (call : NodeCall) → nat_eq other life ≡ true → e.call ≡ Own other call → IsSlotTurn old e.slot e.moment e.call e.reply between → AloneThere solo (turn_is call ∷ rest) left
    taken other call mine_is is turn =
        let effect : slot_turn (host_in old) slot e.moment (Own other call) (Some (held solo)) ≡ held_turn e.moment call (held solo) = ap (λ b. Effect b call) mine_is in
        let reply_is : reply_in_life e.reply ≡ (node_step place e.moment call solo).reply = ap reply_in_life (reply_of (Own other call) is turn ∙ ap (λ (s : SlotEffect). s.reply) effect) in
        let spared : was_refused_memory (reply_in_life e.reply) ≡ false = ap was_refused_memory reply_is ∙ node_spared place e.moment call solo in
        one_more call (node_step place e.moment call solo).after (inl reply_is)
        (ap (λ b. cond b solo (node_step place e.moment call solo).after) spared)
        (after_of (Own other call) is turn ∙ ap (λ (s : SlotEffect). s.after) effect)

    -- a call that was refused memory
    refused : (other : ℕ) (call : NodeCall) → e.call ≡ Own other call → e.reply ≡ told.Refused OutOfMemory → between ≡ old → MayLackAtSlot old e.slot e.call → AloneThere solo (turn_is call ∷ rest) left
    refused other call is lack stays may =
        let at_slot : MayLackAtSlot old slot (Own other call) = subst (λ n. MayLackAtSlot old n (Own other call)) same (subst (MayLackAtSlot old e.slot) is may) in
        let known : Some (held_in slot old at_slot.1.0) ≡ Some (held solo) = sym (holds_some slot old at_slot.1.0 at_slot.1.1) ∙ holds in
        let both : held_in slot old at_slot.1.0 ≡ held solo = some_same (held_in slot old at_slot.1.0) (held solo) known in
        let room : IsTrue (has_audit_left own solo) = subst (λ (h : Held). IsTrue (nat_lt (length h.solo.trail) h.place.quota.audit)) both at_slot.1.2 in
        let reply_is : reply_in_life e.reply ≡ node_reply.Refused OutOfMemory = ap reply_in_life lack in
        one_more call solo (inr (reply_is, room))
        (ap (λ b. cond b solo (node_step place e.moment call solo).after) (ap was_refused_memory reply_is))
        (ap (slot_holds slot) stays ∙ holds)

    abbrev Here : Option NodeCall → List Turn
    Here found = cons_option (option_map turn_is found) rest

    some_life : (other : ℕ) (call : NodeCall) (b : Bool) → nat_eq other life ≡ b → e.call ≡ Own other call → IsSlotCallAt old e between → AloneThere solo (Here (cond b (Some call) None)) left
    some_life other call true mine_is is (inl turn) = taken other call mine_is is turn
    some_life other call true mine_is is (inr (lack, stays, may)) = refused other call is lack stays may
    some_life other call false apart is at = passed (Own other call) is (ap (λ b. (Effect b call).after) apart) at

    pub of_slot : (call : SlotCall) → e.call ≡ call → IsSlotCallAt old e between → AloneThere solo (Here (call_in_life life call)) left
    of_slot (Own other call) is at = some_life other call (nat_eq other life) refl is at
    of_slot (Admit other newcomer) is at = passed (Admit other newcomer) is refl at
    of_slot Close is (inl turn) = ended (λ h found. none_held h (sym (after_of Close is turn) ∙ found))
    of_slot Close is (inr (lack, stays, may)) = absurd (subst (MayLackAtSlot old e.slot) is may)

  -- what comes after its end
  after_end : (entries : HeldCalls) (solo : SoloNode) (left : Hosted) → Unheld entries left → AloneThere solo (mine entries) left
  after_end entries solo left over = subst (λ ts. AloneThere solo ts left) (sym over.none) (record { legal = tt; stands = λ h found its. absurd (over.still h found its) })

  pub alone_there : (entries : HeldCalls) (solo : SoloNode) (old left : Hosted) → slot_holds slot old ≡ Some (held solo) → NeverAsksFor slot life entries → NeverToldUnknown slot life entries → LeadsOnSlots old entries left →
      AloneThere solo (mine entries) left
  alone_there [] solo old left holds begins known same = record { legal = tt; stands = λ h found its. some_same h (held solo) (sym found ∙ ap (slot_holds slot) same ∙ holds) }
  alone_there (None ∷ entries) solo old left holds begins known leads = alone_there entries solo old left holds begins.1 known.1 leads
  alone_there (Some e ∷ entries) solo old left holds begins known (between, call, leads) =
      either (λ next here. alone_there entries next between left here begins.1 known.1 leads) (λ apart. after_end entries solo left (unheld_there entries between left apart begins.1 known.1 leads)) (nat_eq e.slot slot) refl
    where
      either : ((next : SoloNode) → slot_holds slot between ≡ Some (held next) → AloneThere next (mine entries) left) → (IsNotHeld between → AloneThere solo (mine entries) left) → (b : Bool) → nat_eq e.slot slot ≡ b →
          AloneThere solo (cons_option (cond b (option_map (turn_with e) (call_in_life life e.call)) None) (mine entries)) left
      either later ended true is = of_slot e solo old between left (mine entries) (eqb-true e.slot slot is) holds later ended e.call refl call
      either later ended false is = later solo (others_kept slot e old between (differs slot e is) call ∙ holds)

  -- ---- its beginning

  mine_parts : (earlier later : HeldCalls) → mine (earlier ++ later) ≡ mine earlier ++ mine later
  mine_parts [] later = refl
  mine_parts (entry ∷ earlier) later = joined_parts (turn_in_life config.shards slot life number entry) (mine earlier) (mine later) (mine (earlier ++ later)) (mine_parts earlier later)

  -- the tenants of a new node
  opened_there : life ≡ 0 → slice_get config.tenants slot ≡ Some tenant → slot_holds slot (new_hosted config number) ≡ Some (held (new_node config.data_centres))
  opened_there first found =
      holds_some slot (new_hosted config number) place (place_new config slot tenant number found)
      ∙ (λ i. Some (record {
        life = (replicate_read MOST_SLOTS slot 0 ∙ sym first) i;
        place = place;
        solo = left_by place (replicate_read (length config.tenants) slot [] i);
      }))

  -- they are in no other life
  not_opened : life ≢ 0 → IsNotHeld (new_hosted config number)
  not_opened later h found its = by (place_at slot (new_shared config number)) found
    where
      by : (p : Option Place) → option_map (held_in slot (new_hosted config number)) p ≡ Some h → ⊥
      by None is = none_held h is its
      by (Some q) is = later (sym its ∙ ap (λ (g : Held). g.life) (sym (some_same (held_in slot (new_hosted config number) q) h is)) ∙ replicate_read MOST_SLOTS slot 0)

  -- after the host has asked for the life, the slot has it, new, or not
  abbrev IsAsked : Hosted → Type 0
  IsAsked between = (slot_holds slot between ≡ Some (held (new_node config.data_centres))) ⊎ IsNotHeld between

  asked_there : (moment : ℕ) (reply : SlotReply) (old between : Hosted) → host_in old ≡ home_of config (id_of config.shards number) → IsNotHeld old → IsSlotCallAt old (slot_entry slot moment (Admit life tenant) reply) between → IsAsked between
  asked_there moment reply old between home apart (inr (lack, stays, may)) = inr (λ h found. apart h (ap (slot_holds slot) (sym stays) ∙ found))
  asked_there moment reply old between home apart (inl turn) = by (slot_holds slot old) refl
    where
      by : (found : Option Held) → slot_holds slot old ≡ found → IsAsked between
      by (Some h) is = inr (λ k there_is. apart k (is ∙ sym (turn.after ∙ ap (λ f. (admit_turn (host_in old) slot life tenant f).after) is) ∙ there_is))
      by None is = past (nat_le MOST_SLOTS slot) refl
        where
          after : (b : Bool) → nat_le MOST_SLOTS slot ≡ b → slot_holds slot between ≡ (granted (host_in old) life tenant b).after
          after b b_is =
              turn.after ∙ ap (λ f. (admit_turn (host_in old) slot life tenant f).after) is
              ∙ ap (λ c. (granted (host_in old) life tenant c).after) b_is

          past : (b : Bool) → nat_le MOST_SLOTS slot ≡ b → IsAsked between
          past true b_is = inr (λ h found. none_held h (sym (after true b_is) ∙ found))
          past false b_is = inl (after false b_is ∙ ap (λ h. Some (newly_held h life tenant)) home)

  -- ---- from a new node on

  pub lived_there : (entries : HeldCalls) (left : Hosted) → IsLifeOf config tenant slot life entries → NeverToldUnknown slot life entries → LeadsOnSlots (new_hosted config number) entries left →
      AloneThere (new_node config.data_centres) (mine entries) left
  lived_there entries left (inl (first, found, begins)) known leads = alone_there entries (new_node config.data_centres) (new_hosted config number) left (opened_there first found) begins known leads
  lived_there entries left (inr (later, inl begins)) known leads = after_end entries (new_node config.data_centres) left (unheld_there entries (new_hosted config number) left (not_opened later) begins known leads)
  lived_there entries left (inr (later, inr once)) known leads =
      let asked : Option SlotEntry = Some (slot_entry slot once.moment (Admit life tenant) once.reply) in
      let parts = led_parts once.earlier (Some (slot_entry slot once.moment (Admit life tenant) once.reply) ∷ once.later) (new_hosted config number) left (subst (λ es. LeadsOnSlots (new_hosted config number) es left) once.are leads) in
      let knowns : NeverToldUnknown slot life (once.earlier ++ Some (slot_entry slot once.moment (Admit life tenant) once.reply) ∷ once.later) = subst (NeverToldUnknown slot life) once.are known in
      let before = unheld_there once.earlier (new_hosted config number) parts.0 (not_opened later) once.first (all_prefix (λ (e : Option SlotEntry). IsToldUnknown slot life e → ⊥) once.earlier (Some (slot_entry slot once.moment (Admit life tenant) once.reply) ∷ once.later) knowns) parts.1 in
      let knows : NeverToldUnknown slot life once.later = (all_suffix (λ (e : Option SlotEntry). IsToldUnknown slot life e → ⊥) once.earlier (Some (slot_entry slot once.moment (Admit life tenant) once.reply) ∷ once.later) knowns).1 in
      let calls : mine entries ≡ mine once.later =
      ap mine once.are ∙ mine_parts once.earlier (Some (slot_entry slot once.moment (Admit life tenant) once.reply) ∷ once.later)
      ∙ ap (λ ts. ts ++ mine (Some (slot_entry slot once.moment (Admit life tenant) once.reply) ∷ once.later)) before.none ∙ not_own once.moment once.reply once.later in
      let alone : AloneThere (new_node config.data_centres) (mine once.later) left =
      elim (asked_there once.moment once.reply parts.0 parts.2.0 (homes_kept once.earlier (new_hosted config number) parts.0 parts.1) before.still parts.2.1) [
        | inl begun ↦ alone_there once.later (new_node config.data_centres) parts.2.0 left begun once.last knows parts.2.2
        | inr apart ↦ after_end once.later (new_node config.data_centres) left (unheld_there once.later parts.2.0 left apart once.last knows parts.2.2)
      ] in
      subst (λ ts. AloneThere (new_node config.data_centres) ts left) (sym calls) alone
    where
      not_own : (moment : ℕ) (reply : SlotReply) (later : HeldCalls) → mine (Some (slot_entry slot moment (Admit life tenant) reply) ∷ later) ≡ mine later
      not_own moment reply later = by (nat_eq slot slot)
        where
          by : (b : Bool) → cons_option (cond b None None) (mine later) ≡ mine later
          by true = refl
          by false = refl

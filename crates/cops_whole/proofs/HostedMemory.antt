-- When a node at which tenants come and go may lack memory.
use Rattle.std.proofs.Common.{◌≡◌, ◌≢◌, ℕ, Bool, true, false, cond, nat_eq, nat_le, nat_lt, ◌||◌, IsTrue, List, [], ◌∷◌, length, refl, sym, ◌∙◌, ap, subst}
use Rattle.std.specs.Prelude.{Option, Some, None, is_some}
use Rattle.std.specs.Option.{option_map}
use Rattle.std.proofs.lemmas.Bool.{eqb-true}
use Rattle.std.proofs.lemmas.Bool.Decides.{Decides-eqb}
use Rattle.cops_types.specs.declared.configs.Tenant.{Tenant}
use Rattle.cops_types.specs.declared.faults.Fault.TheVariants.{NoSlot, OutOfMemory}
use Rattle.cops_gate.specs.declared.history.Entry.{Entry}
use Rattle.cops_gate.specs.declared.history.Turn.{Turn}
use Rattle.cops_gate.specs.History.{Leads, Makes}
use Rattle.cops_model.specs.declared.calls.NodeCall.{NodeCall}
use Rattle.cops_model.specs.Place.{Place}
use Rattle.cops_node.specs.declared.Home.{Home}
use Rattle.cops_node.specs.declared.hosted.SlotCall.{SlotCall}
use Rattle.cops_node.specs.declared.hosted.SlotCall.TheVariants.{Own, Admit, Close}
use Rattle.cops_node.specs.declared.hosted.SlotReply.{SlotReply}
use Rattle.cops_node.specs.declared.hosted.SlotReply.TheVariants as told
use Rattle.cops_node.specs.Hosting.{Held, Hosted, IsSlotTurn, SlotEffect, admit_turn, close_turn, held_in, held_turn, host_in, newly_held, own_turn, slot_holds, slot_turn, unknown_tenant}
use Rattle.cops_node.specs.Lacking.{MayLackAtSlot}
use Rattle.cops_node.specs.Parts.{MOST_SLOTS, place_at}
use Rattle.cops_node.proofs.Hosting.{holds_some}
use Rattle.cops_whole.specs.LivesRuns.{says_out_of_memory}
use Rattle.cops_whole.proofs.Nodes.{some_same}
use Rattle.cops_whole.proofs.SeatTurns.{MemoryRule}

-- ---- no turn is refused memory

own_spared : (moment life : ℕ) (call : NodeCall) (found : Option Held) → says_out_of_memory (own_turn moment life call found).reply ≡ false
own_spared moment life call None = refl
own_spared moment life call (Some held) = by (nat_eq life held.life)
  where
    by : (b : Bool) → says_out_of_memory (cond b (held_turn moment call held) (record { reply = unknown_tenant; after = Some held })).reply ≡ false
    by true = refl
    by false = refl

admit_spared : (home : Home) (slot life : ℕ) (tenant : Tenant) (found : Option Held) → says_out_of_memory (admit_turn home slot life tenant found).reply ≡ false
admit_spared home slot life tenant (Some held) = refl
admit_spared home slot life tenant None = by (nat_le MOST_SLOTS slot)
  where
    by : (past : Bool) → says_out_of_memory (cond {A = SlotEffect} past (record { reply = told.Refused NoSlot; after = None }) (record { reply = told.Admitted; after = Some (newly_held home life tenant) })).reply ≡ false
    by true = refl
    by false = refl

close_spared : (found : Option Held) → says_out_of_memory (close_turn found).reply ≡ false
close_spared None = refl
close_spared (Some held) = refl

slot_spared : (home : Home) (slot moment : ℕ) (call : SlotCall) (found : Option Held) → says_out_of_memory (slot_turn home slot moment call found).reply ≡ false
slot_spared home slot moment (Own life call) found = own_spared moment life call found
slot_spared home slot moment (Admit life tenant) found = admit_spared home slot life tenant found
slot_spared home slot moment Close found = close_spared found

pub turn_spared : (old new : Hosted) (slot moment : ℕ) (call : SlotCall) (reply : SlotReply) → IsSlotTurn old slot moment call reply new → says_out_of_memory reply ≡ false
turn_spared old new slot moment call reply turn = ap says_out_of_memory turn.reply_is ∙ slot_spared (host_in old) slot moment call (slot_holds slot old)

pub refused_is : (reply : SlotReply) → says_out_of_memory reply ≡ true → reply ≡ told.Refused OutOfMemory
refused_is (told.Refused OutOfMemory) is = refl
refused_is reply is = cc

-- ---- two nodes after the same turns

-- their slots hold the same
pub record HoldSame (one other : Hosted) : Type 0 where
  pub home : host_in other ≡ host_in one
  pub holds : (slot : ℕ) → slot_holds slot other ≡ slot_holds slot one

same_after : (one other one_after other_after : Hosted) (slot moment : ℕ) (call : SlotCall) (reply : SlotReply) → HoldSame one other → IsSlotTurn one slot moment call reply one_after → IsSlotTurn other slot moment call reply other_after →
    HoldSame one_after other_after
same_after one other one_after other_after slot moment call reply same first second = record {
  home = second.home ∙ same.home ∙ sym first.home;
  holds = λ at. by at (nat_eq at slot) refl;
}
  where
    own : slot_holds slot other_after ≡ slot_holds slot one_after
    own = second.after ∙ (λ i. (slot_turn (same.home i) slot moment call (same.holds slot i)).after) ∙ sym first.after

    by : (at : ℕ) (b : Bool) → nat_eq at slot ≡ b → slot_holds at other_after ≡ slot_holds at one_after
    by at true is = subst (λ n. slot_holds n other_after ≡ slot_holds n one_after) (sym (eqb-true at slot is)) own
    by at false is =
        let differ : at ≢ slot = (λ equal. let yes_same : nat_eq at slot ≡ true = (Decides-eqb at slot).1 equal in cc) in
        second.others at differ ∙ same.holds at ∙ sym (first.others at differ)

same_made : (e : Option (Entry SlotCall SlotReply)) (one other one_after other_after : Hosted) → HoldSame one other → Makes IsSlotTurn one e one_after → Makes IsSlotTurn other e other_after → HoldSame one_after other_after
same_made None one other one_after other_after same first second = record {
  home = ap host_in (sym second) ∙ same.home ∙ ap host_in first;
  holds = λ slot. ap (slot_holds slot) (sym second) ∙ same.holds slot ∙ ap (slot_holds slot) first;
}
same_made (Some e) one other one_after other_after same first second = same_after one other one_after other_after e.slot e.moment e.call e.reply same first second

pub same_led : (log : List (Turn SlotCall SlotReply)) (one other one_after other_after : Hosted) → HoldSame one other → Leads IsSlotTurn one log one_after → Leads IsSlotTurn other log other_after → HoldSame one_after other_after
same_led [] one other one_after other_after same first second = same_made None one other one_after other_after same first second
same_led (t ∷ log) one other one_after other_after same (one_mid, made, first) (other_mid, made', second) =
    same_led log one_mid other_mid one_after other_after (same_made t.entry one other one_mid other_mid same made made') first second

-- ---- memory may lack in one if it may in the other

-- what the slot holds is of its place
record HoldsAt (slot : ℕ) (hosted : Hosted) (held : Held) : Type 0 where
  pub place : Place
  pub at : place_at slot hosted.node ≡ Some place
  pub is : held_in slot hosted place ≡ held

holds_at : (slot : ℕ) (hosted : Hosted) (held : Held) → slot_holds slot hosted ≡ Some held → HoldsAt slot hosted held
holds_at slot hosted held is = by (place_at slot hosted.node) refl is
  where
    by : (o : Option Place) → place_at slot hosted.node ≡ o → option_map (held_in slot hosted) o ≡ Some held → HoldsAt slot hosted held
    by None at h = cc
    by (Some place) at h = record { place = place; at = at; is = some_same (held_in slot hosted place) held h }

holds_some_at : (slot : ℕ) (hosted : Hosted) → is_some (slot_holds slot hosted) ≡ is_some (place_at slot hosted.node)
holds_some_at slot hosted = by (place_at slot hosted.node)
  where
    by : (o : Option Place) → is_some (option_map (held_in slot hosted) o) ≡ is_some o
    by None = refl
    by (Some place) = refl

pub lacks_too : (one other : Hosted) (slot : ℕ) (call : SlotCall) → HoldSame one other → MayLackAtSlot one slot call → MayLackAtSlot other slot call
lacks_too one other slot (Own life call) same (its, (place, at, room)) =
    let h = holds_at slot other (held_in slot one place) (same.holds slot ∙ holds_some slot one place at) in (
      its ∙ ap (λ (x : Held). x.life) (sym h.is),
      (h.place, h.at, subst (λ (x : Held). IsTrue (nat_lt (length x.solo.trail) x.place.quota.audit)) (sym h.is) room),
    )
lacks_too one other slot (Admit life tenant) same free =
    ap (λ b. nat_le MOST_SLOTS slot || b) (sym (holds_some_at slot other) ∙ ap is_some (same.holds slot) ∙ holds_some_at slot one) ∙ free
lacks_too one other slot Close same never = never

abbrev pub hosted_memory : MemoryRule IsSlotTurn MayLackAtSlot
hosted_memory = record {
  lacking = told.Refused OutOfMemory;
  is_lacking = says_out_of_memory;
  says = refl;
  only = refused_is;
  spared = turn_spared;
  alike = λ opened one other log slot call first second lacks. lacks_too one other slot call (same_led log opened opened one other (record { home = refl; holds = λ slot. refl }) first second) lacks;
}

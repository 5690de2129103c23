-- A log as gates keep it, with the calls that its no-op turns were.
use Rattle.std.proofs.Common.{◌≡◌, ◌≢◌, ℕ, ◌*◌, ◌<◌, Bool, true, false, cond, nat_eq, nat_lt, ◌==◌, IsTrue, List, [], ◌∷◌, ◌++◌, length, inl, inr, refl, sym, ◌∙◌, ap, subst, append_assoc, true≢false}
use Rattle.std.specs.Prelude.{Option, Some, None}
use Rattle.std.proofs.lemmas.Bool.Decides.{Decides-eqb}
use Rattle.std.proofs.lemmas.Bool.{eqb-true}
use Rattle.std.proofs.lemmas.List.{map-append}
use Rattle.cops_types.specs.declared.configs.Config.{Config}
use Rattle.cops_types.specs.declared.faults.Fault.TheVariants.{OutOfMemory}
use Rattle.cops_model.specs.declared.calls.NodeCall.{NodeCall}
use Rattle.cops_model.specs.declared.calls.NodeReply.{NodeReply}
use Rattle.cops_model.specs.declared.calls.NodeReply.TheVariants.{Refused}
use Rattle.cops_model.specs.Place.{Place}
use Rattle.cops_model.specs.Step.{node_step}
use Rattle.cops_node.specs.Clusters.{new_shared}
use Rattle.cops_node.specs.Lacking.{MayLack}
use Rattle.cops_node.specs.Parts.{Shared, IsMachineTurn, left_by, place_at, solo_of}
use Rattle.cops_history.specs.Turns.{was_refused_memory}
use Rattle.cops_history.proofs.SparedNodes.{node_spared}
use Rattle.cops_whole.specs.Whole.{CallEntry, WholeTurn, IsCallAt, IsWholeLog, LeadsOn, entries_at, whole_turn}
use Rattle.cops_whole.specs.NoOps.{IsLogOfGates, kept_log, unless_lacking}
use Rattle.cops_whole.proofs.Prefixes.{log_parts}

pub refused_is : (reply : NodeReply) → was_refused_memory reply ≡ true → reply ≡ Refused OutOfMemory
refused_is (Refused OutOfMemory) is = refl
refused_is reply is = cc

-- ---- what two runs of the same calls have in common

-- a call changes no place
place_kept : (slot : ℕ) (e : CallEntry) (old new : Shared) → IsCallAt old e new → place_at slot new ≡ place_at slot old
place_kept slot e old new (inl turn) =
    let home = turn.home in
    let terms = turn.terms in
    (λ i. place_at slot (record { home = home i; terms = terms i; audit = [] }))
place_kept slot e old new (inr (lack, stays, may)) = ap (place_at slot) stays

places_kept : (slot : ℕ) (entries : List (Option CallEntry)) (old new : Shared) → LeadsOn old entries new → place_at slot new ≡ place_at slot old
places_kept slot [] old new same = ap (place_at slot) same
places_kept slot (None ∷ entries) old new leads = places_kept slot entries old new leads
places_kept slot (Some e ∷ entries) old new (between, call, leads) = places_kept slot entries between new leads ∙ place_kept slot e old between call

module _ (slot : ℕ) (place : Place) where
  -- what a node does for the slot depends on what it represents
  solo_after : (e : CallEntry) (one other one_after other_after : Shared) → place_at slot one ≡ Some place → place_at slot other ≡ Some place → solo_of slot place one ≡ solo_of slot place other →
      IsCallAt one e one_after → IsCallAt other e other_after → solo_of slot place one_after ≡ solo_of slot place other_after
  solo_after e one other one_after other_after at at_other same first second = by (nat_eq e.slot slot) refl first second
    where
      own : e.slot ≡ slot → (node after : Shared) → place_at slot node ≡ Some place → IsMachineTurn node e.slot e.moment e.call e.reply after →
          (e.reply ≡ (node_step place e.moment e.call (solo_of slot place node)).reply) × (solo_of slot place after ≡ (node_step place e.moment e.call (solo_of slot place node)).after)
      own is node after here turn =
          let told = turn.own place (ap (λ n. place_at n node) is ∙ here) in (
            told.0 ∙ ap (λ n. (node_step place e.moment e.call (solo_of n place node)).reply) is,
            ap (λ n. solo_of n place after) (sym is) ∙ told.1 ∙ ap (λ n. (node_step place e.moment e.call (solo_of n place node)).after) is,
          )

      never : e.slot ≡ slot → (node after : Shared) → place_at slot node ≡ Some place → IsMachineTurn node e.slot e.moment e.call e.reply after → e.reply ≡ Refused OutOfMemory → ⊥
      never is node after here turn lack =
          true≢false (sym (ap was_refused_memory lack) ∙ ap was_refused_memory (own is node after here turn).0 ∙ node_spared place e.moment e.call (solo_of slot place node))

      others : (node after : Shared) → slot ≢ e.slot → IsCallAt node e after → solo_of slot place after ≡ solo_of slot place node
      others node after differ (inl turn) = ap (left_by place) (turn.others slot differ)
      others node after differ (inr (lack, stays, may)) = ap (solo_of slot place) stays

      by : (b : Bool) → nat_eq e.slot slot ≡ b → IsCallAt one e one_after → IsCallAt other e other_after → solo_of slot place one_after ≡ solo_of slot place other_after
      by true is (inl turn) (inl turn') =
          let at_slot : e.slot ≡ slot = eqb-true e.slot slot is in
          (own at_slot one one_after at turn).1 ∙ ap (λ s. (node_step place e.moment e.call s).after) same ∙ sym (own at_slot other other_after at_other turn').1
      by true is (inl turn) (inr (lack, stays, may)) = absurd (never (eqb-true e.slot slot is) one one_after at turn lack)
      by true is (inr (lack, stays, may)) (inl turn') = absurd (never (eqb-true e.slot slot is) other other_after at_other turn' lack)
      by true is (inr (lack, stays, may)) (inr (lack', stays', may')) = ap (solo_of slot place) stays ∙ same ∙ sym (ap (solo_of slot place) stays')
      by false is call call' =
          let differ : slot ≢ e.slot = (λ equal. let yes_same : nat_eq e.slot slot ≡ true = (Decides-eqb e.slot slot).1 (sym equal) in cc) in
          others one one_after differ call ∙ same ∙ sym (others other other_after differ call')

  solos_after : (entries : List (Option CallEntry)) (one other one_after other_after : Shared) → place_at slot one ≡ Some place → place_at slot other ≡ Some place → solo_of slot place one ≡ solo_of slot place other →
      LeadsOn one entries one_after → LeadsOn other entries other_after → solo_of slot place one_after ≡ solo_of slot place other_after
  solos_after [] one other one_after other_after at at_other same first second = ap (solo_of slot place) first ∙ same ∙ sym (ap (solo_of slot place) second)
  solos_after (None ∷ entries) one other one_after other_after at at_other same first second = solos_after entries one other one_after other_after at at_other same first second
  solos_after (Some e ∷ entries) one other one_after other_after at at_other same (one_mid, call, first) (other_mid, call', second) =
      solos_after entries one_mid other_mid one_after other_after (place_kept slot e one one_mid call ∙ at) (place_kept slot e other other_mid call' ∙ at_other)
      (solo_after e one other one_mid other_mid at at_other same call call') first second

-- so a node may lack memory in one if it may in the other
pub may_lack_too : (entries : List (Option CallEntry)) (opened state mid : Shared) (slot : ℕ) (call : NodeCall) → LeadsOn opened entries state → LeadsOn opened entries mid → MayLack state slot call → MayLack mid slot call
may_lack_too entries opened state mid slot call first second (place, at, room) =
    let here : place_at slot opened ≡ Some place = sym (places_kept slot entries opened state first) ∙ at in
    let same : solo_of slot place state ≡ solo_of slot place mid = solos_after slot place entries opened opened state mid here here refl first second in
    (place, places_kept slot entries opened mid second ∙ here, subst (λ s. IsTrue (nat_lt (length s.trail) place.quota.audit)) same room)

-- ---- the log

leads_both : (entries later : List (Option CallEntry)) (old mid new : Shared) → LeadsOn old entries mid → LeadsOn mid later new → LeadsOn old (entries ++ later) new
leads_both [] later old mid new first second = subst (λ s. LeadsOn s later new) first second
leads_both (None ∷ entries) later old mid new first second = leads_both entries later old mid new first second
leads_both (Some e ∷ entries) later old mid new (between, call, first) second = (between, call, leads_both entries later between mid new first second)

module _ (config : Config) (log : List WholeTurn) (is : IsLogOfGates config log) (number : ℕ) where
  abbrev Kept : List WholeTurn → List (Option CallEntry)
  Kept part = entries_at number (kept_log part)

  -- one turn more was passed
  passed : (before : List WholeTurn) (w : WholeTurn) (mid next : Shared) → LeadsOn (new_shared config number) (Kept before) mid → LeadsOn mid (Kept (w ∷ [])) next → LeadsOn (new_shared config number) (Kept (before ++ w ∷ [])) next
  passed before w mid next first second =
      let parts : Kept (before ++ w ∷ []) ≡ Kept before ++ Kept (w ∷ []) =
      ap (entries_at number) (map-append (λ (v : WholeTurn). whole_turn v.seat v.node (unless_lacking v.entry)) before (w ∷ [])) ∙ log_parts number (kept_log before) (kept_log (w ∷ [])) in
      subst (λ es. LeadsOn (new_shared config number) es next) (sym parts) (leads_both (Kept before) (Kept (w ∷ [])) (new_shared config number) mid next first second)

  filled : (before later : List WholeTurn) (mid left : Shared) → log ≡ before ++ later → LeadsOn (new_shared config number) (Kept before) mid → LeadsOn mid (Kept later) left → LeadsOn mid (entries_at number later) left
  filled before [] mid left whole first second = second
  filled before (w ∷ later) mid left whole first second =
      by (w.node == number) w.entry refl refl second (λ next. filled (before ++ w ∷ []) later next left (whole ∙ sym (append_assoc before (w ∷ []) later)))
    where
      by : (here : Bool) (entry : Option CallEntry) → (w.node == number) ≡ here → w.entry ≡ entry → LeadsOn mid (cond here (unless_lacking entry ∷ Kept later) (Kept later)) left →
          ((next : Shared) → LeadsOn (new_shared config number) (Kept (before ++ w ∷ [])) next → LeadsOn next (Kept later) left → LeadsOn next (entries_at number later) left) →
          LeadsOn mid (cond here (entry ∷ entries_at number later) (entries_at number later)) left
      by false entry apart entry_is leads rest = rest mid (passed before w mid mid first (rw apart refl)) leads
      by true None at entry_is leads rest = rest mid (passed before w mid mid first (rw (at, entry_is) refl)) leads
      by true (Some e) at entry_is leads rest = either (was_refused_memory e.reply) refl leads
        where
          here : w.node ≡ number
          here = (Decides-eqb w.node number).0 at

          either : (b : Bool) → was_refused_memory e.reply ≡ b → LeadsOn mid (cond b None (Some e) ∷ Kept later) left → LeadsOn mid (Some e ∷ entries_at number later) left
          either true lack leads =
              let reply_is : e.reply ≡ Refused OutOfMemory = refused_is e.reply lack in
              let known = is.lacks before later w e whole entry_is reply_is in
              let there : LeadsOn (new_shared config number) (Kept before) known.0 = subst (λ n. LeadsOn (new_shared config n) (entries_at n (kept_log before)) known.0) here known.1 in
              let may : MayLack mid e.slot e.call = may_lack_too (Kept before) (new_shared config number) known.0 mid e.slot e.call there first known.2 in
              (mid, inr (reply_is, refl, may), rest mid (passed before w mid mid first (rw (at, entry_is, lack) refl)) leads)
          either false spared (next, call, leads) = (next, call, rest next (passed before w mid next first (rw (at, entry_is, spared) (next, call, refl))) leads)

  -- a node that the log of gates leaves is one that the whole log leaves
  pub leads_filled : (left : Shared) → LeadsOn (new_shared config number) (Kept log) left → LeadsOn (new_shared config number) (entries_at number log) left
  leads_filled left leads = filled [] log (new_shared config number) left refl refl leads

  pub leads_whole : number < config.data_centres * config.shards → (left : Shared) × LeadsOn (new_shared config number) (entries_at number log) left
  leads_whole within = let led = is.legal number within in (led.0, leads_filled led.0 led.1)

pub gates_whole : (config : Config) (log : List WholeTurn) → IsLogOfGates config log → IsWholeLog config log
gates_whole config log is = record { there = is.there; legal = λ number within. leads_whole config log is number within }

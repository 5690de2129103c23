-- What a call does to the timestamps of a node and of its records.
use Rattle.std.proofs.Common.{◌≡◌, ℕ, ◌+◌, ◌≤◌, ◌<◌, Bool, true, false, cond, ◌||◌, List, [], ◌∷◌, ◌++◌, inl, inr, ◌⊎◌, refl, sym, ◌∙◌, subst, arith, append-nil, set, get_or-set_same, get_or-set_other, length-set}
use Rattle.std.specs.Prelude.{length, max, nat_lt, ◌-◌, Option, Some, None}
use Rattle.std.specs.List.{AllByRecursion}
use Rattle.std.specs.Option.{option_map, option_map_or}
use Rattle.std.proofs.lemmas.Bool.Decides.{nat_tests, eqb_tells, leb_tells}
use Rattle.std.proofs.lemmas.List.{map-append, get_or_past}
use Rattle.cops_types.specs.declared.faults.Fault.{Fault}
use Rattle.cops_types.specs.declared.faults.Fault.TheVariants.{AuditFull}
use Rattle.cops_types.specs.declared.pairs.Pair.{Pair}
use Rattle.cops_types.specs.declared.records.EntryParts.{EntryParts as Entry}
use Rattle.cops_types.specs.declared.records.Record.{Record}
use Rattle.cops_types.specs.Records.{Tracked, ever, exact, latest, mark, overtaken_at, is_outdated, collected}
use Rattle.cops_types.specs.Search.{least}
use Rattle.cops_types.specs.TenantConfig.{TenantConfig}
use Rattle.cops_types.specs.Version.{Timestamp, version_eq}
use Rattle.cops_types.proofs.Elements.{Every-append, Every-map, Every-weaker, or_cases}
use Rattle.cops_model.specs.declared.calls.NodeCall.{NodeCall}
use Rattle.cops_model.specs.declared.calls.NodeCall.TheVariants.{Get, Put, DepCheck, Pull, Commit, Ack, Collect}
use Rattle.cops_model.specs.declared.calls.NodeReply.{NodeReply}
use Rattle.cops_model.specs.declared.calls.NodeReply.TheVariants.{Gone, Stored, Committed, Refused}
use Rattle.cops_model.specs.declared.calls.NodeId.{NodeId}
use Rattle.cops_model.specs.declared.calls.Wanted.{Wanted}
use Rattle.cops_model.specs.declared.calls.Wanted.TheVariants.{Latest, Exactly}
use Rattle.cops_model.specs.Place.{Place, node_number, place_of}
use Rattle.cops_model.specs.SoloNode.{SoloNode, new_node, queue, front}
use Rattle.cops_model.specs.Step.{CallEffect, acknowledge, audited, commit_refusal, effect, entry_of_put, node_put_refusal, node_step, put_with_version, reply_exact, reply_latest, store_unless, unchanged, version_of_put, was_committed}
use Rattle.cops_node.proofs.MarkLaws.{ever-collected}
use Rattle.cops_node.proofs.NodeTurns.{IsRefusal}
use Rattle.cops_model.specs.Cluster.{SoloCluster, call_node, has_node}
use Rattle.cops_causal.proofs.NodeEffects.{node_of, IsSized, number_within}

-- ---- what holds of the records and the timestamp after a call

-- the record joins at this timestamp
abbrev joins : Entry → ℕ → Tracked
joins entry now = record { record_of = record { entry = entry; at = now }; removed = false }

module _ (place : Place) (solo : SoloNode) (P : List Tracked → ℕ → Type 0) (stays : P solo.recs solo.moment) (joined : (e : Entry) → P (solo.recs ++ joins e solo.moment ∷ []) solo.moment)
    (swept : P (collected place.trans_time solo.moment solo.recs) solo.moment) where
  abbrev Leaves : CallEffect → Type 0
  Leaves turn = P turn.after.recs turn.after.moment

  branch : (b : Bool) (one other : CallEffect) → Leaves one → Leaves other → Leaves (cond b one other)
  branch true one other p q = p
  branch false one other p q = q

  stored : (fault : Option Fault) (reply : NodeReply) (e : Entry) → Leaves (store_unless fault reply e solo)
  stored (Some fault) reply e = stays
  stored None reply e = joined e

  put_leaves : (key value : List ℕ) (deps near : List Pair) (version : Option Timestamp) → Leaves (put_with_version place solo key value deps near version)
  put_leaves key value deps near None = stays
  put_leaves key value deps near (Some version) = stored (node_put_refusal place solo key value) (Stored version) (entry_of_put place solo version key value deps near)

  ack_leaves : (dc : ℕ) (version : Timestamp) (first : Option Entry) → Leaves (acknowledge dc version solo first)
  ack_leaves dc version None = stays
  ack_leaves dc version (Some e) = branch (version_eq e.version version) _ _ stays stays

  effect_leaves : (call : NodeCall) → Leaves (effect place call solo)
  effect_leaves (Get key wanted) = stays
  effect_leaves (Put key value deps near) = put_leaves key value deps near (version_of_put place solo deps)
  effect_leaves (DepCheck key version) = stays
  effect_leaves (Pull dc) = stays
  effect_leaves (Commit e) =
      branch (was_committed e.version solo) _ _ stays (branch (version_eq e.prev (mark e.version.node solo.recs)) _ _ (stored (commit_refusal place solo e) Committed e) stays)
  effect_leaves (Ack dc version) = ack_leaves dc version (front (queue place dc solo))
  effect_leaves Collect = swept

-- ---- records join at the present timestamp

-- from one timestamp to a later one, new records have joined since the first
pub record IsLater (recs : List Tracked) (now : ℕ) (after : List Tracked) (then_now : ℕ) : Type 0 where
  pub moment_is : now ≤ then_now
  pub more : List Record
  pub grown : ever after ≡ ever recs ++ more
  pub since : AllByRecursion (λ (r : Record). now ≤ r.at) more

abbrev pub IsOnward : SoloNode → SoloNode → Type 0
IsOnward solo after = IsLater solo.recs solo.moment after.recs after.moment

pub onward-same : (solo : SoloNode) → IsOnward solo solo
onward-same solo = record { moment_is = omega arith; more = []; grown = sym (append-nil (ever solo.recs)); since = tt }

pub turn_onward : (place : Place) (moment : ℕ) (call : NodeCall) (solo : SoloNode) → IsOnward solo (node_step place moment call solo).after
turn_onward place moment call solo = by_room (nat_lt (length solo.trail) place.quota.audit)
  where
    raised : SoloNode
    raised = record solo { moment = max solo.moment moment }

    by_room : (b : Bool) → IsOnward solo (let turn : CallEffect = cond b (audited moment call (effect place call raised)) (unchanged (Refused AuditFull) solo) in turn.after)
    by_room true = effect_leaves place raised (IsLater solo.recs solo.moment)
        (record { moment_is = omega arith; more = []; grown = sym (append-nil (ever solo.recs)); since = tt })
        (λ e. record { moment_is = omega arith; more = record { entry = e; at = raised.moment } ∷ []; grown = map-append (λ (t : Tracked). t.record_of) solo.recs (joins e raised.moment ∷ []); since = (omega arith, tt) })
        (record { moment_is = omega arith; more = []; grown = ever-collected place.trans_time raised.moment solo.recs ∙ sym (append-nil (ever solo.recs)); since = tt })
        call
    by_room false = onward-same solo

-- ---- what is removed was there for long

-- each record that was removed joined more than this time ago
abbrev pub IsLongThere : ℕ → ℕ → Tracked → Type 0
IsLongThere trans_time now t = t.removed ≡ true → t.record_of.at + trans_time < now

abbrev pub AreLongThere : ℕ → List Tracked → ℕ → Type 0
AreLongThere trans_time recs now = AllByRecursion (IsLongThere trans_time now) recs

-- a stale record joined before it was stale
outdated_there : (trans_time now : ℕ) (recs : List Record) (r : Record) → is_outdated trans_time now recs r ≡ true → r.at + trans_time < now
outdated_there trans_time now recs r is = by_least (least (overtaken_at r recs)) is
  where
    by_least : (o : Option ℕ) → option_map_or (λ from. nat_lt trans_time (now - from)) (option_map (max r.at) o) false ≡ true → r.at + trans_time < now
    by_least None e = cc
    by_least (Some first) e = grind (arith, nat_tests)

removed_by : (trans_time now : ℕ) (ever_there : List Record) (t : Tracked) → IsLongThere trans_time now t → IsLongThere trans_time now (record t { removed = t.removed || is_outdated trans_time now ever_there t.record_of })
removed_by trans_time now ever_there t was e =
    elim (or_cases t.removed (is_outdated trans_time now ever_there t.record_of) e) [ inl before ↦ was before | inr new ↦ outdated_there trans_time now ever_there t.record_of new ]

swept_there : (trans_time now : ℕ) (recs : List Tracked) → AreLongThere trans_time recs now → AreLongThere trans_time (collected trans_time now recs) now
swept_there trans_time now recs are =
    Every-map (IsLongThere trans_time now) (λ (t : Tracked). record t { removed = t.removed || is_outdated trans_time now (ever recs) t.record_of }) recs
    (Every-weaker (IsLongThere trans_time now) (λ (t : Tracked). IsLongThere trans_time now (record t { removed = t.removed || is_outdated trans_time now (ever recs) t.record_of })) recs
    (λ t at was. removed_by trans_time now (ever recs) t was) are)

pub turn_long_there : (place : Place) (moment : ℕ) (call : NodeCall) (solo : SoloNode) → AreLongThere place.trans_time solo.recs solo.moment →
    let after = (node_step place moment call solo).after in AreLongThere place.trans_time after.recs after.moment
turn_long_there place moment call solo are = by_room (nat_lt (length solo.trail) place.quota.audit)
  where
    raised : SoloNode
    raised = record solo { moment = max solo.moment moment }

    later : AreLongThere place.trans_time solo.recs raised.moment
    later = Every-weaker (IsLongThere place.trans_time solo.moment) (IsLongThere place.trans_time raised.moment) solo.recs (λ t at was e. let before = was e in omega arith) are

    by_room : (b : Bool) → (let turn : CallEffect = cond b (audited moment call (effect place call raised)) (unchanged (Refused AuditFull) solo) in AreLongThere place.trans_time turn.after.recs turn.after.moment)
    by_room true = effect_leaves place raised (AreLongThere place.trans_time) later
        (λ e. Every-append (IsLongThere place.trans_time raised.moment) solo.recs (joins e raised.moment ∷ []) later ((λ never. cc), tt))
        (swept_there place.trans_time raised.moment solo.recs later)
        call
    by_room false = are

-- ---- the timestamp after a call

-- the call was refused or came at its timestamp, which is the node's if that was not later
pub record IsMomentAfter (moment : ℕ) (solo : SoloNode) (turn : CallEffect) : Type 0 where
  pub come : IsRefusal turn.reply ⊎ (moment ≤ turn.after.moment)
  pub within : (most : ℕ) → solo.moment ≤ most → moment ≤ most → turn.after.moment ≤ most

pub turn_moment : (place : Place) (moment : ℕ) (call : NodeCall) (solo : SoloNode) → IsMomentAfter moment solo (node_step place moment call solo)
turn_moment place moment call solo = by_room (nat_lt (length solo.trail) place.quota.audit)
  where
    raised : SoloNode
    raised = record solo { moment = max solo.moment moment }

    same : (effect place call raised).after.moment ≡ raised.moment
    same = effect_leaves place raised (λ recs now. now ≡ raised.moment) refl (λ e. refl) refl call

    by_room : (b : Bool) → IsMomentAfter moment solo (cond b (audited moment call (effect place call raised)) (unchanged (Refused AuditFull) solo))
    by_room true = record { come = inr (omega (arith, same)); within = λ most old new. omega (arith, same) }
    by_room false = record { come = inl (AuditFull, refl, refl); within = λ most old new. old }

-- a version that is gone is answered with the node's timestamp
latest_stays : (o : Option Record) (now : ℕ) → reply_latest o ≡ Gone now → ⊥
latest_stays (Some r) now e = cc
latest_stays None now e = cc

exact_gone : (moment now : ℕ) (was : Bool) (o : Option Record) → reply_exact moment was o ≡ Gone now → (now ≡ moment) × (o ≡ None)
exact_gone moment now was (Some r) e = cc
exact_gone moment now true None e = (cc, refl)
exact_gone moment now false None e = cc

pub record IsGone (key : List ℕ) (wanted : Wanted) (solo : SoloNode) (now : ℕ) (after : SoloNode) : Type 0 where
  pub version : Timestamp
  pub asked : wanted ≡ Exactly version
  pub missing : exact key version solo.recs ≡ None
  pub now_is : now ≡ after.moment

pub get_gone : (place : Place) (moment : ℕ) (key : List ℕ) (wanted : Wanted) (solo : SoloNode) (now : ℕ) → let turn = node_step place moment (Get key wanted) solo in turn.reply ≡ Gone now → IsGone key wanted solo now turn.after
get_gone place moment key wanted solo now e = by_room (nat_lt (length solo.trail) place.quota.audit) wanted e
  where
    raised : SoloNode
    raised = record solo { moment = max solo.moment moment }

    by_room : (b : Bool) (wanted : Wanted) → let turn : CallEffect = cond b (audited moment (Get key wanted) (effect place (Get key wanted) raised)) (unchanged (Refused AuditFull) solo) in
        turn.reply ≡ Gone now → IsGone key wanted solo now turn.after
    by_room true Latest e = absurd (latest_stays (latest key solo.recs) now e)
    by_room true (Exactly version) e =
        let gone = exact_gone raised.moment now (was_committed version raised) (exact key version solo.recs) e in
        record { version = version; asked = refl; missing = gone.1; now_is = gone.0 }
    by_room false wanted e = cc

-- ---- a call at a node of the cluster

-- each node is left as it was, or takes the turn
pub call_leaves : (config : TenantConfig) (c : SoloCluster) (id : NodeId) (moment : ℕ) (call : NodeCall) (Q : SoloNode → SoloNode → Type 0) → ((solo : SoloNode) → Q solo solo) →
    ((solo : SoloNode) → Q solo (node_step (place_of config id) moment call solo).after) → (n : ℕ) → Q (node_of config c n) (node_of config (call_node config id moment call c).after n)
call_leaves config c id moment call Q same turned n =
    let number = node_number config.shards id in
    let next = (node_step (place_of config id) moment call (node_of config c number)).after in
    let default = new_node config.data_centres in
    elim (eqb_tells n number) [
      | inr other ↦ subst (Q (node_of config c n)) (sym (get_or-set_other c.nodes number n next default other.1)) (same (node_of config c n))
      | inl here ↦ subst (λ m. Q (node_of config c m) (node_of config (call_node config id moment call c).after m)) (sym here.1)
          (elim (leb_tells (length c.nodes) number) [
            | inr within ↦ subst (Q (node_of config c number)) (sym (get_or-set_same c.nodes number next default within.1)) (turned (node_of config c number))
            | inl past ↦
                let after_past = get_or_past (set c.nodes number next) number default (let counted = length-set c.nodes number next in omega (arith, past.1)) in
                subst (Q (node_of config c number)) (get_or_past c.nodes number default past.1 ∙ sym after_past) (same (node_of config c number))
          ])
    ]

-- the node that is called takes the turn
pub turned_at : (config : TenantConfig) (c : SoloCluster) (id : NodeId) (moment : ℕ) (call : NodeCall) → has_node config id.dc id.shard ≡ true → IsSized config c →
    node_of config (call_node config id moment call c).after (node_number config.shards id) ≡ (node_step (place_of config id) moment call (node_of config c (node_number config.shards id))).after
turned_at config c id moment call there sized =
    let number = node_number config.shards id in
    get_or-set_same c.nodes number (node_step (place_of config id) moment call (node_of config c number)).after (new_node config.data_centres) (let within = number_within config id there in omega (arith, sized))

-- What one call does to the entries that a node ever committed, and what it answers.
use Rattle.std.proofs.Common.{◌≡◌, ℕ, ◌+◌, Bool, true, false, cond, List, [], ◌∷◌, ◌++◌, map, ◌⊎◌, inl, inr, refl, ◌∙◌, ap, subst}
use Rattle.std.specs.Prelude.{length, max, nat_lt, slice_index, slice_set, Option, Some, None}
use Rattle.std.proofs.lemmas.List.{map-append}
use Rattle.cops_types.specs.declared.faults.Fault.{Fault}
use Rattle.cops_types.specs.declared.faults.Fault.TheVariants.{AuditFull, ClockFull, VersionQuota, ByteQuota, OutboxFull}
use Rattle.cops_types.specs.declared.pairs.Pair.{Pair}
use Rattle.cops_types.specs.declared.records.EntryParts.{EntryParts as Entry}
use Rattle.cops_types.specs.declared.records.Record.{Record}
use Rattle.cops_types.specs.Records.{Tracked, ever, exact, latest, mark, collectable}
use Rattle.cops_types.specs.Search.{first_refusal}
use Rattle.cops_types.specs.Version.{Timestamp, version_eq}
use Rattle.cops_model.specs.declared.calls.NodeCall.{NodeCall}
use Rattle.cops_model.specs.declared.calls.NodeCall.TheVariants.{Get, Put, DepCheck, Pull, Commit, Ack, Collect}
use Rattle.cops_model.specs.declared.calls.NodeReply.{NodeReply}
use Rattle.cops_model.specs.declared.calls.NodeReply.TheVariants.{Stored, Checked, Committed, Already, OutOfOrder, Acked, NotFront, Removed, Refused}
use Rattle.cops_model.specs.Place.{Place}
use Rattle.cops_model.specs.declared.calls.Wanted.TheVariants.{Latest, Exactly}
use Rattle.cops_model.specs.SoloNode.{SoloNode, queue, front}
use Rattle.cops_model.specs.Step.{CallEffect, acknowledge, audited, commit_refusal, committed, effect, entry_of_put, is_bytes_full, is_outbox_full, is_versions_full, node_put_refusal, node_step, put_with_version, reply_exact, reply_latest, reply_pull, store_unless, unchanged, version_of_put, was_committed}
use Rattle.cops_node.proofs.MarkLaws.{ever-collected}

-- the entries that the node ever committed, in order
abbrev pub entries : SoloNode → List Entry
entries solo = map (λ r. r.entry) (ever solo.recs)

-- the faults with which a node refuses a call
abbrev pub is_node_fault : Fault → Bool
is_node_fault AuditFull = true
is_node_fault ClockFull = true
is_node_fault VersionQuota = true
is_node_fault ByteQuota = true
is_node_fault OutboxFull = true
is_node_fault fault = false

abbrev pub IsRefusal : NodeReply → Type 0
IsRefusal reply = (fault : Fault) × (reply ≡ Refused fault) × (is_node_fault fault ≡ true)

-- the reply to a call that stores nothing and takes nothing out of a queue
abbrev pub IsReply : Place → NodeCall → SoloNode → NodeReply → Type 0
IsReply place (Get key Latest) solo reply = reply ≡ reply_latest (latest key solo.recs)
IsReply place (Get key (Exactly version)) solo reply = (now : ℕ) × (reply ≡ reply_exact now (was_committed version solo) (exact key version solo.recs))
IsReply place (Put key value deps near) solo reply = ⊥
IsReply place (DepCheck key version) solo reply = reply ≡ Checked (was_committed version solo)
IsReply place (Pull dc) solo reply = reply ≡ reply_pull (front (queue place dc solo))
IsReply place (Commit entry) solo reply =
    (reply ≡ Already) × (was_committed entry.version solo ≡ true)
    ⊎ (reply ≡ OutOfOrder (mark entry.version.node solo.recs)) × (was_committed entry.version solo ≡ false) × (version_eq entry.prev (mark entry.version.node solo.recs) ≡ false)
IsReply place (Ack dc version) solo reply = reply ≡ NotFront
IsReply place Collect solo reply = (count : ℕ) × (reply ≡ Removed count)

-- the reply to a call that stores the entry
abbrev pub Stores : Place → NodeCall → SoloNode → NodeReply → Entry → Type 0
Stores place (Put key value deps near) solo reply e =
    (version : Timestamp) × (reply ≡ Stored version) × (version_of_put place solo deps ≡ Some version) × (e ≡ entry_of_put place solo version key value deps near)
Stores place (Commit entry) solo reply e =
    (reply ≡ Committed) × (e ≡ entry) × (was_committed entry.version solo ≡ false) × (version_eq entry.prev (mark entry.version.node solo.recs) ≡ true)
Stores place call solo reply e = ⊥

-- the reply to a call that takes the front out of a queue
abbrev pub Takes : Place → NodeCall → SoloNode → NodeReply → List ℕ → Type 0
Takes place (Ack dc version) solo reply acked =
    (e : Entry) × (front (queue place dc solo) ≡ Some e) × (version_eq e.version version ≡ true) × (reply ≡ Acked) × (acked ≡ slice_set solo.acked dc (slice_index solo.acked dc + 1))
Takes place call solo reply acked = ⊥

-- what a call does: it is refused, answers, stores an entry, or takes the front out of a queue
pub data Change (place : Place) (call : NodeCall) (solo : SoloNode) (reply : NodeReply) (after : SoloNode) : Type 0 where
  IsRefused : entries after ≡ entries solo → after.acked ≡ solo.acked → IsRefusal reply → Change place call solo reply after
  Answers : entries after ≡ entries solo → after.acked ≡ solo.acked → IsReply place call solo reply → Change place call solo reply after
  Joined : (e : Entry) → entries after ≡ entries solo ++ e ∷ [] → after.acked ≡ solo.acked → Stores place call solo reply e → Change place call solo reply after
  Taken : entries after ≡ entries solo → Takes place call solo reply after.acked → Change place call solo reply after

entries-committed : (e : Entry) (solo : SoloNode) → entries (committed e solo) ≡ entries solo ++ e ∷ []
entries-committed e solo =
    let t : Tracked = record { record_of = record { entry = e; at = solo.moment }; removed = false } in
    ap (map (λ (r : Record). r.entry)) (map-append (λ (t : Tracked). t.record_of) solo.recs (t ∷ []))
    ∙ map-append (λ (r : Record). r.entry) (ever solo.recs) (t.record_of ∷ [])

put_fault : (a b c : Bool) (fault : Fault) → first_refusal ((a, VersionQuota) ∷ (b, ByteQuota) ∷ (c, OutboxFull) ∷ []) ≡ Some fault → is_node_fault fault ≡ true
put_fault true b c fault e = let same : VersionQuota ≡ fault = cc in subst (λ f. is_node_fault f ≡ true) same refl
put_fault false true c fault e = let same : ByteQuota ≡ fault = cc in subst (λ f. is_node_fault f ≡ true) same refl
put_fault false false true fault e = let same : OutboxFull ≡ fault = cc in subst (λ f. is_node_fault f ≡ true) same refl
put_fault false false false fault e = cc

commit_fault : (a b : Bool) (fault : Fault) → first_refusal ((a, VersionQuota) ∷ (b, ByteQuota) ∷ []) ≡ Some fault → is_node_fault fault ≡ true
commit_fault true b fault e = let same : VersionQuota ≡ fault = cc in subst (λ f. is_node_fault f ≡ true) same refl
commit_fault false true fault e = let same : ByteQuota ≡ fault = cc in subst (λ f. is_node_fault f ≡ true) same refl
commit_fault false false fault e = cc

module _ (place : Place) where
  abbrev ChangeBy : NodeCall → SoloNode → CallEffect → Type 0
  ChangeBy call solo turn = Change place call solo turn.reply turn.after

  put_stored : (solo : SoloNode) (key value : List ℕ) (deps near : List Pair) (version : Timestamp) (fault : Option Fault) → version_of_put place solo deps ≡ Some version → node_put_refusal place solo key value ≡ fault →
      ChangeBy (Put key value deps near) solo (store_unless fault (Stored version) (entry_of_put place solo version key value deps near) solo)
  put_stored solo key value deps near version (Some fault) next refused =
      IsRefused refl refl (fault, refl, put_fault (is_versions_full place solo) (is_bytes_full place key value solo) (is_outbox_full place solo) fault refused)
  put_stored solo key value deps near version None next refused =
      Joined (entry_of_put place solo version key value deps near) (entries-committed (entry_of_put place solo version key value deps near) solo) refl (version, refl, next, refl)

  put_changes : (solo : SoloNode) (key value : List ℕ) (deps near : List Pair) (version : Option Timestamp) → version_of_put place solo deps ≡ version →
      ChangeBy (Put key value deps near) solo (put_with_version place solo key value deps near version)
  put_changes solo key value deps near None next = IsRefused refl refl (ClockFull, refl, refl)
  put_changes solo key value deps near (Some version) next = put_stored solo key value deps near version (node_put_refusal place solo key value) next refl

  commit_stored : (solo : SoloNode) (e : Entry) (fault : Option Fault) → was_committed e.version solo ≡ false → version_eq e.prev (mark e.version.node solo.recs) ≡ true → commit_refusal place solo e ≡ fault →
      ChangeBy (Commit e) solo (store_unless fault Committed e solo)
  commit_stored solo e (Some fault) new follows refused = IsRefused refl refl (fault, refl, commit_fault (is_versions_full place solo) (is_bytes_full place e.key e.value solo) fault refused)
  commit_stored solo e None new follows refused = Joined e (entries-committed e solo) refl (refl, refl, new, follows)

  commit_changes : (solo : SoloNode) (e : Entry) (was follows : Bool) → was_committed e.version solo ≡ was → version_eq e.prev (mark e.version.node solo.recs) ≡ follows →
      ChangeBy (Commit e) solo (cond was (unchanged Already solo) (cond follows (store_unless (commit_refusal place solo e) Committed e solo) (unchanged (OutOfOrder (mark e.version.node solo.recs)) solo)))
  commit_changes solo e true follows was is = Answers refl refl (inl (refl, was))
  commit_changes solo e false true was is = commit_stored solo e (commit_refusal place solo e) was is refl
  commit_changes solo e false false was is = Answers refl refl (inr (refl, was, is))

  ack_changes : (solo : SoloNode) (dc : ℕ) (version : Timestamp) (first : Option Entry) → front (queue place dc solo) ≡ first → ChangeBy (Ack dc version) solo (acknowledge dc version solo first)
  ack_changes solo dc version None is = Answers refl refl refl
  ack_changes solo dc version (Some e) is = by_test (version_eq e.version version) refl
    where
      by_test : (b : Bool) → version_eq e.version version ≡ b →
          ChangeBy (Ack dc version) solo (cond b (record { reply = Acked; after = record solo { acked = slice_set solo.acked dc (slice_index solo.acked dc + 1) } }) (unchanged NotFront solo))
      by_test true same = Taken refl (e, is, same, refl, refl)
      by_test false same = Answers refl refl refl

  effect_changes : (call : NodeCall) (solo : SoloNode) → ChangeBy call solo (effect place call solo)
  effect_changes (Get key Latest) solo = Answers refl refl refl
  effect_changes (Get key (Exactly version)) solo = Answers refl refl (solo.moment, refl)
  effect_changes (Put key value deps near) solo = put_changes solo key value deps near (version_of_put place solo deps) refl
  effect_changes (DepCheck key version) solo = Answers refl refl refl
  effect_changes (Pull dc) solo = Answers refl refl refl
  effect_changes (Commit e) solo = commit_changes solo e (was_committed e.version solo) (version_eq e.prev (mark e.version.node solo.recs)) refl refl
  effect_changes (Ack dc version) solo = ack_changes solo dc version (front (queue place dc solo)) refl
  effect_changes Collect solo =
      Answers (ap (map (λ (r : Record). r.entry)) (ever-collected place.trans_time solo.moment solo.recs)) refl (collectable place.trans_time solo.moment solo.recs, refl)

  -- a raised timestamp changes none of this
  abbrev at_moment : ℕ → SoloNode → SoloNode
  at_moment moment solo = record solo { moment = moment }

  reply_raised : (moment : ℕ) (call : NodeCall) (solo : SoloNode) (reply : NodeReply) → IsReply place call (at_moment moment solo) reply → IsReply place call solo reply
  reply_raised moment (Get key Latest) solo reply is = is
  reply_raised moment (Get key (Exactly version)) solo reply is = is
  reply_raised moment (Put key value deps near) solo reply is = is
  reply_raised moment (DepCheck key version) solo reply is = is
  reply_raised moment (Pull dc) solo reply is = is
  reply_raised moment (Commit e) solo reply is = is
  reply_raised moment (Ack dc version) solo reply is = is
  reply_raised moment Collect solo reply is = is

  stores_raised : (moment : ℕ) (call : NodeCall) (solo : SoloNode) (reply : NodeReply) (e : Entry) → Stores place call (at_moment moment solo) reply e → Stores place call solo reply e
  stores_raised moment (Put key value deps near) solo reply e is = is
  stores_raised moment (Commit entry) solo reply e is = is
  stores_raised moment (Get key wanted) solo reply e is = absurd is
  stores_raised moment (DepCheck key version) solo reply e is = absurd is
  stores_raised moment (Pull dc) solo reply e is = absurd is
  stores_raised moment (Ack dc version) solo reply e is = absurd is
  stores_raised moment Collect solo reply e is = absurd is

  takes_raised : (moment : ℕ) (call : NodeCall) (solo : SoloNode) (reply : NodeReply) (acked : List ℕ) → Takes place call (at_moment moment solo) reply acked → Takes place call solo reply acked
  takes_raised moment (Ack dc version) solo reply acked is = is
  takes_raised moment (Get key wanted) solo reply acked is = absurd is
  takes_raised moment (Put key value deps near) solo reply acked is = absurd is
  takes_raised moment (DepCheck key version) solo reply acked is = absurd is
  takes_raised moment (Pull dc) solo reply acked is = absurd is
  takes_raised moment (Commit e) solo reply acked is = absurd is
  takes_raised moment Collect solo reply acked is = absurd is

  pub turn_changes : (moment : ℕ) (call : NodeCall) (solo : SoloNode) → ChangeBy call solo (node_step place moment call solo)
  turn_changes moment call solo = by_room (nat_lt (length solo.trail) place.quota.audit)
    where
      raised : SoloNode
      raised = record solo { moment = max solo.moment moment }

      audited_changes : (turn : CallEffect) → ChangeBy call raised turn → ChangeBy call solo (audited moment call turn)
      audited_changes turn (IsRefused same acked is) = IsRefused same acked is
      audited_changes turn (Answers same acked is) = Answers same acked (reply_raised (max solo.moment moment) call solo turn.reply is)
      audited_changes turn (Joined e more acked is) = Joined e more acked (stores_raised (max solo.moment moment) call solo turn.reply e is)
      audited_changes turn (Taken same is) = Taken same (takes_raised (max solo.moment moment) call solo turn.reply turn.after.acked is)

      by_room : (b : Bool) → ChangeBy call solo (cond b (audited moment call (effect place call raised)) (unchanged (Refused AuditFull) solo))
      by_room true = audited_changes (effect place call raised) (effect_changes call raised)
      by_room false = IsRefused refl refl (AuditFull, refl, refl)

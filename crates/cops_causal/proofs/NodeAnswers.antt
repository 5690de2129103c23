-- What a node answers to a call for which it is ready, and what becomes of its audit.
use Rattle.std.proofs.Common.{◌≡◌, ℕ, ◌+◌, Bool, true, false, cond, List, [], ◌∷◌, ◌++◌, length, ◌⊎◌, inl, inr, refl, sym, ◌∙◌, ap, subst}
use Rattle.std.specs.Prelude.{Option, Some, None, max, nat_lt, slice_index, slice_set}
use Rattle.cops_types.specs.declared.faults.Fault.{Fault}
use Rattle.cops_types.specs.declared.faults.Fault.TheVariants.{AuditFull, OutOfMemory, Torn}
use Rattle.cops_types.specs.declared.pairs.Pair.{Pair}
use Rattle.cops_types.specs.declared.records.EntryParts.{EntryParts as Entry}
use Rattle.cops_types.specs.declared.records.Record.{Record}
use Rattle.cops_types.specs.Records.{exact, latest, mark}
use Rattle.cops_types.specs.Version.{Timestamp, version_eq}
use Rattle.cops_types.proofs.VersionOrder.{version_eq-refl}
use Rattle.cops_model.specs.declared.calls.AuditEntry.{AuditEntry}
use Rattle.cops_model.specs.declared.calls.NodeCall.{NodeCall}
use Rattle.cops_model.specs.declared.calls.NodeCall.TheVariants.{Get, Put, DepCheck, Pull, Commit, Ack, Collect}
use Rattle.cops_model.specs.declared.calls.NodeReply.{NodeReply}
use Rattle.cops_model.specs.declared.calls.NodeReply.TheVariants.{Stored, Committed, Already, OutOfOrder, Acked, NotFront, Refused}
use Rattle.cops_model.specs.Place.{Place}
use Rattle.cops_model.specs.declared.calls.Wanted.TheVariants.{Latest, Exactly}
use Rattle.cops_model.specs.Log.{is_asked, fault_in}
use Rattle.cops_model.specs.SoloNode.{SoloNode, queue, front}
use Rattle.cops_model.specs.Step.{CallEffect, acknowledge, audited, commit_refusal, effect, entry_of_put, node_put_refusal, node_step, put_with_version, reply_exact, reply_latest, reply_pull, store_unless, unchanged, version_of_put, was_committed}
use Rattle.cops_model.specs.declared.replies.Reply.{Reply}
use Rattle.cops_model.specs.declared.replies.Reply.TheVariants as reply
use Rattle.cops_model.specs.Laws.{is_expected_of_node}
use Rattle.cops_node.proofs.NodeTurns.{Change, IsRefused, Answers, Joined, Taken, IsReply, Stores, Takes, IsRefusal, is_node_fault}
use Rattle.cops_causal.proofs.TracedCalls.{exact-is}

-- ---- the replies

-- what a node holds so that the call is answered as expected
abbrev pub IsReady : NodeCall → SoloNode → Type 0
IsReady (Get key (Exactly version)) solo = was_committed version solo ≡ true
IsReady (Commit e) solo = was_committed e.version solo ≡ false → version_eq e.prev (mark e.version.node solo.recs) ≡ false → ⊥
IsReady call solo = Unit {0}

refusal_expected : (fault : Fault) → is_node_fault fault ≡ true → is_expected_of_node (Refused fault) ≡ true
refusal_expected Torn is = cc
refusal_expected fault is = refl

latest_expected : (o : Option Record) → is_expected_of_node (reply_latest o) ≡ true
latest_expected (Some r) = refl
latest_expected None = refl

exact_expected : (now : ℕ) (was : Bool) (o : Option Record) → was ≡ true → is_expected_of_node (reply_exact now was o) ≡ true
exact_expected now was (Some r) is = refl
exact_expected now true None is = refl
exact_expected now false None is = cc

pull_expected : (o : Option Entry) → is_expected_of_node (reply_pull o) ≡ true
pull_expected (Some e) = refl
pull_expected None = refl

module _ (place : Place) (solo : SoloNode) (reply : NodeReply) where
  answer_expected : (call : NodeCall) → IsReply place call solo reply → IsReady call solo → is_expected_of_node reply ≡ true
  answer_expected (Get key Latest) is ready = ap is_expected_of_node is ∙ latest_expected (latest key solo.recs)
  answer_expected (Get key (Exactly version)) is ready = ap is_expected_of_node is.1 ∙ exact_expected is.0 (was_committed version solo) (exact key version solo.recs) ready
  answer_expected (Put key value deps near) is ready = absurd is
  answer_expected (DepCheck key version) is ready = ap is_expected_of_node is
  answer_expected (Pull dc) is ready = ap is_expected_of_node is ∙ pull_expected (front (queue place dc solo))
  answer_expected (Commit e) (inl is) ready = ap is_expected_of_node is.0
  answer_expected (Commit e) (inr is) ready = absurd (ready is.1 is.2)
  answer_expected (Ack dc version) is ready = ap is_expected_of_node is
  answer_expected Collect is ready = ap is_expected_of_node is.1

  stored_expected : (call : NodeCall) (e : Entry) → Stores place call solo reply e → is_expected_of_node reply ≡ true
  stored_expected (Put key value deps near) e is = ap is_expected_of_node is.1
  stored_expected (Commit entry) e is = ap is_expected_of_node is.0
  stored_expected (Get key wanted) e is = absurd is
  stored_expected (DepCheck key version) e is = absurd is
  stored_expected (Pull dc) e is = absurd is
  stored_expected (Ack dc version) e is = absurd is
  stored_expected Collect e is = absurd is

  taken_expected : (call : NodeCall) (acked : List ℕ) → Takes place call solo reply acked → is_expected_of_node reply ≡ true
  taken_expected (Ack dc version) acked is = ap is_expected_of_node is.3
  taken_expected (Get key wanted) acked is = absurd is
  taken_expected (Put key value deps near) acked is = absurd is
  taken_expected (DepCheck key version) acked is = absurd is
  taken_expected (Pull dc) acked is = absurd is
  taken_expected (Commit e) acked is = absurd is
  taken_expected Collect acked is = absurd is

  -- the reply is as expected
  pub reply_expected : (call : NodeCall) (after : SoloNode) → Change place call solo reply after → IsReady call solo → is_expected_of_node reply ≡ true
  reply_expected call after (IsRefused same acked is) ready = ap is_expected_of_node is.1 ∙ refusal_expected is.0 is.2
  reply_expected call after (Answers same acked is) ready = answer_expected call is ready
  reply_expected call after (Joined e more acked is) ready = stored_expected call e is
  reply_expected call after (Taken same is) ready = taken_expected call after.acked is

  -- ---- a reply is of a kind that was asked for, or a refusal

  abbrev IsAsked : NodeCall → Type 0
  IsAsked call = is_asked call reply ≡ true

  asked_latest : (key : List ℕ) (o : Option Record) → is_asked (Get key Latest) (reply_latest o) ≡ true
  asked_latest key (Some r) = refl
  asked_latest key None = refl

  asked_exact : (key : List ℕ) (version : Timestamp) (now : ℕ) (was : Bool) (o : Option Record) → exact key version solo.recs ≡ o → was ≡ true → is_asked (Get key (Exactly version)) (reply_exact now was o) ≡ true
  asked_exact key version now was (Some r) is ready = ap (λ v. version_eq v version) (exact-is key version solo r is).2 ∙ version_eq-refl version
  asked_exact key version now true None is ready = refl
  asked_exact key version now false None is ready = cc

  asked_pull : (dc : ℕ) (o : Option Entry) → is_asked (Pull dc) (reply_pull o) ≡ true
  asked_pull dc (Some e) = refl
  asked_pull dc None = refl

  answer_asked : (call : NodeCall) → IsReply place call solo reply → IsReady call solo → IsAsked call
  answer_asked (Get key Latest) is ready = ap (is_asked (Get key Latest)) is ∙ asked_latest key (latest key solo.recs)
  answer_asked (Get key (Exactly version)) is ready = ap (is_asked (Get key (Exactly version))) is.1 ∙ asked_exact key version is.0 (was_committed version solo) (exact key version solo.recs) refl ready
  answer_asked (Put key value deps near) is ready = absurd is
  answer_asked (DepCheck key version) is ready = ap (is_asked (DepCheck key version)) is
  answer_asked (Pull dc) is ready = ap (is_asked (Pull dc)) is ∙ asked_pull dc (front (queue place dc solo))
  answer_asked (Commit e) (inl is) ready = ap (is_asked (Commit e)) is.0
  answer_asked (Commit e) (inr is) ready = absurd (ready is.1 is.2)
  answer_asked (Ack dc version) is ready = ap (is_asked (Ack dc version)) is
  answer_asked Collect is ready = ap (is_asked Collect) is.1

  stored_asked : (call : NodeCall) (e : Entry) → Stores place call solo reply e → IsAsked call
  stored_asked (Put key value deps near) e is = ap (is_asked (Put key value deps near)) is.1
  stored_asked (Commit entry) e is = ap (is_asked (Commit entry)) is.0
  stored_asked (Get key wanted) e is = absurd is
  stored_asked (DepCheck key version) e is = absurd is
  stored_asked (Pull dc) e is = absurd is
  stored_asked (Ack dc version) e is = absurd is
  stored_asked Collect e is = absurd is

  taken_asked : (call : NodeCall) (acked : List ℕ) → Takes place call solo reply acked → IsAsked call
  taken_asked (Ack dc version) acked is = ap (is_asked (Ack dc version)) is.3
  taken_asked (Get key wanted) acked is = absurd is
  taken_asked (Put key value deps near) acked is = absurd is
  taken_asked (DepCheck key version) acked is = absurd is
  taken_asked (Pull dc) acked is = absurd is
  taken_asked (Commit e) acked is = absurd is
  taken_asked Collect acked is = absurd is

  pub reply_asked : (call : NodeCall) (after : SoloNode) → Change place call solo reply after → IsReady call solo → IsRefusal reply ⊎ IsAsked call
  reply_asked call after (IsRefused same acked is) ready = inl is
  reply_asked call after (Answers same acked is) ready = inr (answer_asked call is ready)
  reply_asked call after (Joined e more acked is) ready = inr (stored_asked call e is)
  reply_asked call after (Taken same is) ready = inr (taken_asked call after.acked is)

-- ---- faults

-- an expected reply that is not out of memory: no definition gives another
abbrev pub is_usual : Reply → Bool
is_usual (reply.OutOfOrder mark) = false
is_usual (reply.Refused Torn) = false
is_usual (reply.Refused OutOfMemory) = false
is_usual r = true

-- a node's fault is a usual one
pub node_fault_usual : (fault : Fault) → is_node_fault fault ≡ true → is_usual (reply.Refused fault) ≡ true
node_fault_usual Torn is = cc
node_fault_usual OutOfMemory is = cc
node_fault_usual fault is = refl

never_asked : (call : NodeCall) (fault : Fault) → is_asked call (Refused fault) ≡ true → ⊥
never_asked (Get key Latest) fault e = cc
never_asked (Get key (Exactly version)) fault e = cc
never_asked call fault e = cc

pub asked_faultless : (call : NodeCall) (reply : NodeReply) → is_asked call reply ≡ true → fault_in call reply ≡ None
asked_faultless call (Refused fault) e = absurd (never_asked call fault e)
asked_faultless call reply e = rw e refl

-- no fault, or a usual one
abbrev pub IsFineFault : Option Fault → Type 0
IsFineFault None = Unit {0}
IsFineFault (Some fault) = is_usual (reply.Refused fault) ≡ true

pub fault_fine : (call : NodeCall) (reply : NodeReply) → IsRefusal reply ⊎ (is_asked call reply ≡ true) → IsFineFault (fault_in call reply)
fault_fine call reply (inl is) = subst (λ r. IsFineFault (fault_in call r)) (sym is.1) (node_fault_usual is.0 is.2)
fault_fine call reply (inr is) = subst IsFineFault (sym (asked_faultless call reply is)) tt

-- ---- the audit

module _ (place : Place) where
  stored_trail : (fault : Option Fault) (reply : NodeReply) (e : Entry) (solo : SoloNode) → (store_unless fault reply e solo).after.trail ≡ solo.trail
  stored_trail (Some fault) reply e solo = refl
  stored_trail None reply e solo = refl

  put_trail : (solo : SoloNode) (key value : List ℕ) (deps near : List Pair) (version : Option Timestamp) → (put_with_version place solo key value deps near version).after.trail ≡ solo.trail
  put_trail solo key value deps near None = refl
  put_trail solo key value deps near (Some version) = stored_trail (node_put_refusal place solo key value) (Stored version) (entry_of_put place solo version key value deps near) solo

  commit_trail : (solo : SoloNode) (e : Entry) (was follows : Bool) →
      (cond was (unchanged Already solo) (cond follows (store_unless (commit_refusal place solo e) Committed e solo) (unchanged (OutOfOrder (mark e.version.node solo.recs)) solo))).after.trail ≡ solo.trail
  commit_trail solo e true follows = refl
  commit_trail solo e false true = stored_trail (commit_refusal place solo e) Committed e solo
  commit_trail solo e false false = refl

  ack_trail : (solo : SoloNode) (dc : ℕ) (version : Timestamp) (first : Option Entry) → (acknowledge dc version solo first).after.trail ≡ solo.trail
  ack_trail solo dc version None = refl
  ack_trail solo dc version (Some e) = by_test (version_eq e.version version)
    where
      by_test : (b : Bool) → (let turn : CallEffect = cond b (record { reply = Acked; after = record solo { acked = slice_set solo.acked dc (slice_index solo.acked dc + 1) } }) (unchanged NotFront solo) in turn.after.trail) ≡ solo.trail
      by_test true = refl
      by_test false = refl

  effect_trail : (call : NodeCall) (solo : SoloNode) → (effect place call solo).after.trail ≡ solo.trail
  effect_trail (Get key wanted) solo = refl
  effect_trail (Put key value deps near) solo = put_trail solo key value deps near (version_of_put place solo deps)
  effect_trail (DepCheck key version) solo = refl
  effect_trail (Pull dc) solo = refl
  effect_trail (Commit e) solo = commit_trail solo e (was_committed e.version solo) (version_eq e.prev (mark e.version.node solo.recs))
  effect_trail (Ack dc version) solo = ack_trail solo dc version (front (queue place dc solo))
  effect_trail Collect solo = refl

  -- a call joins the audit with its reply, unless that is full
  abbrev pub TrailAfter : ℕ → NodeCall → SoloNode → CallEffect → Type 0
  TrailAfter moment call solo turn = (turn.after.trail ≡ solo.trail) ⊎ (turn.after.trail ≡ solo.trail ++ record { moment = moment; call = call; reply = turn.reply } ∷ [])

  pub turn_trail : (moment : ℕ) (call : NodeCall) (solo : SoloNode) → TrailAfter moment call solo (node_step place moment call solo)
  turn_trail moment call solo = by_room (nat_lt (length solo.trail) place.quota.audit)
    where
      raised : SoloNode
      raised = record solo { moment = max solo.moment moment }

      by_room : (b : Bool) → TrailAfter moment call solo (cond b (audited moment call (effect place call raised)) (unchanged (Refused AuditFull) solo))
      by_room true = inr (ap (λ (trail : List AuditEntry). trail ++ record { moment = moment; call = call; reply = (effect place call raised).reply } ∷ []) (effect_trail call raised))
      by_room false = inl refl

-- The definition's nodes never reply that memory ran out.
use Rattle.std.proofs.Common.{◌≡◌, ℕ, Bool, true, false, cond, List, [], ◌∷◌, length, refl, max}
use Rattle.std.specs.Prelude.{Option, Some, None, nat_lt}
use Rattle.cops_types.specs.declared.faults.Fault.TheVariants.{AuditFull, ByteQuota, OutboxFull, VersionQuota}
use Rattle.cops_types.specs.declared.pairs.Pair.{Pair}
use Rattle.cops_types.specs.declared.records.EntryParts.{EntryParts as Entry}
use Rattle.cops_types.specs.declared.records.Record.{Record}
use Rattle.cops_types.specs.Records.{exact, latest, mark}
use Rattle.cops_types.specs.Search.{first_refusal}
use Rattle.cops_types.specs.Version.{Timestamp, version_eq}
use Rattle.cops_model.specs.declared.calls.NodeCall.{NodeCall}
use Rattle.cops_model.specs.declared.calls.NodeCall.TheVariants.{Get, Put, DepCheck, Pull, Commit, Ack, Collect}
use Rattle.cops_model.specs.declared.calls.NodeReply.{NodeReply}
use Rattle.cops_model.specs.declared.calls.NodeReply.TheVariants as node_reply
use Rattle.cops_model.specs.declared.calls.Wanted.TheVariants.{Latest, Exactly}
use Rattle.cops_model.specs.declared.replies.Reply.TheVariants.{Refused}
use Rattle.cops_model.specs.Events.{is_out_of_memory}
use Rattle.cops_model.specs.Place.{Place}
use Rattle.cops_model.specs.SoloNode.{SoloNode, front, queue}
use Rattle.cops_model.specs.Step.{CallEffect, acknowledge, audited, effect, is_bytes_full, is_outbox_full, is_versions_full, node_step, put_with_version, reply_exact, reply_latest, reply_pull, store_unless, unchanged, version_of_put, was_committed}

abbrev pub lacks : NodeReply → Bool
lacks (node_reply.Refused fault) = is_out_of_memory (Refused fault)
lacks reply = false

branch : (b : Bool) (one other : CallEffect) → lacks one.reply ≡ false → lacks other.reply ≡ false → lacks (cond b one other).reply ≡ false
branch true one other first second = first
branch false one other first second = second

latest_spared : (o : Option Record) → lacks (reply_latest o) ≡ false
latest_spared (Some r) = refl
latest_spared None = refl

exact_spared : (now : ℕ) (was : Bool) (o : Option Record) → lacks (reply_exact now was o) ≡ false
exact_spared now was (Some r) = refl
exact_spared now true None = refl
exact_spared now false None = refl

pull_spared : (o : Option Entry) → lacks (reply_pull o) ≡ false
pull_spared (Some e) = refl
pull_spared None = refl

put_spared : (a b c : Bool) (reply : NodeReply) (e : Entry) (solo : SoloNode) → lacks reply ≡ false →
    lacks (store_unless (first_refusal ((a, VersionQuota) ∷ (b, ByteQuota) ∷ (c, OutboxFull) ∷ [])) reply e solo).reply ≡ false
put_spared true b c reply e solo spared = refl
put_spared false true c reply e solo spared = refl
put_spared false false true reply e solo spared = refl
put_spared false false false reply e solo spared = spared

commit_spared : (a b : Bool) (reply : NodeReply) (e : Entry) (solo : SoloNode) → lacks reply ≡ false → lacks (store_unless (first_refusal ((a, VersionQuota) ∷ (b, ByteQuota) ∷ [])) reply e solo).reply ≡ false
commit_spared true b reply e solo spared = refl
commit_spared false true reply e solo spared = refl
commit_spared false false reply e solo spared = spared

module _ (place : Place) (solo : SoloNode) where
  versioned_spared : (key value : List ℕ) (deps near : List Pair) (version : Option Timestamp) → lacks (put_with_version place solo key value deps near version).reply ≡ false
  versioned_spared key value deps near None = refl
  versioned_spared key value deps near (Some version) = put_spared (is_versions_full place solo) (is_bytes_full place key value solo) (is_outbox_full place solo) (node_reply.Stored version) _ solo refl

  ack_spared : (dc : ℕ) (version : Timestamp) (first : Option Entry) → lacks (acknowledge dc version solo first).reply ≡ false
  ack_spared dc version None = refl
  ack_spared dc version (Some entry) = branch (version_eq entry.version version) _ _ refl refl

  effect_spared : (call : NodeCall) → lacks (effect place call solo).reply ≡ false
  effect_spared (Get key Latest) = latest_spared (latest key solo.recs)
  effect_spared (Get key (Exactly version)) = exact_spared solo.moment (was_committed version solo) (exact key version solo.recs)
  effect_spared (Put key value deps near) = versioned_spared key value deps near (version_of_put place solo deps)
  effect_spared (DepCheck key version) = refl
  effect_spared (Pull dc) = pull_spared (front (queue place dc solo))
  effect_spared (Commit entry) =
      branch (was_committed entry.version solo) _ _ refl (branch (version_eq entry.prev (mark entry.version.node solo.recs)) _ _
      (commit_spared (is_versions_full place solo) (is_bytes_full place entry.key entry.value solo) node_reply.Committed entry solo refl) refl)
  effect_spared (Ack dc version) = ack_spared dc version (front (queue place dc solo))
  effect_spared Collect = refl

pub node_spared : (place : Place) (moment : ℕ) (call : NodeCall) (solo : SoloNode) → lacks (node_step place moment call solo).reply ≡ false
node_spared place moment call solo =
    branch (nat_lt (length solo.trail) place.quota.audit) (audited moment call (effect place call (record solo { moment = max solo.moment moment }))) (unchanged (node_reply.Refused AuditFull) solo)
    (effect_spared place (record solo { moment = max solo.moment moment }) call) refl

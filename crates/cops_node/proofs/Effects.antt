-- The effect of each call on the state of a slot.
use Rattle.std.proofs.Common.{◌≡◌, ◌≢◌, ℕ, zero, suc, ◌+◌, ◌/◌, ◌%◌, ◌<◌, ◌≤◌, Bool, true, false, not, ◌&&◌, ◌||◌, List, [], ◌∷◌, ◌++◌, length, map, refl, sym, ap, ◌∙◌, subst, arith, true≢false, nat_eq, max, get_or, set, length-append, IsTrue}
use Rattle.std.specs.Prelude.{if◌then◌else◌, ◌==◌, nat_le, filter, drop, Option, Some, None, Ok, ok_or}
use Rattle.std.specs.List.{AllByRecursion, fold, list_any, range_with_len}
use Rattle.std.proofs.lemmas.Bool.Decides.{Decides-eqb, Decides-ltb}
use Rattle.std.proofs.lemmas.List.{get_or-set_same, get_or-set_other, map-append, drop-append-le, length-drop}
use Rattle.std.proofs.lemmas.List.Elements.{filter-append}
use Rattle.std.proofs.Math.ListN.{length-set}
use Rattle.cops_types.specs.declared.faults.Fault.{Fault}
use Rattle.cops_types.specs.declared.faults.Fault.TheVariants.{ClockFull, VersionQuota, ByteQuota, OutboxFull}
use Rattle.cops_types.specs.declared.pairs.Pair.{Pair}
use Rattle.cops_types.specs.declared.records.EntryParts.{EntryParts as Entry}
use Rattle.cops_types.specs.declared.records.Record.{Record}
use Rattle.cops_types.specs.Pairs.{greatest_clock}
use Rattle.cops_types.specs.Records.{Tracked, StandsFor, mark, ever, collected, mark_among}
use Rattle.cops_types.specs.Version.{Timestamp, version_le, next_version, last_clock}
use Rattle.cops_store.specs.Contents.{Contents, rows_of, NoneLater}
use Rattle.cops_outbox.specs.Queues.{Queues, queue_of, is_full, is_front}
use Rattle.cops_node.specs.declared.parts.Counters.{Counters}
use Rattle.cops_model.specs.declared.calls.NodeReply.TheVariants.{Acked, NotFront, Refused, Stored}
use Rattle.cops_node.specs.Parts.{AreMarks, StandsAt, home_at, mark_in}
use Rattle.cops_model.specs.Place.{Place, is_other_dc, own_number}
use Rattle.cops_model.specs.SoloNode.{SoloNode, queue, issued, front}
use Rattle.cops_model.specs.Step.{CallEffect, acknowledge, committed, entry_of_put, is_outbox_full, node_put_refusal, put, put_with_version, store_unless, unchanged, version_of_put}
use Rattle.cops_node.proofs.NewRecords.{AreMarks-push, NoneLater-push, NoneLater-raised, clock-push}
use Rattle.cops_node.proofs.MarkLaws.{ever-collected}

-- ---- one more record

-- what a record adds to the queues: its entry, if this node issued it
abbrev pub sent : Place → Entry → List Entry
sent place entry = if entry.version.node == own_number place then entry ∷ [] else []

issued-push : (place : Place) (entry : Entry) (solo : SoloNode) → issued place (committed entry solo) ≡ issued place solo ++ sent place entry
issued-push place entry solo =
    let r : Record = record { entry = entry; at = solo.moment } in
    ap (λ rs. filter (λ (e : Entry). e.version.node == own_number place) (map (λ (r : Record). r.entry) rs)) (map-append (λ (t : Tracked). t.record_of) solo.recs (record { record_of = r; removed = false } ∷ []))
    ∙ ap (filter (λ (e : Entry). e.version.node == own_number place)) (map-append (λ (r : Record). r.entry) (ever solo.recs) (r ∷ []))
    ∙ filter-append (λ (e : Entry). e.version.node == own_number place) (map (λ (r : Record). r.entry) (ever solo.recs)) (entry ∷ [])

pub StandsAt-committed : (slot : ℕ) (place : Place) (counters counters' : Counters) (store store' : Contents) (outbox outbox' : Queues) (solo : SoloNode) (entry : Entry) →
    StandsAt slot place counters store outbox solo →
    version_le entry.version (mark entry.version.node solo.recs) ≡ false → entry.version.clock ≤ last_clock →
    ((tracked : List Tracked) → StandsFor (rows_of slot store) tracked → NoneLater solo.moment tracked → StandsFor (rows_of slot store') (tracked ++ record { record_of = record { entry = entry; at = solo.moment }; removed = false } ∷ [])) →
    store'.tenants ≡ store.tenants →
    counters'.clock ≡ max counters.clock entry.version.clock → counters'.marks.items ≡ set counters.marks.items (entry.version.node / place.shards) entry.version →
    entry.version.node / place.shards < place.data_centres → entry.version.node % place.shards ≡ place.id.shard →
    outbox'.own ≡ outbox.own → outbox'.tenants ≡ outbox.tenants → length outbox'.queues ≡ length outbox.queues →
    ((dc : ℕ) → IsTrue (is_other_dc place dc) → queue_of slot dc outbox' ≡ queue_of slot dc outbox ++ sent place entry) →
    StandsAt slot place counters' store' outbox' (committed entry solo)
StandsAt-committed slot place counters counters' store store' outbox outbox' solo entry h above clock_fits stands tenants clock_is marks_are within shard_is own queued dcs queues =
    let r : Record = record { entry = entry; at = solo.moment } in
    record {
      home_is = h.home_is;
      stored = subst (λ n. slot < n) (sym tenants) h.stored;
      queued = subst (λ n. slot < n) (sym queued) h.queued;
      own_is = own ∙ h.own_is;
      all_queues = dcs ∙ h.all_queues;
      rows = stands solo.recs h.rows h.late;
      queues = λ dc other.
          queues dc other ∙ ap (λ es. es ++ sent place entry) (h.queues dc other)
          ∙ sym (drop-append-le (get_or solo.acked dc 0) (issued place solo) (sent place entry) (h.acked dc))
          ∙ ap (drop (get_or solo.acked dc 0)) (sym (issued-push place entry solo));
      all_acked = h.all_acked;
      acked = λ dc. let more = ap length (issued-push place entry solo) ∙ length-append (issued place solo) (sent place entry) in let low = h.acked dc in omega arith;
      clock_is = clock_is ∙ ap (λ n. max n entry.version.clock) h.clock_is ∙ sym (clock-push place.first_clock solo.recs r);
      clock_fits = let low = h.clock_fits in omega arith;
      marks = subst (λ ms. AreMarks (home_at place) ms (solo.recs ++ record { record_of = r; removed = false } ∷ [])) (sym marks_are) (AreMarks-push (home_at place) counters.marks.items solo.recs r h.marks within shard_is above);
      late = NoneLater-push solo.moment solo.recs r h.late (omega arith);
    }

-- ---- a later timestamp
pub StandsAt-raised : (slot : ℕ) (place : Place) (counters : Counters) (store : Contents) (outbox : Queues) (solo : SoloNode) (now : ℕ) → StandsAt slot place counters store outbox solo → solo.moment ≤ now → StandsAt slot place counters store outbox (record solo { moment = now })
StandsAt-raised slot place counters store outbox solo now h le = record {
  home_is = h.home_is;
  stored = h.stored;
  queued = h.queued;
  own_is = h.own_is;
  all_queues = h.all_queues;
  rows = h.rows;
  queues = h.queues;
  all_acked = h.all_acked;
  acked = h.acked;
  clock_is = h.clock_is;
  clock_fits = h.clock_fits;
  marks = h.marks;
  late = NoneLater-raised solo.moment now solo.recs le h.late;
}

-- ---- a collection
pub StandsAt-collected : (slot : ℕ) (place : Place) (counters : Counters) (store store' : Contents) (outbox : Queues) (solo : SoloNode) → StandsAt slot place counters store outbox solo →
    StandsFor (rows_of slot store') (collected place.trans_time solo.moment solo.recs) → store'.tenants ≡ store.tenants →
    StandsAt slot place counters store' outbox (record solo { recs = collected place.trans_time solo.moment solo.recs })
StandsAt-collected slot place counters store store' outbox solo h stands tenants = record {
  home_is = h.home_is;
  stored = subst (λ n. slot < n) (sym tenants) h.stored;
  queued = h.queued;
  own_is = h.own_is;
  all_queues = h.all_queues;
  rows = stands;
  queues = λ dc other. h.queues dc other ∙ ap (λ rs. drop (get_or solo.acked dc 0) (filter (λ (e : Entry). e.version.node == own_number place) (map (λ (r : Record). r.entry) rs))) (sym same);
  all_acked = h.all_acked;
  acked = λ dc. subst (λ rs. get_or solo.acked dc 0 ≤ length (filter (λ (e : Entry). e.version.node == own_number place) (map (λ (r : Record). r.entry) rs))) (sym same) (h.acked dc);
  clock_is = h.clock_is ∙ ap (λ rs. fold max place.first_clock (map (λ (r : Record). r.entry.version.clock) rs)) (sym same);
  clock_fits = h.clock_fits;
  marks = record { all = h.marks.all; each = λ node. subst (λ rs. mark_in (home_at place) counters.marks.items node ≡ mark_among node rs) (sym same) (h.marks.each node) };
  late = subst (AllByRecursion (λ r. r.at ≤ solo.moment)) (sym same) h.late;
}
  where
    same : ever (collected place.trans_time solo.moment solo.recs) ≡ ever solo.recs
    same = ever-collected place.trans_time solo.moment solo.recs

-- ---- an acknowledgement

-- what is left of a queue that is not empty is one shorter
drop_suc : {A : Type 0} (n : ℕ) (xs : List A) → drop 1 (drop n xs) ≡ drop (suc n) xs
drop_suc zero xs = refl
drop_suc (suc n) [] = refl
drop_suc (suc n) (x ∷ xs) = drop_suc n xs

drop_more : {A : Type 0} (n : ℕ) (xs : List A) → drop 1 (drop n xs) ≡ drop (n + 1) xs
drop_more n xs = let e : suc n ≡ n + 1 = omega arith in drop_suc n xs ∙ ap (λ m. drop m xs) e

within_drop : {A : Type 0} (n : ℕ) (xs : List A) (y : A) (ys : List A) → drop n xs ≡ y ∷ ys → n + 1 ≤ length xs
within_drop n xs y ys h = let long = ap length h in let short = length-drop n xs in omega arith

-- the turn with which the front is taken out or not
abbrev pub ack_turn : Bool → ℕ → SoloNode → CallEffect
ack_turn b dc solo = if b then record { reply = Acked; after = record solo { acked = set solo.acked dc (get_or solo.acked dc 0 + 1) } } else record { reply = NotFront; after = solo }

pub acknowledge_is : (dc : ℕ) (version : Timestamp) (solo : SoloNode) (first : Option Entry) → acknowledge dc version solo first ≡ ack_turn (is_front version first) dc solo
acknowledge_is dc version solo None = refl
acknowledge_is dc version solo (Some e) = refl

pub StandsAt-acked : (slot dc : ℕ) (version : Timestamp) (b : Bool) (place : Place) (counters : Counters) (store : Contents) (outbox outbox' : Queues) (solo : SoloNode) → StandsAt slot place counters store outbox solo →
    IsTrue (is_other_dc place dc) → b ≡ is_front version (front (queue_of slot dc outbox)) →
    queue_of slot dc outbox' ≡ (if b then drop 1 (queue_of slot dc outbox) else queue_of slot dc outbox) →
    ((at : ℕ) → at ≢ dc → queue_of slot at outbox' ≡ queue_of slot at outbox) →
    outbox'.own ≡ outbox.own → outbox'.tenants ≡ outbox.tenants → length outbox'.queues ≡ length outbox.queues → dc < place.data_centres →
    StandsAt slot place counters store outbox' (ack_turn b dc solo).after
StandsAt-acked slot dc version true place counters store outbox outbox' solo h other found entry elsewhere own queued dcs within = record {
  home_is = h.home_is;
  stored = h.stored;
  queued = subst (λ n. slot < n) (sym queued) h.queued;
  own_is = own ∙ h.own_is;
  all_queues = dcs ∙ h.all_queues;
  rows = h.rows;
  queues = λ at is_other. by at is_other (nat_eq at dc) refl;
  all_acked = length-set solo.acked dc (get_or solo.acked dc 0 + 1) ∙ h.all_acked;
  acked = λ at. bound at (nat_eq at dc) refl;
  clock_is = h.clock_is;
  clock_fits = h.clock_fits;
  marks = h.marks;
  late = h.late;
}
  where
    long : dc < length solo.acked
    long = subst (λ n. dc < n) (sym h.all_acked) within

    by : (at : ℕ) → IsTrue (is_other_dc place at) → (t : Bool) → nat_eq at dc ≡ t → queue_of slot at outbox' ≡ drop (get_or (set solo.acked dc (get_or solo.acked dc 0 + 1)) at 0) (issued place solo)
    by at is_other true e =
        let same : at ≡ dc = (Decides-eqb at dc).0 e in
        subst (λ m. queue_of slot m outbox' ≡ drop (get_or (set solo.acked dc (get_or solo.acked dc 0 + 1)) m 0) (issued place solo)) (sym same)
        (entry ∙ ap (drop 1) (h.queues dc other) ∙ drop_more (get_or solo.acked dc 0) (issued place solo) ∙ ap (λ n. drop n (issued place solo)) (sym (get_or-set_same solo.acked dc (get_or solo.acked dc 0 + 1) 0 long)))
    by at is_other false e =
        let differ : at ≢ dc = λ same. true≢false (sym ((Decides-eqb at dc).1 same) ∙ e) in
        elsewhere at differ ∙ h.queues at is_other ∙ ap (λ n. drop n (issued place solo)) (sym (get_or-set_other solo.acked dc at (get_or solo.acked dc 0 + 1) 0 differ))

    first : (es : List Entry) → drop (get_or solo.acked dc 0) (issued place solo) ≡ es → true ≡ is_front version (front es) → get_or solo.acked dc 0 + 1 ≤ length (issued place solo)
    first [] is h = absurd (true≢false h)
    first (e ∷ es) is h = within_drop (get_or solo.acked dc 0) (issued place solo) e es is

    bound : (at : ℕ) (t : Bool) → nat_eq at dc ≡ t → get_or (set solo.acked dc (get_or solo.acked dc 0 + 1)) at 0 ≤ length (issued place solo)
    bound at true e =
        let same : at ≡ dc = (Decides-eqb at dc).0 e in
        subst (λ m. get_or (set solo.acked dc (get_or solo.acked dc 0 + 1)) m 0 ≤ length (issued place solo)) (sym same)
        (subst (λ n. n ≤ length (issued place solo)) (sym (get_or-set_same solo.acked dc (get_or solo.acked dc 0 + 1) 0 long)) (first (drop (get_or solo.acked dc 0) (issued place solo)) refl (found ∙ ap (λ es. is_front version (front es)) (h.queues dc other))))
    bound at false e =
        let differ : at ≢ dc = λ same. true≢false (sym ((Decides-eqb at dc).1 same) ∙ e) in
        subst (λ n. n ≤ length (issued place solo)) (sym (get_or-set_other solo.acked dc at (get_or solo.acked dc 0 + 1) 0 differ)) (h.acked at)
StandsAt-acked slot dc version false place counters store outbox outbox' solo h other found entry elsewhere own queued dcs within = record {
  home_is = h.home_is;
  stored = h.stored;
  queued = subst (λ n. slot < n) (sym queued) h.queued;
  own_is = own ∙ h.own_is;
  all_queues = dcs ∙ h.all_queues;
  rows = h.rows;
  queues = λ at is_other. by at (nat_eq at dc) refl ∙ h.queues at is_other;
  all_acked = h.all_acked;
  acked = h.acked;
  clock_is = h.clock_is;
  clock_fits = h.clock_fits;
  marks = h.marks;
  late = h.late;
}
  where
    by : (at : ℕ) (t : Bool) → nat_eq at dc ≡ t → queue_of slot at outbox' ≡ queue_of slot at outbox
    by at true e = let same : at ≡ dc = (Decides-eqb at dc).0 e in subst (λ m. queue_of slot m outbox' ≡ queue_of slot m outbox) (sym same) entry
    by at false e = elsewhere at (λ same. true≢false (sym ((Decides-eqb at dc).1 same) ∙ e))

-- ---- refusals

any_within : (p q : ℕ → Bool) (a n : ℕ) → ((i : ℕ) → i < a + n → p i ≡ q i) → list_any p (range_with_len a n) ≡ list_any q (range_with_len a n)
any_within p q a zero h = refl
any_within p q a (suc n) h =
    let rest : list_any p (range_with_len (a + 1) n) ≡ list_any q (range_with_len (a + 1) n) = any_within p q (a + 1) n (λ i lt. h i (omega arith)) in
    (λ j. h a (omega arith) j || rest j)

-- the outbox is full if a queue of the definition is
pub full_is : (slot : ℕ) (place : Place) (counters : Counters) (store : Contents) (outbox : Queues) (solo : SoloNode) → StandsAt slot place counters store outbox solo → is_full slot place.quota.outbox outbox ≡ is_outbox_full place solo
full_is slot place counters store outbox solo h =
    ap (λ n. list_any (λ dc. not (dc == outbox.own) && nat_le place.quota.outbox (length (queue_of slot dc outbox))) (range_with_len 0 n)) h.all_queues
    ∙ any_within (λ dc. not (dc == outbox.own) && nat_le place.quota.outbox (length (queue_of slot dc outbox))) (λ dc. is_other_dc place dc && nat_le place.quota.outbox (length (queue place dc solo))) 0 place.data_centres (λ dc lt. at dc (omega arith) (dc == place.id.dc) refl)
  where
    at : (dc : ℕ) → dc < place.data_centres → (b : Bool) → (dc == place.id.dc) ≡ b →
        (not (dc == outbox.own) && nat_le place.quota.outbox (length (queue_of slot dc outbox))) ≡ (is_other_dc place dc && nat_le place.quota.outbox (length (queue place dc solo)))
    at dc lt b is =
        ap (λ own. not (dc == own) && nat_le place.quota.outbox (length (queue_of slot dc outbox))) h.own_is
        ∙ ap (λ t. not t && nat_le place.quota.outbox (length (queue_of slot dc outbox))) is
        ∙ by b is
        ∙ ap (λ t. (true && not t) && nat_le place.quota.outbox (length (queue place dc solo))) (sym is)
        ∙ ap (λ t. (t && not (dc == place.id.dc)) && nat_le place.quota.outbox (length (queue place dc solo))) (sym ((Decides-ltb dc place.data_centres).1 lt))
      where
        by : (b : Bool) → (dc == place.id.dc) ≡ b → (not b && nat_le place.quota.outbox (length (queue_of slot dc outbox))) ≡ ((true && not b) && nat_le place.quota.outbox (length (queue place dc solo)))
        by true is = refl
        by false is = ap (λ es. nat_le place.quota.outbox (length es)) (h.queues dc (λ i. (Decides-ltb dc place.data_centres).1 lt i && not (is i)))

pub quota_refuses : (a b c : Bool) (fault : Fault) → Some fault ≡ (if a then Some VersionQuota else (if b then Some ByteQuota else None)) → (if a then Some VersionQuota else (if b then Some ByteQuota else (if c then Some OutboxFull else None))) ≡ Some fault
quota_refuses true b c fault h = sym h
quota_refuses false true c fault h = sym h
quota_refuses false false c fault h = cc

pub quota_allows : (a b c : Bool) → None ≡ (if a then Some VersionQuota else (if b then Some ByteQuota else None)) → (if a then Some VersionQuota else (if b then Some ByteQuota else (if c then Some OutboxFull else None))) ≡ (if c then Some OutboxFull else None)
quota_allows true b c h = cc
quota_allows false true c h = cc
quota_allows false false c h = refl

-- the version of a put, from the slot's clock
pub version_found : (slot : ℕ) (place : Place) (counters : Counters) (store : Contents) (outbox : Queues) (solo : SoloNode) (deps : List Pair) (version : Timestamp) → StandsAt slot place counters store outbox solo →
    Ok version ≡ ok_or (next_version counters.clock (greatest_clock deps) (own_number place)) ClockFull → version_of_put place solo deps ≡ Some version
version_found slot place counters store outbox solo deps version h is =
    ap (λ n. next_version n (greatest_clock deps) (own_number place)) (sym h.clock_is) ∙ by (next_version counters.clock (greatest_clock deps) (own_number place)) is
  where
    by : (o : Option Timestamp) → Ok version ≡ ok_or o ClockFull → o ≡ Some version
    by (Some v) e = cc
    by None e = cc

-- a put that is refused changes nothing
pub refused_put : (place : Place) (solo : SoloNode) (key value : List ℕ) (deps near : List Pair) (version : Timestamp) (fault : Fault) → version_of_put place solo deps ≡ Some version → node_put_refusal place solo key value ≡ Some fault → put place solo key value deps near ≡ unchanged (Refused fault) solo
refused_put place solo key value deps near version fault is refused =
    ap (put_with_version place solo key value deps near) is ∙ ap (λ o. store_unless o (Stored version) (entry_of_put place solo version key value deps near) solo) refused

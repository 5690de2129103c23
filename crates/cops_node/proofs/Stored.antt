-- The effect of puts and commits that nothing refuses on the state of a slot.
use Rattle.std.proofs.Common.{◌≡◌, ◌≢◌, ℕ, ◌+◌, ◌*◌, ◌/◌, ◌%◌, ◌<◌, ◌≤◌, Bool, true, false, not, ◌&&◌, List, [], ◌∷◌, ◌++◌, length, refl, sym, ap, ◌∙◌, subst, arith, true≢false, nat_lt, max, set, append-nil, IsTrue}
use Rattle.std.specs.Prelude.{if◌then◌else◌, ◌==◌, drop, Option, Some, None}
use Rattle.std.proofs.lemmas.Bool.Decides.{Decides-eqb, nat_tests}
use Rattle.std.proofs.lemmas.Nat.{div-mul-add, mod-mul-add}
use Rattle.cops_types.specs.declared.faults.Fault.{Fault}
use Rattle.cops_types.specs.declared.pairs.Pair.{Pair}
use Rattle.cops_types.specs.declared.records.EntryParts.{EntryParts as Entry}
use Rattle.cops_types.specs.Pairs.{greatest_clock}
use Rattle.cops_types.specs.Records.{Tracked, StandsFor, clock, mark}
use Rattle.cops_types.specs.Version.{Timestamp, version_le, version_eq, next_version, last_clock}
use Rattle.cops_store.specs.Contents.{Contents, rows_of, rows_in, NoneLater, LacksVersion}
use Rattle.cops_outbox.specs.Queues.{Queues, is_front, queue_of}
use Rattle.cops_outbox.specs.declared.outbox.Ack.{Ack as Answer}
use Rattle.cops_outbox.specs.declared.outbox.Ack.TheVariants as answer
use Rattle.cops_node.specs.declared.parts.Counters.{Counters}
use Rattle.cops_model.specs.declared.calls.NodeCall.TheVariants.{Put, Commit, Ack}
use Rattle.cops_model.specs.declared.calls.NodeReply.{NodeReply}
use Rattle.cops_model.specs.declared.calls.NodeReply.TheVariants.{Stored, Committed, Already, OutOfOrder, Refused, Acked, NotFront}
use Rattle.cops_node.specs.Parts.{IsHome, StandsAt, home_at}
use Rattle.cops_model.specs.Place.{Place, is_other_dc, is_other_equivalent, own_number}
use Rattle.cops_model.specs.SoloNode.{SoloNode, queue, front}
use Rattle.cops_model.specs.Step.{CallEffect, commit, commit_refusal, committed, effect, entry_of_put, node_put_refusal, put, put_with_version, store_unless, unchanged, version_of_put, was_committed}
use Rattle.cops_node.proofs.Effects.{StandsAt-committed, sent, StandsAt-acked, ack_turn, acknowledge_is}
use Rattle.cops_node.proofs.NewRecords.{is_new, above_marks}

-- ---- the data centre of a node

other_dc : (place : Place) (dc : ℕ) → IsTrue (is_other_dc place dc) → (dc < place.data_centres) × (dc ≢ place.id.dc)
other_dc place dc h = let within : dc < place.data_centres = grind (arith, nat_tests) in let differ : dc ≢ place.id.dc = grind (arith, nat_tests) in (within, differ)

-- the key's shard and the version's node, of an entry that fits
pub equivalent_of : (a b : Bool) → (a && b) ≡ true → b ≡ true
equivalent_of true b h = h
equivalent_of false b h = absurd (true≢false (sym h))

-- that of this node
pub own_within : (place : Place) → IsHome (home_at place) → own_number place / place.shards < place.data_centres
own_within place h = subst (λ dc. dc < place.data_centres) (sym (div-mul-add place.id.dc place.shards place.id.shard h.shard_exists)) h.dc_exists

own_shard : (place : Place) → IsHome (home_at place) → own_number place % place.shards ≡ place.id.shard
own_shard place h = mod-mul-add place.id.dc place.shards place.id.shard h.shard_exists

-- and that of an equivalent one
first_of : (a b : Bool) → (a && b) ≡ true → a ≡ true
first_of true b h = refl
first_of false b h = h

pub equivalent_within : (place : Place) (node : ℕ) → IsTrue (is_other_equivalent place node) → node / place.shards < place.data_centres
equivalent_within place node h = (other_dc place (node / place.shards) (first_of (is_other_dc place (node / place.shards)) (node % place.shards == place.id.shard) h)).0

equivalent_shard : (place : Place) (node : ℕ) → IsTrue (is_other_equivalent place node) → node % place.shards ≡ place.id.shard
equivalent_shard place node h = (Decides-eqb (node % place.shards) place.id.shard).0 (equivalent_of (is_other_dc place (node / place.shards)) (node % place.shards == place.id.shard) h)

-- ---- a put

next_facts : (c d n : ℕ) (v : Timestamp) → next_version c d n ≡ Some v → (max c d < v.clock) × (v.node ≡ n)
next_facts c d n v h = by (nat_lt (max c d) last_clock) h
  where
    by : (b : Bool) → (if b then Some (record { clock = max c d + 1; node = n }) else None) ≡ Some v → (max c d < v.clock) × (v.node ≡ n)
    by true h =
        let next : Timestamp = record { clock = max c d + 1; node = n } in
        let is : next ≡ v = cc in
        let clocks : max c d + 1 ≡ v.clock = ap (λ (t : Timestamp). t.clock) is in
        (omega arith, sym (ap (λ (t : Timestamp). t.node) is))
    by false h = absurd (nothing h)
      where
        nothing : (let none : Option Timestamp = None in none ≡ Some v) → ⊥
        nothing h = cc

put_above : (place : Place) (solo : SoloNode) (deps : List Pair) (version : Timestamp) → version_of_put place solo deps ≡ Some version → version_le version (mark version.node solo.recs) ≡ false
put_above place solo deps version is =
    let facts = next_facts (clock place.first_clock solo.recs) (greatest_clock deps) (own_number place) version is in
    let low : max (clock place.first_clock solo.recs) (greatest_clock deps) < version.clock = facts.0 in
    above_marks place.first_clock version solo.recs (omega arith)

-- no row has the version of a put
pub put_is_new : (slot : ℕ) (place : Place) (counters : Counters) (store : Contents) (outbox : Queues) (solo : SoloNode) (key : List ℕ) (deps : List Pair) (version : Timestamp) → StandsAt slot place counters store outbox solo →
    version_of_put place solo deps ≡ Some version → LacksVersion key version (rows_of slot store)
put_is_new slot place counters store outbox solo key deps version h is = is_new key version (rows_of slot store) solo.recs h.rows (put_above place solo deps version is)

-- the mark of a put's node is kept
pub put_within : (slot : ℕ) (place : Place) (counters : Counters) (store : Contents) (outbox : Queues) (solo : SoloNode) (deps : List Pair) (version : Timestamp) → StandsAt slot place counters store outbox solo →
    version_of_put place solo deps ≡ Some version → version.node / place.shards < length counters.marks.items
put_within slot place counters store outbox solo deps version h is =
    let own : version.node ≡ own_number place = (next_facts (clock place.first_clock solo.recs) (greatest_clock deps) (own_number place) version is).1 in
    subst (λ n. version.node / place.shards < n) (sym h.marks.all) (subst (λ n. n / place.shards < place.data_centres) (sym own) (own_within place h.home_is))

module _ (slot now : ℕ) (place : Place) (counters counters' : Counters) (store middle store' : Contents) (outbox outbox' : Queues) (solo : SoloNode) (key value : List ℕ) (deps near : List Pair) (version prev : Timestamp) (entry : Entry)
    (moment : solo.moment ≡ now) (h : StandsAt slot place counters store outbox solo)
    (version_is : version_of_put place solo deps ≡ Some version) (allowed : node_put_refusal place solo key value ≡ None)
    (prev_is : prev ≡ mark (own_number place) solo.recs)
    (entry_is : entry ≡ record { key = key; version = version; value = value; deps = deps; near = near; prev = prev })
    (rows : middle.rows ≡ store.rows) (tenants : middle.tenants ≡ store.tenants)
    (stands : (tracked : List Tracked) → StandsFor (rows_of slot middle) tracked → NoneLater now tracked → StandsFor (rows_of slot store') (tracked ++ record { record_of = record { entry = entry; at = now }; removed = false } ∷ []))
    (tenants' : store'.tenants ≡ middle.tenants) (clock_fits : entry.version.clock ≤ last_clock)
    (clock_is : counters'.clock ≡ max counters.clock entry.version.clock) (marks_are : counters'.marks.items ≡ set counters.marks.items (entry.version.node / place.shards) entry.version)
    (own : outbox'.own ≡ outbox.own) (queued : outbox'.tenants ≡ outbox.tenants) (dcs : length outbox'.queues ≡ length outbox.queues)
    (pushed : (dc : ℕ) → dc < length outbox.queues → dc ≢ outbox.own → queue_of slot dc outbox' ≡ queue_of slot dc outbox ++ entry ∷ []) where
  same_version : entry.version ≡ version
  same_version = ap (λ (e : Entry). e.version) entry_is

  same_entry : entry ≡ entry_of_put place solo version key value deps near
  same_entry = entry_is ∙ ap (λ p. record { key = key; version = version; value = value; deps = deps; near = near; prev = p }) prev_is

  turn_is : put place solo key value deps near ≡ record { reply = Stored version; after = committed entry solo }
  turn_is =
      ap (put_with_version place solo key value deps near) version_is
      ∙ ap (λ o. store_unless o (Stored version) (entry_of_put place solo version key value deps near) solo) allowed
      ∙ ap (λ (e : Entry). record { reply = Stored version; after = committed e solo }) (sym same_entry)

  own_node : entry.version.node ≡ own_number place
  own_node = ap (λ (v : Timestamp). v.node) same_version ∙ (next_facts (clock place.first_clock solo.recs) (greatest_clock deps) (own_number place) version version_is).1

  own_sent : entry ∷ [] ≡ sent place entry
  own_sent = ap (λ b. if b then entry ∷ [] else []) (sym ((Decides-eqb entry.version.node (own_number place)).1 own_node))

  put_reply : Stored version ≡ (effect place (Put key value deps near) solo).reply
  put_reply = sym (ap (λ t. t.reply) turn_is)

  put_stands : StandsAt slot place counters' store' outbox' (effect place (Put key value deps near) solo).after
  put_stands =
      subst (λ (t : CallEffect). StandsAt slot place counters' store' outbox' t.after) (sym turn_is)
      (StandsAt-committed slot place counters counters' store store' outbox outbox' solo entry h
      (ap (λ (v : Timestamp). version_le v (mark v.node solo.recs)) same_version ∙ put_above place solo deps version version_is) clock_fits
      (λ tracked s late. subst (λ m. StandsFor (rows_of slot store') (tracked ++ record { record_of = record { entry = entry; at = m }; removed = false } ∷ [])) (sym moment)
      (stands tracked (subst (λ rs. StandsFor (rows_in slot rs) tracked) (sym rows) s) (subst (λ m. NoneLater m tracked) moment late)))
      (tenants' ∙ tenants) clock_is marks_are (subst (λ n. n / place.shards < place.data_centres) (sym own_node) (own_within place h.home_is)) (ap (λ n. n % place.shards) own_node ∙ own_shard place h.home_is) own queued dcs
      (λ dc other. pushed dc (subst (λ n. dc < n) (sym h.all_queues) (other_dc place dc other).0) (λ same. (other_dc place dc other).1 (same ∙ h.own_is)) ∙ ap (λ es. queue_of slot dc outbox ++ es) own_sent))

  pub put_done : (Stored version ≡ (effect place (Put key value deps near) solo).reply) × StandsAt slot place counters' store' outbox' (effect place (Put key value deps near) solo).after
  put_done = (put_reply, put_stands)

-- ---- a commit

-- an entry of an equivalent node is not one that this node issued
foreign : (place : Place) (node : ℕ) → place.id.shard < place.shards → IsTrue (is_other_equivalent place node) → (node == own_number place) ≡ false
foreign place node within h = by (node == own_number place) refl
  where
    by : (b : Bool) → (node == own_number place) ≡ b → b ≡ false
    by true is =
        let same : node ≡ place.id.dc * place.shards + place.id.shard = (Decides-eqb node (own_number place)).0 is in
        let dc : node / place.shards ≡ place.id.dc = ap (λ n. n / place.shards) same ∙ div-mul-add place.id.dc place.shards place.id.shard within in
        absurd ((other_dc place (node / place.shards) (first_of (is_other_dc place (node / place.shards)) (node % place.shards == place.id.shard) h)).1 dc)
    by false is = refl

-- no row has the version of an entry that is above the mark
pub commit_is_new : (slot : ℕ) (place : Place) (counters : Counters) (store : Contents) (outbox : Queues) (solo : SoloNode) (entry : Entry) → StandsAt slot place counters store outbox solo →
    version_le entry.version (mark entry.version.node solo.recs) ≡ false → LacksVersion entry.key entry.version (rows_of slot store)
commit_is_new slot place counters store outbox solo entry h above = is_new entry.key entry.version (rows_of slot store) solo.recs h.rows above

-- a commit of what is not there yet, by whether it is the next of its origin
commit_open : (place : Place) (solo : SoloNode) (entry : Entry) (b : Bool) → was_committed entry.version solo ≡ false → version_eq entry.prev (mark entry.version.node solo.recs) ≡ b →
    commit place solo entry ≡ (if b then store_unless (commit_refusal place solo entry) Committed entry solo else unchanged (OutOfOrder (mark entry.version.node solo.recs)) solo)
commit_open place solo entry b above next =
    ap (λ t. if t then unchanged Already solo else (if version_eq entry.prev (mark entry.version.node solo.recs) then store_unless (commit_refusal place solo entry) Committed entry solo else unchanged (OutOfOrder (mark entry.version.node solo.recs)) solo)) above
    ∙ ap (λ t. if t then store_unless (commit_refusal place solo entry) Committed entry solo else unchanged (OutOfOrder (mark entry.version.node solo.recs)) solo) next

pub commit_out_of_order : (place : Place) (solo : SoloNode) (entry : Entry) (reply : NodeReply) → was_committed entry.version solo ≡ false → version_eq entry.prev (mark entry.version.node solo.recs) ≡ false →
    reply ≡ OutOfOrder (mark entry.version.node solo.recs) → unchanged reply solo ≡ commit place solo entry
commit_out_of_order place solo entry reply above next is = ap (λ r. unchanged r solo) is ∙ sym (commit_open place solo entry false above next)

pub commit_refused : (place : Place) (solo : SoloNode) (entry : Entry) (fault : Fault) → was_committed entry.version solo ≡ false → version_eq entry.prev (mark entry.version.node solo.recs) ≡ true →
    commit_refusal place solo entry ≡ Some fault → unchanged (Refused fault) solo ≡ commit place solo entry
commit_refused place solo entry fault above next refused = sym (commit_open place solo entry true above next ∙ ap (λ o. store_unless o Committed entry solo) refused)

-- the test on the entry before, on the parts of the entry
pub next_is : (parts entry : Entry) (last version : Timestamp) (recs : List Tracked) → parts ≡ entry → version ≡ entry.version → last ≡ mark version.node recs → version_eq entry.prev (mark entry.version.node recs) ≡ version_eq parts.prev last
next_is parts entry last version recs same version_is last_is =
    ap (λ (e : Entry). version_eq e.prev (mark entry.version.node recs)) (sym same)
    ∙ ap (version_eq parts.prev) (ap (λ (v : Timestamp). mark v.node recs) (sym version_is) ∙ sym last_is)

pub not_true : (b : Bool) → not b ≡ true → b ≡ false
not_true true h = sym h
not_true false h = refl

pub not_false : (b : Bool) → not b ≡ false → b ≡ true
not_false true h = refl
not_false false h = sym h

module _ (slot now : ℕ) (place : Place) (counters counters' : Counters) (store middle store' : Contents) (outbox : Queues) (solo : SoloNode) (entry copy : Entry)
    (moment : solo.moment ≡ now) (h : StandsAt slot place counters store outbox solo)
    (above : was_committed entry.version solo ≡ false) (next : version_eq entry.prev (mark entry.version.node solo.recs) ≡ true)
    (allowed : commit_refusal place solo entry ≡ None) (equivalent : IsTrue (is_other_equivalent place entry.version.node))
    (same : copy ≡ entry) (rows : middle.rows ≡ store.rows) (tenants : middle.tenants ≡ store.tenants)
    (stands : (tracked : List Tracked) → StandsFor (rows_of slot middle) tracked → NoneLater now tracked → StandsFor (rows_of slot store') (tracked ++ record { record_of = record { entry = copy; at = now }; removed = false } ∷ []))
    (tenants' : store'.tenants ≡ middle.tenants) (clock_fits : copy.version.clock ≤ last_clock)
    (clock_is : counters'.clock ≡ max counters.clock copy.version.clock) (marks_are : counters'.marks.items ≡ set counters.marks.items (copy.version.node / place.shards) copy.version) where
  commit_turn : commit place solo entry ≡ record { reply = Committed; after = committed entry solo }
  commit_turn = commit_open place solo entry true above next ∙ ap (λ o. store_unless o Committed entry solo) allowed

  none_sent : [] ≡ sent place entry
  none_sent = ap (λ b. if b then entry ∷ [] else []) (sym (foreign place entry.version.node h.home_is.shard_exists equivalent))

  commit_reply : Committed ≡ (effect place (Commit entry) solo).reply
  commit_reply = sym (ap (λ t. t.reply) commit_turn)

  commit_stands : StandsAt slot place counters' store' outbox (effect place (Commit entry) solo).after
  commit_stands =
      subst (λ (t : CallEffect). StandsAt slot place counters' store' outbox t.after) (sym commit_turn)
      (StandsAt-committed slot place counters counters' store store' outbox outbox solo entry h above (subst (λ (e : Entry). e.version.clock ≤ last_clock) same clock_fits)
      (λ tracked s late. subst (λ m. StandsFor (rows_of slot store') (tracked ++ record { record_of = record { entry = entry; at = m }; removed = false } ∷ [])) (sym moment)
      (subst (λ (e : Entry). StandsFor (rows_of slot store') (tracked ++ record { record_of = record { entry = e; at = now }; removed = false } ∷ [])) same
      (stands tracked (subst (λ rs. StandsFor (rows_in slot rs) tracked) (sym rows) s) (subst (λ m. NoneLater m tracked) moment late))))
      (tenants' ∙ tenants) (clock_is ∙ ap (λ (e : Entry). max counters.clock e.version.clock) same) (marks_are ∙ ap (λ (e : Entry). set counters.marks.items (e.version.node / place.shards) e.version) same)
      (equivalent_within place entry.version.node equivalent) (equivalent_shard place entry.version.node equivalent) refl refl refl
      (λ dc other. sym (append-nil (queue_of slot dc outbox)) ∙ ap (λ es. queue_of slot dc outbox ++ es) none_sent))

  pub commit_done : (Committed ≡ (effect place (Commit entry) solo).reply) × StandsAt slot place counters' store' outbox (effect place (Commit entry) solo).after
  commit_done = (commit_reply, commit_stands)

-- ---- an acknowledgement

same_front : (es : List Entry) → front es ≡ front es
same_front [] = refl
same_front (e ∷ es) = refl

-- the reply is that to the outbox's answer
pub told_acked : (b : Bool) (is : Answer) (told : NodeReply) → is ≡ (if b then answer.Acked else answer.NotFront) → (is ≡ answer.Acked → told ≡ Acked) → (is ≡ answer.NotFront → told ≡ NotFront) → told ≡ (if b then Acked else NotFront)
told_acked true is told found acked not_front = acked found
told_acked false is told found acked not_front = not_front found

pub ack_done : (slot dc : ℕ) (version : Timestamp) (b : Bool) (place : Place) (counters : Counters) (store : Contents) (outbox outbox' : Queues) (solo : SoloNode) (told : NodeReply) → StandsAt slot place counters store outbox solo →
    IsTrue (is_other_dc place dc) → b ≡ is_front version (front (queue_of slot dc outbox)) →
    queue_of slot dc outbox' ≡ (if b then drop 1 (queue_of slot dc outbox) else queue_of slot dc outbox) →
    ((at : ℕ) → at ≢ dc → queue_of slot at outbox' ≡ queue_of slot at outbox) →
    outbox'.own ≡ outbox.own → outbox'.tenants ≡ outbox.tenants → length outbox'.queues ≡ length outbox.queues →
    told ≡ (if b then Acked else NotFront) →
    (told ≡ (effect place (Ack dc version) solo).reply) × StandsAt slot place counters store outbox' (effect place (Ack dc version) solo).after
ack_done slot dc version b place counters store outbox outbox' solo told h other found entry elsewhere own queued dcs is =
    let test : b ≡ is_front version (front (queue place dc solo)) = found ∙ ap (λ es. is_front version (front es)) (h.queues dc other) ∙ ap (is_front version) (sym (same_front (queue place dc solo))) in
    let turn : ack_turn b dc solo ≡ effect place (Ack dc version) solo = ap (λ t. ack_turn t dc solo) test ∙ sym (acknowledge_is dc version solo (front (queue place dc solo))) in (
      is ∙ reply b ∙ ap (λ (t : CallEffect). t.reply) turn,
      subst (λ (t : CallEffect). StandsAt slot place counters store outbox' t.after) turn (StandsAt-acked slot dc version b place counters store outbox outbox' solo h other found entry elsewhere own queued dcs (other_dc place dc other).0),
    )
  where
    reply : (t : Bool) → (if t then Acked else NotFront) ≡ (ack_turn t dc solo).reply
    reply true = refl
    reply false = refl

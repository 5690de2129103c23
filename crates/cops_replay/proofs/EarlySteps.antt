-- What layout 1 reads of a line, if no clock is too great for layout 2, other layouts read too; and its rules compute what today's rules do.
use Rattle.cops_replay.proofs.Names.{◌≡◌, ℕ, ◌≤◌, Bool, true, false, ◌&&◌, List, length, refl, arith, Option, Some, None, nat_le, nat_lt, zero, suc, ◌+◌, ◌||◌, cond, [], ◌∷◌, inl, inr, map, get_or, set, sym, subst, ap, ◌∙◌, IsFalse, if◌then◌else◌, max, replicate, option_and_then, nat_tests, Pair, last_old_clock, is_version, Timestamp, parts_at, version_text, NodeCall, NodeReply, Record, Today, Early, last_early_clock, old_record_in, layout_1, record_by, record_in, kept_if, numbers_of, version_in, IsRecordLine, longest_record, told_of, AllByRecursion, Fault, Config, Tenant, Entry, TenantConfig, tenant_config, version_eq, Every-append, Put, Commit, Collect, Already, Committed, Place, node_number, place_of, SoloNode, new_node, CallEffect, acknowledge, effect, node_step, put_with_version, store_unless, Replayed, Layout, fresh_nodes, nodes_after, turn_of, FindsBy, starts_great_in, fold, AuditFull, greatest_clock, Tracked, clock, ever, is_outdated, mark, next_version, Ack, OutOfOrder, Refused, front, queue, audited, commit_refusal, unchanged, version_of_put, was_committed, early_version_of, is_early, old_nodes, version_under, effect_under, layout_2, next_under, node_step_under, turn_in, AgreesWith}
use Rattle.cops_replay.proofs.LinesSpelled.{Alike, OfCall, OfRecord, OfReply, Said, alike_if, alike_map, read_alike, records, version_is}

-- ---- clocks

-- it has a next one in layout 2
abbrev pub EarlyClock : ℕ → Type 0
EarlyClock clock = clock ≤ last_early_clock

abbrev EarlyVersion : Timestamp → Type 0
EarlyVersion version = EarlyClock version.clock

abbrev pub EarlyPair : Pair → Type 0
EarlyPair pair = EarlyClock pair.version.clock

-- the clocks from which a node computes others, or that it stores
abbrev pub EarlyCall : NodeCall → Type 0
EarlyCall call = OfCall EarlyVersion call

abbrev pub EarlyReply : NodeReply → Type 0
EarlyReply reply = OfReply EarlyVersion reply

abbrev pub EarlyTold : Record → Type 0
EarlyTold told = OfRecord EarlyVersion told

early_clock : (version : Timestamp) → is_early version ≡ true → EarlyVersion version
early_clock version e = grind (arith, nat_tests)

-- ---- versions of layout 1, if no clock is too great

abbrev Says : List ℕ → Timestamp → Type 0
Says word version = Said version_text is_version EarlyVersion word version

today : (word : List ℕ) → Alike (Says word) (early_version_of word) (version_in word)
today word = by_found (version_in word) refl
  where
    by_early : (version : Timestamp) (t : Bool) → is_early version ≡ t → version_in word ≡ Some version → Alike (Says word) (kept_if t version) (Some version)
    by_early version true e is = let said = version_is word version is in (refl, (said.0, said.1, early_clock version e))
    by_early version false e is = tt

    by_found : (found : Option Timestamp) → version_in word ≡ found → Alike (Says word) (option_and_then (λ (version : Timestamp). kept_if (is_early version) version) found) found
    by_found None is = tt
    by_found (Some version) is = by_early version (is_early version) refl is

-- layout 1 has each of these versions
in_layout_1 : (word : List ℕ) → Alike (Says word) (early_version_of word) (version_under layout_1 word)
in_layout_1 word = both_alike (early_version_of word) (version_in word) (version_under layout_1 word) (today word) (λ version. by_numbers (numbers_of (parts_at 46 word)) version)
  where
    both_alike : (a b c : Option Timestamp) → Alike (Says word) a b → ((version : Timestamp) → a ≡ Some version → c ≡ Some version) → Alike (Says word) a c
    both_alike None b c p q = tt
    both_alike (Some version) b c p q = (q version refl, p.1)

    by_numbers : (found : Option (ℕ × ℕ)) (version : Timestamp) →
        option_and_then (λ (x : Timestamp). kept_if (is_early x) x) (option_and_then (λ pair. let v : Timestamp = record { clock = pair.0; node = pair.1 } in kept_if (is_version v) v) found) ≡ Some version →
        option_and_then (λ pair. let v : Timestamp = record { clock = pair.0; node = pair.1 } in kept_if (nat_le v.clock last_old_clock && nat_lt v.node old_nodes) v) found ≡ Some version
    by_numbers found version e = grind (arith, nat_tests)

-- ---- records

abbrev Tells : List ℕ → List ℕ × Record → Type 0
Tells line read = IsRecordLine line read.0 read.1 × EarlyTold read.1

pub record_of_layout_1 : (line : List ℕ) (read : List ℕ × Record) → old_record_in line ≡ Some read → record_by (version_under layout_1) line ≡ Some read
record_of_layout_1 line read is = (read_alike (Tells line) (old_record_in line) (record_by (version_under layout_1) line) read (records early_version_of (version_under layout_1) EarlyVersion in_layout_1 line) is).0

in_today : (line : List ℕ) → Alike (Tells line) (old_record_in line) (record_in line)
in_today line = records early_version_of version_in EarlyVersion today line

-- a record of layout 1 that today's layout has too is the same there
pub early_record : (line : List ℕ) (read : List ℕ × Record) → old_record_in line ≡ Some read → record_in line ≡ Some read
early_record line read is = (read_alike (Tells line) (old_record_in line) (record_in line) read (in_today line) is).0

pub early_told : (line : List ℕ) (told : Record) → told_of Early line ≡ Some told → (told_of Today line ≡ Some told) × EarlyTold told
early_told line told =
    read_alike EarlyTold (told_of Early line) (told_of Today line) told
    (alike_if EarlyTold (nat_le (length line) longest_record) _ _ _ _ (λ is. alike_map (Tells line) EarlyTold _ (old_record_in line) (record_in line) (in_today line) (λ read early. early.1)) tt)

-- ---- the next version

pub next_alike : (clock deps_clock node : ℕ) → EarlyClock clock → EarlyClock deps_clock → next_under layout_1 clock deps_clock node ≡ next_version clock deps_clock node
next_alike clock deps_clock node a b = grind (arith, nat_tests)

-- ---- one node

abbrev EarlyTracked : Tracked → Type 0
EarlyTracked t = EarlyClock t.record_of.entry.version.clock

-- each stored clock has a next one in layout 2
abbrev EarlyNode : SoloNode → Type 0
EarlyNode solo = AllByRecursion EarlyTracked solo.recs

clock_early : (first : ℕ) (recs : List Tracked) → EarlyClock first → AllByRecursion EarlyTracked recs → EarlyClock (clock first recs)
clock_early first [] low all = low
clock_early first (t ∷ recs) low all =
    let here : t.record_of.entry.version.clock ≤ last_early_clock = all.0 in
    clock_early (max first t.record_of.entry.version.clock) recs (omega (arith, low, here)) all.1

abbrev greatest_from : ℕ → List Pair → ℕ
greatest_from least pairs = fold max least (map (λ (p : Pair). p.version.clock) pairs)

deps_from : (least : ℕ) (pairs : List Pair) → EarlyClock least → AllByRecursion EarlyPair pairs → EarlyClock (greatest_from least pairs)
deps_from least [] low all = low
deps_from least (pair ∷ pairs) low all =
    let here : pair.version.clock ≤ last_early_clock = all.0 in
    deps_from (max least pair.version.clock) pairs (omega (arith, low, here)) all.1

deps_early : (pairs : List Pair) → AllByRecursion EarlyPair pairs → EarlyClock (greatest_clock pairs)
deps_early pairs all = deps_from 0 pairs (omega arith) all

effect_alike : (place : Place) (call : NodeCall) (solo : SoloNode) → EarlyCall call → EarlyClock place.first_clock → EarlyNode solo → effect_under layout_1 place call solo ≡ effect place call solo
effect_alike place call solo h3 h4 h5 = grind (arith, nat_tests, clock_early, deps_early, next_alike)

abbrev raised : ℕ → SoloNode → SoloNode
raised moment solo = record solo { moment = max solo.moment moment }

step_alike : (place : Place) (moment : ℕ) (call : NodeCall) (solo : SoloNode) → EarlyCall call → EarlyClock place.first_clock → EarlyNode solo → node_step_under layout_1 place moment call solo ≡ node_step place moment call solo
step_alike place moment call solo c first all =
    ap (λ done. if nat_lt (length solo.trail) place.quota.audit then audited moment call done else unchanged (Refused AuditFull) solo) (effect_alike place call (raised moment solo) c first all)

-- ---- layout 2 is today's

effect_today : (place : Place) (call : NodeCall) (solo : SoloNode) → effect_under layout_2 place call solo ≡ effect place call solo
effect_today place (Put key value deps near) solo = refl
effect_today place call solo = refl

pub step_today : (place : Place) (moment : ℕ) (call : NodeCall) (solo : SoloNode) → node_step_under layout_2 place moment call solo ≡ node_step place moment call solo
step_today place moment call solo =
    ap (λ done. if nat_lt (length solo.trail) place.quota.audit then audited moment call done else unchanged (Refused AuditFull) solo) (effect_today place call (raised moment solo))

-- ---- clocks that a node stores

stores_early : (fault : Option Fault) (reply : NodeReply) (entry : Entry) (solo : SoloNode) → EarlyNode solo → (EarlyReply reply → EarlyClock entry.version.clock) → EarlyReply (store_unless fault reply entry solo).reply →
    EarlyNode (store_unless fault reply entry solo).after
stores_early (Some fault) reply entry solo all h r = all
stores_early None reply entry solo all h r = Every-append EarlyTracked solo.recs (_ ∷ []) all (h r, tt)

put_early : (place : Place) (solo : SoloNode) (key value : List ℕ) (deps near : List Pair) (version : Option Timestamp) → EarlyNode solo → EarlyReply (put_with_version place solo key value deps near version).reply →
    EarlyNode (put_with_version place solo key value deps near version).after
put_early place solo key value deps near version h7 h8 = grind (arith, nat_tests, stores_early)

commit_early : (place : Place) (solo : SoloNode) (entry : Entry) (was in_order : Bool) → EarlyNode solo → EarlyClock entry.version.clock →
    EarlyReply (cond was (unchanged Already solo) (cond in_order (store_unless (commit_refusal place solo entry) Committed entry solo) (unchanged (OutOfOrder (mark entry.version.node solo.recs)) solo))).reply →
    EarlyNode (cond was (unchanged Already solo) (cond in_order (store_unless (commit_refusal place solo entry) Committed entry solo) (unchanged (OutOfOrder (mark entry.version.node solo.recs)) solo))).after
commit_early place solo entry was in_order h5 h6 h7 = grind (arith, nat_tests, stores_early)

ack_early : (dc : ℕ) (version : Timestamp) (solo : SoloNode) (found : Option Entry) → EarlyNode solo → EarlyNode (acknowledge dc version solo found).after
ack_early dc version solo found h4 = grind (arith, nat_tests)

collect_early : (trans_time now : ℕ) (among recs : List Tracked) → AllByRecursion EarlyTracked recs →
    AllByRecursion EarlyTracked (map (λ (t : Tracked). record t { removed = t.removed || is_outdated trans_time now (ever among) t.record_of }) recs)
collect_early trans_time now among [] all = tt
collect_early trans_time now among (t ∷ recs) all = (all.0, collect_early trans_time now among recs all.1)

effect_early : (place : Place) (call : NodeCall) (solo : SoloNode) → EarlyCall call → EarlyNode solo → EarlyReply (effect place call solo).reply → EarlyNode (effect place call solo).after
effect_early place (Put key value deps near) solo c all r = put_early place solo key value deps near (version_of_put place solo deps) all r
effect_early place (Commit entry) solo c all r = commit_early place solo entry (was_committed entry.version solo) (version_eq entry.prev (mark entry.version.node solo.recs)) all c r
effect_early place (Ack dc version) solo c all r = ack_early dc version solo (front (queue place dc solo)) all
effect_early place Collect solo c all r = collect_early place.trans_time solo.moment solo.recs solo.recs all
effect_early place call solo c all r = all

step_early : (place : Place) (moment : ℕ) (call : NodeCall) (solo : SoloNode) → EarlyCall call → EarlyNode solo → EarlyReply (node_step place moment call solo).reply → EarlyNode (node_step place moment call solo).after
step_early place moment call solo c all = grind (arith, nat_tests, effect_early)

-- ---- all nodes

abbrev EarlyNodes : List SoloNode → Type 0
EarlyNodes nodes = AllByRecursion EarlyNode nodes

node_at : (nodes : List SoloNode) (n : ℕ) (d : SoloNode) → EarlyNodes nodes → EarlyNode d → EarlyNode (get_or nodes n d)
node_at [] n d all early = early
node_at (node ∷ nodes) zero d all early = all.0
node_at (node ∷ nodes) (suc n) d all early = node_at nodes n d all.1 early

node_set : (nodes : List SoloNode) (n : ℕ) (node : SoloNode) → EarlyNodes nodes → EarlyNode node → EarlyNodes (set nodes n node)
node_set [] n node all early = tt
node_set (other ∷ nodes) zero node all early = (early, all.1)
node_set (other ∷ nodes) (suc n) node all early = (all.0, node_set nodes n node all.1 early)

nodes_new : (n data_centres : ℕ) → EarlyNodes (replicate n (new_node data_centres))
nodes_new zero data_centres = tt
nodes_new (suc n) data_centres = (tt, nodes_new n data_centres)

-- ---- a replay

module _ (config : TenantConfig) (first : EarlyClock config.first_clock) where
  -- the turn by the rules of either layout is that by today's
  turn_today : (rules : Layout) (told : Record) (nodes : List SoloNode) → EarlyTold told → EarlyNodes nodes → turn_in rules config told nodes ≡ turn_of config told nodes
  turn_today Today told nodes early all = refl
  turn_today Early told nodes early all =
      step_alike (place_of config told.node) told.moment told.call (get_or nodes (node_number config.shards told.node) (new_node config.data_centres)) early.0 first
      (node_at nodes (node_number config.shards told.node) (new_node config.data_centres) all tt)

  after_early : (told : Record) (nodes : List SoloNode) → EarlyTold told → EarlyNodes nodes → told.reply ≡ (turn_of config told nodes).reply → EarlyNodes (nodes_after config told nodes)
  after_early told nodes early all same =
      node_set nodes (node_number config.shards told.node) _ all
      (step_early (place_of config told.node) told.moment told.call (get_or nodes (node_number config.shards told.node) (new_node config.data_centres)) early.0
      (node_at nodes (node_number config.shards told.node) (new_node config.data_centres) all tt) (subst EarlyReply same early.1))

  -- the rest of the lines after this turn
  abbrev Rest : Layout → Record → ℕ → List SoloNode → List (List ℕ) → Replayed → CallEffect → Type 0
  Rest rules told passed nodes lines found turn = FindsBy Early rules config passed (set nodes (node_number config.shards told.node) turn.after) lines found

  -- what the one layout's rules find, the other's find
  by_rules : (one other : Layout) (passed : ℕ) (nodes : List SoloNode) (lines : List (List ℕ)) (found : Replayed) → EarlyNodes nodes → FindsBy Early one config passed nodes lines found → FindsBy Early other config passed nodes lines found
  by_rules one other passed nodes [] found all finds = finds
  by_rules one other passed nodes (line ∷ lines) found all (inl (told, is, agrees, more)) =
      let early = (early_told line told is).1 in
      let was = turn_today one told nodes early all in
      let same = sym (turn_today other told nodes early all) in
      let agreeing : AgreesWith config told (turn_of config told nodes) = subst (AgreesWith config told) was agrees in
      let today : FindsBy Early one config (passed + 1) (nodes_after config told nodes) lines found = subst (Rest one told (passed + 1) nodes lines found) was more in
      inl (
        told,
        is,
        subst (AgreesWith config told) same agreeing,
        subst (Rest other told (passed + 1) nodes lines found) same (by_rules one other (passed + 1) (nodes_after config told nodes) lines found (after_early told nodes early all agreeing.same_reply) today),
      )
  by_rules one other passed nodes (line ∷ lines) found all (inr (differs, is)) =
      inr (
        (λ told some agrees.
            let early = (early_told line told some).1 in
            differs told some (subst (AgreesWith config told) (turn_today other told nodes early all ∙ sym (turn_today one told nodes early all)) agrees)),
        is,
      )

-- ---- a tenant's lines, from new nodes

first_early : (tenant : Tenant) → IsFalse (starts_great_in Early tenant) → EarlyClock tenant.first_clock
first_early tenant h = let low : tenant.first_clock ≤ last_early_clock = grind (arith, nat_tests, h) in low

-- what today's rules find, the rules of the file's layout find
pub by_its_rules : (layout : Layout) (config : Config) (tenant : Tenant) (lines : List (List ℕ)) (found : Replayed) → IsFalse (starts_great_in layout tenant) →
    FindsBy layout Today (tenant_config config tenant) 0 (fresh_nodes (tenant_config config tenant)) lines found → FindsBy layout layout (tenant_config config tenant) 0 (fresh_nodes (tenant_config config tenant)) lines found
by_its_rules layout config tenant lines found h5 h6 = grind (arith, nat_tests, by_rules, first_early, nodes_new)

-- and what these find, today's rules find
pub by_rules_of_today : (layout : Layout) (config : Config) (tenant : Tenant) (lines : List (List ℕ)) (found : Replayed) → IsFalse (starts_great_in layout tenant) →
    FindsBy layout layout (tenant_config config tenant) 0 (fresh_nodes (tenant_config config tenant)) lines found → FindsBy layout Today (tenant_config config tenant) 0 (fresh_nodes (tenant_config config tenant)) lines found
by_rules_of_today layout config tenant lines found h5 h6 = grind (arith, nat_tests, by_rules, first_early, nodes_new)

-- No line of a record is too long whose lists have at most 1,024 pairs.
use Rattle.cops_replay.proofs.Names.{◌≡◌, ℕ, suc, ◌+◌, ◌*◌, ◌^◌, ◌<◌, ◌≤◌, true, ◌&&◌, List, [], ◌∷◌, ◌++◌, length, map, arith, length-append, IsTrue, codes, decimal, nat_le, nat_lt, join_with_byte, list_all, on, nat_tests, Fault, Pair, Entry, is_key, key_cmp, NODES, pair_cmp, is_rising, TenantConfig, Timestamp, last_clock, is_u64, list_text, pair_text, spaced, version_text, both, NodeCall, Put, Commit, NodeId, NodeReply, Found, Wanted, Latest, Exactly, Record, are_deps, are_near, is_pair, is_version, call_words, entry_words, is_audited, is_bytes, is_call, is_entry, is_record, is_reply, is_wanted, node_text, record_line, record_value, record_words, reply_words, wanted_text, length-decimal-le, fault_text, is_name, HasFewInCall, HasFewInReply, HasFewPairs, name-short}
use Rattle.cops_replay.proofs.PartLemmas.{length-bytes_text}
use Rattle.cops_replay.proofs.LinesBack.{entry_holds, record_holds}

-- ---- words

-- the bytes of the words, and one more for each
abbrev long : List (List ℕ) → ℕ
long [] = 0
long (word ∷ words) = length word + 1 + long words

spaced_long : (words : List (List ℕ)) → length (spaced words) ≤ long words
spaced_long [] = omega arith
spaced_long (word ∷ []) = omega arith
spaced_long (word ∷ next ∷ words) =
    let later = spaced_long (next ∷ words) in
    let whole : length (spaced (word ∷ next ∷ words)) ≡ length word + suc (length (spaced (next ∷ words))) = length-append word (32 ∷ spaced (next ∷ words)) in
    omega (arith, later, whole)

long-append : (words more : List (List ℕ)) → long (words ++ more) ≡ long words + long more
long-append [] more = omega arith
long-append (word ∷ words) more = let later = long-append words more in omega (arith, later)

-- ---- parts

pub at_most : (n m : ℕ) → IsTrue (nat_le n m) → n ≤ m
at_most n m h = grind (arith, nat_tests)

number_short : (n : ℕ) → IsTrue (is_u64 n) → length (decimal n) ≤ 20
number_short n h = let small : n < 2 ^ 64 = grind (arith, nat_tests) in length-decimal-le 20 n (omega arith) (omega arith) small

node_short : (id : NodeId) → IsTrue (is_u64 id.dc) → IsTrue (is_u64 id.shard) → length (node_text id) ≤ 41
node_short id dc shard = grind (arith, nat_tests, length-append, number_short)

clock_short : (n : ℕ) → IsTrue (nat_le n last_clock) → length (decimal n) ≤ 15
clock_short n h = let small : n ≤ last_clock = at_most n last_clock h in length-decimal-le 15 n (omega arith) (omega arith) (omega arith)

number_of_node_short : (n : ℕ) → IsTrue (nat_lt n NODES) → length (decimal n) ≤ 5
number_of_node_short n h = let small : n < NODES = grind (arith, nat_tests) in length-decimal-le 5 n (omega arith) (omega arith) (omega arith)

version_short : (version : Timestamp) → IsTrue (is_version version) → length (version_text version) ≤ 21
version_short version h = grind (arith, nat_tests, both, clock_short, length-append, number_of_node_short)

key_short : (key : List ℕ) → IsTrue (is_key key) → length key ≤ 64
key_short key h = grind (arith, nat_tests)

value_short : (value : List ℕ) → IsTrue (is_bytes value) → length (record_value value) ≤ 8193
value_short value h1 = grind (arith, nat_tests, at_most, both, length-bytes_text)

pair_short : (pair : Pair) → IsTrue (is_pair pair) → length (pair_text pair) ≤ 86
pair_short pair h = grind (arith, nat_tests, both, key_short, length-append, version_short)

pairs_short : (pair : Pair) (pairs : List Pair) → IsTrue (list_all is_pair (pair ∷ pairs)) → length (join_with_byte 44 (map pair_text (pair ∷ pairs))) ≤ 87 * suc (length pairs)
pairs_short pair [] h = let one = pair_short pair (both (is_pair pair) true h).0 in omega (arith, one)
pairs_short pair (next ∷ pairs) h =
    let parts = both (is_pair pair) (list_all is_pair (next ∷ pairs)) h in
    let one = pair_short pair parts.0 in
    let more = pairs_short next pairs parts.1 in
    let rest = join_with_byte 44 (map pair_text (next ∷ pairs)) in
    let whole : length (join_with_byte 44 (map pair_text (pair ∷ next ∷ pairs))) ≡ length (pair_text pair) + suc (length rest) = length-append (pair_text pair) (44 ∷ rest) in
    omega (arith, one, more, whole)

list_short : (pairs : List Pair) → IsTrue (list_all is_pair pairs) → length pairs ≤ 1024 → length (list_text pairs) ≤ 89088
list_short [] h few = omega arith
list_short (pair ∷ pairs) h few = let all = pairs_short pair pairs h in omega (arith, all, few)

deps_short : (pairs : List Pair) → IsTrue (are_deps pairs) → length pairs ≤ 1024 → length (list_text pairs) ≤ 89088
deps_short pairs h few = list_short pairs (both (list_all is_pair pairs) (is_rising (on (λ (p : Pair). p.key) key_cmp) pairs) h).0 few

near_short : (pairs : List Pair) → IsTrue (are_near pairs) → length pairs ≤ 1024 → length (list_text pairs) ≤ 89088
near_short pairs h few = list_short pairs (both (list_all is_pair pairs) (is_rising pair_cmp pairs) h).0 few

wanted_short : (wanted : Wanted) → IsTrue (is_wanted wanted) → length (wanted_text wanted) ≤ 21
wanted_short Latest h = omega arith
wanted_short (Exactly version) h = version_short version h

fault_short : (fault : Fault) → IsTrue (is_audited fault) → length (fault_text fault) ≤ 3
fault_short fault h1 = grind (arith, nat_tests)

-- ---- calls and replies

module _ (config : TenantConfig) (limit : config.quota.deps ≤ 1024) where
  entry_short : (entry : Entry) → IsTrue (is_entry entry) → HasFewPairs config entry → long (entry_words entry) ≤ 186483
  entry_short entry h few = grind (arith, nat_tests, deps_short, entry_holds, key_short, near_short, value_short, version_short)

  -- so long may a call be
  abbrev most : NodeCall → ℕ
  most (Put key value deps near) = 187000
  most (Commit entry) = 187000
  most call = 200

  call_short : (call : NodeCall) → IsTrue (is_call call) → HasFewInCall config call → long (call_words call) ≤ most call
  call_short call h1 h2 = grind (arith, nat_tests, both, deps_short, entry_short, key_short, near_short, number_short, value_short, version_short, wanted_short)

  found_short : (version : Timestamp) (value : List ℕ) (deps : List Pair) → IsTrue (is_version version && is_bytes value && are_deps deps) → length deps ≤ config.quota.deps → long (reply_words (Found (record { version = version; value = value; deps = deps }))) ≤ 98000
  found_short version value deps h few = grind (arith, nat_tests, both, deps_short, value_short, version_short)

  most_small : (call : NodeCall) → most call ≤ 187000
  most_small call = grind (arith, nat_tests)

  -- with its reply
  small_reply : (call : NodeCall) (words : List (List ℕ)) → long words ≤ 100 → most call + long words ≤ 187300
  small_reply call words h = let a = most_small call in omega (arith, a, h)

  reply_short : (reply : NodeReply) (call : NodeCall) → IsTrue (is_reply reply) → HasFewInReply config reply call → most call + long (reply_words reply) ≤ 187300
  reply_short reply call h2 h3 = grind (arith, nat_tests, entry_short, fault_short, found_short, number_short, small_reply, version_short)

  pub line_short : (tenant : List ℕ) (told : Record) → IsTrue (is_name tenant) → IsTrue (is_record told) → HasFewInCall config told.call → HasFewInReply config told.reply told.call →
      length (record_line tenant told) ≤ 200000
  line_short tenant told named h asked answered =
      let holds = record_holds told h in
      let a = name-short tenant named in
      let b = node_short told.node holds.dc holds.shard in
      let c = number_short told.moment holds.moment in
      let d = call_short told.call holds.call asked in
      let e = reply_short told.reply told.call holds.reply answered in
      let split = long-append (call_words told.call) (codes "=" ∷ reply_words told.reply) in
      let whole = spaced_long (record_words tenant told) in
      omega (arith, a, b, c, d, e, split, whole)

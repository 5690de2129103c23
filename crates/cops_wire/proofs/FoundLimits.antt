-- What a transaction answers is within the limits of a head if what nodes found is, or if it is as its types allow and its context took it.
use Rattle.std.proofs.Common.{◌≡◌, ℕ, zero, suc, ◌+◌, ◌≤◌, Bool, true, false, cond, ◌&&◌, List, [], ◌∷◌, ◌++◌, map, length, drop, refl, sym, ◌∙◌, ap, subst, arith, append-nil, true≢false}
use Rattle.std.specs.Prelude.{Option, Some, None, find, nat_le, unwrap_or}
use Rattle.std.specs.List.{AllByRecursion, cons_option, flat_map, fold}
use Rattle.std.specs.declared.cmp.Ordering.{Ordering}
use Rattle.std.specs.declared.cmp.Ordering.TheVariants.{Less, Equal, Greater}
use Rattle.std.proofs.lemmas.Bool.Decides.{nat_tests}
use Rattle.std.proofs.lemmas.Grind.{flat_map-append}
use Rattle.std.proofs.lemmas.List.{length-map, map-append}
use Rattle.cops_types.specs.Context.{Observation, Observed, all_of, can_observe, deps_of_observation, is_within, near_of, observations_of, pair_of}
use Rattle.cops_types.specs.declared.contexts.ReadParts.{ReadParts as Read}
use Rattle.cops_types.specs.declared.pairs.Pair.{Pair}
use Rattle.cops_types.specs.Key.{key_cmp, key_eq}
use Rattle.cops_types.specs.Pairs.{IsDeps}
use Rattle.cops_types.specs.Search.{add_item, sorted_set}
use Rattle.cops_types.specs.TenantConfig.{TenantConfig}
use Rattle.cops_types.proofs.Elements.{Every-append, Every-filter}
use Rattle.cops_types.proofs.GreatestLists.{Rises-keys, keys_of}
use Rattle.cops_types.proofs.PairLists.{key_cmp_total}
use Rattle.cops_types.proofs.SortedSet.{sorted_set-Rises}
use Rattle.cops_model.specs.declared.calls.NodeReply.{NodeReply}
use Rattle.cops_model.specs.declared.calls.NodeReply.TheVariants.{Found}
use Rattle.cops_model.specs.declared.requests.Answer.TheVariants as answer_is
use Rattle.cops_model.specs.Log.{LogStep, Late, Outcome, Replied, reply_in, replies_of}
use Rattle.cops_model.specs.Request.{Action, Attempt, Fetch, answer, attempt_after, attempt_of, begins_again}
use Rattle.cops_model.specs.Transaction.{final_reads, last_read, outdated, read_of, reads_of}
use Rattle.cops_session.proofs.RequestReplies.{get-answer, replies_in}
use Rattle.cops_wire.specs.Limits.{IsFoundLimited, IsTyped, AreLogged, IsOutcomeOf, IsShort}
use Rattle.cops_wire.specs.Requests.{AreLimited, IsLimited, message_of_answer, values_of}
use Rattle.cops_wire.proofs.LimitedAnswers.{limited}

-- ---- reads

as_many : (keys : List (List ℕ)) (replies : List NodeReply) → length (reads_of keys replies) ≤ length keys
as_many [] replies = omega arith
as_many (key ∷ keys) [] = omega arith
as_many (key ∷ keys) (reply ∷ replies) = let more = as_many keys replies in omega (arith, more)

few_final : (keys : List (List ℕ)) (replies : List NodeReply) → length keys ≤ 32 → length (final_reads keys replies) ≤ 32
few_final keys replies few =
    let reads : List Read = reads_of keys replies in
    let later : List Read = reads_of (map (λ (r : Read). r.key) (outdated reads)) (drop (length keys) replies) in
    let size : length (map (last_read later) reads) ≡ length reads = length-map reads (last_read later) in
    let fewer = as_many keys replies in
    omega (arith, size, fewer, few)

-- what holds of each reply holds of each read
module _ (Are : NodeReply → Type 0) (Is : Read → Type 0) (short_in : (read : Read) → Is read → IsShort read.key) (read_is : (key : List ℕ) (reply : NodeReply) → IsShort key → Are reply → Is (read_of key reply)) where
  reads_are : (keys : List (List ℕ)) (replies : List NodeReply) → AllByRecursion IsShort keys → AllByRecursion Are replies → AllByRecursion Is (reads_of keys replies)
  reads_are [] replies short found = tt
  reads_are (key ∷ keys) [] short found = tt
  reads_are (key ∷ keys) (reply ∷ replies) short found = (read_is key reply short.0 found.0, reads_are keys replies short.1 found.1)

  dropped : (n : ℕ) (replies : List NodeReply) → AllByRecursion Are replies → AllByRecursion Are (drop n replies)
  dropped zero replies found = found
  dropped (suc n) [] found = tt
  dropped (suc n) (reply ∷ replies) found = dropped n replies found.1

  keys_short : (reads : List Read) → AllByRecursion Is reads → AllByRecursion IsShort (map (λ (r : Read). r.key) reads)
  keys_short [] each = tt
  keys_short (r ∷ reads) each = (short_in r each.0, keys_short reads each.1)

  last_is : (test : Read → Bool) (later : List Read) (read : Read) → AllByRecursion Is later → Is read → Is (unwrap_or (find test later) read)
  last_is test [] read each is = is
  last_is test (r ∷ later) read each is = by_test (test r) (last_is test later read each.1 is)
    where
      by_test : (b : Bool) → Is (unwrap_or (find test later) read) → Is (unwrap_or (cond b (Some r) (find test later)) read)
      by_test true other = each.0
      by_test false other = other

  all_last : (later reads : List Read) → AllByRecursion Is later → AllByRecursion Is reads → AllByRecursion Is (map (last_read later) reads)
  all_last later [] each is = tt
  all_last later (r ∷ reads) each is = (last_is (λ (x : Read). key_eq x.key r.key) later r each is.0, all_last later reads each is.1)

  final_are : (keys : List (List ℕ)) (replies : List NodeReply) → AllByRecursion IsShort keys → AllByRecursion Are replies → AllByRecursion Is (final_reads keys replies)
  final_are keys replies short found =
      let reads : List Read = reads_of keys replies in
      let first = reads_are keys replies short found in
      let old : List Read = outdated reads in
      let later : List Read = reads_of (map (λ (r : Read). r.key) old) (drop (length keys) replies) in
      let second = reads_are (map (λ (r : Read). r.key) old) (drop (length keys) replies) (keys_short old (Every-filter Is _ reads first)) (dropped (length keys) replies found) in
      all_last later reads second first

  -- ---- logs

  attempt_are : (action : Action) (attempt : Attempt) (log : List LogStep) → AreLogged Are attempt.steps → AreLogged Are log → AreLogged Are (fold (attempt_after action) attempt log).steps
  attempt_are action attempt [] steps each = steps
  attempt_are action attempt (s ∷ log) steps each = attempt_are action (attempt_after action attempt s) log (by_test (begins_again action (length attempt.steps) s.outcome)) each.1
    where
      by_test : (b : Bool) → AreLogged Are (cond {A = Attempt} b (record { restarts = attempt.restarts + 1; steps = [] }) (record { restarts = attempt.restarts; steps = attempt.steps ++ s ∷ [] })).steps
      by_test true = tt
      by_test false = Every-append (λ (x : LogStep). IsOutcomeOf Are x.outcome) attempt.steps (s ∷ []) steps (each.0, tt)

  replies_are : (steps : List LogStep) → AreLogged Are steps → AllByRecursion Are (replies_of steps)
  replies_are [] each = tt
  replies_are (s ∷ steps) each = by_outcome s.outcome each.0 (replies_are steps each.1)
    where
      by_outcome : (o : Outcome) → IsOutcomeOf Are o → AllByRecursion Are (replies_of steps) → AllByRecursion Are (cons_option (reply_in o) (replies_of steps))
      by_outcome Late is later = later
      by_outcome (Replied reply) is later = (is, later)

  logged_are : (keys : List (List ℕ)) (log : List LogStep) → AllByRecursion IsShort keys → AreLogged Are log → AllByRecursion Is (final_reads keys (replies_in keys log))
  logged_are keys log short each = final_are keys (replies_in keys log) short (replies_are (attempt_of (Fetch keys) log).steps (attempt_are (Fetch keys) (record { restarts = 0; steps = [] }) log tt each))

-- ---- within the limits of a head

limited_in : (read : Read) → IsLimited read → IsShort read.key
limited_in read is = is.0

read_limited : (key : List ℕ) (reply : NodeReply) → IsShort key → IsFoundLimited reply → IsLimited (read_of key reply)
read_limited key (Found f) short found = (short, found.0, found.1, found.2)
read_limited key other short found = (short, omega arith, omega arith, tt)

pub found_fit : (config : TenantConfig) (dc : ℕ) (obs : List Observation) (keys : List (List ℕ)) (log : List LogStep) (reads : List Read) → length keys ≤ 32 → AllByRecursion IsShort keys → AreLogged IsFoundLimited log
    → answer config (record { dc = dc; obs = obs; action = Fetch keys }) log ≡ Some (answer_is.Values reads) → message_of_answer (answer_is.Values reads) ≡ values_of reads
found_fit config dc obs keys log reads few short each e =
    let follows = get-answer config dc obs keys log (answer_is.Values reads) e in
    limited reads (subst AreLimited (sym follows.0) (few_final keys (replies_in keys log) few, logged_are IsFoundLimited IsLimited limited_in read_limited keys log short each))

-- ---- as the types allow, and taken by a context

-- a set grows with its list
add_item-grows : (key : List ℕ) (keys : List (List ℕ)) → length keys ≤ length (add_item key_cmp key keys)
add_item-grows key [] = omega arith
add_item-grows key (k ∷ keys) = let more = add_item-grows key keys in by (key_cmp key k) refl more
  where
    by : (o : Ordering) → key_cmp key k ≡ o → length keys ≤ length (add_item key_cmp key keys) → length (k ∷ keys) ≤ length (add_item key_cmp key (k ∷ keys))
    by Less is more = rw is (omega arith)
    by Equal is more = rw is (omega arith)
    by Greater is more = rw is (omega (arith, more))

set_grows : (before keys : List (List ℕ)) → length (sorted_set key_cmp keys) ≤ length (sorted_set key_cmp (before ++ keys))
set_grows [] keys = omega arith
set_grows (key ∷ before) keys = let more = set_grows before keys in let one = add_item-grows key (sorted_set key_cmp (before ++ keys)) in omega (arith, more, one)

-- what a context has seen holds each dependency of its last observation
deps_among : (obs : List Observation) (pair : Pair) (deps : List Pair) → IsDeps deps → length deps ≤ length (all_of (obs ++ Observed pair deps ∷ []))
deps_among obs pair deps distinct =
    let seen : Observation → List Pair = λ o. pair_of o ∷ deps_of_observation o in
    let all : flat_map seen (obs ++ Observed pair deps ∷ []) ≡ (flat_map seen obs ++ pair ∷ []) ++ deps =
    flat_map-append seen obs (Observed pair deps ∷ []) ∙ ap (λ l. flat_map seen obs ++ pair ∷ l) (append-nil deps) ∙ sym (append_once (flat_map seen obs) pair deps) in
    let keys : keys_of (flat_map seen (obs ++ Observed pair deps ∷ [])) ≡ keys_of (flat_map seen obs ++ pair ∷ []) ++ keys_of deps = ap keys_of all ∙ map-append (λ (p : Pair). p.key) (flat_map seen obs ++ pair ∷ []) deps in
    let set : sorted_set key_cmp (keys_of deps) ≡ keys_of deps = sorted_set-Rises key_cmp_total (keys_of deps) (Rises-keys deps distinct) in
    let size : length (keys_of deps) ≡ length deps = length-map deps (λ (p : Pair). p.key) in
    let whole : length (all_of (obs ++ Observed pair deps ∷ [])) ≡ length (sorted_set key_cmp (keys_of (flat_map seen (obs ++ Observed pair deps ∷ [])))) = length-map (sorted_set key_cmp (keys_of (flat_map seen (obs ++ Observed pair deps ∷ [])))) _ in
    let same = ap (λ l. length (sorted_set key_cmp l)) keys in
    let grows = set_grows (keys_of (flat_map seen obs ++ pair ∷ [])) (keys_of deps) in
    let own = ap length set in
    omega (arith, whole, same, grows, own, size)
  where
    append_once : (xs : List Pair) (x : Pair) (ys : List Pair) → (xs ++ x ∷ []) ++ ys ≡ xs ++ x ∷ ys
    append_once [] x ys = refl
    append_once (y ∷ xs) x ys = ap (λ l. y ∷ l) (append_once xs x ys)

both : (a b : Bool) → (a && b) ≡ true → (a ≡ true) × (b ≡ true)
both true b h = (refl, h)
both false b h = absurd (true≢false (sym h))

within : (n limit : ℕ) → nat_le n limit ≡ true → n ≤ limit
within n limit h = grind (arith, nat_tests)

-- a context takes only reads that depend on few pairs
taken_few : (limit : ℕ) → limit ≤ 1024 → (obs : List Observation) (reads : List Read) → can_observe limit obs (observations_of reads) ≡ true → AllByRecursion IsTyped reads → AllByRecursion IsLimited reads
taken_few limit small obs [] takes each = tt
taken_few limit small obs (read ∷ reads) takes each = by read.value refl takes (λ more later. taken_few limit small more reads later each.1)
  where
    of_value : Option (List ℕ) → Read
    of_value value = record { key = read.key; value = value; version = read.version; deps = read.deps }

    by : (value : Option (List ℕ)) → read.value ≡ value → can_observe limit obs (observations_of (of_value value ∷ reads)) ≡ true →
        ((more : List Observation) → can_observe limit more (observations_of reads) ≡ true → AllByRecursion IsLimited reads) → AllByRecursion IsLimited (read ∷ reads)
    by None absent takes rest =
        let none : read.deps ≡ [] = each.0.none absent in
        let few : length read.deps ≤ 1024 = let size = ap length none in omega (arith, size) in
        ((each.0.short_key, each.0.short_value, few, each.0.short_keys), rest obs takes)
    by (Some value) there takes rest =
        let seen : Observation = Observed (record { key = read.key; version = read.version }) read.deps in
        let parts = both (is_within limit (obs ++ seen ∷ [])) (can_observe limit (obs ++ seen ∷ []) (observations_of reads)) takes in
        let lists = both (nat_le (length (all_of (obs ++ seen ∷ []))) limit) (nat_le (length (near_of (obs ++ seen ∷ []))) limit) parts.0 in
        let all = within (length (all_of (obs ++ seen ∷ []))) limit lists.0 in
        let among = deps_among obs (record { key = read.key; version = read.version }) read.deps each.0.once in
        let few : length read.deps ≤ 1024 = omega (arith, all, among, small) in
        ((each.0.short_key, each.0.short_value, few, each.0.short_keys), rest (obs ++ seen ∷ []) parts.1)

pub taken_fit : (config : TenantConfig) (dc : ℕ) (obs : List Observation) (keys : List (List ℕ)) (log : List LogStep) (reads : List Read) → config.quota.deps ≤ 1024 → length keys ≤ 32 → AllByRecursion IsTyped reads
    → answer config (record { dc = dc; obs = obs; action = Fetch keys }) log ≡ Some (answer_is.Values reads) → message_of_answer (answer_is.Values reads) ≡ values_of reads
taken_fit config dc obs keys log reads small few typed e =
    let follows = get-answer config dc obs keys log (answer_is.Values reads) e in
    let size : length reads ≤ 32 = subst (λ (rs : List Read). length rs ≤ 32) (sym follows.0) (few_final keys (replies_in keys log) few) in
    limited reads (size, taken_few config.quota.deps small obs reads follows.4 typed)

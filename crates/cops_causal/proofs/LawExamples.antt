-- Transcripts that tell the laws apart: one that keeps all, and for each law one that breaks it alone.
use Rattle.std.proofs.Common.{arith, ◌≡◌, ◌<◌, ℕ, zero, suc, ◌+◌, ◌*◌, Bool, true, false, cond, ◌||◌, List, [], ◌∷◌, map, refl, sym, ◌∙◌, ap, subst, true≢false}
use Rattle.std.specs.Prelude.{Option, Some, None, length, filter, find, slice_index_or, IsPermutation}
use Rattle.std.specs.List.{list_all, list_any}
use Rattle.std.specs.Option.{option_map}
use Rattle.std.proofs.lemmas.List.Sorted.{IsPermutation-refl, list_any-IsPermutation}
use Rattle.cops_types.specs.declared.contexts.ReadParts.{ReadParts as Read}
use Rattle.cops_types.specs.declared.pairs.Pair.{Pair}
use Rattle.cops_types.specs.declared.faults.Fault.TheVariants.{Busy, Idle}
use Rattle.cops_types.specs.declared.records.EntryParts.{EntryParts as Entry}
use Rattle.cops_types.specs.declared.records.Record.{Record}
use Rattle.cops_types.specs.Key.{key_eq}
use Rattle.cops_types.specs.Pairs.{holds}
use Rattle.cops_types.specs.Records.{Tracked, greatest_of, kept as kept_records}
use Rattle.cops_types.specs.TenantConfig.{TenantConfig}
use Rattle.cops_types.specs.Version.{Timestamp, no_version, version_eq}
use Rattle.cops_types.proofs.KeyTests.{key_eq-true}
use Rattle.cops_types.proofs.PairSets.{at}
use Rattle.cops_model.specs.declared.acts.Act.{Act}
use Rattle.cops_model.specs.declared.acts.Act.TheVariants as act
use Rattle.cops_model.specs.declared.replies.Reply.{Reply}
use Rattle.cops_model.specs.declared.replies.Reply.TheVariants as reply
use Rattle.cops_model.specs.Causal.{Effect, Operation, Returned, Wrote, put_by}
use Rattle.cops_model.specs.Cluster.{SoloCluster, actor_step}
use Rattle.cops_model.specs.Events.{cluster_of, solo_replies}
use Rattle.cops_model.specs.Laws.{AreConsistent, AreConvergent, AreSettled, entries_of, latest_entry, node_in}
use Rattle.cops_model.specs.Precedence.{AreLeastPasts, PutsAt}
use Rattle.cops_model.specs.Precedence as precedence
use Rattle.cops_model.specs.Request.{Action, Fetch, Write}
use Rattle.cops_model.specs.Restarts.{ActorStep, ends_when_due, steps_of}
use Rattle.cops_model.specs.SoloNode.{SoloNode, new_node}
use Rattle.cops_model.specs.Told.{operations_told}
use Rattle.cops_causal.specs.ClientLaws.{AllAnswer, AreAbovePasts, AreOfPuts, HaveDistinctVersions, KeepsClientLaws, ShowsTrueLists}
use Rattle.cops_causal.specs.Transcript.{Ended, history_in, operations_in, transcript}
use Rattle.cops_causal.specs.Views.{ShowsPasts}
use Rattle.cops_causal.proofs.LawChecks.{distinct_by, least_by, of_puts_by, of_puts_pass}
use Rattle.cops_causal.proofs.Settled.{AreQueuesEmpty}

-- ---- the words

abbrev at_clock : ℕ → Timestamp
at_clock n = record { clock = n; node = 0 }

abbrev alice : List ℕ
alice = 97 ∷ []

abbrev bob : List ℕ
bob = 98 ∷ []

abbrev carol : List ℕ
carol = 99 ∷ []

abbrev x : List ℕ
x = 120 ∷ []

abbrev y : List ℕ
y = 121 ∷ []

abbrev z : List ℕ
z = 122 ∷ []

abbrev pair : List ℕ → ℕ → Pair
pair key clock = at key (at_clock clock)

abbrev ended : List ℕ → Action → Effect → Ended
ended session asked effect = record { operation = record { session = session; context = 1; effect = effect }; asked = asked }

-- a put of one byte, with the clock of its version
abbrev put : List ℕ → List ℕ → ℕ → ℕ → Ended
put session key byte clock = ended session (Write key (byte ∷ [])) (Wrote (pair key clock))

abbrev get : List ℕ → List Read → Ended
get session reads = ended session (Fetch (map (λ (r : Read). r.key) reads)) (Returned reads)

abbrev read : List ℕ → ℕ → ℕ → List Pair → Read
read key byte clock deps = record { key = key; value = Some (byte ∷ []); version = at_clock clock; deps = deps }

abbrev absent : List ℕ → Read
absent key = record { key = key; value = None; version = no_version; deps = [] }

apart : (n m : ℕ) → n < m → n ≡ m → ⊥
apart n m less same = omega arith

-- ---- one that keeps all

abbrev kept : List Ended
kept = put alice x 1 1 ∷ put alice y 2 2 ∷ get bob (read x 1 1 [] ∷ read y 2 2 (pair x 1 ∷ []) ∷ absent z ∷ []) ∷ put bob z 3 3 ∷ []

kept_laws : KeepsClientLaws kept
kept_laws =
    record {
      answers = (refl, (refl, (refl, (refl, tt))));
      of_puts = of_puts_by kept refl;
      distinct = distinct_by (operations_in kept) refl;
      above = refl;
      consistent = refl;
      least_pasts = least_by (operations_in kept) refl;
    }

-- the definition tells it
abbrev small : TenantConfig
small =
    record {
      data_centres = 1;
      shards = 1;
      trans_time = 5000;
      restarts = 1;
      first_clock = 0;
      quota = record { versions = 9; bytes = 99; outbox = 9; contexts = 1; deps = 9; actors = 2; audit = 99 };
    }

abbrev acts : List Act
acts =
    act.Open alice 0
    ∷ act.Create alice
    ∷ act.Put alice 1 x (1 ∷ [])
    ∷ act.Step alice 1
    ∷ act.Put alice 1 y (2 ∷ [])
    ∷ act.Step alice 2
    ∷ act.Open bob 0
    ∷ act.Create bob
    ∷ act.Get bob 1 (x ∷ y ∷ z ∷ [])
    ∷ act.Done bob 3
    ∷ act.Put bob 1 z (3 ∷ [])
    ∷ act.Step bob 4
    ∷ []

kept_is_told : transcript acts (solo_replies small acts) ≡ kept
kept_is_told = refl

-- ---- values: a byte that nobody put, a pair that nobody put, and dependencies that leave one out

abbrev wrong_value : List Ended
wrong_value = put alice x 1 1 ∷ put alice y 2 2 ∷ get bob (read x 1 1 [] ∷ read y 9 2 (pair x 1 ∷ []) ∷ []) ∷ []

wrong_value_is_refused : AreOfPuts wrong_value → ⊥
wrong_value_is_refused are = let no : false ≡ true = of_puts_pass wrong_value are in cc

wrong_value_keeps_the_rest : AllAnswer wrong_value × HaveDistinctVersions (operations_in wrong_value) × AreAbovePasts (history_in wrong_value) × AreConsistent (history_in wrong_value) × AreLeastPasts (operations_in wrong_value)
wrong_value_keeps_the_rest = ((refl, (refl, (refl, tt))), distinct_by (operations_in wrong_value) refl, refl, refl, least_by (operations_in wrong_value) refl)

abbrev fewer_deps : List Ended
fewer_deps = put alice x 1 1 ∷ put alice y 2 2 ∷ get bob (read x 1 1 [] ∷ read y 2 2 [] ∷ []) ∷ []

fewer_deps_are_refused : AreOfPuts fewer_deps → ⊥
fewer_deps_are_refused are = let no : false ≡ true = of_puts_pass fewer_deps are in cc

fewer_deps_keep_the_rest : AllAnswer fewer_deps × HaveDistinctVersions (operations_in fewer_deps) × AreAbovePasts (history_in fewer_deps) × AreConsistent (history_in fewer_deps) × AreLeastPasts (operations_in fewer_deps)
fewer_deps_keep_the_rest = ((refl, (refl, (refl, tt))), distinct_by (operations_in fewer_deps) refl, refl, refl, least_by (operations_in fewer_deps) refl)

-- ---- versions: two puts with one, and a put below its past

abbrev one_version : List Ended
one_version = put alice x 1 1 ∷ put bob y 2 1 ∷ []

one_version_is_refused : HaveDistinctVersions (operations_in one_version) → ⊥
one_version_is_refused distinct = apart 0 1 (omega arith) (distinct 0 1 (pair x 1) (pair y 1) ((put alice x 1 1).operation, refl, refl) ((put bob y 2 1).operation, refl, refl) refl)

one_version_keeps_the_rest : AllAnswer one_version × AreOfPuts one_version × AreAbovePasts (history_in one_version) × AreConsistent (history_in one_version)
one_version_keeps_the_rest = ((refl, (refl, tt)), of_puts_by one_version refl, refl, refl)

abbrev falling : List Ended
falling = put alice x 1 2 ∷ put alice y 2 1 ∷ []

falling_is_refused : AreAbovePasts (history_in falling) → ⊥
falling_is_refused above = let no : false ≡ true = above in cc

falling_keeps_the_rest : AllAnswer falling × AreOfPuts falling × HaveDistinctVersions (operations_in falling) × AreConsistent (history_in falling) × AreLeastPasts (operations_in falling)
falling_keeps_the_rest = ((refl, (refl, tt)), of_puts_by falling refl, distinct_by (operations_in falling) refl, refl, least_by (operations_in falling) refl)

-- ---- answers: a transaction that misses what its own reads depend on, and a put under another key

abbrev older_answer : List Ended
older_answer = put alice x 1 1 ∷ put alice y 2 2 ∷ get bob (absent x ∷ read y 2 2 (pair x 1 ∷ []) ∷ []) ∷ []

older_answer_is_refused : AreConsistent (history_in older_answer) → ⊥
older_answer_is_refused consistent = let no : false ≡ true = consistent in cc

older_answer_keeps_the_rest : AllAnswer older_answer × AreOfPuts older_answer × HaveDistinctVersions (operations_in older_answer) × AreAbovePasts (history_in older_answer) × AreLeastPasts (operations_in older_answer)
older_answer_keeps_the_rest = ((refl, (refl, (refl, tt))), of_puts_by older_answer refl, distinct_by (operations_in older_answer) refl, refl, least_by (operations_in older_answer) refl)

abbrev other_key : List Ended
other_key = ended alice (Write x (1 ∷ [])) (Wrote (pair y 1)) ∷ []

other_key_is_refused : AllAnswer other_key → ⊥
other_key_is_refused answers = let no : true ≡ false = ap (λ k. key_eq k y) answers.0 in cc

other_key_keeps_the_rest : AreOfPuts other_key × HaveDistinctVersions (operations_in other_key) × AreAbovePasts (history_in other_key) × AreConsistent (history_in other_key) × AreLeastPasts (operations_in other_key)
other_key_keeps_the_rest = (of_puts_by other_key refl, distinct_by (operations_in other_key) refl, refl, refl, least_by (operations_in other_key) refl)

-- ---- pasts: a get that returns a later put, and a get of a pair that is put twice. The first breaks the law of values too, and the second that of
-- versions: by `pasts_fixed` no transcript breaks the law of pasts alone.

abbrev early : List Ended
early = get bob (read y 2 2 [] ∷ []) ∷ put alice y 2 2 ∷ []

early_is_refused : AreLeastPasts (operations_in early) → ⊥
early_is_refused least =
    let got = get bob (read y 2 2 [] ∷ []) in
    let wrote = put alice y 2 2 in
    let before = precedence.Returned 1 0 (pair y 2) got.operation (wrote.operation, refl, refl) refl refl in
    let no : false ≡ true = (least.1 0 (record { operation = got.operation; past = [] }) refl (pair y 2)).1 (1, (wrote.operation, refl, refl), before) in cc

early_put : (place : ℕ) (p : Pair) → PutsAt (operations_in early) place p → place ≡ 1
early_put zero p (o, at_o, holds_p) =
    let same : (get bob (read y 2 2 [] ∷ [])).operation ≡ o = cc in
    let no : false ≡ true = subst (λ (o : Operation). holds (put_by o.effect) p ≡ true) (sym same) holds_p in cc
early_put (suc zero) p puts = refl
early_put (suc (suc place)) p (o, at_o, holds_p) = absurd cc

early_keeps_the_rest : AllAnswer early × HaveDistinctVersions (operations_in early) × AreAbovePasts (history_in early) × AreConsistent (history_in early)
early_keeps_the_rest = ((refl, (refl, tt)), (λ one other p q puts puts_too same. early_put one p puts ∙ sym (early_put other q puts_too)), refl, refl)

abbrev twice : List Ended
twice = put bob x 1 5 ∷ get carol (read x 1 5 (pair y 1 ∷ []) ∷ []) ∷ put alice y 2 1 ∷ put alice x 1 5 ∷ []

twice_is_refused : AreLeastPasts (operations_in twice) → ⊥
twice_is_refused least =
    let got = get carol (read x 1 5 (pair y 1 ∷ []) ∷ []) in
    let first = put alice y 2 1 in
    let second = put alice x 1 5 in
    let context = precedence.Earlier 2 3 first.operation second.operation (omega arith) refl refl refl refl in
    let before = precedence.Between 2 3 1 context (precedence.Returned 3 1 (pair x 5) got.operation (second.operation, refl, refl) refl refl) in
    let no : false ≡ true = (least.1 1 (record { operation = got.operation; past = pair x 5 ∷ [] }) refl (pair y 1)).1 (2, (first.operation, refl, refl), before) in cc

twice_keeps_the_rest : AllAnswer twice × AreOfPuts twice × AreAbovePasts (history_in twice) × AreConsistent (history_in twice)
twice_keeps_the_rest = ((refl, (refl, (refl, (refl, tt)))), of_puts_by twice refl, refl, refl)

-- ---- operations, read off acts and replies: a refused act begins nothing, and each operation is of the context that its own request named

abbrev talk : List Act
talk =
    act.Put alice 1 x (1 ∷ [])
    ∷ act.Put bob 2 y (2 ∷ [])
    ∷ act.Step bob 1
    ∷ act.Get alice 3 (x ∷ [])
    ∷ act.Step alice 2
    ∷ act.Step bob 2
    ∷ act.Get alice 3 (x ∷ [])
    ∷ act.Step alice 3
    ∷ act.Done alice 4
    ∷ []

-- the reply to alice's get while her put runs
abbrev replies_with : Reply → List Reply
replies_with busy =
    reply.Started
    ∷ reply.Started
    ∷ reply.Stored (pair y 2)
    ∷ busy
    ∷ reply.Stored (pair x 1)
    ∷ reply.Refused Idle
    ∷ reply.Started
    ∷ reply.Restarted 1
    ∷ reply.Values (read x 1 1 [] ∷ [])
    ∷ []

abbrev operation : List ℕ → ℕ → Effect → Operation
operation session context effect = record { session = session; context = context; effect = effect }

read_off : operations_told talk (replies_with (reply.Refused Busy))
    ≡ operation bob 2 (Wrote (pair y 2)) ∷ operation alice 1 (Wrote (pair x 1)) ∷ operation alice 3 (Returned (read x 1 1 [] ∷ [])) ∷ []
read_off = refl

-- if that get had started, the put would be of its context
read_off_otherwise : operations_told talk (replies_with reply.Started)
    ≡ operation bob 2 (Wrote (pair y 2)) ∷ operation alice 3 (Wrote (pair x 1)) ∷ operation alice 3 (Returned (read x 1 1 [] ∷ [])) ∷ []
read_off_otherwise = refl

-- ---- lists: a context that shows what it has seen, and one that leaves a pair out

abbrev shows : List Pair → List Pair → List Reply
shows deps near =
    reply.Opened ∷ reply.Created 1 ∷ reply.Started ∷ reply.Stored (pair x 1) ∷ reply.Started ∷ reply.Stored (pair y 2) ∷ reply.Lists deps near ∷ []

abbrev showing : List Act
showing =
    act.Open alice 0 ∷ act.Create alice ∷ act.Put alice 1 x (1 ∷ []) ∷ act.Step alice 1 ∷ act.Put alice 1 y (2 ∷ []) ∷ act.Step alice 2 ∷ act.Show alice 1 ∷ []

true_lists : ShowsTrueLists showing (shows (pair x 1 ∷ pair y 2 ∷ []) (pair y 2 ∷ []))
true_lists = (tt, (tt, (tt, (tt, (tt, (tt, ((refl, refl), tt)))))))

lists_are_told : solo_replies small showing ≡ shows (pair x 1 ∷ pair y 2 ∷ []) (pair y 2 ∷ [])
lists_are_told = refl

fewer_shown : ShowsTrueLists showing (shows (pair y 2 ∷ []) (pair y 2 ∷ [])) → ⊥
fewer_shown shown = apart 1 2 (omega arith) (ap length shown.1.1.1.1.1.1.0.0)

-- ---- pasts that are committed: a get that misses what its data centre had shown, and two that do not

-- bob gets x at a data centre, after alice put it at data centre 0
abbrev later : ℕ → List Act
later dc = act.Open alice 0 ∷ act.Create alice ∷ act.Put alice 1 x (1 ∷ []) ∷ act.Step alice 1 ∷ act.Open bob dc ∷ act.Create bob ∷ act.Get bob 1 (x ∷ []) ∷ act.Done bob 2 ∷ []

abbrev heard : Read → List Reply
heard read =
    reply.Opened ∷ reply.Created 1 ∷ reply.Started ∷ reply.Stored (pair x 1) ∷ reply.Opened ∷ reply.Created 1 ∷ reply.Started ∷ reply.Values (read ∷ []) ∷ []

stale_read_is_refused : ShowsPasts (later 0) (heard (absent x)) → ⊥
stale_read_is_refused seen = let no : false ≡ true = seen.1.1.1.1.1.1.1.0 in cc

stale_read_keeps_the_rest : KeepsClientLaws (transcript (later 0) (heard (absent x)))
stale_read_keeps_the_rest =
    record {
      answers = (refl, (refl, tt));
      of_puts = of_puts_by (transcript (later 0) (heard (absent x))) refl;
      distinct = distinct_by (operations_in (transcript (later 0) (heard (absent x)))) refl;
      above = refl;
      consistent = refl;
      least_pasts = least_by (operations_in (transcript (later 0) (heard (absent x)))) refl;
    }

new_read_is_seen : ShowsPasts (later 0) (heard (read x 1 1 []))
new_read_is_seen = (tt, (tt, (tt, (refl, (tt, (tt, (tt, (refl, tt))))))))

-- at another data centre the pair may be missing
elsewhere_is_seen : ShowsPasts (later 1) (heard (absent x))
elsewhere_is_seen = (tt, (tt, (tt, (refl, (tt, (tt, (tt, (refl, tt))))))))

-- ---- convergence, of two data centres with one node each

abbrev wide : TenantConfig
wide = record small { data_centres = 2 }

abbrev entry : ℕ → ℕ → Entry
entry byte clock = record { key = x; version = at_clock clock; value = byte ∷ []; deps = []; near = []; prev = no_version }

abbrev stored : ℕ → ℕ → Bool → Tracked
stored byte clock removed = record { record_of = record { entry = entry byte clock; at = 0 }; removed = removed }

abbrev node : List Tracked → List ℕ → SoloNode
node recs acked = record { recs = recs; moment = 0; acked = acked; trail = [] }

abbrev two_nodes : SoloNode → SoloNode → SoloCluster
two_nodes one other = record { nodes = one ∷ other ∷ []; actors = [] }

-- the clock of the version that is shown; 0 without one
abbrev clock_of : Option Entry → ℕ
clock_of None = 0
clock_of (Some e) = e.version.clock

-- both committed the same, and one removed the greatest version
abbrev collected_too_much : SoloCluster
collected_too_much = two_nodes (node (stored 1 1 false ∷ stored 2 2 true ∷ []) (0 ∷ 2 ∷ [])) (node (stored 1 1 false ∷ stored 2 2 false ∷ []) (0 ∷ 0 ∷ []))

removed_greatest_is_refused : AreConvergent wide collected_too_much → ⊥
removed_greatest_is_refused convergent =
    apart 1 2 (omega arith) (ap clock_of (convergent 0 1 0 x (IsPermutation-refl (entries_of x (node_in wide collected_too_much 0 0)))))

-- nothing is queued, and one node lacks an entry
abbrev forgotten : SoloCluster
forgotten = two_nodes (node (stored 1 1 false ∷ []) (0 ∷ 1 ∷ [])) (node [] (0 ∷ 0 ∷ []))

forgotten_is_refused : AreSettled wide forgotten → ⊥
forgotten_is_refused settled = apart 0 1 (omega arith) (sym (ap clock_of (settled empty 0 1 0 (omega arith) (omega arith) (omega arith) x)))
  where
    empty : AreQueuesEmpty wide forgotten
    empty zero zero dcs shards zero to apart = absurd (apart refl)
    empty zero zero dcs shards (suc zero) to apart = refl
    empty zero zero dcs shards (suc (suc more)) to apart = absurd (omega arith)
    empty (suc zero) zero dcs shards zero to apart = refl
    empty (suc zero) zero dcs shards (suc zero) to apart = absurd (apart refl)
    empty (suc zero) zero dcs shards (suc (suc more)) to apart = absurd (omega arith)
    empty (suc (suc dc)) shard dcs shards to within apart = absurd (omega arith)
    empty zero (suc shard) dcs shards to within apart = absurd (omega arith)
    empty (suc zero) (suc shard) dcs shards to within apart = absurd (omega arith)

-- two data centres that put at once and exchange their entries: each node commits both, in its own order
abbrev one_way : List ℕ
one_way = 100 ∷ []

abbrev other_way : List ℕ
other_way = 101 ∷ []

abbrev crossing : List Act
crossing =
    act.Open alice 0
    ∷ act.Create alice
    ∷ act.Put alice 1 x (1 ∷ [])
    ∷ act.Step alice 1
    ∷ act.Open bob 1
    ∷ act.Create bob
    ∷ act.Put bob 1 x (2 ∷ [])
    ∷ act.Step bob 2
    ∷ act.Carry one_way 0 0 1
    ∷ act.Done one_way 3
    ∷ act.Carry other_way 1 0 0
    ∷ act.Done other_way 4
    ∷ []

abbrev both : TenantConfig
both = record wide { quota = record wide.quota { actors = 3 } }

abbrev crossed : SoloCluster
crossed = cluster_of both crossing

abbrev node_at : ℕ → SoloNode
node_at n = slice_index_or crossed.nodes n (new_node 2)

abbrev bytes_of : List Entry → List (List ℕ)
bytes_of entries = map (λ (e : Entry). e.value) entries

one_order : bytes_of (entries_of x (node_at 0)) ≡ (1 ∷ []) ∷ (2 ∷ []) ∷ []
one_order = refl

other_order : bytes_of (entries_of x (node_at 1)) ≡ (2 ∷ []) ∷ (1 ∷ []) ∷ []
other_order = refl

-- the put of the greater node is the later one
both_show_the_later : map (λ (n : ℕ). option_map (λ (e : Entry). e.value) (latest_entry x (node_at n))) (0 ∷ 1 ∷ []) ≡ Some (2 ∷ []) ∷ Some (2 ∷ []) ∷ []
both_show_the_later = refl

-- a node without a record of the key shows none
none_of : {A : Type 0} (p : A → Bool) (xs : List A) → list_any p xs ≡ false → filter p xs ≡ []
none_of p [] e = refl
none_of p (y ∷ ys) e = elim (p y) as (λ b. (b || list_any p ys) ≡ false → cond b (y ∷ filter p ys) (filter p ys) ≡ []) [ true ↦ λ e. absurd (true≢false e) | false ↦ λ e. none_of p ys e ] e

unfound : (key : List ℕ) (solo : SoloNode) → list_any (λ (r : Record). key_eq r.entry.key key) (kept_records solo.recs) ≡ false → latest_entry key solo ≡ None
unfound key solo none =
    ap (λ rs. option_map (λ (r : Record). r.entry) (find (λ (r : Record). version_eq r.entry.version (greatest_of key (kept_records solo.recs))) rs))
    (none_of (λ (r : Record). key_eq r.entry.key key) (kept_records solo.recs) none)

by_key : {C : Type 0} (key : List ℕ) → (x ≡ key → C) → (key_eq x key ≡ false → C) → C
by_key {C} key same apart = elim (key_eq x key) as (λ b. key_eq x key ≡ b → C) [ true ↦ λ is. same (key_eq-true x key is) | false ↦ λ differs. apart differs ] refl

-- each of the two nodes has x alone
abbrev IsOfX : SoloNode → Type 0
IsOfX solo = (key : List ℕ) → key_eq x key ≡ false → latest_entry key solo ≡ None

first_of_x : IsOfX (node_at 0)
first_of_x key differs = unfound key (node_at 0) (λ i. differs i || (differs i || false))

second_of_x : IsOfX (node_at 1)
second_of_x key differs = unfound key (node_at 1) (λ i. differs i || (differs i || false))

same_shown : (key : List ℕ) → latest_entry key (node_at 0) ≡ latest_entry key (node_at 1)
same_shown key = by_key key
    (λ same. subst (λ k. latest_entry k (node_at 0) ≡ latest_entry k (node_at 1)) same refl)
    (λ differs. first_of_x key differs ∙ sym (second_of_x key differs))

-- a node with entries of x is not equal to one without any
abbrev has_some : List Entry → Bool
has_some entries = list_any (λ (e : Entry). true) entries

lonely : (solo : SoloNode) → IsOfX solo → has_some (entries_of x solo) ≡ true → (key : List ℕ) → has_some (entries_of key solo) ≡ false → latest_entry key solo ≡ None
lonely solo of_x some key none = by_key key (λ same. absurd (true≢false (sym some ∙ subst (λ k. has_some (entries_of k solo) ≡ false) (sym same) none))) (λ differs. of_x key differs)

same_entries : (n m : ℕ) (key : List ℕ) → IsPermutation (entries_of key (node_at n)) (entries_of key (node_at m)) → has_some (entries_of key (node_at n)) ≡ has_some (entries_of key (node_at m))
same_entries n m key same = list_any-IsPermutation (λ (e : Entry). true) (entries_of key (node_at n)) (entries_of key (node_at m)) same

converge_at : (n m : ℕ) (key : List ℕ) → IsPermutation (entries_of key (node_at n)) (entries_of key (node_at m)) → latest_entry key (node_at n) ≡ latest_entry key (node_at m)
converge_at zero zero key same = refl
converge_at zero (suc zero) key same = same_shown key
converge_at zero (suc (suc m)) key same = lonely (node_at 0) first_of_x refl key (same_entries 0 (suc (suc m)) key same)
converge_at (suc zero) zero key same = sym (same_shown key)
converge_at (suc zero) (suc zero) key same = refl
converge_at (suc zero) (suc (suc m)) key same = lonely (node_at 1) second_of_x refl key (same_entries 1 (suc (suc m)) key same)
converge_at (suc (suc n)) zero key same = sym (lonely (node_at 0) first_of_x refl key (sym (same_entries (suc (suc n)) 0 key same)))
converge_at (suc (suc n)) (suc zero) key same = sym (lonely (node_at 1) second_of_x refl key (sym (same_entries (suc (suc n)) 1 key same)))
converge_at (suc (suc n)) (suc (suc m)) key same = refl

crossed_is_convergent : AreConvergent both crossed
crossed_is_convergent one other shard key same = converge_at (one * 1 + shard) (other * 1 + shard) key same

-- and nothing is queued
crossed_is_quiet : AreQueuesEmpty both crossed
crossed_is_quiet zero zero dcs shards zero to apart = absurd (apart refl)
crossed_is_quiet zero zero dcs shards (suc zero) to apart = refl
crossed_is_quiet zero zero dcs shards (suc (suc more)) to apart = absurd (omega arith)
crossed_is_quiet (suc zero) zero dcs shards zero to apart = refl
crossed_is_quiet (suc zero) zero dcs shards (suc zero) to apart = absurd (apart refl)
crossed_is_quiet (suc zero) zero dcs shards (suc (suc more)) to apart = absurd (omega arith)
crossed_is_quiet (suc (suc dc)) shard dcs shards to within apart = absurd (omega arith)
crossed_is_quiet zero (suc shard) dcs shards to within apart = absurd (omega arith)
crossed_is_quiet (suc zero) (suc shard) dcs shards to within apart = absurd (omega arith)

crossed_is_settled : AreSettled both crossed
crossed_is_settled quiet zero zero shard ones others shards key = refl
crossed_is_settled quiet zero (suc zero) zero ones others shards key = same_shown key
crossed_is_settled quiet (suc zero) zero zero ones others shards key = sym (same_shown key)
crossed_is_settled quiet (suc zero) (suc zero) shard ones others shards key = refl
crossed_is_settled quiet zero (suc zero) (suc shard) ones others shards key = absurd (omega arith)
crossed_is_settled quiet (suc zero) zero (suc shard) ones others shards key = absurd (omega arith)
crossed_is_settled quiet zero (suc (suc other)) shard ones others shards key = absurd (omega arith)
crossed_is_settled quiet (suc zero) (suc (suc other)) shard ones others shards key = absurd (omega arith)
crossed_is_settled quiet (suc (suc one)) other shard ones others shards key = absurd (omega arith)

-- ---- restarts: a step that restarts a transaction, with a late timestamp and with none

abbrev waiting : SoloCluster
waiting = cluster_of small (act.Open alice 0 ∷ act.Create alice ∷ act.Get alice 1 (x ∷ y ∷ []) ∷ act.Step alice 1 ∷ [])

abbrev late_step : ActorStep
late_step = record { name = alice; moment = 5002; from = waiting }

-- the reply to a step
abbrev reply_to : TenantConfig → ActorStep → Reply
reply_to config step = (actor_step config step.name step.moment step.from).reply

late_step_restarts : reply_to small late_step ≡ reply.Restarted 1
late_step_restarts = refl

late_restart_is_due : ends_when_due small (1 ∷ 5002 ∷ []) late_step ≡ true
late_restart_is_due = refl

early_restart_is_not_due : ends_when_due small (1 ∷ 5001 ∷ []) late_step ≡ false
early_restart_is_not_due = refl

-- all steps of an act: one restart, and then the reads
abbrev late_steps : List ActorStep
late_steps = steps_of small (act.Done alice 5002) waiting

late_steps_restart_once : map (reply_to small) late_steps ≡ reply.Restarted 1 ∷ reply.Working ∷ reply.Values (absent x ∷ absent y ∷ []) ∷ []
late_steps_restart_once = refl

late_steps_are_due : list_all (ends_when_due small (1 ∷ 5002 ∷ [])) late_steps ≡ true
late_steps_are_due = refl

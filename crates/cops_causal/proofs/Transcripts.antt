-- A tenant's transcript of a run keeps the laws that a client can check.
use Rattle.std.proofs.Common.{◌≡◌, ℕ, ◌<◌, true, List, [], map, inl, inr, refl, sym, ◌∙◌, ap, subst, arith}
use Rattle.std.specs.Prelude.{Option, Some, None, slice_get}
use Rattle.std.specs.List.{AllByRecursion, list_all}
use Rattle.std.proofs.lemmas.Bool.Decides.{leb_tells, nat_tests}
use Rattle.cops_types.specs.declared.contexts.ReadParts.{ReadParts as Read}
use Rattle.cops_types.specs.declared.founds.FoundParts.{FoundParts}
use Rattle.cops_types.specs.declared.pairs.Pair.{Pair}
use Rattle.cops_types.specs.declared.records.EntryParts.{EntryParts as Entry}
use Rattle.cops_types.specs.Founds.{found_in}
use Rattle.cops_types.specs.TenantConfig.{TenantConfig}
use Rattle.cops_types.specs.Version.{Timestamp, version_lt}
use Rattle.cops_types.proofs.Elements.{Among, Every-at, Every-from, Every-weaker, all_true, slice_get-Among}
use Rattle.cops_types.proofs.PairSets.{holds-Among}
use Rattle.cops_types.proofs.Successive.{EachAfter, get-map, map-get}
use Rattle.cops_model.specs.declared.acts.Act.{Act}
use Rattle.cops_model.specs.declared.replies.Reply.{Reply}
use Rattle.cops_model.specs.Request.{Action, Fetch, Write}
use Rattle.cops_model.specs.Carrier.{pair_of_entry}
use Rattle.cops_model.specs.Causal.{Effect, Operation, Returned, Traced, Wrote, deps_of, put_by, returned_by, traced}
use Rattle.cops_model.specs.Cluster.{SoloCluster, new_cluster}
use Rattle.cops_model.specs.Goes.{Goes}
use Rattle.cops_model.specs.Laws.{AreConsistent, IsCausal}
use Rattle.cops_model.specs.Precedence.{AreLeastPasts}
use Rattle.cops_model.specs.Told.{history_told}
use Rattle.cops_node.proofs.NodeTurns.{entries}
use Rattle.cops_causal.specs.ClientLaws.{AnswersTo, AreAbovePasts, HaveDistinctVersions, AreOfPuts, IsTrueRead, KeepsClientLaws, is_above_past, pair_of_read, reads_in}
use Rattle.cops_causal.specs.Transcript.{Ended, history_in, operations_in, transcript}
use Rattle.cops_causal.proofs.AfterTurns.{after_turns}
use Rattle.cops_causal.proofs.Answering.{IsAnswering, IsNext, answering_at_first, answering_kept}
use Rattle.cops_causal.proofs.Histories.{Among-flat_map, flat_map-Among, pair_read}
use Rattle.cops_causal.proofs.LeastPasts.{IsTracedBy, before-at, before-has, next-before, op_of, operations-traced, traced_by}
use Rattle.cops_causal.proofs.Moves.{Both, kept_both}
use Rattle.cops_causal.proofs.NodeEffects.{node_of}
use Rattle.cops_causal.proofs.Provenance.{IsHistory, IsPutEntry}
use Rattle.cops_causal.proofs.ReadEntries.{AreReadEntries, IsEntryRead, IsIssued, IsReadBy, IsReadEntry, IsReading, reading_at_first, reading_kept, same_entry}
use Rattle.cops_causal.proofs.Sound.{IsSound, sound_at_first, sound_kept}
use Rattle.cops_causal.proofs.StreamNodes.{IsStreamed}
use Rattle.cops_causal.proofs.ToldPuts.{AreEndedAs, EndsAs, IsStoredAs, transcript_ends}
use Rattle.cops_causal.proofs.ToldRequests.{operations_same}
use Rattle.cops_causal.proofs.TurnCausality.{all_are_causal}

-- a pair that an effect put is the one that it wrote
wrote_of : (effect : Effect) (p : Pair) → Among p (put_by effect) → effect ≡ Wrote p
wrote_of (Wrote q) p (inl e) = ap Wrote e
wrote_of (Wrote q) p (inr never) = absurd never
wrote_of (Returned reads) p there = absurd there

valued_pair : (read : Read) (value : List ℕ) → read.value ≡ Some value → Among (pair_of_read read) (pair_read read)
valued_pair read value is = rw is (inl refl)

-- what is known of the history and of the cluster at the end of a run
record Facts (config : TenantConfig) (d : SoloCluster) (us : List Traced) : Type 0 where
  pub reading : AreReadEntries config d.nodes us
  pub ordered : EachAfter IsNext [] us
  pub history : IsHistory us
  pub put : (n : ℕ) → AllByRecursion (IsPutEntry us) (entries (node_of config d n))

module _ (config : TenantConfig) (d : SoloCluster) (streamed : IsStreamed config d) (es : List Ended) (ended : AreEndedAs config d.nodes es) (facts : Facts config d (history_in es)) where
  abbrev us : List Traced
  us = traced (operations_in es)

  same : map op_of us ≡ operations_in es
  same = operations-traced [] (operations_in es)

  past_is : EachAfter IsTracedBy [] us
  past_is = traced_by [] (operations_in es) tt

  -- the operation at a place, in the history
  record Stands (place : ℕ) (e : Ended) : Type 0 where
    pub t : Traced
    pub at_t : slice_get us place ≡ Some t
    pub operation_is : t.operation ≡ e.operation

  traced_at : (place : ℕ) (e : Ended) → slice_get es place ≡ Some e → Stands place e
  traced_at place e at_e =
      let there : slice_get (map op_of us) place ≡ Some e.operation = ap (λ os. slice_get os place) same ∙ map-get (λ (e : Ended). e.operation) es place e at_e in
      let found = get-map op_of us place e.operation there in
      record { t = found.0; at_t = found.1; operation_is = found.2 }

  -- the operation at a place of the history, in the transcript
  record IsToldAt (place : ℕ) (o : Operation) : Type 0 where
    pub e : Ended
    pub at_e : slice_get es place ≡ Some e
    pub operation_is : e.operation ≡ o

  told_at : (place : ℕ) (o : Operation) → slice_get (operations_in es) place ≡ Some o → IsToldAt place o
  told_at place o at_o = let found = get-map (λ (e : Ended). e.operation) es place o at_o in record { e = found.0; at_e = found.1; operation_is = found.2 }

  -- a put of the transcript is an entry
  record IsPutAs (e : Ended) (p : Pair) : Type 0 where
    pub value : List ℕ
    pub wrote : e.operation.effect ≡ Wrote p
    pub asked : e.asked ≡ Write p.key value
    pub stored : IsStoredAs config d.nodes p value

  put_as : (place : ℕ) (e : Ended) (p : Pair) → slice_get es place ≡ Some e → Among p (put_by e.operation.effect) → IsPutAs e p
  put_as place e p at_e puts =
      let wrote = wrote_of e.operation.effect p puts in
      let ends = subst (EndsAs config d.nodes e.asked) wrote (Every-at (λ (e : Ended). EndsAs config d.nodes e.asked e.operation.effect) e es ended (slice_get-Among es place e at_e)) in
      by_asked wrote e.asked refl ends
    where
      by_asked : e.operation.effect ≡ Wrote p → (asked : Action) → e.asked ≡ asked → EndsAs config d.nodes asked (Wrote p) → IsPutAs e p
      by_asked wrote (Write key value) is ends = record { value = value; wrote = wrote; asked = is ∙ ap (λ k. Write k value) (sym ends.0); stored = ends.1 }
      by_asked wrote (Fetch keys) is ends = absurd ends

  -- ---- values

  module _ (place : ℕ) (e : Ended) (at_e : slice_get es place ≡ Some e) where
    abbrev here : Stands place e
    here = traced_at place e at_e

    record FromPut (p : Pair) : Type 0 where
      pub before : ℕ
      pub earlier : before < place
      pub put : Ended
      pub stands : slice_get es before ≡ Some put
      pub put_is : IsPutAs put p

    -- a pair that was returned was put earlier
    returned_put : (p : Pair) → Among p (returned_by here.t.operation.effect) → FromPut p
    returned_put p returns =
        let next = next-before us past_is facts.ordered place here.t here.at_t in
        let by = flat_map-Among (λ (t : Traced). put_by t.operation.effect) _ p (next.returned p returns) in
        let u = by.0 in
        let first = before-at us past_is facts.ordered place here.t here.at_t u by.1 in
        let there : slice_get (operations_in es) first.0 ≡ Some u.operation = ap (λ os. slice_get os first.0) (sym same) ∙ map-get op_of us first.0 u first.1 in
        let told = told_at first.0 u.operation there in
        let puts : Among p (put_by told.e.operation.effect) = subst (λ (o : Operation). Among p (put_by o.effect)) (sym told.operation_is) by.2 in
        record { before = first.0; earlier = first.2; put = told.e; stands = told.at_e; put_is = put_as first.0 told.e p told.at_e puts }

    module _ (reads : List Read) (effect_is : here.t.operation.effect ≡ Returned reads) (read : Read) (among : Among read reads) where
      valued : (value : List ℕ) → read.value ≡ Some value →
          (x : Entry) × IsIssued config d.nodes x × (x.key ≡ read.key) × (found_in x ≡ record { version = read.version; value = value; deps = read.deps }) → IsTrueRead es place read (Some value)
      valued value is (x, at_x, key_is, found_is) =
          let p = pair_of_read read in
          let returns : Among p (returned_by here.t.operation.effect) = subst (λ f. Among p (returned_by f)) (sym effect_is) (Among-flat_map pair_read reads p read among (valued_pair read value is)) in
          let from = returned_put p returns in
          let y = from.put_is.stored.entry in
          let pair_is : pair_of_entry x ≡ p = λ i. record { key = key_is i; version = (found_is i).version } in
          let one = same_entry config d streamed x y at_x from.put_is.stored.issued (ap (λ (q : Pair). q.version) (pair_is ∙ sym from.put_is.stored.pair_is)) in
          let value_is : from.put_is.value ≡ value = sym from.put_is.stored.value_is ∙ ap (λ (z : Entry). z.value) (sym one) ∙ ap (λ (f : FoundParts). f.value) found_is in
          let deps_are = (Every-at (IsPutEntry us) x (entries (node_of config d x.version.node)) (facts.put x.version.node) at_x).put.deps_are in
          record {
            before = from.before;
            earlier = from.earlier;
            put = from.put;
            stands = from.stands;
            wrote = from.put_is.wrote;
            asked = from.put_is.asked ∙ ap (Write read.key) value_is;
            deps = sym (ap (λ (f : FoundParts). f.deps) found_is) ∙ deps_are ∙ ap (deps_of us) pair_is;
          }

      by_value : (value : Option (List ℕ)) → read.value ≡ value → IsEntryRead config d.nodes read.key read.version read.deps value → IsTrueRead es place read value
      by_value (Some value) is entry_is = valued value is entry_is
      by_value None is bare = bare

    reads_true : (effect : Effect) → here.t.operation.effect ≡ effect → AllByRecursion (IsReadEntry config d.nodes) (reads_in effect) → AllByRecursion (λ read. IsTrueRead es place read read.value) (reads_in effect)
    reads_true (Wrote p) is are = tt
    reads_true (Returned reads) is are = Every-from (λ read. IsTrueRead es place read read.value) reads (λ read among. by_value reads is read among read.value refl (Every-at (IsReadEntry config d.nodes) read reads are among))

    of_puts_at : AllByRecursion (λ read. IsTrueRead es place read read.value) (reads_in e.operation.effect)
    of_puts_at =
        subst (λ (o : Operation). AllByRecursion (λ read. IsTrueRead es place read read.value) (reads_in o.effect)) here.operation_is
        (reads_true here.t.operation.effect refl (Every-at (IsReadBy config d.nodes) here.t us facts.reading (slice_get-Among us place here.t here.at_t)))

  of_puts : AreOfPuts es
  of_puts place e at_e = of_puts_at place e at_e

  -- ---- versions

  -- a pair is put at one place
  not_later : (i j : ℕ) (a b : Ended) (p : Pair) → slice_get es i ≡ Some a → slice_get es j ≡ Some b → Among p (put_by a.operation.effect) → Among p (put_by b.operation.effect) → i < j → ⊥
  not_later i j a b p at_a at_b puts puts_too less =
      let u = traced_at i a at_a in
      let t = traced_at j b at_b in
      let there = before-has us past_is facts.ordered j t.t t.at_t i u.t u.at_t less in
      (next-before us past_is facts.ordered j t.t t.at_t).new p (subst (λ (o : Operation). Among p (put_by o.effect)) (sym t.operation_is) puts_too)
      (Among-flat_map (λ (v : Traced). put_by v.operation.effect) _ p u.t there (subst (λ (o : Operation). Among p (put_by o.effect)) (sym u.operation_is) puts))

  distinct : HaveDistinctVersions (operations_in es)
  distinct one other p q puts puts_too same_version =
      let a = told_at one puts.0 puts.1 in
      let b = told_at other puts_too.0 puts_too.1 in
      let by_a : Among p (put_by a.e.operation.effect) = subst (λ (o : Operation). Among p (put_by o.effect)) (sym a.operation_is) (holds-Among (put_by puts.0.effect) p puts.2) in
      let by_b : Among q (put_by b.e.operation.effect) = subst (λ (o : Operation). Among q (put_by o.effect)) (sym b.operation_is) (holds-Among (put_by puts_too.0.effect) q puts_too.2) in
      let x = put_as one a.e p a.at_e by_a in
      let y = put_as other b.e q b.at_e by_b in
      let versions : x.stored.entry.version ≡ y.stored.entry.version = ap (λ (r : Pair). r.version) x.stored.pair_is ∙ same_version ∙ ap (λ (r : Pair). r.version) (sym y.stored.pair_is) in
      let entry = same_entry config d streamed x.stored.entry y.stored.entry x.stored.issued y.stored.issued versions in
      let pair : q ≡ p = sym y.stored.pair_is ∙ ap pair_of_entry (sym entry) ∙ x.stored.pair_is in
      let by_b_too : Among p (put_by b.e.operation.effect) = subst (λ r. Among r (put_by b.e.operation.effect)) pair by_b in
      elim (leb_tells other one) [
        | inr less ↦ absurd (not_later one other a.e b.e p a.at_e b.at_e by_a by_b_too less.1)
        | inl down ↦ elim (leb_tells one other) [
          | inr less ↦ absurd (not_later other one b.e a.e p b.at_e a.at_e by_b_too by_a less.1)
          | inl up ↦ (let le = down.1 in let ge = up.1 in omega arith)
        ]
      ]

  above : AreAbovePasts (history_in es)
  above =
      all_true is_above_past us (λ t among.
      all_true (λ p. list_all (λ q. version_lt q.version p.version) t.past) (put_by t.operation.effect) (λ p puts.
      all_true (λ (q : Pair). version_lt q.version p.version) t.past (λ q past. higher q.version p.version (facts.history.older t among p q puts past))))
    where
      higher : (v w : Timestamp) → v.clock < w.clock → version_lt v w ≡ true
      higher v w less = grind (arith, nat_tests)

  answers : (es : List Ended) → AreEndedAs config d.nodes es → AllByRecursion (λ e. AnswersTo e.asked e.operation.effect) es
  answers es are = Every-weaker (λ (e : Ended). EndsAs config d.nodes e.asked e.operation.effect) (λ (e : Ended). AnswersTo e.asked e.operation.effect) es (λ e among is. by_kind e.asked e.operation.effect is) are
    where
      by_kind : (asked : Action) (effect : Effect) → EndsAs config d.nodes asked effect → AnswersTo asked effect
      by_kind (Write key value) (Wrote pair) is = is.0
      by_kind (Fetch keys) (Returned reads) is = is
      by_kind (Write key value) (Returned reads) is = absurd is
      by_kind (Fetch keys) (Wrote pair) is = absurd is

  client_laws : AreConsistent (history_in es) → AreLeastPasts (operations_in es) → KeepsClientLaws es
  client_laws consistent least_pasts = record { answers = answers es ended; of_puts = of_puts; distinct = distinct; above = above; consistent = consistent; least_pasts = least_pasts }

-- ---- runs

module _ (config : TenantConfig) (some : 0 < config.shards) (acts : List Act) (told : List Reply) (d : SoloCluster) (goes : Goes config acts told (new_cluster config) d) where
  abbrev es : List Ended
  es = transcript acts told

  sound : Both (IsSound config) (IsReading config) d (history_told acts told)
  sound = after_turns (kept_both (sound_kept config some) (reading_kept config some)) acts told d (sound_at_first config some, reading_at_first config) goes

  answered : Both (IsSound config) (IsAnswering config) d (history_told acts told)
  answered = after_turns (kept_both (sound_kept config some) (answering_kept config some)) acts told d (sound_at_first config some, answering_at_first config) goes

  told_facts : Facts config d (history_told acts told)
  told_facts = record { reading = sound.1.nodes; ordered = answered.1.nodes.ordered; history = sound.0.traced.history; put = sound.0.traced.entries_are }

  causal : IsCausal config acts told d
  causal = all_are_causal config some acts told d goes

  pub transcript_keeps : KeepsClientLaws (transcript acts told)
  transcript_keeps =
      let os = operations_same acts told in
      client_laws config d sound.0.flowing.streamed es (transcript_ends config some acts told d goes) (subst (λ ops. Facts config d (traced ops)) (sym os) told_facts)
      (subst (λ ops. AreConsistent (traced ops)) (sym os) causal.consistent) (subst AreLeastPasts (sym os) causal.least_pasts)

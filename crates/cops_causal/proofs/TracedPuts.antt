-- The step of a put keeps that all is traced to its put.
use Rattle.std.proofs.Common.{◌≡◌, ℕ, ◌+◌, ◌<◌, true, List, [], ◌∷◌, ◌++◌, map, inl, inr, refl, sym, ◌∙◌, ap, subst, arith}
use Rattle.std.specs.Prelude.{Option, Some, None, max, is_some, unwrap_or}
use Rattle.std.specs.List.{AllByRecursion}
use Rattle.std.specs.Option.{option_map}
use Rattle.cops_types.specs.declared.pairs.Pair.{Pair}
use Rattle.cops_types.specs.declared.records.EntryParts.{EntryParts as Entry}
use Rattle.cops_types.specs.Context.{Observation, Put as PutPair, all_of, near_of}
use Rattle.cops_types.specs.Pairs.{greatest_per_key, greatest_clock}
use Rattle.cops_types.specs.Records.{clock}
use Rattle.cops_types.specs.TenantConfig.{TenantConfig}
use Rattle.cops_types.specs.Version.{Timestamp}
use Rattle.cops_model.specs.declared.calls.NodeCall.{NodeCall}
use Rattle.cops_model.specs.declared.calls.NodeCall.TheVariants.{Put}
use Rattle.cops_model.specs.declared.calls.NodeId.{NodeId}
use Rattle.cops_model.specs.declared.calls.NodeReply.{NodeReply}
use Rattle.cops_model.specs.declared.calls.NodeReply.TheVariants.{Stored, Refused}
use Rattle.cops_model.specs.Log.{LogStep, Replied}
use Rattle.cops_model.specs.Place.{node_number, own_number, place_of}
use Rattle.cops_model.specs.SoloNode.{SoloNode}
use Rattle.cops_model.specs.Step.{entry_of_put, version_of_put}
use Rattle.cops_model.specs.Carrier.{pair_of_entry}
use Rattle.cops_model.specs.Request.{Write, key_home}
use Rattle.cops_model.specs.Session.{Session, Running, OpenContext, is_open, obs_of, context_extended, moment_after}
use Rattle.cops_model.specs.Causal.{Traced, Wrote, past_of_put}
use Rattle.cops_model.specs.Cluster.{SoloCluster, OfSession, find_session, with_actor, session_stepped}
use Rattle.cops_causal.proofs.ContextPasts.{put_deps, put_past, put_context, put_covered}
use Rattle.cops_causal.proofs.Histories.{puts_of, puts_of-push, past_in}
use Rattle.cops_types.proofs.Elements.{Among, Among-right, Every-weaker, Every-at, Among-map}
use Rattle.cops_types.proofs.Nearness.{Covers}
use Rattle.cops_causal.proofs.Moves.{history_after}
use Rattle.cops_node.proofs.NodeTurns.{entries, Stores}
use Rattle.cops_causal.proofs.NodeEffects.{node_of, Called, entries_keep}
use Rattle.cops_types.proofs.PairSets.{at}
use Rattle.cops_causal.proofs.Provenance.{IsPutEntry-grown, IsCovered-grown, IsPutEntry, IsTraced, IsActor, IsSession, IsContext, IsNew, IsHistory-grown}
use Rattle.cops_causal.proofs.TracedCalls.{traced-call, pair_stays, actors_stay, known_still, next-above, clock-below, unput}
use Rattle.cops_causal.proofs.TracedIdle.{session_of}
use Rattle.cops_causal.proofs.RequestSteps.{put_leaves, run, step_leads}
use Rattle.cops_causal.proofs.TracedSteps.{grown, context_of, contexts_extended, ends_refused, numbered_after, other_context}

module _ (config : TenantConfig) (c after : SoloCluster) (ts : List Traced) (inv : IsTraced config c ts) (name : List ℕ) (s : Session) (found : find_session name c ≡ Some s) (found_after : find_session name after ≡ Some s)
    (number context : ℕ) (key value : List ℕ) (opened : is_open context s ≡ true) (moment : ℕ) (reply : NodeReply)
    (runs : s.running ≡ Some (record { number = number; context = context; action = Write key value; log = [] })) where
  abbrev put : Running
  put = run number context (Write key value) []

  abbrev step : LogStep
  step = record { moment = moment; outcome = Replied reply }

  abbrev home : NodeId
  home = key_home config s.dc key

  abbrev node : SoloNode
  node = node_of config c (node_number config.shards home)

  abbrev call : NodeCall
  call = Put key value (all_of (obs_of context s)) (near_of (obs_of context s))

  -- the context of the put has the deps of its past
  deps_are_past : all_of (obs_of context s) ≡ greatest_per_key (past_in ts name context)
  deps_are_past =
      let x = context_of s context opened in
      let is = Every-at (IsContext ts name s.next_context) x.0 s.contexts (session_of config c ts inv name s found).contexts_are x.1 in
      ap (λ (o : Option OpenContext). all_of (unwrap_or (option_map (λ (x : OpenContext). x.obs) o) [])) x.3 ∙ is.all_is ∙ ap (λ n. greatest_per_key (past_in ts name n)) x.2

  -- and its near pairs cover that
  near_covers : Covers (past_of_put ts) (near_of (obs_of context s)) (past_in ts name context)
  near_covers =
      let x = context_of s context opened in
      let is = Every-at (IsContext ts name s.next_context) x.0 s.contexts (session_of config c ts inv name s found).contexts_are x.1 in
      let same : obs_of context s ≡ x.0.obs = ap (λ (o : Option OpenContext). unwrap_or (option_map (λ (x : OpenContext). x.obs) o) []) x.3 in
      subst (λ obs. Covers (past_of_put ts) (near_of obs) (past_in ts name context)) (sym same) (subst (λ n. Covers (past_of_put ts) (near_of x.0.obs) (past_in ts name n)) x.2 is.covered)

  module _ (called : Called config c home call reply after) (e : Entry) (version : Timestamp)
      (joins : entries (node_of config after (node_number config.shards home)) ≡ entries node ++ e ∷ []) (replied : reply ≡ Stored version)
      (next : version_of_put (place_of config home) node (all_of (obs_of context s)) ≡ Some version)
      (e-is : e ≡ entry_of_put (place_of config home) node version key value (all_of (obs_of context s)) (near_of (obs_of context s))) where
    abbrev pair : Pair
    pair = at key version

    abbrev this : Traced
    this = record { operation = record { session = name; context = context; effect = Wrote pair }; past = past_in ts name context }

    above : (version.clock ≡ max (clock config.first_clock node.recs) (greatest_clock (all_of (obs_of context s))) + 1) × (version.node ≡ node_number config.shards home)
    above = next-above (clock config.first_clock node.recs) (greatest_clock (all_of (obs_of context s))) (own_number (place_of config home)) version next

    -- the pair is new
    unput_pair : Among pair (puts_of ts) → ⊥
    unput_pair = unput config c ts inv home key (all_of (obs_of context s)) version next

    new : IsNew ts this
    new p there was = elim there [ inl same ↦ unput_pair (subst (λ q. Among q (puts_of ts)) (sym same) was) | inr never ↦ absurd never ]

    entry_put : IsPutEntry (ts ++ this ∷ []) e
    entry_put =
        subst (IsPutEntry (ts ++ this ∷ [])) (sym e-is) (record {
          put = record {
            was = subst (Among pair) (sym (puts_of-push ts this)) (Among-right pair (puts_of ts) (pair ∷ []) (inl refl));
            deps_are = deps_are_past ∙ sym (put_deps ts name context pair unput_pair);
          };
          covered = λ q at. IsCovered-grown ts this new (near_of (obs_of context s)) q (near_covers q (subst (Among q) (put_past ts name context pair unput_pair) at));
        })

    stored_is : (f : Entry) → Stores (place_of config home) call node reply f → IsPutEntry (ts ++ this ∷ []) f
    stored_is f is =
        let same : is.0 ≡ version = (let both : Stored is.0 ≡ Stored version = sym is.1 ∙ replied in cc) in
        subst (IsPutEntry (ts ++ this ∷ []))
        (sym (is.3 ∙ ap (λ v. entry_of_put (place_of config home) node v key value (all_of (obs_of context s)) (near_of (obs_of context s))) same ∙ sym e-is)) entry_put

    still_put : (n : ℕ) → AllByRecursion (IsPutEntry (ts ++ this ∷ [])) (entries (node_of config c n))
    still_put n = Every-weaker (IsPutEntry ts) (IsPutEntry (ts ++ this ∷ [])) (entries (node_of config c n)) (λ f at is. IsPutEntry-grown ts this new f is) (inv.entries_are n)

    pair_there : Among pair (map pair_of_entry (entries (node_of config after version.node)))
    pair_there =
        subst (λ n. Among pair (map pair_of_entry (entries (node_of config after n)))) (sym above.1)
        (subst (λ es. Among pair (map pair_of_entry es)) (sym joins)
        (subst (λ p. Among p (map pair_of_entry (entries node ++ e ∷ []))) (ap pair_of_entry e-is) (Among-map pair_of_entry e (entries node ++ e ∷ []) (Among-right e (entries node) (e ∷ []) (inl refl)))))

    new_session : (later : ℕ) → IsSession config (ts ++ this ∷ []) name (record s { moment = later; contexts = context_extended context (PutPair pair ∷ []) s.contexts; running = None })
    new_session later =
        let is = session_of config c ts inv name s found in
        record {
          placed = is.placed;
          contexts_are = contexts_extended (IsContext ts name s.next_context) (IsContext (ts ++ this ∷ []) name s.next_context) context (PutPair pair ∷ []) s.contexts
              (λ x same of. record {
                numbered = of.numbered;
                all_is = here x.number x.obs same of.all_is;
                covered = subst (λ m. Covers (past_of_put (ts ++ this ∷ [])) (near_of (x.obs ++ PutPair pair ∷ [])) (past_in (ts ++ this ∷ []) name m)) (sym same) (put_covered ts name context x.obs pair unput_pair);
              })
              (other_context config c ts inv name s found context this new refl) is.contexts_are;
          numbered = numbered_after config c ts inv name s found context this opened refl;
          running_is = λ r runs. cc;
        }
      where
        here : (n : ℕ) (obs : List Observation) → n ≡ context → all_of obs ≡ greatest_per_key (past_in ts name n) → all_of (obs ++ PutPair pair ∷ []) ≡ greatest_per_key (past_in (ts ++ this ∷ []) name n)
        here n obs same of =
            subst (λ m. all_of (obs ++ PutPair pair ∷ []) ≡ greatest_per_key (past_in (ts ++ this ∷ []) name m)) (sym same)
            (put_context ts name context obs pair (of ∙ ap (λ m. greatest_per_key (past_in ts name m)) same))

    -- the version is above all of the past
    above_past : (q : Pair) → Among q (past_in ts name context) → q.version.clock < version.clock
    above_past q at =
        let below = clock-below (past_in ts name context) q at in
        let same : greatest_clock (all_of (obs_of context s)) ≡ greatest_clock (greatest_per_key (past_in ts name context)) = ap greatest_clock deps_are_past in
        let is = above.0 in
        omega arith

    after_stored : (later : ℕ) → IsTraced config (with_actor name (OfSession (record s { moment = later; contexts = context_extended context (PutPair pair ∷ []) s.contexts; running = None })) after) (ts ++ this ∷ [])
    after_stored later =
        grown config after ts name context (Wrote pair) (past_in ts name context) (record s { moment = later; contexts = context_extended context (PutPair pair ∷ []) s.contexts; running = None })
        (IsHistory-grown ts inv.history (this.operation) new (λ p q at past. elim at [ inl same ↦ subst (λ r. q.version.clock < r.version.clock) same (above_past q past) | inr never ↦ absurd never ]))
        called.sized (entries_keep called (IsPutEntry (ts ++ this ∷ [])) stored_is still_put)
        (λ p at. pair_stays called p.version.node p (inv.puts_are p at)) (actors_stay called (IsActor config ts) inv.actors_are) (λ u at. known_still called u.operation.session (inv.known u at)) (ap is_some found_after) new
        (λ p at. elim at [ inl same ↦ subst (λ q. Among q (map pair_of_entry (entries (node_of config after q.version.node)))) same pair_there | inr never ↦ absurd never ]) (new_session later)

  -- the step of a put, whatever the node answers
  pub put_stepped : Called config c home call reply after → let turn = session_stepped config name s put step after in IsTraced config turn.after (history_after ts after name turn.reply)
  put_stepped called =
      step_leads config (IsTraced config) after ts name s found_after put step runs (put_leaves config ts name s (λ next us. IsTraced config (with_actor name (OfSession next) after) us) c after number context key value moment reply called
      (λ fault is. ends_refused config after ts (traced-call called ts (λ e stores. let both : Stored stores.0 ≡ Refused fault = sym stores.1 ∙ is in cc) inv) name s found_after context (moment_after put step))
      (λ e joins stores. after_stored called e stores.0 joins stores.1 stores.2 stores.3 (moment_after put step)))

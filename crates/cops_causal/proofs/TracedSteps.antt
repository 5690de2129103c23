-- The steps of a session keep that all is traced to its put.
use Rattle.std.proofs.Common.{◌≡◌, ℕ, Bool, true, false, cond, ◌&&◌, List, [], ◌∷◌, ◌++◌, map, inl, inr, refl, sym, ◌∙◌, ap, subst, append-nil, arith}
use Rattle.std.specs.Prelude.{Option, Some, None, nat_lt, is_some, ◌==◌}
use Rattle.std.specs.List.{AllByRecursion}
use Rattle.std.proofs.lemmas.Bool.Decides.{nat_tests, Decides-eqb}
use Rattle.cops_types.specs.declared.contexts.ReadParts.{ReadParts as Read}
use Rattle.cops_types.specs.declared.pairs.Pair.{Pair}
use Rattle.cops_types.specs.Context.{Observation, all_of, near_of, observations_of}
use Rattle.cops_types.specs.Key.{key_eq}
use Rattle.cops_types.specs.Pairs.{greatest_per_key}
use Rattle.cops_types.specs.TenantConfig.{TenantConfig}
use Rattle.cops_model.specs.declared.calls.NodeReply.{NodeReply}
use Rattle.cops_model.specs.declared.calls.NodeReply.TheVariants.{Found}
use Rattle.cops_model.specs.Log.{LogStep}
use Rattle.cops_model.specs.Request.{Fetch}
use Rattle.cops_model.specs.Session.{Session, Running, OpenContext, is_open, find_context, context_extended, moment_after}
use Rattle.cops_model.specs.Transaction.{ReadRequest, gets, read_of}
use Rattle.cops_model.specs.Carrier.{pair_of_entry}
use Rattle.cops_model.specs.Causal.{Traced, Operation, Effect, Returned, put_by, past_after, past_of_put}
use Rattle.cops_model.specs.Cluster.{SoloCluster, OfSession, find_session, with_actor, session_stepped}
use Rattle.cops_causal.proofs.ActorsKeep.{EachActor, IsKnown, each-with_actor, known-with_session}
use Rattle.cops_types.proofs.KeyTests.{key_eq-false}
use Rattle.cops_causal.proofs.ContextPasts.{IsRead, values_context, values_covered}
use Rattle.cops_causal.proofs.Histories.{puts_of, puts_of-push, past_in}
use Rattle.cops_types.proofs.Elements.{Among, Among-cases, Among-find, Every-at, Every-weaker}
use Rattle.cops_types.proofs.Nearness.{Covers}
use Rattle.cops_causal.proofs.Moves.{history_after}
use Rattle.cops_node.proofs.NodeTurns.{entries}
use Rattle.cops_causal.proofs.NodeEffects.{node_of, IsSized}
use Rattle.cops_types.proofs.PairSets.{at}
use Rattle.cops_causal.proofs.Provenance.{IsPutEntry-grown, IsCovered-grown, IsPutEntry, IsFound, IsTraced, IsActor, IsActor-grown, IsSession, IsContext, IsContext-grown, IsRunning, IsNew, IsHistory, IsHistory-grown}
use Rattle.cops_session.proofs.RequestReplies.{replies_in}
use Rattle.cops_types.proofs.Zipped.{Zipped}
use Rattle.cops_session.proofs.ReplyRounds.{Every-final_reads}
use Rattle.cops_causal.proofs.RequestSteps.{get_leaves, run, step_leads}
use Rattle.cops_causal.proofs.TracedIdle.{session_of, session_changed}

-- ---- an operation joins the history

pub grown : (config : TenantConfig) (c : SoloCluster) (ts : List Traced) (name : List ℕ) (context : ℕ) (effect : Effect) (past : List Pair) (s : Session) →
    let t : Traced = record { operation = record { session = name; context = context; effect = effect }; past = past } in
    IsHistory (ts ++ t ∷ []) → IsSized config c → ((n : ℕ) → AllByRecursion (IsPutEntry (ts ++ t ∷ [])) (entries (node_of config c n))) →
    ((p : Pair) → Among p (puts_of ts) → Among p (map pair_of_entry (entries (node_of config c p.version.node)))) → EachActor (IsActor config ts) c →
    ((u : Traced) → Among u ts → IsKnown c u.operation.session) → IsKnown c name →
    IsNew ts t → ((p : Pair) → Among p (put_by effect) → Among p (map pair_of_entry (entries (node_of config c p.version.node)))) →
    IsSession config (ts ++ t ∷ []) name s →
    IsTraced config (with_actor name (OfSession s) c) (ts ++ t ∷ [])
grown config c ts name context effect past s history sized stored puts actors known mine new put is =
    let t : Traced = record { operation = record { session = name; context = context; effect = effect }; past = past } in
    record {
      stands = record {
        nodes = record {
          history = history;
          sized = sized;
          entries_are = stored;
          puts_are = λ p at. elim (Among-cases p (puts_of ts) (put_by effect) (subst (Among p) (puts_of-push ts t) at)) [ inl old ↦ puts p old | inr now ↦ put p now ];
        };
        actors = each-with_actor (IsActor config ts) (IsActor config (ts ++ t ∷ [])) c name (OfSession s) is (λ other a apart p. IsActor-grown ts t new config other a (key_eq-false other name apart) p) actors;
      };
      known = λ u at. known-with_session c name u.operation.session s (elim (Among-cases u ts (t ∷ []) at) [
        | inl old ↦ known u old
        | inr now ↦ elim now [ inl e ↦ subst (λ (v : Traced). IsKnown c v.operation.session) e mine | inr never ↦ absurd never ]
      ]);
    }

-- ---- the contexts of a session whose request ends

-- the context of a running request is among those of the session
pub context_of : (s : Session) (number : ℕ) → is_open number s ≡ true → (x : OpenContext) × Among x s.contexts × (x.number ≡ number) × (find_context number s ≡ Some x)
context_of s number opened = by_found (find_context number s) refl opened
  where
    by_found : (o : Option OpenContext) → find_context number s ≡ o → is_some o ≡ true → (x : OpenContext) × Among x s.contexts × (x.number ≡ number) × (find_context number s ≡ Some x)
    by_found None is e = cc
    by_found (Some x) is e = let there = Among-find (λ (x : OpenContext). x.number == number) x s.contexts is in (x, there.0, (Decides-eqb x.number number).0 there.1, is)

pub contexts_extended : (P Q : OpenContext → Type 0) (number : ℕ) (more : List Observation) (contexts : List OpenContext) →
    ((x : OpenContext) → x.number ≡ number → P x → Q (record { number = x.number; obs = x.obs ++ more })) → ((x : OpenContext) → (x.number == number) ≡ false → P x → Q x) →
    AllByRecursion P contexts → AllByRecursion Q (context_extended number more contexts)
contexts_extended P Q number more [] this other each = tt
contexts_extended P Q number more (x ∷ contexts) this other each = (
  elim (x.number == number) as (λ b. (x.number == number) ≡ b → Q (cond b (record { number = x.number; obs = x.obs ++ more }) x)) [
    | true ↦ λ is. this x ((Decides-eqb x.number number).0 is) each.0
    | false ↦ λ is. other x is each.0
  ] refl,
  contexts_extended P Q number more contexts this other each.1,
)

module _ (config : TenantConfig) (c : SoloCluster) (ts : List Traced) (inv : IsTraced config c ts) (name : List ℕ) (s : Session) (found : find_session name c ≡ Some s) where
  abbrev this : IsSession config ts name s
  this = session_of config c ts inv name s found

  -- the session goes on with one more step
  goes_on_with : (running : Running) (moment : ℕ) → IsRunning config ts s running → IsTraced config (with_actor name (OfSession (record s { moment = moment; running = Some running })) c) ts
  goes_on_with running moment is =
      let next : Session = record s { moment = moment; running = Some running } in
      session_changed config c ts inv name next (record {
        placed = this.placed;
        contexts_are = this.contexts_are;
        numbered = this.numbered;
        running_is = λ r runs. let same : running ≡ r = cc in subst (IsRunning config ts next) same (record { in_open = is.in_open; unanswered = is.unanswered; replies_are = is.replies_are });
      })

  -- the request ends with a refusal, and its context sees nothing
  pub ends_refused : (number : ℕ) (moment : ℕ) → IsTraced config (with_actor name (OfSession (record s { moment = moment; contexts = context_extended number [] s.contexts; running = None })) c) ts
  ends_refused number moment =
      session_changed config c ts inv name (record s { moment = moment; contexts = context_extended number [] s.contexts; running = None }) (record {
        placed = this.placed;
        contexts_are = contexts_extended (IsContext ts name s.next_context) (IsContext ts name s.next_context) number [] s.contexts
            (λ x same is. record {
              numbered = is.numbered;
              all_is = ap all_of (append-nil x.obs) ∙ is.all_is;
              covered = subst (λ obs. Covers (past_of_put ts) (near_of obs) (past_in ts name x.number)) (sym (append-nil x.obs)) is.covered;
            }) (λ x apart is. is) this.contexts_are;
        numbered = this.numbered;
        running_is = λ r runs. cc;
      })

  -- the numbers of contexts bound those of operations
  pub numbered_after : (number : ℕ) (t : Traced) → is_open number s ≡ true → t.operation.context ≡ number →
      (u : Traced) → Among u (ts ++ t ∷ []) → key_eq u.operation.session name ≡ true → nat_lt u.operation.context s.next_context ≡ true
  numbered_after number t opened of u at same =
      elim (Among-cases u ts (t ∷ []) at) [
        | inl old ↦ this.numbered u old same
        | inr now ↦ elim now [
          | inl e ↦
              let x = context_of s number opened in
              let numbered = (Every-at (IsContext ts name s.next_context) x.0 s.contexts this.contexts_are x.1).numbered in
              subst (λ n. nat_lt n s.next_context ≡ true) (x.2 ∙ sym of ∙ ap (λ (v : Traced). v.operation.context) e) numbered
          | inr never ↦ absurd never
        ]
      ]

  -- a context of another number keeps its past
  pub other_context : (number : ℕ) (t : Traced) → IsNew ts t → t.operation.context ≡ number → (x : OpenContext) → (x.number == number) ≡ false → IsContext ts name s.next_context x → IsContext (ts ++ t ∷ []) name s.next_context x
  other_context number t new of x apart is = IsContext-grown ts t new name s.next_context x (none (key_eq t.operation.session name)) is
    where
      none : (b : Bool) → (b && t.operation.context == x.number) ≡ false
      none true = grind (arith, nat_tests)
      none false = refl

  -- the transaction ends with what it read
  ends_values : (running : Running) (moment : ℕ) (reads : List Read) → s.running ≡ Some running → is_open running.context s ≡ true → AllByRecursion (IsRead ts) reads →
      let o : Operation = record { session = name; context = running.context; effect = Returned reads } in
      IsTraced config (with_actor name (OfSession (record s { moment = moment; contexts = context_extended running.context (observations_of reads) s.contexts; running = None })) c)
      (ts ++ record { operation = o; past = past_after ts o } ∷ [])
  ends_values running moment reads runs opened are =
      let o : Operation = record { session = name; context = running.context; effect = Returned reads } in
      let t : Traced = record { operation = o; past = past_after ts o } in
      let new : IsNew ts t = λ p at was. at in
      grown config c ts name running.context (Returned reads) (past_after ts o) (record s { moment = moment; contexts = context_extended running.context (observations_of reads) s.contexts; running = None })
      (IsHistory-grown ts inv.history o new (λ p q at. absurd at)) inv.sized
      (λ n. Every-weaker (IsPutEntry ts) (IsPutEntry (ts ++ t ∷ [])) (entries (node_of config c n)) (λ e at is. IsPutEntry-grown ts t new e is) (inv.entries_are n))
      inv.puts_are inv.actors_are inv.known (ap is_some found) new (λ p at. absurd at)
      (record {
        placed = this.placed;
        contexts_are = contexts_extended (IsContext ts name s.next_context) (IsContext (ts ++ t ∷ []) name s.next_context) running.context (observations_of reads) s.contexts
            (λ x same is. record {
              numbered = is.numbered;
              all_is = here x.number x.obs same is.all_is;
              covered = λ q at. IsCovered-grown ts t new (near_of (x.obs ++ observations_of reads)) q (near_here x.number x.obs same is.all_is is.covered q at);
            })
            (other_context running.context t new refl) this.contexts_are;
        numbered = numbered_after running.context t opened refl;
        running_is = λ r runs. cc;
      })
    where
      here : (number : ℕ) (obs : List Observation) → number ≡ running.context → all_of obs ≡ greatest_per_key (past_in ts name number) →
          let o : Operation = record { session = name; context = running.context; effect = Returned reads } in
          all_of (obs ++ observations_of reads) ≡ greatest_per_key (past_in (ts ++ record { operation = o; past = past_after ts o } ∷ []) name number)
      here number obs same is =
          let o : Operation = record { session = name; context = running.context; effect = Returned reads } in
          subst (λ n. all_of (obs ++ observations_of reads) ≡ greatest_per_key (past_in (ts ++ record { operation = o; past = past_after ts o } ∷ []) name n)) (sym same)
          (values_context ts name running.context obs reads are (is ∙ ap (λ n. greatest_per_key (past_in ts name n)) same))

      near_here : (number : ℕ) (obs : List Observation) → number ≡ running.context → all_of obs ≡ greatest_per_key (past_in ts name number) → Covers (past_of_put ts) (near_of obs) (past_in ts name number) →
          let o : Operation = record { session = name; context = running.context; effect = Returned reads } in
          Covers (past_of_put ts) (near_of (obs ++ observations_of reads)) (past_in (ts ++ record { operation = o; past = past_after ts o } ∷ []) name number)
      near_here number obs same is covers =
          let o : Operation = record { session = name; context = running.context; effect = Returned reads } in
          subst (λ n. Covers (past_of_put ts) (near_of (obs ++ observations_of reads)) (past_in (ts ++ record { operation = o; past = past_after ts o } ∷ []) name n)) (sym same)
          (values_covered ts name running.context inv.history obs reads are (is ∙ ap (λ n. greatest_per_key (past_in ts name n)) same) (subst (λ n. Covers (past_of_put ts) (near_of obs) (past_in ts name n)) same covers))

  -- ---- a step of a transaction

  read_well : (q : ReadRequest) (reply : NodeReply) → IsFound ts q reply → IsRead ts (read_of q.key reply)
  read_well q (Found f) is = is
  read_well q reply is = tt

  module _ (number context : ℕ) (keys : List (List ℕ)) (log : List LogStep) (step : LogStep)
      (runs : s.running ≡ Some (record { number = number; context = context; action = Fetch keys; log = log })) (opened : is_open context s ≡ true)
      (replied : let rs = replies_in keys (log ++ step ∷ []) in Zipped (IsFound ts) (gets keys rs) rs) where
    abbrev transaction : Running
    transaction = run number context (Fetch keys) log

    pub get_stepped : let turn = session_stepped config name s transaction step c in IsTraced config turn.after (history_after ts c name turn.reply)
    get_stepped =
        step_leads config (IsTraced config) c ts name s found transaction step runs (get_leaves config ts name s (λ next us. IsTraced config (with_actor name (OfSession next) c) us) number context keys log step
        (λ open_still. goes_on_with (run number context (Fetch keys) (log ++ step ∷ [])) _ (record { in_open = opened; unanswered = open_still; replies_are = replied }))
        (λ fault. ends_refused context _)
        (λ reads follows. ends_values transaction (moment_after transaction step) reads runs opened
        (subst (AllByRecursion (IsRead ts)) (sym follows.0) (Every-final_reads (IsFound ts) (IsRead ts) read_well keys (replies_in keys (log ++ step ∷ [])) follows.1 replied))))

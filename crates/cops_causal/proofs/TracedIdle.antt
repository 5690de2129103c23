-- The acts that make no call keep that all is traced to its put.
use Rattle.std.proofs.Common.{◌≡◌, ℕ, ◌+◌, Bool, true, false, cond, not, ◌&&◌, ◌||◌, List, [], ◌∷◌, ◌++◌, inl, inr, refl, sym, ◌∙◌, ap, subst, arith}
use Rattle.std.specs.Prelude.{Some, None, nat_lt, ◌==◌, length}
use Rattle.std.specs.List.{list_any}
use Rattle.std.proofs.lemmas.Bool.Decides.{nat_tests}
use Rattle.cops_types.specs.declared.faults.Fault.TheVariants.{Busy, NoContext, DependenciesFull, IdsSpent, Syntax, TooManyKeys, RepeatedKey}
use Rattle.cops_types.specs.declared.pairs.Pair.{Pair}
use Rattle.cops_types.specs.Context.{can_put}
use Rattle.cops_types.specs.Key.{key_eq}
use Rattle.cops_types.specs.Pairs.{holds, greatest_per_key}
use Rattle.cops_types.specs.TenantConfig.{TenantConfig}
use Rattle.cops_model.specs.Request.{Action, Write, Fetch}
use Rattle.cops_model.specs.Session.{Session, context_created, context_deleted, get_refusal, has_repeats, is_busy, is_open, new_session, obs_of, request_begun, session_put_refusal, is_spent}
use Rattle.cops_model.specs.Carrier.{Stream, new_carrier}
use Rattle.cops_model.specs.Causal.{Traced, put_by, past_after}
use Rattle.cops_model.specs.Cluster.{SoloCluster, OfSession, OfCarrier, find_actor, find_session, with_actor, with_new_actor}
use Rattle.cops_causal.proofs.ActorsKeep.{actor_found, session_actor, known_session, known-with_session, known-with_new, changed, joined}
use Rattle.cops_types.proofs.KeyTests.{key_eq-true}
use Rattle.cops_causal.proofs.Histories.{past_in, in_context, given}
use Rattle.cops_types.proofs.Elements.{Among, Every-append, Every-weaker, Every-filter}
use Rattle.cops_causal.proofs.Moves.{IsStream, head_passes, flipped}
use Rattle.cops_causal.proofs.Provenance.{IsTraced, IsActor, IsSession, IsContext, IsRunning, IsFound, HoldPuts, IsActorAt}
use Rattle.cops_session.proofs.RequestReplies.{put-open, get-open, get-begun}
use Rattle.cops_causal.proofs.RequestSteps.{none_runs, only_runs, run}

module _ (config : TenantConfig) (c : SoloCluster) (ts : List Traced) (inv : IsTraced config c ts) where
  pub session_of : (name : List ℕ) (s : Session) → find_session name c ≡ Some s → IsSession config ts name s
  session_of name s found = actor_found (IsActor config ts) c name (OfSession s) inv.actors_are (session_actor c name s found)

  pub session_changed : (name : List ℕ) (s : Session) → IsSession config ts name s → IsTraced config (with_actor name (OfSession s) c) ts
  session_changed name s is =
      record { stands = changed (HoldPuts config) (IsActorAt config) c ts inv.stands name (OfSession s) is; known = λ t at. known-with_session c name t.operation.session s (inv.known t at) }

  pub traced-opened : (name : List ℕ) (dc : ℕ) → find_actor name c ≡ None → nat_lt dc config.data_centres ≡ true → IsTraced config (with_new_actor name (OfSession (new_session dc 1)) c) ts
  traced-opened name dc free exists =
      record {
        stands = joined (HoldPuts config) (IsActorAt config) c ts inv.stands name (OfSession (new_session dc 1))
            (record { placed = exists; contexts_are = tt; numbered = λ t at same. absurd (unknown t at same); running_is = λ running runs. cc });
        known = λ t at. known-with_new c name t.operation.session (OfSession (new_session dc 1)) (inv.known t at);
      }
    where
      unknown : (t : Traced) → Among t ts → key_eq t.operation.session name ≡ true → ⊥
      unknown t at same =
          let there = known_session c t.operation.session (inv.known t at) in
          let both : None ≡ Some (OfSession there.0) = sym free ∙ ap (λ n. find_actor n c) (sym (key_eq-true t.operation.session name same)) ∙ there.1 in cc

  pub traced-carrier_begun : (name : List ℕ) (stream : Stream) → IsStream config stream → IsTraced config (with_new_actor name (OfCarrier (new_carrier stream)) c) ts
  traced-carrier_begun name stream is =
      record {
        stands = joined (HoldPuts config) (IsActorAt config) c ts inv.stands name (OfCarrier (new_carrier stream)) (record { stream_is = is; pulled = tt });
        known = λ t at. known-with_new c name t.operation.session (OfCarrier (new_carrier stream)) (inv.known t at);
      }

  -- a new context has no past
  pub fresh_context : (name : List ℕ) (next : ℕ) → ((t : Traced) → Among t ts → key_eq t.operation.session name ≡ true → nat_lt t.operation.context next ≡ true) → past_in ts name next ≡ []
  fresh_context name next below = go ts below
    where
      none_held : (ps : List Pair) → list_any (holds []) ps ≡ false
      none_held [] = refl
      none_held (p ∷ ps) = none_held ps

      apart : (t : Traced) (b : Bool) → key_eq t.operation.session name ≡ b → (b ≡ true → nat_lt t.operation.context next ≡ true) → (b && t.operation.context == next) ≡ false
      apart t true is less = let l : nat_lt t.operation.context next ≡ true = less refl in grind (arith, nat_tests)
      apart t false is less = refl

      go : (us : List Traced) → ((t : Traced) → Among t us → key_eq t.operation.session name ≡ true → nat_lt t.operation.context next ≡ true) → past_after us (in_context name next) ≡ []
      go [] below = refl
      go (t ∷ us) below =
          (λ i. cond (apart t (key_eq t.operation.session name) refl (below t (inl refl)) i || none_held (put_by t.operation.effect) i) (given t) [] ++ past_after us (in_context name next))
          ∙ go us (λ u at. below u (inr at))

  pub traced-context_created : (name : List ℕ) (s : Session) → find_session name c ≡ Some s → s.running ≡ None → IsTraced config (with_actor name (OfSession (context_created s)) c) ts
  traced-context_created name s found idle =
      let is = session_of name s found in
      session_changed name (context_created s) (record {
        placed = is.placed;
        contexts_are = Every-append (IsContext ts name (s.next_context + 1)) s.contexts (record { number = s.next_context; obs = [] } ∷ [])
            (Every-weaker (IsContext ts name s.next_context) (IsContext ts name (s.next_context + 1)) s.contexts (λ context at p. record { numbered = more context.number p.numbered; all_is = p.all_is; covered = p.covered }) is.contexts_are) (
              record {
                numbered = one_less s.next_context;
                all_is = ap greatest_per_key (sym (fresh_context name s.next_context is.numbered));
                covered = λ q at. absurd (subst (Among q) (fresh_context name s.next_context is.numbered) at);
              },
              tt,
            );
        numbered = λ t at same. more t.operation.context (is.numbered t at same);
        running_is = none_runs _ s.running idle;
      })
    where
      more : (n : ℕ) → nat_lt n s.next_context ≡ true → nat_lt n (s.next_context + 1) ≡ true
      more n less = grind (arith, nat_tests)

      one_less : (n : ℕ) → nat_lt n (n + 1) ≡ true
      one_less n = grind (arith, nat_tests)

  pub traced-context_deleted : (name : List ℕ) (s : Session) (number : ℕ) → find_session name c ≡ Some s → s.running ≡ None → IsTraced config (with_actor name (OfSession (context_deleted number s)) c) ts
  traced-context_deleted name s number found idle =
      let is = session_of name s found in
      session_changed name (context_deleted number s) (record {
        placed = is.placed;
        contexts_are = Every-filter (IsContext ts name s.next_context) (λ x. not (x.number == number)) s.contexts is.contexts_are;
        numbered = is.numbered;
        running_is = none_runs _ s.running idle;
      })

  -- a request begins in an open context
  begun : (name : List ℕ) (s : Session) (number : ℕ) (action : Action) → find_session name c ≡ Some s → IsRunning config ts (request_begun number action s) (run s.next_request number action []) →
      IsTraced config (with_actor name (OfSession (request_begun number action s)) c) ts
  begun name s number action found first =
      let is = session_of name s found in
      session_changed name (request_begun number action s)
      (record { placed = is.placed; contexts_are = is.contexts_are; numbered = is.numbered; running_is = only_runs (IsRunning config ts (request_begun number action s)) (run s.next_request number action []) first })

  pub traced-put_begun : (name : List ℕ) (s : Session) (number : ℕ) (key value : List ℕ) → find_session name c ≡ Some s → session_put_refusal config number key s ≡ None →
      IsTraced config (with_actor name (OfSession (request_begun number (Write key value) s)) c) ts
  traced-put_begun name s number key value found ok =
      let third = (not (can_put config.quota.deps (obs_of number s) key), DependenciesFull) ∷ (is_spent s.next_request, IdsSpent) ∷ [] in
      let first = head_passes (is_busy s) Busy ((not (is_open number s), NoContext) ∷ third) ok in
      let second = head_passes (not (is_open number s)) NoContext third first.1 in
      begun name s number (Write key value) found (record { in_open = flipped (is_open number s) second.0; unanswered = put-open config s.dc (obs_of number s) key value; replies_are = refl })

  pub traced-get_begun : (name : List ℕ) (s : Session) (number : ℕ) (keys : List (List ℕ)) → find_session name c ≡ Some s → get_refusal config number keys s ≡ None →
      IsTraced config (with_actor name (OfSession (request_begun number (Fetch keys) s)) c) ts
  traced-get_begun name s number keys found ok =
      let fourth = (nat_lt 32 (length keys), TooManyKeys) ∷ (has_repeats keys, RepeatedKey) ∷ (is_spent s.next_request, IdsSpent) ∷ [] in
      let first = head_passes (nat_lt (length keys) 1) Syntax ((is_busy s, Busy) ∷ (not (is_open number s), NoContext) ∷ fourth) ok in
      let second = head_passes (is_busy s) Busy ((not (is_open number s), NoContext) ∷ fourth) first.1 in
      let third = head_passes (not (is_open number s)) NoContext fourth second.1 in
      begun name s number (Fetch keys) found (record { in_open = flipped (is_open number s) third.0; unanswered = get-open config s.dc (obs_of number s) keys first.0; replies_are = get-begun (IsFound ts) keys })

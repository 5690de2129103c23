-- The lists that a tenant was shown are those of its contexts' pasts and of what these have seen.
use Rattle.std.proofs.Common.{◌≡◌, ℕ, ◌<◌, true, not, List, [], ◌∷◌, ◌++◌, inl, inr, refl, sym, ◌∙◌, ap, subst, append-nil}
use Rattle.std.specs.Prelude.{Option, Some, None, unwrap_or}
use Rattle.std.specs.List.{cons_option}
use Rattle.std.specs.Option.{option_map}
use Rattle.std.proofs.lemmas.List.{map-append}
use Rattle.cops_types.specs.declared.faults.Fault.TheVariants.{Busy, NoContext}
use Rattle.cops_types.specs.Context.{all_of, near_of}
use Rattle.cops_types.specs.Pairs.{greatest_per_key}
use Rattle.cops_types.specs.TenantConfig.{TenantConfig}
use Rattle.cops_types.proofs.Elements.{Every-at}
use Rattle.cops_model.specs.declared.acts.Act.{Act}
use Rattle.cops_model.specs.declared.acts.Act.TheVariants.{Open, Create, Delete, Put, Get, Show, Carry, Step, Done, Collect}
use Rattle.cops_model.specs.declared.replies.Reply.{Reply}
use Rattle.cops_model.specs.declared.replies.Reply.TheVariants.{Lists}
use Rattle.cops_model.specs.Session.{OpenContext, Session, context_refusal, find_context, is_busy, is_open, obs_of}
use Rattle.cops_model.specs.Causal.{Operation, Traced, traced, traced_from}
use Rattle.cops_model.specs.Cluster.{ActEffect, OfSession, SoloCluster, cluster_step, find_session, new_cluster, reply_with, unless_refused}
use Rattle.cops_model.specs.Goes.{Goes, Turns}
use Rattle.cops_model.specs.Told.{Contexts, contexts_after}
use Rattle.cops_causal.specs.ClientLaws.{AreShown, ShowsContext, ShowsTrueLists, past_in_context, seen_in_context}
use Rattle.cops_causal.specs.Transcript.{Ended, Requests, ended_told, history_in, operations_in, requests_after}
use Rattle.cops_causal.proofs.ActorsKeep.{actor_found, session_actor}
use Rattle.cops_causal.proofs.AfterTurns.{turn_keeps, turn_knows, turn_told}
use Rattle.cops_causal.proofs.EndedOperations.{operation_ended}
use Rattle.cops_causal.proofs.Moves.{Both, IsKept, flipped, head_passes, kept_both, passes, with_operation}
use Rattle.cops_causal.proofs.Past.{traced_at_first, traced_kept}
use Rattle.cops_causal.proofs.Provenance.{IsContext, IsTraced}
use Rattle.cops_causal.proofs.SeenContexts.{HasSeen, HaveSeen, IsSeeing, seeing_at_first, seeing_kept}
use Rattle.cops_causal.proofs.ToldHistories.{Knows, by_session}
use Rattle.cops_causal.proofs.ToldRequests.{AreContexts, contexts_still, operation_same}
use Rattle.cops_causal.proofs.TracedIdle.{session_of}
use Rattle.cops_causal.proofs.TracedSteps.{context_of}

-- ---- one more operation

traced_push : (ts : List Traced) (ops : List Operation) (o : Operation) → traced_from ts (ops ++ o ∷ []) ≡ with_operation (traced_from ts ops) (Some o)
traced_push ts [] o = refl
traced_push ts (first ∷ ops) o = traced_push (with_operation ts (Some first)) ops o

pub history_more : (es : List Ended) (o : Option Ended) → history_in (es ++ cons_option o []) ≡ with_operation (history_in es) (option_map (λ (e : Ended). e.operation) o)
history_more es None = ap history_in (append-nil es)
history_more es (Some e) = ap traced (map-append (λ (e : Ended). e.operation) es (e ∷ [])) ∙ traced_push [] (operations_in es) e.operation

-- ---- what a cluster shows

abbrev IsShowing : TenantConfig → SoloCluster → List Traced → Type 0
IsShowing config = Both (IsTraced config) IsSeeing

module _ (config : TenantConfig) (c : SoloCluster) (ts : List Traced) (inv : IsShowing config c ts) (name : List ℕ) (number : ℕ) where
  obs_are : (s : Session) (x : OpenContext) → find_context number s ≡ Some x → obs_of number s ≡ x.obs
  obs_are s x is = ap (λ (o : Option OpenContext). unwrap_or (option_map (λ (x : OpenContext). x.obs) o) []) is

  lists_are : (s : Session) → find_session name c ≡ Some s → is_open number s ≡ true → ShowsContext ts (Show name number) (Lists (all_of (obs_of number s)) (near_of (obs_of number s)))
  lists_are s found opened =
      let x = context_of s number opened in
      let this = session_of config c ts inv.0 name s found in
      let all = (Every-at (IsContext ts name s.next_context) x.0 s.contexts this.contexts_are x.1).all_is in
      let seen = Every-at (HasSeen ts name) x.0 s.contexts (actor_found (HaveSeen c.nodes ts) c name (OfSession s) inv.1.actors (session_actor c name s found)) x.1 in (
        ap all_of (obs_are s x.0 x.3) ∙ all ∙ ap (λ n. greatest_per_key (past_in_context ts name n)) x.2,
        ap near_of (obs_are s x.0 x.3 ∙ seen ∙ ap (seen_in_context ts name) x.2),
      )

  shown_lists : ShowsContext ts (Show name number) (cluster_step config (Show name number) c).reply
  shown_lists =
      let shows : Session → ActEffect = λ s. reply_with (Lists (all_of (obs_of number s)) (near_of (obs_of number s))) c in
      by_session (find_session name c) c (λ s. unless_refused (context_refusal number s) c (shows s)) (λ turn. ShowsContext ts (Show name number) turn.reply) tt
      (λ s found. passes (context_refusal number s) c (shows s) (λ turn. ShowsContext ts (Show name number) turn.reply) (λ fault. tt) (λ ok.
      let second = (head_passes (is_busy s) Busy ((not (is_open number s), NoContext) ∷ []) ok).1 in
      lists_are s found (flipped (is_open number s) (head_passes (not (is_open number s)) NoContext [] second).0)))

turn_shows : (config : TenantConfig) (act : Act) (c d : SoloCluster) (reply : Reply) (ts : List Traced) → IsShowing config c ts → Turns config act c reply d → ShowsContext ts act reply
turn_shows config (Show name number) c d reply ts inv (inl (same, left)) = subst (ShowsContext ts (Show name number)) (sym same) (shown_lists config c ts inv name number)
turn_shows config (Show name number) c d reply ts inv (inr (same, lacks)) = subst (ShowsContext ts (Show name number)) (sym same) tt
turn_shows config (Open name dc) c d reply ts inv turns = tt
turn_shows config (Create name) c d reply ts inv turns = tt
turn_shows config (Delete name number) c d reply ts inv turns = tt
turn_shows config (Put name number key value) c d reply ts inv turns = tt
turn_shows config (Get name number keys) c d reply ts inv turns = tt
turn_shows config (Carry name dc shard to_dc) c d reply ts inv turns = tt
turn_shows config (Step name moment) c d reply ts inv turns = tt
turn_shows config (Done name moment) c d reply ts inv turns = tt
turn_shows config (Collect dc shard moment) c d reply ts inv turns = tt

-- ---- runs

module _ (config : TenantConfig) (some : 0 < config.shards) where
  showing_kept : IsKept config (IsShowing config)
  showing_kept = kept_both (traced_kept config some) (seeing_kept config)

  shown_from : (acts : List Act) (told : List Reply) (es : List Ended) (requests : Requests) (contexts : Contexts) (c d : SoloCluster) → AreContexts requests contexts → Knows contexts c → IsShowing config c (history_in es) →
      Goes config acts told c d → AreShown es requests acts told
  shown_from [] told es requests contexts c d are knows inv goes = tt
  shown_from (act ∷ acts) [] es requests contexts c d are knows inv goes = tt
  shown_from (act ∷ acts) (reply ∷ told) es requests contexts c d are knows inv (between, turns, goes) =
      let e = ended_told requests act reply in
      let ended : operation_ended c act reply ≡ option_map (λ (e : Ended). e.operation) e = sym (operation_same requests contexts act reply are ∙ turn_told config contexts act c between reply knows turns) in
      let now = subst (IsShowing config between) (ap (with_operation (history_in es)) ended ∙ sym (history_more es e)) (turn_keeps showing_kept act c between reply (history_in es) inv turns) in (
        turn_shows config act c between reply (history_in es) inv turns,
        shown_from acts told (es ++ cons_option e []) (requests_after act reply requests) (contexts_after act reply contexts) between d (contexts_still act reply requests contexts are)
            (turn_knows config contexts act c between reply knows turns) now goes,
      )

  pub lists_shown : (acts : List Act) (told : List Reply) (d : SoloCluster) → Goes config acts told (new_cluster config) d → ShowsTrueLists acts told
  lists_shown acts told d goes = shown_from acts told [] (λ name. None) (λ name. None) (new_cluster config) d (λ name. refl) tt (traced_at_first config, seeing_at_first config) goes

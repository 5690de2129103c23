-- Each get returned nothing older than what its data centre had shown as it started.
use Rattle.std.proofs.Common.{Bool, List, ℕ, [], ap, cond, false, inl, inr, map, not, refl, subst, sym, true, ◌&&◌, ◌++◌, ◌<◌, ◌==◌, ◌∙◌, ◌∷◌, ◌≡◌}
use Rattle.std.specs.Prelude.{Option, Some, None, find, is_some, length, max, nat_le, nat_lt}
use Rattle.std.specs.List.{cons_option, list_all, list_any}
use Rattle.std.specs.Option.{option_map}
use Rattle.cops_types.specs.declared.contexts.ReadParts.{ReadParts as Read}
use Rattle.cops_types.specs.declared.faults.Fault.{Fault}
use Rattle.cops_types.specs.declared.faults.Fault.TheVariants.{ActorsFull, BadKey, NameTaken, NoSuchPlace, OutOfMemory, Syntax, ValueTooLong}
use Rattle.cops_types.specs.declared.pairs.Pair.{Pair}
use Rattle.cops_types.specs.Context.{Observation, all_of, near_of}
use Rattle.cops_types.specs.Key.{is_key, key_eq}
use Rattle.cops_types.specs.Search.{first_refusal}
use Rattle.cops_types.specs.TenantConfig.{TenantConfig}
use Rattle.cops_types.specs.Value.{is_value}
use Rattle.cops_types.proofs.Elements.{Among, Among-cases, Among-map, Among-right, Every-weaker, and_true, map-Among, or_left}
use Rattle.cops_types.proofs.KeyTests.{key_eq-refl, key_eq-true}
use Rattle.cops_model.specs.declared.acts.Act.{Act}
use Rattle.cops_model.specs.declared.acts.Act.TheVariants.{Open, Create, Delete, Put, Get, Show, Carry, Step, Done, Collect}
use Rattle.cops_model.specs.declared.calls.NodeId.{NodeId}
use Rattle.cops_model.specs.declared.deliveries.Progress.{Progress as CarrierProgress}
use Rattle.cops_model.specs.declared.deliveries.Progress.TheVariants as carrier_progress
use Rattle.cops_model.specs.declared.replies.Reply.{Reply}
use Rattle.cops_model.specs.declared.replies.Reply.TheVariants.{Created, Deleted, Lists, Opened, Refused, Started}
use Rattle.cops_model.specs.declared.requests.Answer.{Answer}
use Rattle.cops_model.specs.declared.requests.Answer.TheVariants as answer_is
use Rattle.cops_model.specs.declared.requests.Progress.{Progress}
use Rattle.cops_model.specs.declared.requests.Progress.TheVariants as session_progress
use Rattle.cops_model.specs.Log.{LogStep}
use Rattle.cops_model.specs.Request.{Fetch, Write, answer, attempt_of}
use Rattle.cops_model.specs.Session.{OpenContext, Running, Session, context_created, context_deleted, context_extended, context_refusal, create_refusal, get_refusal, has_restarted, is_open, moment_at, new_session, obs_of, request_begun, request_of, seen_in, session_after, session_put_refusal, shown}
use Rattle.cops_model.specs.Session as session
use Rattle.cops_model.specs.Carrier.{Carrier, new_carrier, pair_of_entry}
use Rattle.cops_model.specs.Causal.{Effect, Returned, Traced, Wrote, effect_of, is_not_older, leads_to, past_after, put_by, stepped_actor}
use Rattle.cops_model.specs.Cluster.{ActEffect, Actor, NamedActor, OfCarrier, OfSession, SoloCluster, actor_refusal, actor_step, actor_steps, call_node, carrier_stepped, cluster_step, collect_at, find_actor, find_session, goes_on, has_node, has_stream, most_steps, new_cluster, on_session, reply_of_answer, reply_with, session_stepped, unless_refused, with_actor, with_new_actor}
use Rattle.cops_model.specs.Goes.{Goes, Turns}
use Rattle.cops_model.specs.Lacks.{Lacks, request_dropped}
use Rattle.cops_model.specs.Told.{Contexts, contexts_after}
use Rattle.cops_causal.specs.ClientLaws.{reads_in}
use Rattle.cops_causal.specs.Transcript.{Begun, Ended, Requests, ended_told, ended_with, history_in, requests_after}
use Rattle.cops_causal.specs.Views.{AreSeen, SeesShown, ShowsPasts, View, brought_by, first_view, view_after, view_with}
use Rattle.cops_causal.proofs.ActorsKeep.{EachActor, actor_found, each-with_actor, each-with_new, each-without, find_actor-with_actor, session_actor}
use Rattle.cops_causal.proofs.ActorSteps.{as_session, by_step, by_steps}
use Rattle.cops_causal.proofs.AfterActs.{step_goes_on}
use Rattle.cops_causal.proofs.AfterTurns.{by_lack, turn_keeps, turn_knows, turn_told}
use Rattle.cops_causal.proofs.ClosureSteps.{mine}
use Rattle.cops_causal.proofs.EndedOperations.{operation_ended}
use Rattle.cops_causal.proofs.FreshViews.{IsFreshSince, IsSince, called_fresh, fresh_answer, fresh_at_start, late_fresh, since_kept}
use Rattle.cops_causal.proofs.Histories.{Among-past_after, in_context, past_in}
use Rattle.cops_causal.proofs.Moves.{Both, IsKept, kept_both, may_join, none_there, passes, plain_answer, plain_carrier, with_operation}
use Rattle.cops_causal.proofs.ReadEntries.{stored_kept}
use Rattle.cops_causal.proofs.ShownLists.{history_more}
use Rattle.cops_causal.proofs.Sound.{IsSound, sound_at_first, sound_kept}
use Rattle.cops_causal.proofs.ToldHistories.{Knows, by_refusal, by_session}
use Rattle.cops_causal.proofs.ToldRequests.{AreBegun, AreContexts, IsBegunAs, contexts_still, operation_same, step_begun, turn_begun}
use Rattle.std.proofs.lemmas.Bool.Decides.{Decides-eqb}
use Rattle.cops_causal.proofs.Closure.{IsHere, home_in}
use Rattle.cops_causal.proofs.Provenance.{IsSession}
use Rattle.cops_causal.proofs.Answering.{RepliesAreFresh}
use Rattle.cops_causal.proofs.TracedSteps.{context_of}
use Rattle.cops_node.proofs.NodeTurns.{entries}
use Rattle.cops_causal.proofs.RequestSteps.{never_ended, none_runs, only_runs, run}
use Rattle.cops_causal.proofs.NodeEffects.{node_of}
use Rattle.cops_causal.proofs.TracedIdle.{session_of}
use Rattle.cops_causal.proofs.ToldPuts.{EndedParts, ended_parts, shown_answer}
use Rattle.cops_types.specs.Pairs.{holds}

-- ---- each session stays in its data centre

abbrev IsPlacedAt : (List ℕ → ℕ) → List ℕ → Actor → Type 0
IsPlacedAt dc_of name (OfSession s) = s.dc ≡ dc_of name
IsPlacedAt dc_of name (OfCarrier k) = Unit {0}

abbrev ArePlaced : (List ℕ → ℕ) → SoloCluster → Type 0
ArePlaced dc_of c = EachActor (IsPlacedAt dc_of) c

module _ (config : TenantConfig) (dc_of : List ℕ → ℕ) where
  module _ (name : List ℕ) where
    replaced_placed : (c : SoloCluster) (actor : Actor) → IsPlacedAt dc_of name actor → ArePlaced dc_of c → ArePlaced dc_of (with_actor name actor c)
    replaced_placed c actor new placed = each-with_actor (IsPlacedAt dc_of) (IsPlacedAt dc_of) c name actor new (λ other a apart h. h) placed

    after_placed : (s : Session) (running : Running) (step : LogStep) (shown : Progress) → s.dc ≡ dc_of name → (session_after s running step shown).dc ≡ dc_of name
    after_placed s running step session_progress.Working is = is
    after_placed s running step (session_progress.Restarted times) is = is
    after_placed s running step (session_progress.Done a) is = is

    stepped_placed : (c : SoloCluster) (s : Session) (running : Running) (step : LogStep) → find_actor name c ≡ Some (OfSession s) → ArePlaced dc_of c → ArePlaced dc_of (session_stepped config name s running step c).after
    stepped_placed c s running step found placed =
        let shown = session.progress config (request_of s running) running.log step in
        replaced_placed c (OfSession (session_after s running step shown)) (after_placed s running step shown (actor_found (IsPlacedAt dc_of) c name (OfSession s) placed found)) placed

    carrier_placed : (after : Carrier) (shown : CarrierProgress) (c : SoloCluster) → ArePlaced dc_of c → ArePlaced dc_of (carrier_stepped name after shown c).after
    carrier_placed after carrier_progress.Working c placed = replaced_placed c (OfCarrier after) tt placed
    carrier_placed after (carrier_progress.Done ending) c placed = each-without (IsPlacedAt dc_of) c name placed

    step_placed : (moment : ℕ) (c : SoloCluster) → ArePlaced dc_of c → ArePlaced dc_of (actor_step config name moment c).after
    step_placed moment c placed = by_step config name moment c (λ turn. ArePlaced dc_of turn.after) (record {
      unknown = placed;
      idle = placed;
      called = λ s running directed found runs is. stepped_placed (call_node config directed.node (moment_at moment s) directed.call c).after s running _ found placed;
      late = λ s running found runs is. stepped_placed c s running _ found placed;
      ended = λ s running a found runs is. placed;
      carrier_called = λ k directed found is. carrier_placed _ _ (call_node config directed.node (max k.moment moment) directed.call c).after placed;
      carrier_waits = λ k found is. placed;
      carrier_ended = λ k ending found is. placed;
    })

    steps_placed : (more : ℕ) (moment : ℕ) (c : SoloCluster) → ArePlaced dc_of c → ArePlaced dc_of (actor_steps more config name moment c).after
    steps_placed more moment c placed =
        by_steps config name moment (ArePlaced dc_of) (λ c turn. ArePlaced dc_of turn.after) (step_placed moment) (λ c placed goes. step_placed moment c placed) (λ c turn placed goes later. later) more c placed

    -- a session that changes
    changed_placed : (c : SoloCluster) (after : Session → Session) (reply : Session → Reply) (refusal : Session → Option Fault) → ((s : Session) → (after s).dc ≡ s.dc) → ArePlaced dc_of c →
        ArePlaced dc_of (on_session (find_session name c) c (λ s. unless_refused (refusal s) c (reply_with (reply s) (with_actor name (OfSession (after s)) c)))).after
    changed_placed c after reply refusal same placed =
        by_session (find_session name c) c (λ s. unless_refused (refusal s) c (reply_with (reply s) (with_actor name (OfSession (after s)) c))) (λ turn. ArePlaced dc_of turn.after) placed
        (λ s found. by_refusal (refusal s) c (reply_with (reply s) (with_actor name (OfSession (after s)) c)) (λ turn. ArePlaced dc_of turn.after) (λ fault. placed)
        (replaced_placed c (OfSession (after s)) (same s ∙ actor_found (IsPlacedAt dc_of) c name (OfSession s) placed (session_actor c name s found)) placed))

  lack_placed : (act : Act) (c d : SoloCluster) → ArePlaced dc_of c → Lacks config act c d → ArePlaced dc_of d
  lack_placed act = by_lack config (ArePlaced dc_of) act (λ name moment in_act. record {
    dropped = λ c s running found runs placed. replaced_placed name c (OfSession (request_dropped (moment_at moment s) s)) (actor_found (IsPlacedAt dc_of) c name (OfSession s) placed found) placed;
    read_dropped = λ c s running directed keys found runs fetches calls placed.
        replaced_placed name (call_node config directed.node (moment_at moment s) directed.call c).after (OfSession (request_dropped (moment_at moment s) s)) (actor_found (IsPlacedAt dc_of) c name (OfSession s) placed found) placed;
    carrier_dropped = λ c k found placed. each-without (IsPlacedAt dc_of) c name placed;
    goes = λ c placed goes. step_placed name moment c placed;
  })

-- ---- acts

-- what is known of the sessions
record Holds (config : TenantConfig) (view : View) (c : SoloCluster) : Type 0 where
  pub placed : ArePlaced view.dc_of c
  pub since : IsSince config view.dc_of view.since c []

-- what a data centre has shown is there
abbrev ShownAreHere : TenantConfig → View → SoloCluster → Type 0
ShownAreHere config view c = (dc : ℕ) (p : Pair) → Among p (view.shown dc) → IsHere config c dc p

abbrev view_opened : List ℕ → ℕ → View → View
view_opened name dc view = view_after (Open name dc) Opened view

abbrev view_started : List ℕ → ℕ → List (List ℕ) → View → View
view_started name number keys view = view_after (Get name number keys) Started view

-- no actor has a name under which none is found
unnamed : (name : List ℕ) (actors : List NamedActor) → option_map (λ (a : NamedActor). a.actor) (find (λ (a : NamedActor). key_eq a.name name) actors) ≡ None → (a : NamedActor) → Among a actors → key_eq a.name name ≡ false
unnamed name [] none a there = absurd there
unnamed name (b ∷ actors) none a there =
    elim (key_eq b.name name) as (λ t. key_eq b.name name ≡ t → option_map (λ (a : NamedActor). a.actor) (cond t (Some b) (find (λ (a : NamedActor). key_eq a.name name) actors)) ≡ None → key_eq a.name name ≡ false) [
      | true ↦ λ is e. cc
      | false ↦ λ is e. elim there [
        | inl same ↦ subst (λ (x : NamedActor). key_eq x.name name ≡ false) same is
        | inr later ↦ unnamed name actors e a later
      ]
    ] refl none

module _ (config : TenantConfig) (view : View) where
  -- the history does not matter
  any_history : (dc_of : List ℕ → ℕ) (since : List ℕ → List Pair) (c : SoloCluster) (ts us : List Traced) → IsSince config dc_of since c ts → IsSince config dc_of since c us
  any_history dc_of since c ts us is =
      record {
        nodes = is.nodes;
        actors = Every-weaker (λ (a : NamedActor). IsFreshSince config dc_of since c.nodes ts a.name a.actor) (λ (a : NamedActor). IsFreshSince config dc_of since c.nodes us a.name a.actor) c.actors (λ a there fresh. same a.name a.actor fresh) is.actors;
      }
    where
      same : (name : List ℕ) (a : Actor) → IsFreshSince config dc_of since c.nodes ts name a → IsFreshSince config dc_of since c.nodes us name a
      same name (OfSession s) fresh = fresh
      same name (OfCarrier k) fresh = tt

  module _ (c : SoloCluster) (held : Holds config view c) where
    -- a session opens
    opened : (name : List ℕ) (dc : ℕ) → find_actor name c ≡ None → Holds config (view_after (Open name dc) Opened view) (with_new_actor name (OfSession (new_session dc 1)) c)
    opened name dc free =
        record {
          placed = each-with_new (IsPlacedAt (view_opened name dc view).dc_of) c name (OfSession (new_session dc 1)) (rw (key_eq-refl name) refl)
              (Every-weaker (λ (a : NamedActor). IsPlacedAt view.dc_of a.name a.actor) (λ (a : NamedActor). IsPlacedAt (view_opened name dc view).dc_of a.name a.actor) c.actors (λ a there is. placed_still a.name a.actor (unnamed name c.actors free a there) is) held.placed);
          since = record {
            nodes = λ other p among. here other (key_eq other name) refl p among;
            actors = each-with_new (IsFreshSince config (view_opened name dc view).dc_of (view_opened name dc view).since c.nodes []) c name (OfSession (new_session dc 1)) (λ at_home. none_runs (λ (r : Running). RepliesAreFresh ((view_opened name dc view).since name) r.action r.log) None refl)
                (Every-weaker (λ (a : NamedActor). IsFreshSince config view.dc_of view.since c.nodes [] a.name a.actor) (λ (a : NamedActor). IsFreshSince config (view_opened name dc view).dc_of (view_opened name dc view).since c.nodes [] a.name a.actor) c.actors
                (λ a there is. fresh_still a.name a.actor (unnamed name c.actors free a there) is) held.since.actors);
          };
        }
      where
        placed_still : (other : List ℕ) (a : Actor) → key_eq other name ≡ false → IsPlacedAt view.dc_of other a → IsPlacedAt (view_opened name dc view).dc_of other a
        placed_still other (OfSession s) apart is = rw apart is
        placed_still other (OfCarrier k) apart is = tt

        fresh_still : (other : List ℕ) (a : Actor) → key_eq other name ≡ false → IsFreshSince config view.dc_of view.since c.nodes [] other a → IsFreshSince config (view_opened name dc view).dc_of (view_opened name dc view).since c.nodes [] other a
        fresh_still other (OfSession s) apart is = rw apart is
        fresh_still other (OfCarrier k) apart is = tt

        here : (other : List ℕ) (b : Bool) → key_eq other name ≡ b → (p : Pair) → Among p (cond (key_eq other name) [] (view.since other)) → IsHere config c (cond (key_eq other name) dc (view.dc_of other)) p
        here other true is p among = absurd (subst (λ b. Among p (cond b [] (view.since other))) is among)
        here other false is p among = rw is (held.since.nodes other p (subst (λ b. Among p (cond b [] (view.since other))) is among))

    -- a get starts
    started : ShownAreHere config view c → (name : List ℕ) (number : ℕ) (keys : List (List ℕ)) (s : Session) → find_session name c ≡ Some s → get_refusal config number keys s ≡ None →
        Holds config (view_after (Get name number keys) Started view) (with_actor name (OfSession (request_begun number (Fetch keys) s)) c)
    started shown name number keys s found ok =
        record {
          placed = replaced_placed config view.dc_of name c (OfSession (request_begun number (Fetch keys) s)) (actor_found (IsPlacedAt view.dc_of) c name (OfSession s) held.placed (session_actor c name s found)) held.placed;
          since = record {
            nodes = λ other p among. here other (key_eq other name) refl p among;
            actors = each-with_actor (IsFreshSince config view.dc_of view.since c.nodes []) (IsFreshSince config view.dc_of (view_started name number keys view).since c.nodes []) c name (OfSession (request_begun number (Fetch keys) s))
                (λ at_home. only_runs (λ (r : Running). RepliesAreFresh ((view_started name number keys view).since name) r.action r.log) (run s.next_request number (Fetch keys) []) (fresh_at_start config s number keys ((view_started name number keys view).since name) ok))
                fresh_still held.since.actors;
          };
        }
      where
        fresh_still : (other : List ℕ) (a : Actor) → key_eq other name ≡ false → IsFreshSince config view.dc_of view.since c.nodes [] other a → IsFreshSince config view.dc_of (view_started name number keys view).since c.nodes [] other a
        fresh_still other (OfSession r) apart is = rw apart is
        fresh_still other (OfCarrier k) apart is = tt

        here : (other : List ℕ) (b : Bool) → key_eq other name ≡ b → (p : Pair) → Among p (cond (key_eq other name) (view.shown (view.dc_of name)) (view.since other)) → IsHere config c (view.dc_of other) p
        here other true is p among =
            subst (λ n. IsHere config c (view.dc_of n) p) (sym (key_eq-true other name is)) (shown (view.dc_of name) p (subst (λ b. Among p (cond b (view.shown (view.dc_of name)) (view.since other))) is among))
        here other false is p among = held.since.nodes other p (subst (λ b. Among p (cond b (view.shown (view.dc_of name)) (view.since other))) is among)

-- ---- turns

lack_view : (act : Act) (view : View) → view_after act (Refused OutOfMemory) view ≡ view
lack_view (Open name dc) view = refl
lack_view (Create name) view = refl
lack_view (Delete name number) view = refl
lack_view (Put name number key value) view = refl
lack_view (Get name number keys) view = refl
lack_view (Show name number) view = refl
lack_view (Carry name dc shard to_dc) view = refl
lack_view (Step name moment) view = refl
lack_view (Done name moment) view = refl
lack_view (Collect dc shard moment) view = refl

shown_same : (act : Act) (reply : Reply) (view : View) (dc : ℕ) → (view_after act reply view).shown dc ≡ view.shown dc
shown_same (Open name at) Opened view dc = refl
shown_same (Get name number keys) Started view dc = refl
shown_same act reply view dc = refl

module _ (config : TenantConfig) (some : 0 < config.shards) (view : View) where
  keeps_since : IsKept config (Both (IsSound config) (IsSince config view.dc_of view.since))
  keeps_since = kept_both (sound_kept config some) (since_kept config view.dc_of view.since some)

  same_view : (act : Act) (c d : SoloCluster) (reply : Reply) (us : List Traced) → IsSound config c us → Holds config view c → Turns config act c reply d → ArePlaced view.dc_of d → Holds config view d
  same_view act c d reply us sound held turns placed =
      record {
        placed = placed;
        since = any_history config view view.dc_of view.since d (with_operation us (operation_ended c act reply)) []
            (turn_keeps keeps_since act c d reply us (sound, any_history config view view.dc_of view.since c [] us held.since) turns).1;
      }

  abbrev ViewAfter : Act → ActEffect → Type 0
  ViewAfter act turn = Holds config (view_after act turn.reply view) turn.after

  module _ (c : SoloCluster) (us : List Traced) (sound : IsSound config c us) (held : Holds config view c) (shown : ShownAreHere config view c) where
    whole : (act : Act) → ArePlaced view.dc_of (cluster_step config act c).after → Holds config view (cluster_step config act c).after
    whole act placed = same_view act c (cluster_step config act c).after (cluster_step config act c).reply us sound held (inl (refl, refl)) placed

    act_view : (act : Act) → ViewAfter act (cluster_step config act c)
    act_view (Open name dc) =
        passes (actor_refusal config (nat_lt dc config.data_centres) name c) c (reply_with Opened (with_new_actor name (OfSession (new_session dc 1)) c)) (ViewAfter (Open name dc)) (λ fault. held) (λ ok.
        let free = may_join (nat_lt dc config.data_centres) (is_some (find_actor name c)) (nat_le config.quota.actors (length c.actors)) NoSuchPlace NameTaken ActorsFull ok in
        opened config view c held name dc (none_there (find_actor name c) free.1))
    act_view (Create name) = whole (Create name) (changed_placed config view.dc_of name c context_created (λ s. Created s.next_context) (create_refusal config) (λ s. refl) held.placed)
    act_view (Delete name number) = whole (Delete name number) (changed_placed config view.dc_of name c (context_deleted number) (λ s. Deleted) (context_refusal number) (λ s. refl) held.placed)
    act_view (Put name number key value) =
        let asked : Session → ActEffect = λ s. unless_refused (session_put_refusal config number key s) c (reply_with Started (with_actor name (OfSession (request_begun number (Write key value) s)) c)) in
        whole (Put name number key value)
        (by_refusal (first_refusal ((not (is_key key), BadKey) ∷ (not (is_value value), ValueTooLong) ∷ [])) c (on_session (find_session name c) c asked) (λ turn. ArePlaced view.dc_of turn.after) (λ fault. held.placed)
        (changed_placed config view.dc_of name c (request_begun number (Write key value)) (λ s. Started) (session_put_refusal config number key) (λ s. refl) held.placed))
    act_view (Get name number keys) =
        let G : ActEffect → Type 0 = ViewAfter (Get name number keys) in
        let starts : Session → ActEffect = λ s. reply_with Started (with_actor name (OfSession (request_begun number (Fetch keys) s)) c) in
        let asked : Session → ActEffect = λ s. unless_refused (get_refusal config number keys s) c (starts s) in
        by_refusal (first_refusal ((nat_lt (length keys) 1, Syntax) ∷ (not (list_all is_key keys), BadKey) ∷ [])) c (on_session (find_session name c) c asked) G (λ fault. held)
        (by_session (find_session name c) c asked G held
        (λ s found. passes (get_refusal config number keys s) c (starts s) G (λ fault. held) (λ ok. started config view c held shown name number keys s found ok)))
    act_view (Show name number) =
        let shows : Session → ActEffect = λ s. reply_with (Lists (all_of (obs_of number s)) (near_of (obs_of number s))) c in
        whole (Show name number)
        (by_session (find_session name c) c (λ s. unless_refused (context_refusal number s) c (shows s)) (λ turn. ArePlaced view.dc_of turn.after) held.placed
        (λ s found. by_refusal (context_refusal number s) c (shows s) (λ turn. ArePlaced view.dc_of turn.after) (λ fault. held.placed) held.placed))
    act_view (Carry name dc shard to_dc) =
        let carrier : Actor = OfCarrier (new_carrier (record { origin = record { dc = dc; shard = shard }; to_dc = to_dc })) in
        whole (Carry name dc shard to_dc)
        (by_refusal (actor_refusal config (has_stream config dc shard to_dc) name c) c (reply_with Started (with_new_actor name carrier c)) (λ turn. ArePlaced view.dc_of turn.after) (λ fault. held.placed)
        (each-with_new (IsPlacedAt view.dc_of) c name carrier tt held.placed))
    act_view (Step name moment) = whole (Step name moment) (step_placed config view.dc_of name moment c held.placed)
    act_view (Done name moment) = whole (Done name moment) (steps_placed config view.dc_of name (most_steps config) moment c held.placed)
    act_view (Collect dc shard moment) =
        let id : NodeId = record { dc = dc; shard = shard } in
        whole (Collect dc shard moment)
        (by_refusal (first_refusal ((not (has_node config dc shard), NoSuchPlace) ∷ [])) c (collect_at config id moment c) (λ turn. ArePlaced view.dc_of turn.after) (λ fault. held.placed) held.placed)

  turn_view : (act : Act) (c d : SoloCluster) (reply : Reply) (us : List Traced) → IsSound config c us → Holds config view c → ShownAreHere config view c → Turns config act c reply d → Holds config (view_after act reply view) d
  turn_view act c d reply us sound held shown (inl (same, left)) =
      subst (Holds config (view_after act reply view)) (sym left) (subst (λ r. Holds config (view_after act r view) (cluster_step config act c).after) (sym same) (act_view c us sound held shown act))
  turn_view act c d reply us sound held shown (inr (same, lacks)) =
      subst (λ r. Holds config (view_after act r view) d) (sym same)
      (subst (λ v. Holds config v d) (sym (lack_view act view)) (same_view act c d reply us sound held (inr (same, lacks)) (lack_placed config view.dc_of act c d held.placed lacks)))

-- ---- the operation that a turn ends

-- a context stays open as it sees more
open_first : (n : ℕ) (x y : OpenContext) (contexts others : List OpenContext) → y.number ≡ x.number →
    (is_some (find (λ (c : OpenContext). c.number == n) contexts) ≡ true → is_some (find (λ (c : OpenContext). c.number == n) others) ≡ true) →
    is_some (find (λ (c : OpenContext). c.number == n) (x ∷ contexts)) ≡ true → is_some (find (λ (c : OpenContext). c.number == n) (y ∷ others)) ≡ true
open_first n x y contexts others same later e =
    subst (λ k. is_some (cond (k == n) (Some y) (find (λ (c : OpenContext). c.number == n) others)) ≡ true) (sym same) (by_test (x.number == n) e)
  where
    by_test : (b : Bool) → is_some (cond b (Some x) (find (λ (c : OpenContext). c.number == n) contexts)) ≡ true → is_some (cond b (Some y) (find (λ (c : OpenContext). c.number == n) others)) ≡ true
    by_test true e = refl
    by_test false e = later e

same_number : (more : List Observation) (x : OpenContext) (b : Bool) → (cond {A = OpenContext} b (record { number = x.number; obs = x.obs ++ more }) x).number ≡ x.number
same_number more x true = refl
same_number more x false = refl

open_extended : (n m : ℕ) (more : List Observation) (contexts : List OpenContext) → is_some (find (λ (c : OpenContext). c.number == n) contexts) ≡ true → is_some (find (λ (c : OpenContext). c.number == n) (context_extended m more contexts)) ≡ true
open_extended n m more [] e = e
open_extended n m more (x ∷ contexts) e =
    open_first n x (cond (x.number == m) (record { number = x.number; obs = x.obs ++ more }) x) contexts (context_extended m more contexts) (same_number more x (x.number == m)) (open_extended n m more contexts) e

module _ (config : TenantConfig) (some : 0 < config.shards) (requests : Requests) (view : View) where
  abbrev Ready : SoloCluster → Type 0
  Ready c = AreBegun requests c × Holds config view c × ((us : List Traced) × IsSound config c us)

  -- it read nothing older than what its data centre had shown, and its context is still open
  record EndsView (name : List ℕ) (effect : Effect) (d : SoloCluster) : Type 0 where
    pub begun : Begun
    pub known : requests name ≡ Some begun
    pub session : Session
    pub found : find_actor name d ≡ Some (OfSession session)
    pub opened : is_open begun.context session ≡ true
    pub sees : list_all (is_not_older (view.since name)) (reads_in effect) ≡ true

  abbrev EndsTurn : List ℕ → ActEffect → Type 0
  EndsTurn name turn = (effect : Effect) → effect_of turn.reply ≡ Some effect → EndsView name effect turn.after

  none_ends : {A : Type 0} (o : Option Effect) (effect : Effect) → o ≡ None → o ≡ Some effect → A
  none_ends o effect none is = absurd (let both : None ≡ Some effect = sym none ∙ is in let no : ⊥ = cc in no)

  module _ (name : List ℕ) (moment : ℕ) where
    sees_by : (past : List Pair) (effect : Effect) (a : Answer) → ((reads : List Read) → a ≡ answer_is.Values reads → list_all (is_not_older past) reads ≡ true) → effect_of (reply_of_answer a) ≡ Some effect → list_all (is_not_older past) (reads_in effect) ≡ true
    sees_by past (Wrote pair) a fresh e = refl
    sees_by past (Returned reads) (answer_is.Values rs) fresh e = let same : rs ≡ reads = cc in fresh reads (ap answer_is.Values same)
    sees_by past (Returned reads) (answer_is.Stored pair) fresh e = cc
    sees_by past (Returned reads) (answer_is.Refused fault) fresh e = cc

    ended : (c after : SoloCluster) → Ready c → find_actor name after ≡ find_actor name c → (s : Session) (running : Running) (step : LogStep) → find_actor name c ≡ Some (OfSession s) → s.running ≡ Some running →
        (us : List Traced) → IsSession config us name s → RepliesAreFresh (view.since name) running.action (running.log ++ step ∷ []) → EndsTurn name (session_stepped config name s running step after)
    ended c after ready same s running step found runs us this fresh effect e =
        let o = answer config (request_of s running) (running.log ++ step ∷ []) in
        let restarted = has_restarted running.action running.log step in
        let times = (attempt_of running.action (running.log ++ step ∷ [])).restarts in
        let shows = shown_answer o restarted times effect e in
        let next = session_after s running step (session.progress config (request_of s running) running.log step) in
        record {
          begun = record { context = running.context; asked = running.action };
          known = actor_found (IsBegunAs requests) c name (OfSession s) ready.0 found running runs;
          session = next;
          found = find_actor-with_actor name (OfSession next) (OfSession s) after (same ∙ found);
          opened = subst (λ shown. is_open running.context (session_after s running step shown) ≡ true) (sym (ap (λ x. shown x restarted times) shows.1))
              (open_extended running.context running.context (seen_in shows.0) s.contexts (this.running_is running runs).in_open);
          sees = sees_by (view.since name) effect shows.0 (λ reads is. fresh_answer config s (view.since name) running (running.log ++ step ∷ []) reads fresh (shows.1 ∙ ap Some is)) shows.2;
        }

    step_ends : (c : SoloCluster) → Ready c → EndsTurn name (actor_step config name moment c)
    step_ends c ready =
        let us = ready.2.0 in
        let sound = ready.2.1 in
        let since = any_history config view view.dc_of view.since c [] us ready.1.since in
        let placed : (s : Session) → find_actor name c ≡ Some (OfSession s) → s.dc ≡ view.dc_of name = λ s found. actor_found (IsPlacedAt view.dc_of) c name (OfSession s) ready.1.placed found in
        let this : (s : Session) → find_actor name c ≡ Some (OfSession s) → IsSession config us name s = λ s found. session_of config c us sound.traced name s (as_session name c s found) in
        by_step config name moment c (EndsTurn name) (record {
          unknown = λ effect e. none_ends None effect refl e;
          idle = λ effect e. none_ends None effect refl e;
          called = λ s running directed found runs is.
              ended c (call_node config directed.node (moment_at moment s) directed.call c).after ready refl s running _ found runs us (this s found)
              (called_fresh config view.dc_of view.since some c us sound since name s (as_session name c s found) (placed s found) running (moment_at moment s) directed runs is);
          late = λ s running found runs is.
              ended c c ready refl s running _ found runs us (this s found)
              (late_fresh config view.dc_of view.since some c us sound since name s (as_session name c s found) (placed s found) running (moment_at moment s) runs is);
          ended = λ s running a found runs is effect e. absurd (never_ended config us name s (this s found) running (moment_at moment s) a runs is);
          carrier_called = λ k directed found is effect e. none_ends _ effect (plain_carrier name _ _ (call_node config directed.node (max k.moment moment) directed.call c).after) e;
          carrier_waits = λ k found is effect e. none_ends None effect refl e;
          carrier_ended = λ k ending found is effect e. none_ends _ effect (plain_answer ending) e;
        })

    goes_ready : (c : SoloCluster) → Ready c → goes_on (actor_step config name moment c).reply ≡ true → Ready (actor_step config name moment c).after
    goes_ready c ready goes =
        let us = ready.2.0 in
        let kept = step_goes_on (keeps_since config some view) c us name moment (ready.2.1, any_history config view view.dc_of view.since c [] us ready.1.since) goes in (
          step_begun config requests name moment c ready.0,
          record { placed = step_placed config view.dc_of name moment c ready.1.placed; since = any_history config view view.dc_of view.since (actor_step config name moment c).after us [] kept.1 },
          (us, kept.0),
        )

    steps_end : (more : ℕ) (c : SoloCluster) → Ready c → EndsTurn name (actor_steps more config name moment c)
    steps_end = by_steps config name moment Ready (λ c turn. EndsTurn name turn) step_ends goes_ready (λ c turn ready goes later. later)

  act_ends : (act : Act) (c : SoloCluster) → Ready c → (name : List ℕ) → stepped_actor act ≡ Some name → EndsTurn name (cluster_step config act c)
  act_ends (Step other moment) c ready name is = let same : other ≡ name = cc in subst (λ n. EndsTurn n (actor_step config other moment c)) same (step_ends other moment c ready)
  act_ends (Done other moment) c ready name is = let same : other ≡ name = cc in subst (λ n. EndsTurn n (actor_steps (most_steps config) config other moment c)) same (steps_end other moment (most_steps config) c ready)
  act_ends (Open other dc) c ready name is = cc
  act_ends (Create other) c ready name is = cc
  act_ends (Delete other number) c ready name is = cc
  act_ends (Put other number key value) c ready name is = cc
  act_ends (Get other number keys) c ready name is = cc
  act_ends (Show other number) c ready name is = cc
  act_ends (Carry other dc shard to_dc) c ready name is = cc
  act_ends (Collect dc shard moment) c ready name is = cc

  turn_ends : (act : Act) (c d : SoloCluster) (reply : Reply) → Ready c → Turns config act c reply d → (name : List ℕ) (effect : Effect) → stepped_actor act ≡ Some name → effect_of reply ≡ Some effect → EndsView name effect d
  turn_ends act c d reply ready (inl (same, left)) name effect steps ends = subst (EndsView name effect) (sym left) (act_ends act c ready name steps effect (ap effect_of (sym same) ∙ ends))
  turn_ends act c d reply ready (inr (same, lacks)) name effect steps ends = none_ends None effect refl (ap effect_of (sym same) ∙ ends)

-- ---- runs

module _ (config : TenantConfig) (some : 0 < config.shards) where
  holds_with : (view : View) (history : List Traced) (e : Option Ended) (c : SoloCluster) → Holds config view c → Holds config (view_with history e view) c
  holds_with view history None c held = held
  holds_with view history (Some e) c held = record { placed = held.placed; since = held.since }

  here_stays : (act : Act) (c d : SoloCluster) (reply : Reply) (us : List Traced) → IsSound config c us → Turns config act c reply d → (dc : ℕ) (p : Pair) → IsHere config c dc p → IsHere config d dc p
  here_stays act c d reply us sound turns dc p here =
      let n = home_in config dc p.key in
      let found = map-Among pair_of_entry p (entries (node_of config c n)) here in
      let later = (turn_keeps (stored_kept config some n found.0) act c d reply us (sound, found.1) turns).1 in
      subst (λ q. Among q (map pair_of_entry (entries (node_of config d n)))) found.2 (Among-map pair_of_entry found.0 (entries (node_of config d n)) later)

  -- what an operation put, and its past, is in its data centre
  brought_here : (requests : Requests) (view now : View) (d : SoloCluster) (us : List Traced) (name : List ℕ) (effect : Effect) (begun : Begun) → EndsView config some requests view name effect d → requests name ≡ Some begun →
      ArePlaced now.dc_of d → let o = (ended_with name effect begun).operation in IsSound config d (with_operation us (Some o)) → (p : Pair) → Among p (brought_by us o) → IsHere config d (now.dc_of name) p
  brought_here requests view now d us name effect begun ends known placed sound p there =
      let o = (ended_with name effect begun).operation in
      let t : Traced = record { operation = o; past = past_after us o } in
      let one : ends.begun ≡ begun = (let both : Some ends.begun ≡ Some begun = sym ends.known ∙ known in cc) in
      let opened = subst (λ (b : Begun). is_open b.context ends.session ≡ true) one ends.opened in
      let x = context_of ends.session begun.context opened in
      let leads : leads_to o (in_context name begun.context) ≡ true = or_left (key_eq name name && begun.context == begun.context) (list_any (holds []) (put_by effect)) (and_true (key_eq name name) (begun.context == begun.context) (key_eq-refl name) ((Decides-eqb begun.context begun.context).1 refl)) in
      let past = Among-past_after (us ++ t ∷ []) (in_context name begun.context) p t (Among-right t us (t ∷ []) (inl refl)) leads there in
      let here = (mine config d (us ++ t ∷ []) sound.closed name ends.session (as_session name d ends.session ends.found)).contexts_here x.0 x.1 p (subst (λ n. Among p (past_in (us ++ t ∷ []) name n)) (sym x.2) past) in
      subst (λ dc. IsHere config d dc p) (actor_found (IsPlacedAt now.dc_of) d name (OfSession ends.session) placed ends.found) here

  views_from : (acts : List Act) (told : List Reply) (es : List Ended) (requests : Requests) (contexts : Contexts) (view : View) (c d : SoloCluster) → AreContexts requests contexts → Knows contexts c → AreBegun requests c → Holds config view c →
      ShownAreHere config view c → IsSound config c (history_in es) → Goes config acts told c d → AreSeen es requests view acts told
  views_from [] told es requests contexts view c d are knows begun held shown sound goes = tt
  views_from (act ∷ acts) [] es requests contexts view c d are knows begun held shown sound goes = tt
  views_from (act ∷ acts) (reply ∷ told) es requests contexts view c d are knows begun held shown sound (between, turns, goes) = (
    sees e refl,
    views_from acts told (es ++ cons_option e []) (requests_after act reply requests) (contexts_after act reply contexts) (view_with us e now) between d (contexts_still act reply requests contexts are)
        (turn_knows config contexts act c between reply knows turns) (turn_begun config requests act c between reply begun turns) (holds_with now us e between held_now) (shown_now e refl)
        (subst (IsSound config between) (sym (history_more es e)) sound_now) goes,
  )
    where
      us : List Traced
      us = history_in es

      e : Option Ended
      e = ended_told requests act reply

      now : View
      now = view_after act reply view

      ready : Ready config some requests view c
      ready = (begun, held, (us, sound))

      same_operation : operation_ended c act reply ≡ option_map (λ (e : Ended). e.operation) e
      same_operation = sym (operation_same requests contexts act reply are ∙ turn_told config contexts act c between reply knows turns)

      sound_now : IsSound config between (with_operation us (option_map (λ (e : Ended). e.operation) e))
      sound_now = subst (λ o. IsSound config between (with_operation us o)) same_operation (turn_keeps (sound_kept config some) act c between reply us sound turns)

      held_now : Holds config now between
      held_now = turn_view config some view act c between reply us sound held shown turns

      ends_view : (x : Ended) → e ≡ Some x → (parts : EndedParts config some requests act reply x) → EndsView config some requests view parts.name parts.effect between
      ends_view x is parts = turn_ends config some requests view act c between reply ready turns parts.name parts.effect parts.steps parts.ends

      sees : (o : Option Ended) → e ≡ o → SeesShown view o
      sees None is = tt
      sees (Some x) is =
          let parts = ended_parts config some requests act reply x is in
          subst (λ (y : Ended). list_all (is_not_older (view.since y.operation.session)) (reads_in y.operation.effect) ≡ true) parts.same (ends_view x is parts).sees

      still : (dc : ℕ) (p : Pair) → Among p (now.shown dc) → IsHere config between dc p
      still dc p there = here_stays act c between reply us sound turns dc p (shown dc p (subst (Among p) (shown_same act reply view dc) there))

      shown_now : (o : Option Ended) → e ≡ o → ShownAreHere config (view_with us o now) between
      shown_now None is = still
      shown_now (Some x) is = λ dc p there. by_dc (dc == now.dc_of x.operation.session) dc refl p there
        where
          brought : (p : Pair) → Among p (brought_by us x.operation) → IsHere config between (now.dc_of x.operation.session) p
          brought =
              let parts = ended_parts config some requests act reply x is in
              let sound_x : IsSound config between (with_operation us (Some x.operation)) = subst (λ o. IsSound config between (with_operation us (option_map (λ (e : Ended). e.operation) o))) is sound_now in
              let view_x = ends_view x is parts in
              subst (λ (y : Ended). IsSound config between (with_operation us (Some y.operation)) → (p : Pair) → Among p (brought_by us y.operation) → IsHere config between (now.dc_of y.operation.session) p) parts.same
              (λ sound_y. brought_here requests view now between us parts.name parts.effect parts.begun view_x parts.known held_now.placed sound_y) sound_x

          by_dc : (b : Bool) (dc : ℕ) → (dc == now.dc_of x.operation.session) ≡ b → (p : Pair) → Among p (cond (dc == now.dc_of x.operation.session) (now.shown dc ++ brought_by us x.operation) (now.shown dc)) → IsHere config between dc p
          by_dc true dc same p there =
              elim (Among-cases p (now.shown dc) (brought_by us x.operation) (subst (λ b. Among p (cond b (now.shown dc ++ brought_by us x.operation) (now.shown dc))) same there)) [
                | inl old ↦ still dc p old
                | inr new ↦ subst (λ n. IsHere config between n p) (sym ((Decides-eqb dc (now.dc_of x.operation.session)).0 same)) (brought p new)
              ]
          by_dc false dc apart p there = still dc p (subst (λ b. Among p (cond b (now.shown dc ++ brought_by us x.operation) (now.shown dc))) apart there)

  pub pasts_shown : (acts : List Act) (told : List Reply) (d : SoloCluster) → Goes config acts told (new_cluster config) d → ShowsPasts acts told
  pasts_shown acts told d goes =
      views_from acts told [] (λ name. None) (λ name. None) first_view (new_cluster config) d (λ name. refl) tt tt (record { placed = tt; since = record { nodes = λ name p there. absurd there; actors = tt } }) (λ dc p there. absurd there)
      (sound_at_first config some) goes

-- Each put of a transcript is an entry with the value that was asked for, and a get returned the keys that it was asked for.
use Rattle.std.proofs.Common.{◌≡◌, ℕ, ◌<◌, Bool, true, false, List, [], ◌∷◌, ◌++◌, map, inl, inr, refl, sym, ◌∙◌, ap, subst, arith}
use Rattle.std.proofs.lemmas.Bool.Decides.{nat_tests}
use Rattle.std.specs.Prelude.{Option, Some, None, drop, find, length, max, nat_lt, unwrap_or}
use Rattle.std.specs.List.{AllByRecursion, cons_option}
use Rattle.std.specs.Option.{option_and_then, option_map}
use Rattle.cops_types.specs.declared.contexts.ReadParts.{ReadParts as Read}
use Rattle.cops_types.specs.declared.pairs.Pair.{Pair}
use Rattle.cops_types.specs.declared.records.EntryParts.{EntryParts as Entry}
use Rattle.cops_types.specs.Context.{all_of, near_of}
use Rattle.cops_types.specs.Key.{key_eq}
use Rattle.cops_types.specs.Pairs.{greatest_clock}
use Rattle.cops_types.specs.Records.{clock}
use Rattle.cops_types.specs.TenantConfig.{TenantConfig}
use Rattle.cops_types.proofs.Elements.{Among, Among-find, Among-right}
use Rattle.cops_types.proofs.KeyTests.{key_eq-true}
use Rattle.cops_types.proofs.PairSets.{at}
use Rattle.cops_model.specs.declared.acts.Act.{Act}
use Rattle.cops_model.specs.declared.acts.Act.TheVariants.{Open, Create, Delete, Put, Get, Show, Carry, Step, Done, Collect}
use Rattle.cops_model.specs.declared.calls.NodeCall.TheVariants as node_call
use Rattle.cops_model.specs.declared.calls.NodeReply.{NodeReply}
use Rattle.cops_model.specs.declared.calls.NodeReply.TheVariants.{Found}
use Rattle.cops_model.specs.declared.replies.Reply.{Reply}
use Rattle.cops_model.specs.declared.requests.Answer.{Answer}
use Rattle.cops_model.specs.declared.requests.Answer.TheVariants as answer_is
use Rattle.cops_model.specs.Log.{Call, Directed, Late, LogStep, Replied, Restart}
use Rattle.cops_model.specs.Place.{node_number, own_number, place_of}
use Rattle.cops_model.specs.Request.{Action, Fetch, Write, answer, attempt_of, key_home, next}
use Rattle.cops_model.specs.Session.{Running, Session, has_restarted, moment_at, obs_of, request_of, shown}
use Rattle.cops_model.specs.Session as session
use Rattle.cops_model.specs.SoloNode.{SoloNode}
use Rattle.cops_model.specs.Transaction.{last_read, outdated, read_of, reads_of}
use Rattle.cops_model.specs.Carrier.{pair_of_entry}
use Rattle.cops_model.specs.Causal.{Effect, Returned, Traced, Wrote, effect_of, stepped_actor}
use Rattle.cops_model.specs.Cluster.{ActEffect, OfSession, SoloCluster, actor_step, actor_steps, call_node, cluster_step, find_actor, find_session, most_steps, new_cluster, reply_of_answer, reply_of_progress}
use Rattle.cops_model.specs.Goes.{Goes, Turns}
use Rattle.cops_node.proofs.NodeTurns.{Answers, Change, IsRefused, Joined, Taken, entries}
use Rattle.cops_session.proofs.RequestReplies.{call_of, get-answer, put-refused, put-stored, replies_in}
use Rattle.cops_causal.specs.Transcript.{Begun, Ended, Requests, ended_told, ended_with, requests_after, transcript, transcript_from}
use Rattle.cops_causal.proofs.ActorsKeep.{actor_found, bare}
use Rattle.cops_causal.proofs.ActorSteps.{as_session, by_step, by_steps}
use Rattle.cops_causal.proofs.AfterActs.{step_goes_on}
use Rattle.cops_causal.proofs.AfterTurns.{turn_keeps}
use Rattle.cops_causal.proofs.EndedOperations.{operation_ended}
use Rattle.cops_causal.proofs.Moves.{plain_answer, plain_carrier, with_operation}
use Rattle.cops_causal.proofs.NodeEffects.{call_changes, node_of}
use Rattle.cops_causal.proofs.Provenance.{IsSession}
use Rattle.cops_causal.proofs.ReadEntries.{IsIssued, IsStored, stored_kept}
use Rattle.cops_causal.proofs.RequestSteps.{by_call, by_late, never_ended, put_sent, run}
use Rattle.cops_causal.proofs.Sound.{IsSound, sound_at_first, sound_kept}
use Rattle.cops_causal.proofs.TracedCalls.{home-there, next-above}
use Rattle.cops_causal.proofs.TracedIdle.{session_of}
use Rattle.cops_causal.proofs.ToldRequests.{AreBegun, IsBegunAs, step_begun, turn_begun}

-- ---- the keys of an answer

read_key : (key : List ℕ) (reply : NodeReply) → (read_of key reply).key ≡ key
read_key key (Found f) = refl
read_key key reply = refl

first_keys : (keys : List (List ℕ)) (rs : List NodeReply) → nat_lt (length rs) (length keys) ≡ false → map (λ (r : Read). r.key) (reads_of keys rs) ≡ keys
first_keys [] rs all = refl
first_keys (key ∷ keys) [] all = absurd (grind (arith, nat_tests))
first_keys (key ∷ keys) (r ∷ rs) all = let fewer : nat_lt (length rs) (length keys) ≡ false = grind (arith, nat_tests) in λ i. read_key key r i ∷ first_keys keys rs fewer i

last_key : (later : List Read) (read : Read) → (last_read later read).key ≡ read.key
last_key later read = by_found (find (λ (r : Read). key_eq r.key read.key) later) refl
  where
    by_found : (o : Option Read) → find (λ (r : Read). key_eq r.key read.key) later ≡ o → (unwrap_or o read).key ≡ read.key
    by_found None is = refl
    by_found (Some r) is = key_eq-true r.key read.key (Among-find (λ (r : Read). key_eq r.key read.key) r later is).1

last_keys : (later reads : List Read) → map (λ (r : Read). r.key) (map (last_read later) reads) ≡ map (λ (r : Read). r.key) reads
last_keys later [] = refl
last_keys later (read ∷ reads) = λ i. last_key later read i ∷ last_keys later reads i

-- ---- the words

module _ (config : TenantConfig) where
  -- the pair is an entry with this value, at the node that issued it
  pub record IsStoredAs (nodes : List SoloNode) (pair : Pair) (value : List ℕ) : Type 0 where
    pub entry : Entry
    pub issued : IsIssued config nodes entry
    pub pair_is : pair_of_entry entry ≡ pair
    pub value_is : entry.value ≡ value

  -- what ended so is what was asked for
  abbrev pub EndsAs : List SoloNode → Action → Effect → Type 0
  EndsAs nodes (Write key value) (Wrote pair) = (pair.key ≡ key) × IsStoredAs nodes pair value
  EndsAs nodes (Fetch keys) (Returned reads) = map (λ (r : Read). r.key) reads ≡ keys
  EndsAs nodes action effect = ⊥

  abbrev pub AreEndedAs : List SoloNode → List Ended → Type 0
  AreEndedAs nodes es = AllByRecursion (λ (e : Ended). EndsAs nodes e.asked e.operation.effect) es

  abbrev AnswersAs : List SoloNode → Action → Answer → Type 0
  AnswersAs nodes action a = (effect : Effect) → effect_of (reply_of_answer a) ≡ Some effect → EndsAs nodes action effect

-- ---- a step

module _ (config : TenantConfig) (some : 0 < config.shards) (c : SoloCluster) (ts : List Traced) (inv : IsSound config c ts) (name : List ℕ) (s : Session) (found : find_session name c ≡ Some s) where
  abbrev this : IsSession config ts name s
  this = session_of config c ts inv.traced name s found

  abbrev Answering : List SoloNode → Running → LogStep → Type 0
  Answering nodes running step = (a : Answer) → answer config (request_of s running) (running.log ++ step ∷ []) ≡ Some a → AnswersAs config nodes running.action a

  put_answers : (context : ℕ) (key value : List ℕ) (moment : ℕ) (nodes : List SoloNode) (reply : NodeReply) (after : SoloNode) →
      let id = key_home config s.dc key in
      let solo = node_of config c (node_number config.shards id) in
      Change (place_of config id) (node_call.Put key value (all_of (obs_of context s)) (near_of (obs_of context s))) solo reply after →
      ((e : Entry) → Among e (entries after) → e.version.node ≡ node_number config.shards id → IsIssued config nodes e) →
      Answering nodes (run 0 context (Write key value) []) (record { moment = moment; outcome = Replied reply })
  put_answers context key value moment nodes reply after (IsRefused same acked is) there a e effect ends =
      let answer_to : NodeReply → Option Answer = λ r. answer config (record { dc = s.dc; obs = obs_of context s; action = Write key value }) (record { moment = moment; outcome = Replied r } ∷ []) in
      let one : answer_is.Refused is.0 ≡ a = (let both : Some (answer_is.Refused is.0) ≡ Some a = sym (ap answer_to is.1 ∙ put-refused config s.dc (obs_of context s) key value moment is.0) ∙ e in cc) in
      absurd (let none : None ≡ Some effect = ap (λ (x : Answer). effect_of (reply_of_answer x)) one ∙ ends in let no : ⊥ = cc in no)
  put_answers context key value moment nodes reply after (Joined f more acked is) there a e effect ends =
      let id = key_home config s.dc key in
      let solo = node_of config c (node_number config.shards id) in
      let answer_to : NodeReply → Option Answer = λ r. answer config (record { dc = s.dc; obs = obs_of context s; action = Write key value }) (record { moment = moment; outcome = Replied r } ∷ []) in
      let pair = at key is.0 in
      let one : answer_is.Stored pair ≡ a = (let both : Some (answer_is.Stored pair) ≡ Some a = sym (ap answer_to is.1 ∙ put-stored config s.dc (obs_of context s) key value moment is.0) ∙ e in cc) in
      let wrote : Wrote pair ≡ effect = (let both : Some (Wrote pair) ≡ Some effect = ap (λ (x : Answer). effect_of (reply_of_answer x)) one ∙ ends in cc) in
      let own : f.version.node ≡ node_number config.shards id = ap (λ (g : Entry). g.version.node) is.3 ∙ (next-above (clock config.first_clock solo.recs) (greatest_clock (all_of (obs_of context s))) (own_number (place_of config id)) is.0 is.2).1 in
      let among : Among f (entries after) = subst (Among f) (sym more) (Among-right f (entries solo) (f ∷ []) (inl refl)) in
      subst (EndsAs config nodes (Write key value)) wrote (refl, record { entry = f; issued = there f among own; pair_is = ap pair_of_entry is.3; value_is = ap (λ (g : Entry). g.value) is.3 })
  put_answers context key value moment nodes reply after (Answers same acked is) there a e effect ends = absurd is
  put_answers context key value moment nodes reply after (Taken same is) there a e effect ends = absurd is

  get_answers : (nodes : List SoloNode) (number context : ℕ) (keys : List (List ℕ)) (log : List LogStep) (step : LogStep) → Answering nodes (run number context (Fetch keys) log) step
  get_answers nodes number context keys log step (answer_is.Stored pair) e effect ends = absurd (get-answer config s.dc (obs_of context s) keys (log ++ step ∷ []) (answer_is.Stored pair) e)
  get_answers nodes number context keys log step (answer_is.Refused fault) e effect ends = cc
  get_answers nodes number context keys log step (answer_is.Values reads) e effect ends =
      let follows = get-answer config s.dc (obs_of context s) keys (log ++ step ∷ []) (answer_is.Values reads) e in
      let rs = replies_in keys (log ++ step ∷ []) in
      let returned : Returned reads ≡ effect = cc in
      subst (EndsAs config nodes (Fetch keys)) returned (ap (map (λ (r : Read). r.key)) follows.0 ∙ last_keys (reads_of (map (λ (read : Read). read.key) (outdated (reads_of keys rs))) (drop (length keys) rs)) (reads_of keys rs) ∙ first_keys keys rs follows.1)

  called_answers : (running : Running) (moment : ℕ) (directed : Directed) → s.running ≡ Some running → next config (request_of s running) running.log moment ≡ Call directed →
      let call = call_node config directed.node moment directed.call c in Answering call.after.nodes running (record { moment = moment; outcome = Replied call.reply })
  called_answers = by_call config ts name s this
      (λ running moment directed. let call = call_node config directed.node moment directed.call c in Answering call.after.nodes running (record { moment = moment; outcome = Replied call.reply }))
      (λ number context key value moment runs is.
      let sent = put_sent config s context key value in
      let call = call_node config sent.node moment sent.call c in
      let n = node_number config.shards sent.node in
      let called = call_changes config c sent.node moment sent.call (home-there config s.dc key some this.placed) inv.traced.sized in
      put_answers context key value moment call.after.nodes call.reply (node_of config call.after n) called.change (λ f among own. subst (λ m. Among f (entries (node_of config call.after m))) (sym own) among))
      (λ number context keys log moment q runs is place e.
      let sent = call_of config s.dc q in
      let call = call_node config sent.node moment sent.call c in
      get_answers call.after.nodes number context keys log (record { moment = moment; outcome = Replied call.reply }))

  late_answers : (running : Running) (moment : ℕ) → s.running ≡ Some running → next config (request_of s running) running.log moment ≡ Restart → Answering c.nodes running (record { moment = moment; outcome = Late })
  late_answers = by_late config ts name s this (λ running moment. Answering c.nodes running (record { moment = moment; outcome = Late }))
      (λ number context keys log moment runs is. get_answers c.nodes number context keys log (record { moment = moment; outcome = Late }))

-- what a step shows is its answer, if it ends an operation
pub shown_answer : (o : Option Answer) (restarted : Bool) (times : ℕ) (effect : Effect) → effect_of (reply_of_progress (shown o restarted times)) ≡ Some effect → (a : Answer) × (o ≡ Some a) × (effect_of (reply_of_answer a) ≡ Some effect)
shown_answer (Some a) restarted times effect e = (a, refl, e)
shown_answer None true times effect e = cc
shown_answer None false times effect e = cc

-- ---- steps of an actor whose request is known

module _ (config : TenantConfig) (some : 0 < config.shards) (requests : Requests) where
  abbrev Ready : SoloCluster → Type 0
  Ready c = AreBegun requests c × ((us : List Traced) × IsSound config c us)

  -- the operation that a turn ends is what the session's last request asks for
  abbrev EndsTurn : List ℕ → ActEffect → Type 0
  EndsTurn name turn = (effect : Effect) → effect_of turn.reply ≡ Some effect → (begun : Begun) × (requests name ≡ Some begun) × EndsAs config turn.after.nodes begun.asked effect

  none_ends : {A : Type 0} (o : Option Effect) (effect : Effect) → o ≡ None → o ≡ Some effect → A
  none_ends o effect none is = absurd (let both : None ≡ Some effect = sym none ∙ is in let no : ⊥ = cc in no)

  module _ (name : List ℕ) (moment : ℕ) where
    step_ends : (c : SoloCluster) → Ready c → EndsTurn name (actor_step config name moment c)
    step_ends c ready = by_step config name moment c (EndsTurn name) (record {
      unknown = λ effect e. none_ends None effect refl e;
      idle = λ effect e. none_ends None effect refl e;
      called = λ s running directed found runs is.
          let call = call_node config directed.node (moment_at moment s) directed.call c in
          answered s running (record { moment = moment_at moment s; outcome = Replied call.reply }) found runs call.after.nodes (called_answers config some c ready.1.0 ready.1.1 name s (as_session name c s found) running (moment_at moment s) directed runs is);
      late = λ s running found runs is. answered s running (record { moment = moment_at moment s; outcome = Late }) found runs c.nodes (late_answers config some c ready.1.0 ready.1.1 name s (as_session name c s found) running (moment_at moment s) runs is);
      ended = λ s running a found runs is effect e.
          absurd (never_ended config ready.1.0 name s (session_of config c ready.1.0 ready.1.1.traced name s (as_session name c s found)) running (moment_at moment s) a runs is);
      carrier_called = λ k directed found is effect e. none_ends _ effect (plain_carrier name _ _ (call_node config directed.node (max k.moment moment) directed.call c).after) e;
      carrier_waits = λ k found is effect e. none_ends None effect refl e;
      carrier_ended = λ k ending found is effect e. none_ends _ effect (plain_answer ending) e;
    })
      where
        answered : (s : Session) (running : Running) (step : LogStep) → find_actor name c ≡ Some (OfSession s) → s.running ≡ Some running → (nodes : List SoloNode) →
            ((a : Answer) → answer config (request_of s running) (running.log ++ step ∷ []) ≡ Some a → AnswersAs config nodes running.action a) →
            (effect : Effect) → effect_of (reply_of_progress (session.progress config (request_of s running) running.log step)) ≡ Some effect →
            (begun : Begun) × (requests name ≡ Some begun) × EndsAs config nodes begun.asked effect
        answered s running step found runs nodes ends effect e =
            let shows = shown_answer (answer config (request_of s running) (running.log ++ step ∷ [])) (has_restarted running.action running.log step) (attempt_of running.action (running.log ++ step ∷ [])).restarts effect e in
            (record { context = running.context; asked = running.action }, actor_found (IsBegunAs requests) c name (OfSession s) ready.0 found running runs, ends shows.0 shows.1 effect shows.2)

    steps_end : (more : ℕ) (c : SoloCluster) → Ready c → EndsTurn name (actor_steps more config name moment c)
    steps_end = by_steps config name moment Ready (λ c turn. EndsTurn name turn) step_ends
        (λ c ready goes. (step_begun config requests name moment c ready.0, (ready.1.0, step_goes_on (sound_kept config some) c ready.1.0 name moment ready.1.1 goes))) (λ c turn ready goes later. later)

  act_ends : (act : Act) (c : SoloCluster) → Ready c → (name : List ℕ) → stepped_actor act ≡ Some name → EndsTurn name (cluster_step config act c)
  act_ends (Step other moment) c ready name is = let same : other ≡ name = cc in subst (λ n. EndsTurn n (actor_step config other moment c)) same (step_ends other moment c ready)
  act_ends (Done other moment) c ready name is = let same : other ≡ name = cc in subst (λ n. EndsTurn n (actor_steps (most_steps config) config other moment c)) same (steps_end other moment (most_steps config) c ready)
  act_ends (Open other dc) c ready name is = cc
  act_ends (Create other) c ready name is = cc
  act_ends (Delete other number) c ready name is = cc
  act_ends (Put other number key value) c ready name is = cc
  act_ends (Get other number keys) c ready name is = cc
  act_ends (Show other number) c ready name is = cc
  act_ends (Carry other dc shard to_dc) c ready name is = cc
  act_ends (Collect dc shard moment) c ready name is = cc

  -- ---- turns

  pub record EndedParts (act : Act) (reply : Reply) (e : Ended) : Type 0 where
    pub name : List ℕ
    pub effect : Effect
    pub begun : Begun
    pub steps : stepped_actor act ≡ Some name
    pub ends : effect_of reply ≡ Some effect
    pub known : requests name ≡ Some begun
    pub same : ended_with name effect begun ≡ e

  pub ended_parts : (act : Act) (reply : Reply) (e : Ended) → ended_told requests act reply ≡ Some e → EndedParts act reply e
  ended_parts act reply e is = by_effect (effect_of reply) refl is
    where
      by_request : (name : List ℕ) (effect : Effect) (o : Option Begun) → requests name ≡ o → stepped_actor act ≡ Some name → effect_of reply ≡ Some effect → option_map (ended_with name effect) o ≡ Some e → EndedParts act reply e
      by_request name effect None known steps ends is = cc
      by_request name effect (Some begun) known steps ends is = record { name = name; effect = effect; begun = begun; steps = steps; ends = ends; known = known; same = cc }

      by_actor : (effect : Effect) (o : Option (List ℕ)) → stepped_actor act ≡ o → effect_of reply ≡ Some effect → option_and_then (λ session. option_map (ended_with session effect) (requests session)) o ≡ Some e → EndedParts act reply e
      by_actor effect None steps ends is = cc
      by_actor effect (Some name) steps ends is = by_request name effect (requests name) refl steps ends is

      by_effect : (o : Option Effect) → effect_of reply ≡ o → option_and_then (λ effect. option_and_then (λ session. option_map (ended_with session effect) (requests session)) (stepped_actor act)) o ≡ Some e → EndedParts act reply e
      by_effect None ends is = cc
      by_effect (Some effect) ends is = by_actor effect (stepped_actor act) refl ends is

  turn_ends : (act : Act) (c d : SoloCluster) (reply : Reply) → Ready c → Turns config act c reply d → (e : Ended) → ended_told requests act reply ≡ Some e → EndsAs config d.nodes e.asked e.operation.effect
  turn_ends act c d reply ready (inl (same, left)) e is =
      let parts = ended_parts act reply e is in
      let ends = act_ends act c ready parts.name parts.steps parts.effect (ap effect_of (sym same) ∙ parts.ends) in
      let one : ends.0 ≡ parts.begun = (let both : Some ends.0 ≡ Some parts.begun = sym ends.1 ∙ parts.known in cc) in
      subst (λ (x : Ended). EndsAs config d.nodes x.asked x.operation.effect) parts.same
      (subst (λ (b : Begun). EndsAs config d.nodes b.asked parts.effect) one (subst (λ (y : SoloCluster). EndsAs config y.nodes ends.0.asked parts.effect) (sym left) ends.2))
  turn_ends act c d reply ready (inr (same, lacks)) e is = absurd (let none : None ≡ Some e = ap (ended_told requests act) (sym same) ∙ is in let no : ⊥ = cc in no)

-- ---- runs

module _ (config : TenantConfig) (some : 0 < config.shards) where
  ends-grown : (nodes more : List SoloNode) → ((n : ℕ) (x : Entry) → Among x (entries (node_of config (bare nodes) n)) → Among x (entries (node_of config (bare more) n))) →
      (action : Action) (effect : Effect) → EndsAs config nodes action effect → EndsAs config more action effect
  ends-grown nodes more grows (Write key value) (Wrote pair) is =
      (is.0, record { entry = is.1.entry; issued = grows is.1.entry.version.node is.1.entry is.1.issued; pair_is = is.1.pair_is; value_is = is.1.value_is })
  ends-grown nodes more grows (Fetch keys) (Returned reads) is = is
  ends-grown nodes more grows (Write key value) (Returned reads) is = absurd is
  ends-grown nodes more grows (Fetch keys) (Wrote pair) is = absurd is

  -- an entry stays to the end
  stays : (n : ℕ) (x : Entry) (acts : List Act) (told : List Reply) (c d : SoloCluster) (us : List Traced) → IsStored config some n x c us → Goes config acts told c d → Among x (entries (node_of config d n))
  stays n x [] [] c d us is same = subst (λ (y : SoloCluster). Among x (entries (node_of config y n))) (sym same) is.1
  stays n x [] (reply ∷ told) c d us is goes = absurd goes
  stays n x (act ∷ acts) [] c d us is goes = absurd goes
  stays n x (act ∷ acts) (reply ∷ told) c d us is (between, turns, goes) =
      stays n x acts told between d (with_operation us (operation_ended c act reply)) (turn_keeps (stored_kept config some n x) act c between reply us is turns) goes

  each_joined : (P : Ended → Type 0) (o : Option Ended) (es : List Ended) → ((e : Ended) → o ≡ Some e → P e) → AllByRecursion P es → AllByRecursion P (cons_option o es)
  each_joined P None es first rest = rest
  each_joined P (Some e) es first rest = (first e refl, rest)

  ended_as_asked : (acts : List Act) (told : List Reply) (requests : Requests) (c d : SoloCluster) (us : List Traced) → AreBegun requests c → IsSound config c us → Goes config acts told c d →
      AreEndedAs config d.nodes (transcript_from acts told requests)
  ended_as_asked [] told requests c d us begun sound goes = tt
  ended_as_asked (act ∷ acts) [] requests c d us begun sound goes = tt
  ended_as_asked (act ∷ acts) (reply ∷ told) requests c d us begun sound (between, turns, goes) =
      let later = with_operation us (operation_ended c act reply) in
      let now = turn_keeps (sound_kept config some) act c between reply us sound turns in
      each_joined (λ (e : Ended). EndsAs config d.nodes e.asked e.operation.effect) (ended_told requests act reply) (transcript_from acts told (requests_after act reply requests))
      (λ e is. ends-grown between.nodes d.nodes (λ n x among. stays n x acts told between d later (now, among) goes) e.asked e.operation.effect (turn_ends config some requests act c between reply (begun, (us, sound)) turns e is))
      (ended_as_asked acts told (requests_after act reply requests) between d later (turn_begun config requests act c between reply begun turns) now goes)

  -- each operation of the transcript ended as it was asked for
  pub transcript_ends : (acts : List Act) (told : List Reply) (d : SoloCluster) → Goes config acts told (new_cluster config) d → AreEndedAs config d.nodes (transcript acts told)
  transcript_ends acts told d goes = ended_as_asked acts told (λ name. None) (new_cluster config) d [] tt (sound_at_first config some) goes

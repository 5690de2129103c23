-- All that was done is a list of acts.
use Rattle.std.proofs.Common.{◌≡◌, ℕ, zero, suc, ◌+◌, ◌*◌, ◌≤◌, ◌<◌, true, false, cond, ◌==◌, List, [], ◌∷◌, ◌++◌, map, length, refl, sym, ◌∙◌, ap, subst, arith}
use Rattle.std.specs.Prelude.{Option, None, filter, replicate}
use Rattle.std.specs.List.{flat_map}
use Rattle.std.proofs.lemmas.Bool.Decides.{Decides-eqb}
use Rattle.std.proofs.lemmas.List.{map-append}
use Rattle.cops_types.specs.TenantConfig.{TenantConfig}
use Rattle.cops_model.specs.declared.replies.Reply.{Reply}
use Rattle.cops_model.specs.SoloNode.{SoloNode, new_node}
use Rattle.cops_model.specs.Cluster.{Actor, SoloCluster, new_cluster}
use Rattle.cops_model.specs.Goes.{Goes}
use Rattle.cops_causal.proofs.Runs.{goes_spared}
use Rattle.cops_causal.proofs.TurnCausality.{all_are_causal}
use Rattle.cops_history.specs.Turns.{Turn, IsLegalAtEach, IsRun, all_new, left_of, node_numbered, nodes_after_turn, nodes_left, turns_at}
use Rattle.cops_history.specs.Commands.{Command, Opens, Creates, Deletes, Puts, Gets, Begins, StepsLate, Steps, StepsUnread, Carries, Collects, Does, act_of, turn_made_by}
use Rattle.cops_history.specs.History.{Logged, Told, Done, Behaves, IsHistory, AreActs, AreActsOfDefinition, HaveAmpleMemory, acts_of, done_by, logged_by, turns, turns_made, with_actors}
use Rattle.cops_types.specs.Key.{key_eq}
use Rattle.cops_types.proofs.KeyTests.{key_eq-true, key_eq-refl}
use Rattle.cops_history.proofs.Actors.{Locals, Stands, with_local, with_local-all}
use Rattle.cops_history.proofs.Merging.{Merged, merge}
use Rattle.cops_history.proofs.Moving.{Moved, command_leads}
use Rattle.cops_history.proofs.Running.{left_at_each, run_of_legal}

-- ---- a run in two parts

run_parts : (config : TenantConfig) (prefix later : List Turn) (nodes : List SoloNode) → IsRun config (prefix ++ later) nodes → IsRun config prefix nodes × IsRun config later (nodes_left config prefix nodes)
run_parts config [] later nodes run = (tt, run)
run_parts config (t ∷ prefix) later nodes run =
    let parts = run_parts config prefix later (nodes_after_turn config t nodes) run.2 in ((run.0, run.1, parts.0), parts.1)

left_parts : (config : TenantConfig) (prefix later : List Turn) (nodes : List SoloNode) → nodes_left config (prefix ++ later) nodes ≡ nodes_left config later (nodes_left config prefix nodes)
left_parts config [] later nodes = refl
left_parts config (t ∷ prefix) later nodes = left_parts config prefix later (nodes_after_turn config t nodes)

turns_again : (seat : ℕ) (ts : List Turn) → turns (map (λ t. record { seat = seat; turn = t }) ts) ≡ ts
turns_again seat [] = refl
turns_again seat (t ∷ ts) = ap (λ us. t ∷ us) (turns_again seat ts)

-- what the log of an order has are the turns that were made in it
turns_logged : (owner : List ℕ → ℕ) (order : List Done) → turns (flat_map (logged_by owner) order) ≡ turns_made order
turns_logged owner [] = refl
turns_logged owner (d ∷ order) =
    map-append (λ (l : Logged). l.turn) (logged_by owner d) (flat_map (logged_by owner) order) ∙ (λ i. turns_again (owner d.actor) (turn_made_by d.told.command) i ++ turns_logged owner order i)

-- the commands of an actor are among those of its seat
by_owner : (owner : List ℕ → ℕ) (name : List ℕ) (order : List Done) → done_by name (filter (λ d. owner d.actor == owner name) order) ≡ done_by name order
by_owner owner name [] = refl
by_owner owner name (d ∷ order) = elim (key_eq d.actor name) as (λ b. key_eq d.actor name ≡ b → done_by name (filter (λ d. owner d.actor == owner name) (d ∷ order)) ≡ done_by name (d ∷ order)) [
  | true ↦ λ same.
      let at : d.actor ≡ name = key_eq-true d.actor name same in
      let here : (owner d.actor == owner name) ≡ true = (Decides-eqb (owner d.actor) (owner name)).1 (ap owner at) in
      let ih : d.told ∷ done_by name (filter (λ d. owner d.actor == owner name) order) ≡ d.told ∷ done_by name order = ap (λ ts. d.told ∷ ts) (by_owner owner name order) in
      rw here (rw same ih)
  | false ↦ λ apart.
      elim (owner d.actor == owner name) as (λ b. done_by name (cond b (d ∷ filter (λ d. owner d.actor == owner name) order) (filter (λ d. owner d.actor == owner name) order)) ≡ done_by name (d ∷ order)) [
        | true ↦ rw apart (by_owner owner name order)
        | false ↦ rw apart (by_owner owner name order)
      ]
] refl

-- ---- all that was done

-- the acts are a run with these replies, which leaves these nodes
record Acted (config : TenantConfig) (order : List Done) (nodes : List SoloNode) (c : SoloCluster) : Type 0 where
  pub after : SoloCluster
  pub goes : Goes config (acts_of order) (map (λ d. d.told.reply) order) c after
  pub left : after.nodes ≡ nodes_left config (turns_made order) nodes

acted : (config : TenantConfig) (order : List Done) (count : ℕ) (locals : Locals) (nodes : List SoloNode) (c : SoloCluster) → count + length order ≤ config.quota.actors → Stands count locals nodes c →
    ((actor : List ℕ) → Behaves config (locals actor) (done_by actor order)) → IsRun config (turns_made order) nodes → Acted config order nodes c
acted config [] count locals nodes c room stands behave run = record { after = c; goes = refl; left = stands.nodes_are }
acted config (d ∷ order) count locals nodes c room stands behave run =
    let own : Behaves config (locals d.actor) (d.told ∷ done_by d.actor order) =
    let same : key_eq d.actor d.actor ≡ true = key_eq-refl d.actor in
    let at : done_by d.actor (d ∷ order) ≡ d.told ∷ done_by d.actor order = rw same refl in
    subst (Behaves config (locals d.actor)) at (behave d.actor) in
    let new : Option Actor = own.0 in
    let parts : IsRun config (turn_made_by d.told.command) nodes × IsRun config (turns_made order) (nodes_left config (turn_made_by d.told.command) nodes) =
    run_parts config (turn_made_by d.told.command) (turns_made order) nodes run in
    let moved : Moved (suc count) (with_local d.actor own.0 locals) (nodes_left config (turn_made_by d.told.command) nodes) config (act_of d.actor d.told.command) c d.told.reply = command_leads config count locals nodes c stands d.actor d.told.command d.told.reply own.0 (omega (arith, room)) own.1 parts.0 in
    let later : (actor : List ℕ) → Behaves config (with_local d.actor own.0 locals actor) (done_by actor order) =
    with_local-all (λ o actor. Behaves config o (done_by actor order)) d.actor own.0 locals own.2
    (λ other apart. let at : done_by other (d ∷ order) ≡ done_by other order = rw apart refl in subst (Behaves config (locals other)) at (behave other)) in
    let rest : Acted config order (nodes_left config (turn_made_by d.told.command) nodes) moved.after =
    acted config order (suc count) (with_local d.actor own.0 locals) (nodes_left config (turn_made_by d.told.command) nodes) moved.after (omega (arith, room)) moved.stands later parts.1 in
    record {
      after = rest.after;
      goes = (moved.after, moved.turns, rest.goes);
      left = rest.left ∙ sym (left_parts config (turn_made_by d.told.command) (turns_made order) nodes);
    }

-- ---- with room for all

-- with room for more actors an actor does the same
does_with_room : (count : ℕ) (config : TenantConfig) (old : Option Actor) (command : Command) (reply : Reply) (new : Option Actor) → Does config old command reply new → Does (with_actors count config) old command reply new
does_with_room count config old (Opens dc) reply new does = does
does_with_room count config old Creates reply new does = does
does_with_room count config old (Deletes number) reply new does = does
does_with_room count config old (Puts number key value) reply new does = does
does_with_room count config old (Gets number keys) reply new does = does
does_with_room count config old (Begins stream) reply new does = does
does_with_room count config old (StepsLate given) reply new does = does
does_with_room count config old (Steps given t) reply new does = does
does_with_room count config old (StepsUnread given t) reply new (s, running, old_is, runs, is, at, (keys, fetches, ends), reply_is, new_is) =
    (s, running, old_is, runs, is, at, (keys, fetches, record { same_attempt = ends.same_attempt; is_read = ends.is_read }), reply_is, new_is)
does_with_room count config old (Carries given t) reply new does = does
does_with_room count config old (Collects t) reply new does = does

behaves_with_room : (count : ℕ) (config : TenantConfig) (old : Option Actor) (did : List Told) → Behaves config old did → Behaves (with_actors count config) old did
behaves_with_room count config old [] behaves = tt
behaves_with_room count config old (t ∷ did) behaves = (behaves.0, does_with_room count config old t.command t.reply behaves.0 behaves.1, behaves_with_room count config behaves.0 did behaves.2)

length_all : (n : ℕ) (solo : SoloNode) → length (replicate n solo) ≡ n
length_all zero solo = refl
length_all (suc n) solo = ap suc (length_all n solo)

pub are_acts : (config : TenantConfig) (log : List Logged) (seats : ℕ) (owner : List ℕ → ℕ) (did : ℕ → List Done) → 0 < config.shards → IsHistory config log seats owner did → AreActs config log owner did
are_acts config log seats owner did some history =
    let merged : Merged owner log did = merge owner seats log did history.make history.few history.own in
    let order : List Done = merged.order in
    let roomy : TenantConfig = with_actors (length merged.order) config in
    let run : IsRun config (turns log) (all_new config) = run_of_legal config (turns log) (all_new config) (length_all (config.data_centres * config.shards) (new_node config.data_centres)) history.legal in
    let made : turns log ≡ turns_made merged.order = ap turns (sym merged.logged) ∙ turns_logged owner merged.order in
    let here : IsRun (with_actors (length merged.order) config) (turns_made merged.order) (all_new config) = subst (λ ts. IsRun config ts (all_new config)) made run in
    let all : Acted (with_actors (length merged.order) config) merged.order (all_new config) (new_cluster config) =
    acted (with_actors (length merged.order) config) merged.order 0 (λ actor. None) (all_new config) (new_cluster config) (omega arith)
    (record { nodes_are = refl; actors_are = λ actor. refl; few = omega arith })
    (λ name.
    let done : done_by name (did (owner name)) ≡ done_by name merged.order = ap (done_by name) (sym (merged.each (owner name))) ∙ by_owner owner name merged.order in
    subst (Behaves (with_actors (length merged.order) config) None) done (behaves_with_room (length merged.order) config None (done_by name (did (owner name))) (history.behave name))) here in
    record {
      order = merged.order;
      each = merged.each;
      logged = merged.logged;
      room = length merged.order;
      run = record {
        left = all.after;
        goes = all.goes;
        causal = all_are_causal roomy some (acts_of merged.order) (map (λ (d : Done). d.told.reply) merged.order) all.after all.goes;
      };
      nodes = all.left ∙ ap (λ ts. nodes_left config ts (all_new config)) (sym made);
    }

pub of_definition : (config : TenantConfig) (log : List Logged) (owner : List ℕ → ℕ) (did : ℕ → List Done) → (acts : AreActs config log owner did) → HaveAmpleMemory acts.order → AreActsOfDefinition config log acts.order acts.room
of_definition config log owner did acts spared =
    let roomy : TenantConfig = with_actors acts.room config in
    let same = goes_spared roomy (acts_of acts.order) (map (λ (d : Done). d.told.reply) acts.order) (new_cluster roomy) acts.run.left acts.run.goes spared in
    record { told = same.0; nodes = ap (λ (c : SoloCluster). c.nodes) (sym same.1) ∙ acts.nodes }

-- the nodes of a legal log, one by one
pub left_by_turns : (config : TenantConfig) (log : List Logged) (number : ℕ) → IsLegalAtEach config (all_new config) (turns log) →
    node_numbered config number (nodes_left config (turns log) (all_new config)) ≡ left_of config (node_numbered config number (all_new config)) (turns_at config number (turns log))
left_by_turns config log number legal =
    let long : length (all_new config) ≡ config.data_centres * config.shards = length_all (config.data_centres * config.shards) (new_node config.data_centres) in
    left_at_each config (turns log) (all_new config) number long (run_of_legal config (turns log) (all_new config) long legal)

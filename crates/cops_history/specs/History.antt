-- A log of turns with the commands of its actors, and the list of acts that it is.
use Rattle.std.specs.Prelude.{◌≡◌, ℕ, suc, ◌==◌, ◌≤◌, List, [], ◌∷◌, ◌++◌, map, filter, Option, None}
use Rattle.std.specs.List.{AllByRecursion, flat_map}
use Rattle.cops_types.specs.Key.{key_eq}
use Rattle.cops_types.specs.TenantConfig.{TenantConfig}
use Rattle.cops_model.specs.declared.acts.Act.{Act}
use Rattle.cops_model.specs.declared.replies.Reply.{Reply}
use Rattle.cops_model.specs.Cluster.{Actor}
use Rattle.cops_model.specs.Events.{IsSpared, cluster_of, solo_replies}
use Rattle.cops_model.specs.MainTheorem.{IsCausalRun}
use Rattle.cops_history.specs.Turns.{Turn, IsLegalAtEach, all_new, nodes_left}
use Rattle.cops_history.specs.Commands.{Command, Does, act_of, turn_made_by}

-- ---- the premise

-- a turn with the seat that made it
pub record Logged : Type 0 where
  pub seat : ℕ
  pub turn : Turn

-- a command with its reply
pub record Told : Type 0 where
  pub command : Command
  pub reply : Reply

-- a command with its reply and the name of its actor
pub record Done : Type 0 where
  pub actor : List ℕ
  pub told : Told

abbrev pub turns : List Logged → List Turn
turns log = map (λ l. l.turn) log

-- the turns of one seat, in order
abbrev pub turns_by : ℕ → List Logged → List Turn
turns_by seat log = map (λ l. l.turn) (filter (λ l. l.seat == seat) log)

-- the turns that these commands made
abbrev pub turns_made : List Done → List Turn
turns_made did = flat_map (λ d. turn_made_by d.told.command) did

-- the commands of one actor, in order
abbrev pub done_by : List ℕ → List Done → List Told
done_by name order = map (λ d. d.told) (filter (λ d. key_eq d.actor name) order)

-- each command in turn has the effect that the definition of the actor gives it
abbrev pub Behaves : TenantConfig → Option Actor → List Told → Type 0
Behaves config old [] = Unit {0}
Behaves config old (t ∷ did) = (new : Option Actor) × Does config old t.command t.reply new × Behaves config new did

-- A log of one tenant's turns at the nodes of a cluster. It is legal at each node, and the turns of each seat are those of the commands of its actors.
-- Each actor belongs to one seat.
pub record IsHistory (config : TenantConfig) (log : List Logged) (seats : ℕ) (owner : List ℕ → ℕ) (did : ℕ → List Done) : Type 0 where
  pub legal : IsLegalAtEach config (all_new config) (turns log)
  pub behave : (name : List ℕ) → Behaves config None (done_by name (did (owner name)))
  pub own : (seat : ℕ) → AllByRecursion (λ (d : Done). owner d.actor ≡ seat) (did seat)
  pub make : (seat : ℕ) → turns_made (did seat) ≡ turns_by seat log
  pub few : (seat : ℕ) → seats ≤ seat → did seat ≡ []

-- ---- the conclusion

abbrev pub logged_by : (List ℕ → ℕ) → Done → List Logged
logged_by owner d = map (λ t. record { seat = owner d.actor; turn = t }) (turn_made_by d.told.command)

abbrev pub acts_of : List Done → List Act
acts_of order = map (λ d. act_of d.actor d.told.command) order

-- A session of a cluster never ends, so the quota is raised to the number of all actors that ever were.
abbrev pub with_actors : ℕ → TenantConfig → TenantConfig
with_actors count config = record config { quota = record config.quota { actors = count } }

-- There is one order of all commands that keeps the order of each seat and that of the log. As a list of acts of a cluster that the tenant has to
-- itself, with the replies that the actors got, it is a run in which memory may be refused. It leaves the nodes that the log leaves, and keeps the
-- causal laws.
pub record AreActs (config : TenantConfig) (log : List Logged) (owner : List ℕ → ℕ) (did : ℕ → List Done) : Type 0 where
  pub order : List Done
  pub each : (seat : ℕ) → filter (λ d. owner d.actor == seat) order ≡ did seat
  pub logged : flat_map (logged_by owner) order ≡ log
  pub room : ℕ
  pub run : IsCausalRun (with_actors room config) (acts_of order) (map (λ d. d.told.reply) order)
  pub nodes : run.left.nodes ≡ nodes_left config (turns log) (all_new config)

-- no actor's reply says that memory was refused
abbrev pub HaveAmpleMemory : List Done → Type 0
HaveAmpleMemory order = IsSpared (map (λ d. d.told.reply) order)

-- the replies are those of the definition, and so are the nodes
pub record AreActsOfDefinition (config : TenantConfig) (log : List Logged) (order : List Done) (room : ℕ) : Type 0 where
  pub told : map (λ d. d.told.reply) order ≡ solo_replies (with_actors room config) (acts_of order)
  pub nodes : (cluster_of (with_actors room config) (acts_of order)).nodes ≡ nodes_left config (turns log) (all_new config)

-- ---- seats whose actors follow one another

-- the actors of a seat are named by the seat and their place there
abbrev pub numbered : ℕ → ℕ → List (List Told) → List Done
numbered seat place [] = []
numbered seat place (did ∷ later) = map (λ t. record { actor = seat ∷ place ∷ []; told = t }) did ++ numbered seat (suc place) later

abbrev pub seat_in : List ℕ → ℕ
seat_in [] = 0
seat_in (seat ∷ name) = seat

abbrev pub all_done : (ℕ → List (List Told)) → ℕ → List Done
all_done did seat = numbered seat 0 (did seat)

-- A log that is legal at each node, in which the turns of each seat are those of its conversations, carriers and collections, one after another.
pub record IsServed (config : TenantConfig) (log : List Logged) (seats : ℕ) (did : ℕ → List (List Told)) : Type 0 where
  pub legal : IsLegalAtEach config (all_new config) (turns log)
  pub behave : (seat : ℕ) → AllByRecursion (Behaves config None) (did seat)
  pub make : (seat : ℕ) → flat_map (flat_map (λ t. turn_made_by t.command)) (did seat) ≡ turns_by seat log
  pub few : (seat : ℕ) → seats ≤ seat → did seat ≡ []

-- ---- prefixes

-- A prefix of a log, and for each seat a list of commands that made its turns there and may have made more.
pub record IsHistoryOfPrefixes (config : TenantConfig) (log : List Logged) (seats : ℕ) (owner : List ℕ → ℕ) (did : ℕ → List Done) : Type 0 where
  pub legal : IsLegalAtEach config (all_new config) (turns log)
  pub behave : (name : List ℕ) → Behaves config None (done_by name (did (owner name)))
  pub own : (seat : ℕ) → AllByRecursion (λ (d : Done). owner d.actor ≡ seat) (did seat)
  pub make : (seat : ℕ) → (more : List Turn) × (turns_made (did seat) ≡ turns_by seat log ++ more)
  pub few : (seat : ℕ) → seats ≤ seat → did seat ≡ []

-- a prefix of each seat's commands makes up the log, and these prefixes are a list of acts
pub record HasPrefixesOfActs (config : TenantConfig) (log : List Logged) (owner : List ℕ → ℕ) (did : ℕ → List Done) : Type 0 where
  pub prefix : ℕ → List Done
  pub is : (seat : ℕ) → (later : List Done) × (did seat ≡ prefix seat ++ later)
  pub acts : AreActs config log owner prefix

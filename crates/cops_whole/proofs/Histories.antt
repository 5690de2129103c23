-- A history that gates keep, as a log.
use Rattle.std.proofs.Common.{◌≡◌, ℕ, ◌*◌, ◌<◌, Bool, true, false, cond, ◌==◌, List, [], ◌∷◌, map, length, get_or, inl, refl, sym, ◌∙◌, ap, subst, arith}
use Rattle.std.specs.Prelude.{Option, Some, None}
use Rattle.std.specs.List.{range_with_len}
use Rattle.std.proofs.lemmas.List.FromFn.{get_or-map-range_with_len, length-map-range_with_len}
use mathlib.Core.Option.{some}
use lib.ListN.{get_elem?}
use Rattle.cops_types.specs.declared.configs.Config.{Config}
use Rattle.cops_types.specs.declared.faults.Fault.TheVariants.{OutOfMemory}
use Rattle.cops_gate.specs.declared.history.Turn.{Turn}
use Rattle.cops_gate.specs.History.{Leads, Makes}
use Rattle.cops_gate.proofs.Keeps.{at_below, there_at}
use Rattle.cops_model.specs.declared.calls.NodeCall.{NodeCall}
use Rattle.cops_model.specs.declared.calls.NodeReply.{NodeReply}
use Rattle.cops_model.specs.declared.calls.NodeReply.TheVariants.{Refused}
use Rattle.cops_node.specs.Clusters.{new_nodes, new_shared}
use Rattle.cops_node.specs.Lacking.{MayLack}
use Rattle.cops_node.specs.Parts.{Shared, IsMachineTurn, place_at, solo_of}
use Rattle.cops_service.specs.Slots.{NodeEntry, NodeLog}
use Rattle.cops_service.proofs.Desks.{read_at}
use Rattle.cops_history.specs.Turns.{was_refused_memory}
use Rattle.cops_history.proofs.SparedNodes.{node_spared}
use Rattle.cops_whole.specs.NoOps.{kept_log, unless_lacking}
use Rattle.cops_whole.specs.Services.{logged_entry, logged_history}
use Rattle.cops_whole.specs.Whole.{LeadsOn, entries_at, whole_turn}
use Rattle.cops_whole.proofs.GateLogs.{LeadsLacking, entries_there}
use Rattle.cops_whole.proofs.NoOps.{may_lack_too, refused_is}
use Rattle.cops_whole.proofs.SeatTurns.{MemoryRule, kept, kept_entry}

abbrev GateTurn : Type 0
GateTurn = Turn NodeCall NodeReply

-- ---- memory

-- no turn is one that was refused memory
pub turn_spared : (old new : Shared) (slot moment : ℕ) (call : NodeCall) (reply : NodeReply) → IsMachineTurn old slot moment call reply new → was_refused_memory reply ≡ false
turn_spared old new slot moment call reply turn = elim (place_at slot old) as (λ o. place_at slot old ≡ o → was_refused_memory reply ≡ false) [
  | None ↦ λ vacant. ap was_refused_memory (turn.vacant vacant).0
  | Some place ↦ λ is. ap was_refused_memory (turn.own place is).0 ∙ node_spared place moment call (solo_of slot place old)
] refl

-- a history that gates keep, in a log
entry_kept : (e : Option NodeEntry) → unless_lacking (logged_entry e) ≡ logged_entry (kept_entry was_refused_memory e)
entry_kept None = refl
entry_kept (Some e) = by (was_refused_memory e.reply)
  where
    by : (b : Bool) → cond b None (logged_entry (Some e)) ≡ logged_entry (cond b None (Some e))
    by true = refl
    by false = refl

pub history_kept : (log : NodeLog) → kept_log (logged_history log) ≡ logged_history (kept was_refused_memory log)
history_kept [] = refl
history_kept (t ∷ log) = λ i. whole_turn t.seat t.node (entry_kept t.entry i) ∷ history_kept log i

-- ---- one node

entries_are : (number : ℕ) (log : NodeLog) → map logged_entry (entries_there number log) ≡ entries_at number (logged_history log)
entries_are number [] = refl
entries_are number (t ∷ ts) = elim (t.node == number) as (λ b. map logged_entry (cond b (t.entry ∷ entries_there number ts) (entries_there number ts)) ≡ cond b (logged_entry t.entry ∷ entries_at number (logged_history ts)) (entries_at number (logged_history ts))) [
  | true ↦ ap (λ es. logged_entry t.entry ∷ es) (entries_are number ts)
  | false ↦ entries_are number ts
]

leads_all : (entries : List (Option NodeEntry)) (old left : Shared) → LeadsLacking IsMachineTurn MayLack (Refused OutOfMemory) old entries left → LeadsOn old (map logged_entry entries) left
leads_all [] old left same = same
leads_all (None ∷ entries) old left leads = leads_all entries old left leads
leads_all (Some e ∷ entries) old left (between, call, leads) = (between, call, leads_all entries between left leads)

-- what a log's turns at a node leave
pub leads_logged : (number : ℕ) (log : NodeLog) (old left : Shared) → LeadsLacking IsMachineTurn MayLack (Refused OutOfMemory) old (entries_there number log) left → LeadsOn old (entries_at number (logged_history log)) left
leads_logged number log old left leads = subst (λ es. LeadsOn old es left) (entries_are number log) (leads_all (entries_there number log) old left leads)

pub leads_entries : (log : NodeLog) (old left : Shared) → Leads IsMachineTurn old log left → LeadsOn old (map (λ (t : GateTurn). logged_entry t.entry) log) left
leads_entries [] old left leads = sym leads
leads_entries (t ∷ ts) old left (between, makes, leads) = by t.entry makes (leads_entries ts between left leads)
  where
    by : (entry : Option NodeEntry) → Makes IsMachineTurn old entry between → LeadsOn between (map (λ (u : GateTurn). logged_entry u.entry) ts) left → LeadsOn old (logged_entry entry ∷ map (λ (u : GateTurn). logged_entry u.entry) ts) left
    by None stays rest = subst (λ s. LeadsOn s (map (λ (u : GateTurn). logged_entry u.entry) ts) left) (sym stays) rest
    by (Some e) turn rest = (between, inl turn, rest)

abbrev pub shared_memory : MemoryRule IsMachineTurn MayLack
shared_memory = record {
  lacking = Refused OutOfMemory;
  is_lacking = was_refused_memory;
  says = refl;
  only = refused_is;
  spared = turn_spared;
  alike = λ opened one other log slot call first second lacks.
      may_lack_too (map (λ (t : GateTurn). logged_entry t.entry) log) opened one other slot call (leads_entries log opened one first) (leads_entries log opened other second) lacks;
}

-- ---- new nodes

module _ (config : Config) (states : List Shared) (opened : states ≡ (new_nodes config).nodes) where
  pub how_many : length states ≡ config.data_centres * config.shards
  how_many = ap length opened ∙ length-map-range_with_len (new_shared config) 0 (config.data_centres * config.shards)

  pub opened_at : (number : ℕ) → number < config.data_centres * config.shards → get_elem? states number ≡ some (new_shared config number)
  opened_at number within =
      let there = there_at states number (subst (λ n. number < n) (sym how_many) within) in
      let read : there.0 ≡ get_or states number there.0 = read_at states number there.0 there.1 in
      let new : get_or (map (new_shared config) (range_with_len 0 (config.data_centres * config.shards))) number there.0 ≡ new_shared config number =
      get_or-map-range_with_len (new_shared config) 0 (config.data_centres * config.shards) number number there.0 within (omega arith) in
      there.1 ∙ ap some (read ∙ ap (λ l. get_or l number there.0) opened ∙ new)

  pub within_all : (number : ℕ) (node : Shared) → get_elem? states number ≡ some node → number < config.data_centres * config.shards
  within_all number node at = subst (λ n. number < n) how_many (at_below states number node at)

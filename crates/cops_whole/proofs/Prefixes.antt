-- Prefixes of a log.
use Rattle.std.proofs.Common.{◌≡◌, ℕ, ◌*◌, ◌<◌, true, false, cond, ◌==◌, List, [], ◌∷◌, ◌++◌, refl, ap, subst}
use Rattle.std.specs.Prelude.{Option, Some, None}
use Rattle.cops_types.specs.declared.configs.Config.{Config}
use Rattle.cops_node.specs.Clusters.{new_shared}
use Rattle.cops_node.specs.Parts.{Shared}
use Rattle.cops_history.proofs.Cutting.{all_prefix}
use Rattle.cops_whole.specs.Whole.{CallEntry, WholeTurn, IsWholeLog, LeadsOn, entries_at}

pub log_parts : (number : ℕ) (prefix later : List WholeTurn) → entries_at number (prefix ++ later) ≡ entries_at number prefix ++ entries_at number later
log_parts number [] later = refl
log_parts number (w ∷ prefix) later = elim (w.node == number) as (λ b. cond b (w.entry ∷ entries_at number (prefix ++ later)) (entries_at number (prefix ++ later))
    ≡ cond b (w.entry ∷ entries_at number prefix) (entries_at number prefix) ++ entries_at number later) [
      | true ↦ ap (λ es. w.entry ∷ es) (log_parts number prefix later)
      | false ↦ log_parts number prefix later
    ]

led_by_prefix : (prefix later : List (Option CallEntry)) (old left : Shared) → LeadsOn old (prefix ++ later) left → (between : Shared) × LeadsOn old prefix between
led_by_prefix [] later old left leads = (old, refl)
led_by_prefix (None ∷ prefix) later old left leads = led_by_prefix prefix later old left leads
led_by_prefix (Some e ∷ prefix) later old left (mid, call, leads) = let rest = led_by_prefix prefix later mid left leads in (rest.0, (mid, call, rest.1))

pub whole_prefix : (config : Config) (prefix later : List WholeTurn) → IsWholeLog config (prefix ++ later) → IsWholeLog config prefix
whole_prefix config prefix later whole = record {
  there = all_prefix (λ (w : WholeTurn). w.node < config.data_centres * config.shards) prefix later whole.there;
  legal = λ number within.
      let led = whole.legal number within in
      led_by_prefix (entries_at number prefix) (entries_at number later) (new_shared config number) led.0 (subst (λ es. LeadsOn (new_shared config number) es led.0) (log_parts number prefix later) led.1);
}

-- What one log says of a tenant is legal at each node that the tenant has to itself.
use Rattle.std.proofs.Common.{◌≡◌, ℕ, ◌*◌, ◌/◌, ◌%◌, ◌<◌, ◌≤◌, inl, inr, true, false, cond, ◌==◌, nat_lt, nat_eq, List, [], ◌∷◌, map, refl, sym, ◌∙◌, ap, subst, arith}
use Rattle.std.specs.Prelude.{Option, Some, None, slice_get}
use Rattle.std.specs.List.{AllByRecursion}
use Rattle.std.proofs.lemmas.Bool.Decides.{Decides-eqb, leb_tells}
use Rattle.std.proofs.lemmas.Bool.{lt-ltb}
use Rattle.std.proofs.Math.Nat.{div-lt_iff_lt-mul, mod-lt}
use Rattle.std.proofs.lemmas.Nat.{div-add-mod'}
use Rattle.cops_types.specs.declared.configs.Config.{Config}
use Rattle.cops_types.specs.declared.configs.Tenant.{Tenant}
use Rattle.cops_types.specs.TenantConfig.{TenantConfig, tenant_config}
use Rattle.cops_types.proofs.Elements.{and_true}
use Rattle.cops_causal.proofs.Past.{new_nodes}
use Rattle.cops_model.specs.Cluster.{has_node}
use Rattle.cops_model.specs.Place.{node_number}
use Rattle.cops_model.specs.SoloNode.{new_node}
use Rattle.cops_node.specs.Clusters.{id_of, new_shared}
use Rattle.cops_node.specs.Parts.{Shared}
use Rattle.cops_history.specs.Turns.{IsLegal, IsLegalAtEach, all_new, is_at, left_of, node_numbered, turns_at}
use Rattle.cops_history.specs.History.{Logged, Told, Done, AreActs, all_done, seat_in, turns}
use Rattle.cops_history.proofs.Acts.{left_by_turns}
use Rattle.cops_history.proofs.Seated.{served}
use Rattle.cops_whole.specs.Whole.{CallEntry, WholeTurn, AreServedForTenant, IsWholeLog, LeadsOn, Represents, entries_at, joins_own, own_log, place_there, tenant_turn}
use Rattle.cops_whole.proofs.Nodes.{alone_there, new_represents, slot_calls}

module _ (config : Config) (tenant : Tenant) (slot : ℕ) (some : 0 < config.shards) where
  abbrev own : TenantConfig
  own = tenant_config config tenant

  number_is : (number : ℕ) → node_number config.shards (id_of config.shards number) ≡ number
  number_is number = div-add-mod' number config.shards

  -- a turn at a node joins what stands there, and what stands at no other
  joined : (number : ℕ) (w : WholeTurn) (entry : Option CallEntry) (later : List Logged) (entries : List (Option CallEntry)) → turns_at own number (turns later) ≡ map (tenant_turn config number) (slot_calls slot entries) →
      turns_at own number (turns (joins_own config slot w.seat w.node entry later)) ≡ map (tenant_turn config number) (slot_calls slot (cond (w.node == number) (entry ∷ entries) entries))
  joined number w None later entries ih = elim (w.node == number) as (λ b. turns_at own number (turns later) ≡ map (tenant_turn config number) (slot_calls slot (cond b (None ∷ entries) entries))) [ true ↦ ih | false ↦ ih ]
  joined number w (Some e) later entries ih = elim (nat_eq e.slot slot) as (λ b. nat_eq e.slot slot ≡ b →
      turns_at own number (turns (cond b (record { seat = w.seat; turn = tenant_turn config w.node e } ∷ later) later)) ≡ map (tenant_turn config number) (slot_calls slot (cond (w.node == number) (Some e ∷ entries) entries))) [
        | true ↦ λ of_slot. elim (w.node == number) as (λ b. (w.node == number) ≡ b →
            turns_at own number (tenant_turn config w.node e ∷ turns later) ≡ map (tenant_turn config number) (slot_calls slot (cond b (Some e ∷ entries) entries))) [
              | true ↦ λ same.
                  let at : w.node ≡ number = (Decides-eqb w.node number).0 same in
                  let here : is_at own number (tenant_turn config w.node e) ≡ true = ap (λ n. n == number) (number_is w.node) ∙ same in
                  let whole : tenant_turn config w.node e ∷ turns_at own number (turns later) ≡ tenant_turn config number e ∷ map (tenant_turn config number) (slot_calls slot entries) = λ i. tenant_turn config (at i) e ∷ ih i in
                  rw here (rw of_slot whole)
              | false ↦ λ apart.
                  let elsewhere : is_at own number (tenant_turn config w.node e) ≡ false = ap (λ n. n == number) (number_is w.node) ∙ apart in
                  rw elsewhere ih
            ] refl
        | false ↦ λ others. elim (w.node == number) as (λ b. turns_at own number (turns later) ≡ map (tenant_turn config number) (slot_calls slot (cond b (Some e ∷ entries) entries))) [
          | true ↦ rw others ih
          | false ↦ ih
        ]
      ] refl

  -- the tenant's turns at a node are its slot's calls there
  turns_there : (number : ℕ) (log : List WholeTurn) → turns_at own number (turns (own_log config slot log)) ≡ map (tenant_turn config number) (slot_calls slot (entries_at number log))
  turns_there number [] = refl
  turns_there number (w ∷ log) = joined number w w.entry (own_log config slot log) (entries_at number log) (turns_there number log)

  -- nothing was called at a node that doesn't exist
  nothing_past : (number : ℕ) (log : List WholeTurn) → config.data_centres * config.shards ≤ number → AllByRecursion (λ (w : WholeTurn). w.node < config.data_centres * config.shards) log → entries_at number log ≡ []
  nothing_past number [] past there = refl
  nothing_past number (w ∷ log) past there = elim (w.node == number) as (λ b. (w.node == number) ≡ b → cond b (w.entry ∷ entries_at number log) (entries_at number log) ≡ []) [
    | true ↦ λ same. let at : w.node ≡ number = (Decides-eqb w.node number).0 same in let below : w.node < config.data_centres * config.shards = there.0 in absurd (omega (arith, at, below, past))
    | false ↦ λ apart. nothing_past number log past there.1
  ] refl

  is_there : (number : ℕ) → number < config.data_centres * config.shards → has_node own (id_of config.shards number).dc (id_of config.shards number).shard ≡ true
  is_there number within =
      and_true (nat_lt (number / config.shards) config.data_centres) (nat_lt (number % config.shards) config.shards)
      (lt-ltb (number / config.shards) config.data_centres ((div-lt_iff_lt-mul some).1 within))
      (lt-ltb (number % config.shards) config.shards (mod-lt number some))

  new_solo : (number : ℕ) → node_numbered own number (all_new own) ≡ new_node config.data_centres
  new_solo number = new_nodes (config.data_centres * config.shards) number (new_node config.data_centres)

  pub legal : (log : List WholeTurn) → slice_get config.tenants slot ≡ Some tenant → IsWholeLog config log → IsLegalAtEach own (all_new own) (turns (own_log config slot log))
  legal log found whole number = subst (IsLegal own (node_numbered own number (all_new own))) (sym (turns_there number log)) (elim (leb_tells (config.data_centres * config.shards) number) [
    | inl past ↦ subst (λ (es : List (Option CallEntry)). IsLegal own (node_numbered own number (all_new own)) (map (tenant_turn config number) (slot_calls slot es))) (sym (nothing_past number log past.1 whole.there)) tt
    | inr within ↦
        let led = whole.legal number within.1 in
        let alone = alone_there config tenant slot number (is_there number within.1) (entries_at number log) (new_node config.data_centres) (new_shared config number) led.0 (new_represents config tenant slot number found) led.1 in
        subst (λ s. IsLegal own s (map (tenant_turn config number) (slot_calls slot (entries_at number log)))) (sym (new_solo number)) alone.legal
  ])

  pub causal : (log : List WholeTurn) (seats : ℕ) (did : ℕ → List (List Told)) → slice_get config.tenants slot ≡ Some tenant → IsWholeLog config log → AreServedForTenant config tenant slot log seats did →
      AreActs own (own_log config slot log) seat_in (all_done did)
  causal log seats did found whole are =
      served own (own_log config slot log) seats did some (record { legal = legal log found whole; behave = are.behave; make = are.make; few = are.few })

  pub left_by_acts : (log : List WholeTurn) (owner : List ℕ → ℕ) (did : ℕ → List Done) (number : ℕ) (left : Shared) → slice_get config.tenants slot ≡ Some tenant → IsWholeLog config log →
      (acts : AreActs own (own_log config slot log) owner did) → number < config.data_centres * config.shards → LeadsOn (new_shared config number) (entries_at number log) left →
      Represents slot (place_there config tenant number) (node_numbered own number acts.run.left.nodes) left
  left_by_acts log owner did number left found whole acts within leads =
      let alone = alone_there config tenant slot number (is_there number within) (entries_at number log) (new_node config.data_centres) (new_shared config number) left (new_represents config tenant slot number found) leads in
      let same : node_numbered own number acts.run.left.nodes ≡ left_of own (new_node config.data_centres) (map (tenant_turn config number) (slot_calls slot (entries_at number log))) =
      ap (node_numbered own number) acts.nodes ∙ left_by_turns own (own_log config slot log) number (legal log found whole)
      ∙ (λ i. left_of own (new_solo number i) (turns_there number log i)) in
      subst (λ s. Represents slot (place_there config tenant number) s left) (sym same) alone.stands

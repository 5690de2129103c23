-- A service that ran is a cluster that seats serve.
use Rattle.std.proofs.Common.{◌≡◌, ℕ, ◌*◌, ◌<◌, ◌≤◌, ◌==◌, List, [], ◌∷◌, map, length, inl, inr, sym, ◌∙◌, ap, subst}
use Rattle.std.specs.Prelude.{Some, slice_get}
use Rattle.std.specs.List.{AllByRecursion}
use Rattle.std.proofs.lemmas.Bool.Decides.{leb_tells}
use mathlib.Core.Option.{some, some-injective}
use lib.ListN.{get_elem?}
use Rattle.cops_types.specs.declared.configs.Config.{Config}
use Rattle.cops_types.specs.declared.configs.Tenant.{Tenant}
use Rattle.cops_types.specs.declared.faults.Fault.TheVariants.{OutOfMemory}
use Rattle.cops_gate.specs.History.{IsLegal, Leads, turns_at}
use Rattle.cops_model.specs.declared.calls.NodeReply.TheVariants.{Refused}
use Rattle.cops_node.specs.Clusters.{new_shared}
use Rattle.cops_node.specs.Lacking.{MayLack}
use Rattle.cops_node.specs.Parts.{Shared, IsMachineTurn}
use Rattle.cops_service.specs.Gates.{Gates, openings}
use Rattle.cops_service.specs.Slots.{NodeLog}
use Rattle.cops_history.specs.History.{all_done, seat_in}
use Rattle.cops_whole.specs.NoOps.{kept_log}
use Rattle.cops_whole.specs.Seats.{BehavesInSlot, IsAtShards, IsServedCluster, SlotActor, own_commands}
use Rattle.cops_whole.specs.Services.{IsLogOfService, IsServiceRun, IsTenantOfService, SeatDid, logged_history}
use Rattle.cops_whole.specs.Whole.{IsWholeLog, LeadsOn, WholeTurn, entries_at}
use Rattle.cops_whole.proofs.AtShards.{actors_within}
use Rattle.cops_whole.proofs.FilledLogs.{filter-mapped}
use Rattle.cops_whole.proofs.GateLogs.{AreCallsOf, GateLog, SeatCalled, gate_log}
use Rattle.cops_whole.proofs.Histories.{history_kept, how_many, leads_logged, opened_at, shared_memory, within_all}
use Rattle.cops_whole.proofs.Legal.{left_by_acts}
use Rattle.cops_whole.proofs.PlacedTurns.{ArePlaced}
use Rattle.cops_whole.proofs.Seated.{served_causally}
use Rattle.cops_whole.proofs.SeatCalls.{IsTurnByNumber, all_made, calls_of, logged_turn, turns_of_actors}

logged_there : (count : ℕ) (history : NodeLog) → ArePlaced count history → AllByRecursion (λ (w : WholeTurn). w.node < count) (logged_history history)
logged_there count [] all = tt
logged_there count (t ∷ ts) all = (all.0, logged_there count ts all.1)

module _ (config : Config) (cluster : Gates Shared) (history : NodeLog) (seats : ℕ) (actors : ℕ → List SlotActor) (run : IsServiceRun config cluster history seats actors) where
  by_number : (P : List SlotActor → Type 0) (seat : ℕ) → (seat < seats → P (actors seat)) → (seats ≤ seat → P []) → P (actors seat)
  by_number P seat inside beyond = elim (leb_tells seats seat) [
    | inl past ↦ subst P (sym (run.few seat past.1)) (beyond past.1)
    | inr within ↦ inside within.1
  ]

  abbrev Did : ℕ → Type 0
  Did seat = SeatDid config cluster history seat (actors seat)

  -- its calls, and that they are at shards that exist
  within_of : (seat : ℕ) (did : Did seat) → AllByRecursion (IsAtShards config) (actors seat)
  within_of seat did = (actors_within (IsTurnByNumber cluster) config (actors seat) did.first did.last did.made).0

  legal_there : (number : ℕ) (first : Shared) → get_elem? (openings cluster) number ≡ some first → IsLegal IsMachineTurn first (turns_at number history)
  legal_there number first at =
      let within = within_all config (openings cluster) run.gate.opened number first at in
      subst (λ s. IsLegal IsMachineTurn s (turns_at number history)) (some-injective (new_shared config number) first (sym (opened_at config (openings cluster) run.gate.opened number within) ∙ at)) (run.gate.legal number within)

  seat_called : (seat : ℕ) → seat < seats → SeatCalled IsMachineTurn MayLack (Refused OutOfMemory) (openings cluster) history seat (calls_of config (actors seat))
  seat_called seat within =
      let did = run.did seat within in
      record {
        first = did.first;
        last = did.last;
        number_is = did.number_is;
        no_turn = did.no_turn;
        made = all_made config cluster run.gate.shards (actors seat) did.first did.last did.made;
        all_of = did.all_of;
      }

  are_calls : AreCallsOf IsMachineTurn MayLack (Refused OutOfMemory) (openings cluster) history seats (λ seat. calls_of config (actors seat))
  are_calls = record { legal = legal_there; seated = run.seated; did = seat_called; few = λ seat past. ap (calls_of config) (run.few seat past) }

  abbrev gate : GateLog IsMachineTurn MayLack shared_memory (openings cluster) history seats (λ seat. calls_of config (actors seat)) are_calls
  gate = gate_log IsMachineTurn MayLack shared_memory (openings cluster) history seats (λ seat. calls_of config (actors seat)) are_calls

  abbrev log : List WholeTurn
  log = logged_history gate.log

  log_kept : kept_log log ≡ logged_history history
  log_kept = history_kept gate.log ∙ ap logged_history gate.log_kept

  -- what the history leaves of a node is what the log leaves
  leads : (number : ℕ) (left : Shared) → number < config.data_centres * config.shards → Leads IsMachineTurn (new_shared config number) (turns_at number history) left → LeadsOn (new_shared config number) (entries_at number log) left
  leads number left within led =
      leads_logged number gate.log (new_shared config number) left (gate.leads number (new_shared config number) left (opened_at config (openings cluster) run.gate.opened number within) led)

  whole : IsWholeLog config log
  whole = record {
    there = subst (λ n. AllByRecursion (λ (w : WholeTurn). w.node < n) log) (how_many config (openings cluster) run.gate.opened) (logged_there (length (openings cluster)) gate.log gate.is_placed);
    legal = λ number within.
        let led = run.gate.legal number within in
        (led.0, leads number led.0 within led.1);
  }

  served : IsServedCluster config log seats actors
  served = record {
    whole = whole;
    behave = λ seat. by_number (AllByRecursion (BehavesInSlot config)) seat (λ within. (run.did seat within).behave) (λ past. tt);
    shards = λ seat. by_number (AllByRecursion (IsAtShards config)) seat (λ within. within_of seat (run.did seat within)) (λ past. tt);
    make = λ seat. sym (filter-mapped logged_turn (λ w. w.seat == seat) gate.log ∙ ap (map logged_turn) (gate.of_seats seat) ∙ turns_of_actors config seat (actors seat));
    few = run.few;
  }

  pub log_of_service : (log : List WholeTurn) × IsLogOfService config history seats actors log
  log_of_service = (log, record { kept = log_kept; served = served })

  tenant_of_service : (slot : ℕ) (tenant : Tenant) → 0 < config.shards → slice_get config.tenants slot ≡ Some tenant → IsTenantOfService config tenant slot history actors log
  tenant_of_service slot tenant one found =
      let acts = served_causally config slot tenant log seats actors one found served in
      record {
        acts = acts;
        nodes = λ number left within led. left_by_acts config tenant slot one log seat_in (all_done (λ seat. own_commands slot (actors seat))) number left found served.whole acts within
            (leads number left within led);
      }

  pub tenants_of_service : 0 < config.shards → (log : List WholeTurn) × IsLogOfService config history seats actors log
      × ((slot : ℕ) (tenant : Tenant) → slice_get config.tenants slot ≡ Some tenant → IsTenantOfService config tenant slot history actors log)
  tenants_of_service one = (log, record { kept = log_kept; served = served }, λ slot tenant found. tenant_of_service slot tenant one found)

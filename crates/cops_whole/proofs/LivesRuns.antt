-- The history of a service whose tenants came and went is a log of lives, each of which was served causally.
use Rattle.std.proofs.Common.{◌≡◌, ◌⊎◌, ℕ, zero, suc, ◌*◌, ◌<◌, ◌≤◌, Bool, true, false, cond, ◌==◌, List, [], ◌∷◌, map, length, inl, inr, refl, sym, ◌∙◌, ap, subst, arith}
use Rattle.std.specs.Prelude.{Option, Some, None, filter, replicate}
use Rattle.std.specs.List.{AllByRecursion, cons_option, filter_map, flat_map}
use Rattle.std.proofs.lemmas.Bool.Decides.{leb_tells}
use Rattle.std.proofs.lemmas.List.{length-map}
use mathlib.Core.Option.{some, some-injective}
use lib.ListN.{get_elem?}
use Rattle.cops_types.specs.declared.configs.Config.{Config}
use Rattle.cops_types.specs.declared.configs.Tenant.{Tenant}
use Rattle.cops_types.specs.declared.faults.Fault.TheVariants.{OutOfMemory}
use Rattle.cops_types.specs.TenantConfig.{tenant_config}
use Rattle.cops_gate.specs.declared.history.Entry.{Entry}
use Rattle.cops_gate.specs.History.{IsLegal, Leads, turns_at, turns_of}
use Rattle.cops_gate.proofs.Keeps.{at_below, there_at}
use Rattle.cops_node.specs.Clusters.{new_nodes, new_shared}
use Rattle.cops_node.specs.declared.hosted.SlotCall.{SlotCall}
use Rattle.cops_node.specs.declared.hosted.SlotReply.{SlotReply}
use Rattle.cops_node.specs.declared.hosted.SlotReply.TheVariants as told
use Rattle.cops_node.specs.Hosting.{Hosted, IsSlotTurn}
use Rattle.cops_node.specs.Lacking.{MayLackAtSlot}
use Rattle.cops_node.specs.Parts.{MOST_SLOTS}
use Rattle.cops_service.specs.Hosted.{HostedLog}
use Rattle.cops_service.specs.HostedDesks.{IsInFirstLives, hosted_node}
use Rattle.cops_history.specs.History.{Behaves}
use Rattle.cops_history.specs.Lives.{IsTimeOf, LeadsOnSlots, LivesCausally, SlotTurn, new_hosted, slot_entries_at}
use Rattle.cops_history.proofs.LifeLogs.{lived}
use Rattle.cops_served.specs.Conversations.{turns_of_told}
use Rattle.cops_whole.specs.LivesRuns.{Deed, IsLivesRun, IsLogOfLives, SeatDidDeeds, calls_of_host, commands_in_life, host_call, kept_slot_log, says_out_of_memory, logged_call, slot_turn_of, unless_out_of_memory}
use Rattle.cops_whole.proofs.GateLogs.{AreCallsOf, GateLog, LeadsLacking, SeatCalled, entries_there, gate_log}
use Rattle.cops_whole.proofs.Histories.{how_many, opened_at}
use Rattle.cops_whole.proofs.HostedMemory.{hosted_memory}
use Rattle.cops_whole.proofs.FilledLogs.{filter-mapped}
use Rattle.cops_whole.proofs.LifeTurns.{AllCalled, SlotCalls, all_called, host_turn, life_by_seat, life_turns}
use Rattle.cops_whole.proofs.PlacedTurns.{ArePlaced}
use Rattle.cops_whole.proofs.SeatTurns.{kept, kept_entry, turns_by}

-- ---- lists

at_mapped : {A B : Type 0} (f : A → B) (xs : List A) (i : ℕ) (x : A) → get_elem? xs i ≡ some x → get_elem? (map f xs) i ≡ some (f x)
at_mapped f [] i x at = cc
at_mapped f (y ∷ xs) zero x at = ap (λ z. some (f z)) (some-injective y x at)
at_mapped f (y ∷ xs) (suc i) x at = at_mapped f xs i x at

all_at : {A : Type 0} (P : A → Type 0) (xs : List A) (i : ℕ) (x : A) → AllByRecursion P xs → get_elem? xs i ≡ some x → P x
all_at P [] i x all at = cc
all_at P (y ∷ xs) zero x all at = subst P (some-injective y x at) all.0
all_at P (y ∷ xs) (suc i) x all at = all_at P xs i x all.1 at

mapped_twice : {A B D : Type 0} (f : A → B) (g : B → Option D) (xs : List A) → filter_map g (map f xs) ≡ filter_map (λ x. g (f x)) xs
mapped_twice f g [] = refl
mapped_twice f g (x ∷ xs) = ap (cons_option (g (f x))) (mapped_twice f g xs)

-- ---- a history as a log of lives

call_kept : (e : Option (Entry SlotCall SlotReply)) → unless_out_of_memory (logged_call e) ≡ logged_call (kept_entry says_out_of_memory e)
call_kept None = refl
call_kept (Some e) = by (says_out_of_memory e.reply)
  where
    by : (b : Bool) → cond b None (logged_call (Some e)) ≡ logged_call (cond b None (Some e))
    by true = refl
    by false = refl

log_kept : (log : HostedLog) → kept_slot_log (map slot_turn_of log) ≡ map slot_turn_of (kept says_out_of_memory log)
log_kept [] = refl
log_kept (t ∷ log) = λ i. record { seat = t.seat; node = t.node; entry = call_kept t.entry i } ∷ log_kept log i

placed_there : (count : ℕ) (log : HostedLog) → ArePlaced count log → AllByRecursion (λ (t : SlotTurn). t.node < count) (map slot_turn_of log)
placed_there count [] all = tt
placed_there count (t ∷ log) all = (all.0, placed_there count log all.1)

entries_are : (number : ℕ) (log : HostedLog) → map logged_call (entries_there number log) ≡ slot_entries_at number (map slot_turn_of log)
entries_are number [] = refl
entries_are number (t ∷ log) = elim (t.node == number) as (λ b. map logged_call (cond b (t.entry ∷ entries_there number log) (entries_there number log))
    ≡ map (λ (u : SlotTurn). u.entry) (cond b (slot_turn_of t ∷ filter (λ (u : SlotTurn). u.node == number) (map slot_turn_of log)) (filter (λ (u : SlotTurn). u.node == number) (map slot_turn_of log)))) [
      | true ↦ ap (λ es. logged_call t.entry ∷ es) (entries_are number log)
      | false ↦ entries_are number log
    ]

leads_slots : (entries : List (Option (Entry SlotCall SlotReply))) (old left : Hosted) → LeadsLacking IsSlotTurn MayLackAtSlot (told.Refused OutOfMemory) old entries left → LeadsOnSlots old (map logged_call entries) left
leads_slots [] old left same = same
leads_slots (None ∷ entries) old left leads = leads_slots entries old left leads
leads_slots (Some e ∷ entries) old left (between, call, leads) = (between, call, leads_slots entries between left leads)

-- ---- new nodes

module _ (config : Config) (states : List Hosted) (opened : map hosted_node states ≡ (new_nodes config).nodes) where
  pub many_states : length states ≡ config.data_centres * config.shards
  many_states = sym (length-map states hosted_node) ∙ how_many config (map hosted_node states) opened

  pub new_state : AllByRecursion IsInFirstLives states → (number : ℕ) → number < config.data_centres * config.shards → get_elem? states number ≡ some (new_hosted config number)
  new_state lives number within =
      let there = there_at states number (subst (λ n. number < n) (sym many_states) within) in
      let node_is : hosted_node there.0 ≡ new_shared config number =
      some-injective (hosted_node there.0) (new_shared config number) (sym (at_mapped hosted_node states number there.0 there.1) ∙ opened_at config (map hosted_node states) opened number within) in
      let lives_are : there.0.lives ≡ replicate MOST_SLOTS 0 = all_at IsInFirstLives states number there.0 lives there.1 in
      there.1 ∙ (λ i. some (record { node = node_is i; lives = lives_are i }))

module _ (config : Config) (states : List Hosted) (history : HostedLog) (seats : ℕ) (deeds : ℕ → List Deed) (run : IsLivesRun config states history seats deeds) where
  many : length states ≡ config.data_centres * config.shards
  many = many_states config states run.opened

  new_there : (number : ℕ) → number < config.data_centres * config.shards → get_elem? states number ≡ some (new_hosted config number)
  new_there = new_state config states run.opened run.lives

  below : (number : ℕ) (first : Hosted) → get_elem? states number ≡ some first → number < config.data_centres * config.shards
  below number first at = subst (λ n. number < n) many (at_below states number first at)

  new_is : (number : ℕ) (first : Hosted) → get_elem? states number ≡ some first → new_hosted config number ≡ first
  new_is number first at = some-injective (new_hosted config number) first (sym (new_there number (below number first at)) ∙ at)

  -- ---- the calls of each seat

  abbrev Did : ℕ → Type 0
  Did seat = SeatDidDeeds config states history seat (deeds seat)

  called_by : (seat : ℕ) (did : Did seat) → AllCalled config.shards states (deeds seat) did.first did.last
  called_by seat did = all_called config.shards states (deeds seat) did.first did.last did.did

  -- none beyond the last seat
  abbrev calls_if : (seat : ℕ) → (seats ≤ seat) ⊎ (seat < seats) → SlotCalls
  calls_if seat (inl past) = []
  calls_if seat (inr within) = (called_by seat (run.did seat within)).calls

  abbrev tells : (seat : ℕ) → (seats ≤ seat) ⊎ (seat < seats)
  tells seat = elim (leb_tells seats seat) [
    | inl past ↦ inl past.1
    | inr within ↦ inr within.1
  ]

  abbrev calls : ℕ → SlotCalls
  calls seat = calls_if seat (tells seat)

  no_more : (seat : ℕ) → seats ≤ seat → calls seat ≡ []
  no_more seat past = by (tells seat)
    where
      by : (o : (seats ≤ seat) ⊎ (seat < seats)) → calls_if seat o ≡ []
      by (inl beyond) = refl
      by (inr within) = absurd (omega (arith, past, within))

  seat_called : (seat : ℕ) → seat < seats → SeatCalled IsSlotTurn MayLackAtSlot (told.Refused OutOfMemory) states history seat (calls seat)
  seat_called seat within = by (tells seat)
    where
      by : (o : (seats ≤ seat) ⊎ (seat < seats)) → SeatCalled IsSlotTurn MayLackAtSlot (told.Refused OutOfMemory) states history seat (calls_if seat o)
      by (inl past) = absurd (omega (arith, past, within))
      by (inr there) =
          let did = run.did seat there in
          record { first = did.first; last = did.last; number_is = did.number_is; no_turn = did.no_turn; made = (called_by seat did).made; all_of = did.all_of }

  in_lives : (slot life seat : ℕ) → life_turns config.shards slot life (turns_by seat (calls seat)) ≡ flat_map turns_of_told (commands_in_life slot life (deeds seat))
  in_lives slot life seat = by (tells seat)
    where
      by : (o : (seats ≤ seat) ⊎ (seat < seats)) → life_turns config.shards slot life (turns_by seat (calls_if seat o)) ≡ flat_map turns_of_told (commands_in_life slot life (deeds seat))
      by (inl past) = ap (λ ds. flat_map turns_of_told (commands_in_life slot life ds)) (sym (run.few seat past))
      by (inr within) = (called_by seat (run.did seat within)).are slot life seat

  asked_by : (seat : ℕ) → filter_map host_turn (turns_by seat (calls seat)) ≡ calls_of_host (deeds seat)
  asked_by seat = by (tells seat)
    where
      by : (o : (seats ≤ seat) ⊎ (seat < seats)) → filter_map host_turn (turns_by seat (calls_if seat o)) ≡ calls_of_host (deeds seat)
      by (inl past) = ap calls_of_host (sym (run.few seat past))
      by (inr within) = (called_by seat (run.did seat within)).asked seat

  -- ---- the log

  legal_there : (number : ℕ) (first : Hosted) → get_elem? states number ≡ some first → IsLegal IsSlotTurn first (turns_at number history)
  legal_there number first at = subst (λ s. IsLegal IsSlotTurn s (turns_at number history)) (new_is number first at) (run.legal number (below number first at))

  are_calls : AreCallsOf IsSlotTurn MayLackAtSlot (told.Refused OutOfMemory) states history seats calls
  are_calls = record { legal = legal_there; seated = run.seated; did = seat_called; few = no_more }

  abbrev gate : GateLog IsSlotTurn MayLackAtSlot hosted_memory states history seats calls are_calls
  gate = gate_log IsSlotTurn MayLackAtSlot hosted_memory states history seats calls are_calls

  abbrev log : List SlotTurn
  log = map slot_turn_of gate.log

  leads : (number : ℕ) (left : Hosted) → number < config.data_centres * config.shards → Leads IsSlotTurn (new_hosted config number) (turns_at number history) left → LeadsOnSlots (new_hosted config number) (slot_entries_at number log) left
  leads number left within led = subst (λ es. LeadsOnSlots (new_hosted config number) es left) (entries_are number gate.log)
      (leads_slots (entries_there number gate.log) (new_hosted config number) left (gate.leads number (new_hosted config number) left (new_there number within) led))

  is_log : IsLogOfLives config history deeds log
  is_log = record {
    kept = log_kept gate.log ∙ ap (map slot_turn_of) gate.log_kept;
    hosted = record {
      there = subst (λ n. AllByRecursion (λ (t : SlotTurn). t.node < n) log) many (placed_there (length states) gate.log gate.is_placed);
      legal = λ number within. let led = run.legal number within in (led.0, leads number led.0 within led.1);
    };
    make = λ slot life seat. sym (life_by_seat config.shards slot life seat gate.log ∙ ap (life_turns config.shards slot life) (gate.of_seats seat) ∙ in_lives slot life seat);
    asked = λ seat.
        ap (filter_map (λ (t : SlotTurn). host_call t.node t.entry)) (filter-mapped slot_turn_of (λ (t : SlotTurn). t.seat == seat) gate.log)
        ∙ mapped_twice slot_turn_of (λ (t : SlotTurn). host_call t.node t.entry) (turns_of seat gate.log) ∙ ap (filter_map host_turn) (gate.of_seats seat) ∙ asked_by seat;
    leads = leads;
  }

  pub log_of_lives : (log : List SlotTurn) × IsLogOfLives config history deeds log
  log_of_lives = (log, is_log)

-- the actors of a life, who each behave, are served causally there
pub life_served : (config : Config) (history : HostedLog) (seats : ℕ) (deeds : ℕ → List Deed) (whole prefix : List SlotTurn) (tenant : Tenant) (slot life : ℕ) → 0 < config.shards → ((seat : ℕ) → seats ≤ seat → deeds seat ≡ []) →
    IsLogOfLives config history deeds whole → IsTimeOf config tenant slot life prefix whole → ((seat : ℕ) → AllByRecursion (Behaves (tenant_config config tenant) None) (commands_in_life slot life (deeds seat))) →
    LivesCausally config tenant slot life prefix (λ seat. commands_in_life slot life (deeds seat))
life_served config history seats deeds whole prefix tenant slot life one few is time behave =
    lived config tenant slot life one whole prefix is.hosted time seats (λ seat. commands_in_life slot life (deeds seat)) (record {
      behave = behave;
      make = is.make slot life;
      few = λ seat past. ap (commands_in_life slot life) (few seat past);
    })

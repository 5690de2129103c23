-- Whose life a client was served in: what a history shows of it, and what follows for the log.
use Rattle.std.proofs.Common.{◌≡◌, ℕ, zero, suc, ◌<◌, Bool, true, false, cond, List, [], ◌∷◌, ◌++◌, map, inl, inr, refl, ◌∙◌, ap, subst, append_assoc}
use Rattle.std.specs.Coded.{Coded, Coded-set, code_by, coded×, coded_list, coded_ℕ}
use Rattle.std.specs.Prelude.{Option, Some, None}
use Rattle.std.specs.List.{AllByRecursion}
use Rattle.cops_types.specs.declared.configs.Config.{Config}
use Rattle.cops_types.specs.declared.configs.Tenant.{Tenant}
use Rattle.cops_types.specs.declared.quotas.Quota.{Quota}
use Rattle.cops_types.proofs.Elements.{Every-append}
use Rattle.cops_gate.specs.declared.history.Turn.{Turn}
use Rattle.cops_gate.specs.History.{StartsWith}
use Rattle.cops_gate.specs.Seats.{HasAllOf}
use Rattle.cops_gate.proofs.Ending.{starts_again}
use Rattle.cops_node.specs.declared.hosted.SlotCall.{SlotCall}
use Rattle.cops_node.specs.declared.hosted.SlotReply.{SlotReply}
use Rattle.cops_node.specs.Hosting.{Hosted}
use Rattle.cops_service.specs.Admitted.{IsAdmittedThere, ShowsLife, admission_turn}
use Rattle.cops_service.specs.Gates.{Gates}
use Rattle.cops_service.specs.Hosted.{HostedLog}
use Rattle.cops_service.specs.HostedDesks.{HostedSeat}
use Rattle.cops_service.specs.LifeCrews.{ServesInLife}
use Rattle.cops_service.specs.Repeated.{Repeats}
use Rattle.cops_service.specs.declared.roster.Life.{Life}
use Rattle.cops_service.proofs.Admitted.{shows_later}
use Rattle.cops_history.specs.Lives.{SlotEntry, SlotTurn}
use Rattle.cops_whole.specs.Clients.{Conversation}
use Rattle.cops_whole.specs.LifeClients.{IsWorker, LifeConversation, clients_of, in_life, served_in, served_once}
use Rattle.cops_whole.specs.LivesRuns.{kept_slot_log, logged_call, says_out_of_memory, slot_turn_of, unless_out_of_memory}
use Rattle.cops_whole.proofs.LifeDeeds.{after_all, conversed, served_here}
use Rattle.cops_whole.proofs.LifeTimes.{IsAdmittedSo}

-- ---- what a history shows

-- two tenants are the same in one way at most
tenant_code : Coded Tenant
tenant_code = code_by (List ℕ × (List ℕ × (ℕ × Quota))) (coded× (coded_list coded_ℕ) (coded× (coded_list coded_ℕ) (coded× coded_ℕ quota_code)))
    (λ t. (t.name, (t.token, (t.first_clock, t.quota)))) (λ p. record { name = p.0; token = p.1.0; first_clock = p.1.1.0; quota = p.1.1.1 }) (λ t. refl)
  where
    quota_code : Coded Quota
    quota_code = code_by (ℕ × (ℕ × (ℕ × (ℕ × (ℕ × (ℕ × ℕ)))))) (coded× coded_ℕ (coded× coded_ℕ (coded× coded_ℕ (coded× coded_ℕ (coded× coded_ℕ (coded× coded_ℕ coded_ℕ))))))
        (λ q. (q.versions, (q.bytes, (q.outbox, (q.contexts, (q.deps, (q.actors, q.audit)))))))
        (λ p. record { versions = p.0; bytes = p.1.0; outbox = p.1.1.0; contexts = p.1.1.1.0; deps = p.1.1.1.1.0; actors = p.1.1.1.1.1.0; audit = p.1.1.1.1.1.1 }) (λ q. refl)

pub same_once : (tenant other : Tenant) → IsProp (tenant ≡ other)
same_once tenant other = Coded-set tenant_code tenant other

module _ (config : Config) (cluster : Gates Hosted) where
  -- that the life in which the client was served is that of its tenant
  abbrev pub IsShown : HostedLog → LifeConversation → Type 0
  IsShown log c = ShowsLife config cluster c.life c.tenant log

  shown_in : (log : HostedLog) (life : Life) (tenant : Tenant) (cs : List Conversation) → ShowsLife config cluster life tenant log → AllByRecursion (IsShown log) (map (in_life life tenant) cs)
  shown_in log life tenant [] shows = tt
  shown_in log life tenant (c ∷ cs) shows = (shows, shown_in log life tenant cs shows)

  module _ {M : Type 0} (Gives : M → ℕ → M → Type 0) (some_shards : 0 < config.shards) where
    abbrev Step : (HostedSeat × M) → (HostedSeat × M) → Type 0
    Step = ServesInLife config cluster Gives

    once_shown : (log : HostedLog) (first last : HostedSeat × M) (step : Step first last) → StartsWith log last.0.history → AllByRecursion (IsShown log) (served_once Gives first.1 config cluster first last step)
    once_shown log first last (inl none) starts = tt
    once_shown log first last (inr (seen, more, life, tenant, shown, h)) starts =
        let session = conversed config cluster Gives some_shards life tenant (seen, first.1) last h in
        let from = (after_all config cluster session.deeds seen last.0 session.did).seen in
        shown_in log life tenant _ (shows_later config cluster life tenant seen.history log (starts_again log last.0.history seen.history starts from) shown)

    all_shown : (log : HostedLog) (moments : M) (count : ℕ) (first last : HostedSeat × M) (steps : Repeats Step count first last) → StartsWith log last.0.history → AllByRecursion (IsShown log) (served_in Gives moments config cluster count first last steps)
    all_shown log moments zero first last same starts = tt
    all_shown log moments (suc count) first last (between, earlier, step) starts =
        let session = served_here config cluster Gives some_shards between last step in
        let from = (after_all config cluster session.deeds between.0 last.0 session.did).seen in
        Every-append (IsShown log) (served_in Gives moments config cluster count first between earlier) (served_once Gives between.1 config cluster between last step)
        (all_shown log moments count first between earlier (starts_again log last.0.history between.0.history starts from)) (once_shown log between last step starts)

    -- of each client of a worker
    pub seat_shown : (moments : M) (log : HostedLog) (seat : HostedSeat) (done : IsWorker Gives moments config cluster seat) → HasAllOf log seat → AllByRecursion (IsShown log) (clients_of Gives moments config cluster seat done)
    seat_shown moments log seat done all = all_shown log moments done.does.1.0 (done.first, moments) (seat, done.does.0) done.does.1.1 all.0

-- ---- admissions in the log

module _ (Is : ℕ → Tenant → Type 0) where
  abbrev AreSo : List SlotTurn → Type 0
  AreSo log = AllByRecursion (λ (t : SlotTurn). IsAdmittedSo Is t.entry) log

  kept_so : (log : List SlotTurn) → AreSo log → AreSo (kept_slot_log log)
  kept_so [] all = tt
  kept_so (t ∷ log) all = (entry_so t.entry all.0, kept_so log all.1)
    where
      entry_so : (o : Option SlotEntry) → IsAdmittedSo Is o → IsAdmittedSo Is (unless_out_of_memory o)
      entry_so None so = tt
      entry_so (Some e) so = by (says_out_of_memory e.reply)
        where
          by : (b : Bool) → IsAdmittedSo Is (cond b None (Some e))
          by true = tt
          by false = so

  turn_so : (before after : HostedLog) (t : Turn SlotCall SlotReply) → AreSo (map slot_turn_of (before ++ t ∷ after)) → IsAdmittedSo Is (logged_call t.entry)
  turn_so [] after t all = all.0
  turn_so (u ∷ before) after t all = turn_so before after t all.1

  -- what holds of all admissions in the log holds of one that the gate's history has
  pub admitted_so : (log : List SlotTurn) (history : HostedLog) → kept_slot_log log ≡ map slot_turn_of history → AreSo log → (node : ℕ) (life : Life) (tenant : Tenant) → IsAdmittedThere node life tenant history → Is life.number tenant
  admitted_so log history kept all node life tenant (host, before, after, are) =
      turn_so before after (admission_turn host node life tenant) (subst AreSo (kept ∙ ap (map slot_turn_of) are) (kept_so log all)) life.number tenant refl

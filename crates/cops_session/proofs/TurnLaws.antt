-- A step of a get transaction does what comes next.
use Rattle.std.proofs.Common.{◌≡◌, ℕ, ◌+◌, true, false, List, [], ◌∷◌, ◌++◌, length, refl, sym, ◌∙◌, ap, subst, ◌⊎◌, inl, inr}
use Rattle.std.specs.Prelude.{Some, None, nat_lt, slice_get, unwrap_or, max, Result, Ok, Err}
use Rattle.cops_types.specs.declared.contexts.ReadParts.{ReadParts as Read}
use Rattle.cops_types.specs.declared.faults.Fault.{Fault}
use Rattle.cops_types.specs.declared.faults.Fault.TheVariants.{OutOfMemory}
use Rattle.cops_types.specs.declared.request_errors.RequestError.{RequestError}
use Rattle.cops_types.specs.declared.request_errors.RequestError.TheVariants as error
use Rattle.cops_types.specs.Context.{Observation}
use Rattle.cops_types.specs.Key.{shard_of}
use Rattle.cops_types.specs.TenantConfig.{TenantConfig}
use Rattle.cops_model.specs.declared.calls.NodeCall.{NodeCall}
use Rattle.cops_model.specs.declared.calls.NodeCall.TheVariants.{Get}
use Rattle.cops_model.specs.declared.calls.NodeId.{NodeId}
use Rattle.cops_model.specs.declared.calls.NodeReply.{NodeReply}
use Rattle.cops_model.specs.declared.calls.NodeReply.TheVariants.{Gone}
use Rattle.cops_model.specs.Log.{Late, LogStep, Next, Replied, fault_in, replies_of}
use Rattle.cops_model.specs.declared.requests.Answer.{Answer}
use Rattle.cops_model.specs.declared.requests.Progress.TheVariants as shows
use Rattle.cops_session.specs.declared.ongoing.Reading.{Reading}
use Rattle.cops_session.specs.declared.reading.ReadStep.{ReadStep}
use Rattle.cops_session.specs.declared.reading.ReadStep.TheVariants.{Working, Restarted, Complete}
use Rattle.cops_session.specs.declared.settings.Setting.{Setting}
use Rattle.cops_session.specs.Reading.{IsReading, is_gone, is_past}
use Rattle.cops_model.specs.Request.{Request, Fetch, attempt_of, begins_again, next, values_or_full}
use Rattle.cops_session.specs.Rounds.{SecondReads, next_read}
use Rattle.cops_model.specs.Session.{has_restarted}
use Rattle.cops_model.specs.Session as session
use Rattle.cops_session.specs.SessionStands.{IsSettingOf}
use Rattle.cops_session.specs.Stands.{IsOver, IsSecondOf, RoundsStandFor}
use Rattle.cops_model.specs.Transaction.{ReadRequest, gets}
use Rattle.cops_session.specs.Turns.{BeginsAgain, CameOf, HasTurned, TurnsNext}
use Rattle.cops_session.proofs.ReadingLaws.{again_if_gone, ends_with_fault, ends_with_reads, goes_on, goes_on_unless_gone, next_call, next_late, overruns, refused_for_memory, restarts, stays_with_fault}
use Rattle.cops_session.proofs.RoundsStand.{begun_anew, first_ends, length-push, next_asked}

module _ (config : TenantConfig) (setting : Setting) (obs : List Observation) (keys : List (List ℕ)) (log : List LogStep) (setting_is : IsSettingOf config setting) (reading : Reading) where
  abbrev request : Request
  request = record { dc = setting.dc; obs = obs; action = Fetch keys }

  abbrev steps : List LogStep
  steps = (attempt_of (Fetch keys) log).steps

  abbrev replies : List NodeReply
  replies = replies_of steps

  abbrev asked : ReadRequest
  asked = next_read reading.rounds

  module _ (stands : IsReading config request keys log reading) where
    is : slice_get (gets keys replies) (length replies) ≡ Some asked
    is = next_asked keys replies reading.rounds stands.rounds_are

    -- another attempt, or one too many
    anew : (step : LogStep) (after : Reading) (result : Result ReadStep RequestError) → has_restarted (Fetch keys) log step ≡ true → BeginsAgain reading setting.restarts after result → CameOf config request keys log step after result
    anew step after (Ok turn) again begins =
        let on = restarts config setting.dc obs keys log reading stands step again (record { keys = reading.rounds.keys; left = []; reads = [] }) (ap (nat_lt reading.restarts) (sym setting_is.restarts) ∙ begins.1) (begun_anew keys replies reading.rounds stands.rounds_are) in
        subst (λ (t : ReadStep). CameOf config request keys log step after (Ok t)) (sym begins.0) (subst (λ (r : Reading). CameOf config request keys log step r (Ok Restarted)) (sym begins.2) on)
    anew step after (Err failed) again begins =
        let over = overruns config setting.dc obs keys log reading stands step again (ap (nat_lt reading.restarts) (sym setting_is.restarts) ∙ begins.1) in
        subst (λ (e : RequestError). CameOf config request keys log step after (Err e)) (sym begins.0) (over, λ memory. cc)

    -- a late step
    pub late_turned : (called : NodeId → NodeCall → NodeReply → Type 0) (stays : Type 0) (moment : ℕ) (after : Reading) (result : Result ReadStep RequestError) → stays → is_past setting.trans_time reading.start moment ≡ true →
        BeginsAgain reading setting.restarts after result → TurnsNext called stays config request keys log moment after moment result (next config request log moment)
    late_turned called stays moment after result same late begins =
        subst (λ (n : Next Answer). TurnsNext called stays config request keys log moment after moment result n)
        (sym (next_late config setting.dc obs keys log reading stands moment (ap (λ t. is_past t reading.start moment) (sym setting_is.trans_time) ∙ late)))
        (same, record { moment_is = refl; came_is = anew (record { moment = moment; outcome = Late }) after result refl begins })

    -- a step makes the call, and then turns
    pub called_turned : (called : NodeId → NodeCall → NodeReply → Type 0) (stays : Type 0) (moment : ℕ) (reply : NodeReply) (after : Reading) (later : ℕ) (result : Result ReadStep RequestError) → is_past setting.trans_time reading.start moment ≡ false →
        called (record { dc = setting.dc; shard = shard_of asked.key setting.shards }) (Get asked.key asked.wanted) reply →
        HasTurned config request keys log (record { moment = moment; outcome = Replied reply }) after later result →
        TurnsNext called stays config request keys log moment after later result (next config request log moment)
    called_turned called stays moment reply after later result in_time answers has =
        let late = ap (λ t. is_past t reading.start moment) (sym setting_is.trans_time) ∙ in_time in
        subst (λ (n : Next Answer). TurnsNext called stays config request keys log moment after later result n) (sym (next_call config setting.dc obs keys log reading stands moment asked late is)) (
          reply,
          subst (λ (s : ℕ). called (record { dc = setting.dc; shard = shard_of asked.key s }) (Get asked.key asked.wanted) reply) setting_is.shards answers,
          has,
        )

    module _ (moment : ℕ) (reply : NodeReply) where
      abbrev step : LogStep
      step = record { moment = moment; outcome = Replied reply }

      -- with no other attempt the timestamp stays
      stayed : (after : Reading) (result : Result ReadStep RequestError) → begins_again (Fetch keys) (length steps) (Replied reply) ≡ false → CameOf config request keys log step after result → HasTurned config request keys log step after moment result
      stayed after result stay came = record { moment_is = rw stay refl; came_is = came }

      pub fails : (after : Reading) (fault : Fault) → fault_in (Get asked.key asked.wanted) reply ≡ Some fault → HasTurned config request keys log step after moment (Err (error.Refused fault))
      fails after fault some =
          let stay = stays_with_fault keys replies reading.rounds (length steps) reply fault stands.rounds_are stands.all_replied some in
          stayed after (Err (error.Refused fault)) stay (
            ends_with_fault config setting.dc obs keys log reading stands moment asked reply is stay fault some,
            λ memory. ap Replied (refused_for_memory (Get asked.key asked.wanted) reply (some ∙ ap Some memory)),
          )

      -- the node ran out of memory
      pub lacks_there : (after : Reading) → fault_in (Get asked.key asked.wanted) reply ≡ Some OutOfMemory → HasTurned config request keys log step after moment (Err error.OutOfMemory)
      lacks_there after some =
          let stay = stays_with_fault keys replies reading.rounds (length steps) reply OutOfMemory stands.rounds_are stands.all_replied some in
          stayed after (Err error.OutOfMemory) stay (stay, inl (ap Replied (refused_for_memory (Get asked.key asked.wanted) reply some)))

      module _ (none : fault_in (Get asked.key asked.wanted) reply ≡ None) (found : is_gone reply ≡ false) where
        stay : begins_again (Fetch keys) (length steps) (Replied reply) ≡ false
        stay = goes_on_unless_gone keys (length steps) reply found

        pub works : (rounds : SecondReads) (started : ℕ) → started ≡ unwrap_or reading.start moment → RoundsStandFor keys (replies ++ reply ∷ []) rounds →
            HasTurned config request keys log step (record { restarts = reading.restarts; start = Some started; rounds = rounds }) moment (Ok Working)
        works rounds started started_is stand =
            let on = goes_on config setting.dc obs keys log reading stands moment asked reply is stay rounds none stand in
            stayed (record { restarts = reading.restarts; start = Some started; rounds = rounds }) (Ok Working) stay
            (subst (λ (n : ℕ). CameOf config request keys log step (record { restarts = reading.restarts; start = Some n; rounds = rounds }) (Ok Working)) (sym started_is) on)

        pub completes : (after : Reading) → IsOver keys (replies ++ reply ∷ []) after.rounds.reads → HasTurned config request keys log step after moment (Ok Complete)
        completes after over = stayed after (Ok Complete) stay (stay, ends_with_reads config setting.dc obs keys log reading stands moment asked reply is stay after.rounds.reads none over)

        -- memory ran out at the last read of the first round
        pub lacks : (after : Reading) → length replies + 1 ≡ length keys → HasTurned config request keys log step after moment (Err error.OutOfMemory)
        lacks after last =
            stayed after (Err error.OutOfMemory) stay (stay, inr (record { same_attempt = stay; is_read = by (first_ends keys (replies ++ reply ∷ []) (length-push replies reply ∙ last)) }))
          where
            by : ((round : SecondReads) × IsSecondOf keys (replies ++ reply ∷ []) round) ⊎ ((reads : List Read) × IsOver keys (replies ++ reply ∷ []) reads) →
                ((session.progress config request log step ≡ shows.Working) × (length replies + 1 ≡ length keys))
                ⊎ ((reads : List Read) × (session.progress config request log step ≡ shows.Done (values_or_full config.quota.deps obs reads)))
            by (inl (round, stand)) = inl ((goes_on config setting.dc obs keys log reading stands moment asked reply is stay round none (inr stand)).0, last)
            by (inr (reads, over)) = inr (reads, ends_with_reads config setting.dc obs keys log reading stands moment asked reply is stay reads none over)

    -- the version was collected
    pub gone_turned : (moment now : ℕ) (reply : NodeReply) (after : Reading) (result : Result ReadStep RequestError) → reply ≡ Gone now → fault_in (Get asked.key asked.wanted) reply ≡ None →
        BeginsAgain reading setting.restarts after result → HasTurned config request keys log (record { moment = moment; outcome = Replied reply }) after (max moment now) result
    gone_turned moment now reply after result gone none begins =
        let again : begins_again (Fetch keys) (length steps) (Replied (Gone now)) ≡ true =
        again_if_gone keys replies reading.rounds (length steps) now stands.rounds_are stands.all_replied (ap (fault_in (Get asked.key asked.wanted)) (sym gone) ∙ none) in
        subst (λ (r : NodeReply). HasTurned config request keys log (record { moment = moment; outcome = Replied r }) after (max moment now) result) (sym gone)
        (record { moment_is = rw again refl; came_is = anew (record { moment = moment; outcome = Replied (Gone now) }) after result again begins })

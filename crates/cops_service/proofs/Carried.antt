-- Steps of a carrier, one after another.
use Rattle.std.proofs.Common.{◌≡◌, ◌∙◌, ℕ, zero, suc, ap, refl, subst, sym}
use Rattle.std.specs.Prelude.{max}
use Rattle.cops_types.specs.declared.configs.Config.{Config}
use Rattle.cops_model.specs.Carrier.{Carrier, Stream, carrier_after, new_carrier, progress_of}
use Rattle.cops_model.specs.Log.{Call, Directed, Ended, LogStep, Next, Replied, Restart}
use Rattle.cops_model.specs.declared.calls.NodeCall.{NodeCall}
use Rattle.cops_model.specs.declared.calls.NodeId.{NodeId}
use Rattle.cops_model.specs.declared.calls.NodeReply.{NodeReply}
use Rattle.cops_model.specs.declared.deliveries.Delivery.{Delivery}
use Rattle.cops_model.specs.declared.deliveries.Progress.{Progress}
use Rattle.cops_model.specs.declared.deliveries.Progress.TheVariants.{Working, Done}
use Rattle.cops_repl.specs.Stands.{CarrierStandsFor, IsStepOf, KeptCarrier, StandsIfWorking}
use Rattle.cops_service.specs.Carried.{DeliverAll, Delivers, DeliversSome, TakesSteps}

-- a step that shows an end is followed by it
ends_so : (next : Next Delivery) (ending : Delivery) → Done ending ≡ progress_of next → next ≡ Ended ending
ends_so (Call directed) ending e = absurd (let bad : ⊥ = cc in bad)
ends_so Restart ending e = absurd (let bad : ⊥ = cc in bad)
ends_so (Ended other) ending e = let same : ending ≡ other = cc in ap Ended (sym same)

module _ {N : Type 0} (answers : N → NodeId → ℕ → ℕ → NodeCall → NodeReply → N → Type 0) (shards slot : ℕ) (stream : Stream) where
  -- the carrier stands for one of the definition that has taken its steps at these nodes
  abbrev pub HasCome : N → N → KeptCarrier → Type 0
  HasCome old new carrier = (solo : Carrier) × CarrierStandsFor shards carrier solo × ((count : ℕ) × TakesSteps answers shards slot count old (new_carrier stream) new solo)

  module _ (old between new : N) (carrier after : KeptCarrier) (come : HasCome old between carrier) (moment : ℕ) (directed : Directed) (reply : NodeReply) (shows : Progress)
      (call : answers between directed.node slot (max carrier.moment moment) directed.call reply new)
      (steps : (sizes : ℕ) (solo : Carrier) → CarrierStandsFor sizes carrier solo → IsStepOf sizes solo directed (record { moment = max solo.moment moment; outcome = Replied reply }) shows after) where
    abbrev solo : Carrier
    solo = come.0

    abbrev step : LogStep
    step = record { moment = max solo.moment moment; outcome = Replied reply }

    taken : IsStepOf shards solo directed step shows after
    taken = steps shards solo come.1

    more : TakesSteps answers shards slot (suc come.2.0) old (new_carrier stream) new (carrier_after solo step)
    more = (between, solo, come.2.1, (directed, moment, reply, taken.asked, subst (λ m. answers between directed.node slot (max m moment) directed.call reply new) come.1.moment_is call, refl))

    -- it goes on
    pub come_further : shows ≡ Working → HasCome old new after
    come_further works = (carrier_after solo step, subst (StandsIfWorking shards after (carrier_after solo step)) works taken.stands, (suc come.2.0, more))

    -- it has ended
    pub delivered : (ending : Delivery) → shows ≡ Done ending → Delivers answers shards slot stream old new ending
    delivered ending done = (suc come.2.0, carrier_after solo step, more, ends_so _ ending (sym done ∙ taken.shown))

-- ---- one carrier after another

module _ {N : Type 0} (answers : N → NodeId → ℕ → ℕ → NodeCall → NodeReply → N → Type 0) (config : Config) where
  pub carried_on : (old between new : N) → ((count : ℕ) × DeliverAll answers config count old between) → DeliversSome answers config between new → (count : ℕ) × DeliverAll answers config count old new
  carried_on old between new all one = (suc all.0, (between, all.1, one))

  all_joined : (later : ℕ) (old between new : N) → ((count : ℕ) × DeliverAll answers config count old between) → DeliverAll answers config later between new → (count : ℕ) × DeliverAll answers config count old new
  all_joined zero old between new all none = (all.0, subst (λ n. DeliverAll answers config all.0 old n) (sym none) all.1)
  all_joined (suc later) old between new all more = carried_on old more.0 new (all_joined later old between more.0 all more.1) more.2

  pub carried_both : (old between new : N) → ((count : ℕ) × DeliverAll answers config count old between) → ((count : ℕ) × DeliverAll answers config count between new) → (count : ℕ) × DeliverAll answers config count old new
  carried_both old between new before after = all_joined after.0 old between new before after.1

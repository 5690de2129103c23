-- A step of an actor, taken apart once: what a session or a carrier does at its timestamp, or that nothing is to be done.
use Rattle.std.proofs.Common.{◌≡◌, ℕ, zero, suc, Bool, true, false, List, refl, ap}
use Rattle.std.specs.Prelude.{Option, Some, None, max}
use Rattle.std.specs.Option.{option_and_then}
use Rattle.cops_types.specs.declared.faults.Fault.TheVariants.{Idle, UnknownName}
use Rattle.cops_types.specs.TenantConfig.{TenantConfig}
use Rattle.cops_model.specs.Log.{LogStep, Late, Replied, Directed, Next, Call, Restart, Ended}
use Rattle.cops_model.specs.declared.requests.Answer.{Answer}
use Rattle.cops_model.specs.Request as request
use Rattle.cops_model.specs.Session.{Running, Session, moment_at, request_of}
use Rattle.cops_model.specs.declared.deliveries.Delivery.{Delivery}
use Rattle.cops_model.specs.Carrier.{Carrier, carrier_after}
use Rattle.cops_model.specs.Carrier as carrier
use Rattle.cops_model.specs.declared.replies.Reply.TheVariants.{Refused, Working}
use Rattle.cops_model.specs.Cluster.{ActEffect, Actor, OfCarrier, OfSession, SoloCluster, actor_step, actor_steps, call_node, carrier_does, carrier_stepped, find_actor, find_session, goes_on, reply_of_answer, reply_of_delivery, reply_with, request_does, running_step, session_in, session_stepped, step_of}

-- an actor that is a session is found as one
pub as_session : (name : List ℕ) (c : SoloCluster) (s : Session) → find_actor name c ≡ Some (OfSession s) → find_session name c ≡ Some s
as_session name c s found = ap (option_and_then session_in) found

module _ (config : TenantConfig) (name : List ℕ) (moment : ℕ) (c : SoloCluster) (G : ActEffect → Type 0) where
  -- what holds of each kind of step
  pub record StepCases : Type 0 where
    pub unknown : G (reply_with (Refused UnknownName) c)
    pub idle : G (reply_with (Refused Idle) c)
    pub called : (s : Session) (running : Running) (directed : Directed) → find_actor name c ≡ Some (OfSession s) → s.running ≡ Some running →
        request.next config (request_of s running) running.log (moment_at moment s) ≡ Call directed →
        let call = call_node config directed.node (moment_at moment s) directed.call c in G (session_stepped config name s running (record { moment = moment_at moment s; outcome = Replied call.reply }) call.after)
    pub late : (s : Session) (running : Running) → find_actor name c ≡ Some (OfSession s) → s.running ≡ Some running → request.next config (request_of s running) running.log (moment_at moment s) ≡ Restart →
        G (session_stepped config name s running (record { moment = moment_at moment s; outcome = Late }) c)
    pub ended : (s : Session) (running : Running) (a : Answer) → find_actor name c ≡ Some (OfSession s) → s.running ≡ Some running → request.next config (request_of s running) running.log (moment_at moment s) ≡ Ended a →
        G (reply_with (reply_of_answer a) c)
    pub carrier_called : (k : Carrier) (directed : Directed) → find_actor name c ≡ Some (OfCarrier k) → carrier.carrier_next config.shards k.stream k.log ≡ Call directed →
        let call = call_node config directed.node (max k.moment moment) directed.call c in
        let step : LogStep = record { moment = max k.moment moment; outcome = Replied call.reply } in
        G (carrier_stepped name (carrier_after k step) (carrier.delivery_progress config.shards k step) call.after)
    pub carrier_waits : (k : Carrier) → find_actor name c ≡ Some (OfCarrier k) → carrier.carrier_next config.shards k.stream k.log ≡ Restart → G (reply_with Working c)
    pub carrier_ended : (k : Carrier) (ending : Delivery) → find_actor name c ≡ Some (OfCarrier k) → carrier.carrier_next config.shards k.stream k.log ≡ Ended ending → G (reply_with (reply_of_delivery ending) c)

  -- so of a step
  pub by_step : StepCases → G (actor_step config name moment c)
  by_step cases = by_actor (find_actor name c) refl
    where
      by_request : (s : Session) (running : Running) (n : Next Answer) → find_actor name c ≡ Some (OfSession s) → s.running ≡ Some running → request.next config (request_of s running) running.log (moment_at moment s) ≡ n →
          G (request_does config name s running (moment_at moment s) c n)
      by_request s running (Call directed) found runs is = cases.called s running directed found runs is
      by_request s running Restart found runs is = cases.late s running found runs is
      by_request s running (Ended a) found runs is = cases.ended s running a found runs is

      by_running : (s : Session) (run : Option Running) → find_actor name c ≡ Some (OfSession s) → s.running ≡ run → G (running_step config name s moment c run)
      by_running s (Some running) found runs = by_request s running (request.next config (request_of s running) running.log (moment_at moment s)) found runs refl
      by_running s None found runs = cases.idle

      by_delivery : (k : Carrier) (n : Next Delivery) → find_actor name c ≡ Some (OfCarrier k) → carrier.carrier_next config.shards k.stream k.log ≡ n → G (carrier_does config name k (max k.moment moment) c n)
      by_delivery k (Call directed) found is = cases.carrier_called k directed found is
      by_delivery k Restart found is = cases.carrier_waits k found is
      by_delivery k (Ended ending) found is = cases.carrier_ended k ending found is

      by_actor : (found : Option Actor) → find_actor name c ≡ found → G (step_of config name moment c found)
      by_actor (Some (OfSession s)) found = by_running s s.running found refl
      by_actor (Some (OfCarrier k)) found = by_delivery k (carrier.carrier_next config.shards k.stream k.log) found refl
      by_actor None found = cases.unknown

-- ---- steps until one does not go on

module _ (config : TenantConfig) (name : List ℕ) (moment : ℕ) (P : SoloCluster → Type 0) (G : SoloCluster → ActEffect → Type 0) where
  -- what holds if a step goes on, and of one step, holds of steps
  pub by_steps : ((c : SoloCluster) → P c → G c (actor_step config name moment c)) → ((c : SoloCluster) → P c → goes_on (actor_step config name moment c).reply ≡ true → P (actor_step config name moment c).after) →
      ((c : SoloCluster) (turn : ActEffect) → P c → goes_on (actor_step config name moment c).reply ≡ true → G (actor_step config name moment c).after turn → G c turn) →
      (more : ℕ) (c : SoloCluster) → P c → G c (actor_steps more config name moment c)
  by_steps one goes further zero c is = one c is
  by_steps one goes further (suc more) c is = by_goes (goes_on step.reply) refl (λ on. by_steps one goes further more (actor_step config name moment c).after (goes c is on))
    where
      step : ActEffect
      step = actor_step config name moment c

      rest : ActEffect
      rest = actor_steps more config name moment step.after

      turn_by : Bool → ActEffect
      turn_by b = elim b [ true ↦ rest | false ↦ step ]

      by_goes : (b : Bool) → goes_on step.reply ≡ b → (goes_on step.reply ≡ true → G step.after rest) → G c (turn_by b)
      by_goes true on later = further c rest is on (later on)
      by_goes false on later = one c is

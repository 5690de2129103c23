-- A carrier's steps and a collection, as commands.
use Rattle.std.proofs.Common.{◌≡◌, ℕ, zero, suc, true, List, [], ◌∷◌, inl, inr, refl, sym, ap, subst}
use Rattle.std.specs.Prelude.{Some, None, max}
use Rattle.cops_types.specs.TenantConfig.{TenantConfig}
use Rattle.cops_model.specs.declared.calls.NodeCall.{NodeCall}
use Rattle.cops_model.specs.declared.calls.NodeCall.TheVariants as node_call
use Rattle.cops_model.specs.declared.calls.NodeId.{NodeId}
use Rattle.cops_model.specs.declared.calls.NodeReply.{NodeReply}
use Rattle.cops_model.specs.declared.deliveries.Progress.{Progress}
use Rattle.cops_model.specs.declared.deliveries.Progress.TheVariants.{Working}
use Rattle.cops_model.specs.Carrier.{Carrier, Stream, carrier_after, carrier_next, delivery_progress, new_carrier}
use Rattle.cops_model.specs.Cluster.{OfCarrier, has_stream, reply_of_collect}
use Rattle.cops_model.specs.Log.{LogStep, Replied, Call, Directed}
use Rattle.cops_repl.specs.Stands.{CarrierStandsFor, KeptCarrier}
use Rattle.cops_history.specs.Turns.{Turn}
use Rattle.cops_history.specs.Commands as commands
use Rattle.cops_history.specs.Commands.{carrier_left, reply_of_carrier}
use Rattle.cops_history.specs.History.{Told, Behaves}
use Rattle.cops_served.specs.Conversations.{MakesTurns, turns_of_told}
use Rattle.cops_served.specs.Carriers.{Carries, CarriesOne, IsCarriedBy, IsCollectedBy}

-- what a carrier does from this state on
pub record CarriedFrom {N : Type 0} (Calls : N → NodeId → ℕ → ℕ → NodeCall → NodeReply → N → Type 0) (config : TenantConfig) (slot : ℕ) (solo : Carrier) (old new : N) : Type 0 where
  pub did : List Told
  pub behaves : Behaves config (Some (OfCarrier solo)) did
  pub made : MakesTurns Calls slot old (turns_of_told did) new

module _ {N : Type 0} (Calls : N → NodeId → ℕ → ℕ → NodeCall → NodeReply → N → Type 0) (config : TenantConfig) (slot : ℕ) where
  -- a step by which it ended, or that is its last one so far
  pub steps_last : (solo : Carrier) (directed : Directed) (given : ℕ) (reply : NodeReply) (old new : N) → carrier_next config.shards solo.stream solo.log ≡ Call directed →
      Calls old directed.node slot (max solo.moment given) directed.call reply new → CarriedFrom Calls config slot solo old new
  steps_last solo directed given reply old new asked called =
      let t : Turn = record { node = directed.node; moment = max solo.moment given; call = directed.call; reply = reply } in
      let step : LogStep = record { moment = max solo.moment given; outcome = Replied reply } in
      let shown : Progress = delivery_progress config.shards solo step in
      record {
        did = record { command = commands.Carries given t; reply = reply_of_carrier shown } ∷ [];
        behaves = (carrier_left (carrier_after solo step) shown, (solo, refl, asked, refl, (refl, refl)), tt);
        made = (new, called, refl);
      }

  -- a step after which it goes on
  pub steps_on : (solo : Carrier) (directed : Directed) (given : ℕ) (reply : NodeReply) (old mid new : N) → carrier_next config.shards solo.stream solo.log ≡ Call directed →
      Calls old directed.node slot (max solo.moment given) directed.call reply mid → delivery_progress config.shards solo (record { moment = max solo.moment given; outcome = Replied reply }) ≡ Working →
      CarriedFrom Calls config slot (carrier_after solo (record { moment = max solo.moment given; outcome = Replied reply })) mid new → CarriedFrom Calls config slot solo old new
  steps_on solo directed given reply old mid new asked called works rest =
      let t : Turn = record { node = directed.node; moment = max solo.moment given; call = directed.call; reply = reply } in
      let step : LogStep = record { moment = max solo.moment given; outcome = Replied reply } in
      record {
        did = record { command = commands.Carries given t; reply = reply_of_carrier Working } ∷ rest.did;
        behaves = (Some (OfCarrier (carrier_after solo step)), (solo, refl, asked, refl, (ap reply_of_carrier (sym works), ap (carrier_left (carrier_after solo step)) (sym works))), rest.behaves);
        made = (mid, called, rest.made);
      }

  -- it began
  pub begun : (stream : Stream) (old new : N) → has_stream config stream.origin.dc stream.origin.shard stream.to_dc ≡ true → CarriedFrom Calls config slot (new_carrier stream) old new → IsCarriedBy Calls config slot stream old new
  begun stream old new there from = record { did = from.did; behaves = (Some (OfCarrier (new_carrier stream)), (refl, there, refl, refl), from.behaves); made = from.made }

  -- the call of a step, at the timestamp of the carrier that is represented
  called_at : (old new : KeptCarrier) (nodes new_nodes : N) (shows : Progress) (solo : Carrier) → CarrierStandsFor config.shards old solo → (s : CarriesOne Calls slot old nodes shows new new_nodes) →
      Calls nodes s.directed.node slot (max solo.moment s.given) s.directed.call s.reply new_nodes
  called_at old new nodes new_nodes shows solo stands s = subst (λ m. Calls nodes s.directed.node slot (max m s.given) s.directed.call s.reply new_nodes) stands.moment_is s.called

  carries : (steps : ℕ) (old new : KeptCarrier) (nodes new_nodes : N) (solo : Carrier) → CarrierStandsFor config.shards old solo → Carries Calls slot steps old nodes new new_nodes → CarriedFrom Calls config slot solo nodes new_nodes
  carries zero old new nodes new_nodes solo stands (inl none) = record { did = []; behaves = tt; made = none.1 }
  carries zero old new nodes new_nodes solo stands (inr (shows, s)) =
      steps_last solo s.directed s.given s.reply nodes new_nodes (s.stepped config.shards solo stands).asked (called_at old new nodes new_nodes shows solo stands s)
  carries (suc steps) old new nodes new_nodes solo stands h =
      let s = h.2 in
      let is = s.stepped config.shards solo stands in
      let step : LogStep = record { moment = max solo.moment s.given; outcome = Replied s.reply } in
      steps_on solo s.directed s.given s.reply nodes h.1 new_nodes is.asked (called_at old h.0 nodes h.1 Working solo stands s) (sym is.shown)
      (carries steps h.0 new h.1 new_nodes (carrier_after solo step) is.stands h.3)

  pub carried : (stream : Stream) (kept : KeptCarrier) (steps : ℕ) (after : KeptCarrier) (nodes new_nodes : N) → has_stream config stream.origin.dc stream.origin.shard stream.to_dc ≡ true →
      CarrierStandsFor config.shards kept (new_carrier stream) → Carries Calls slot steps kept nodes after new_nodes → IsCarriedBy Calls config slot stream nodes new_nodes
  carried stream kept steps after nodes new_nodes there stands h = begun stream nodes new_nodes there (carries steps kept after nodes new_nodes (new_carrier stream) stands h)

  pub collected : (id : NodeId) (moment : ℕ) (reply : NodeReply) (old new : N) → Calls old id slot moment node_call.Collect reply new → IsCollectedBy Calls config slot old new
  collected id moment reply old new called =
      let t : Turn = record { node = id; moment = moment; call = node_call.Collect; reply = reply } in
      record {
        did = record { command = commands.Collects t; reply = reply_of_collect reply } ∷ [];
        behaves = (None, (refl, refl, refl), tt);
        made = (new, called, refl);
      }

-- What a carrier and a collection are in a history.
use Rattle.std.specs.Prelude.{◌≡◌, ◌⊎◌, ℕ, zero, suc, max, List, ◌∷◌, None}
use Rattle.cops_types.specs.TenantConfig.{TenantConfig}
use Rattle.cops_model.specs.declared.calls.NodeCall.{NodeCall}
use Rattle.cops_model.specs.declared.calls.NodeId.{NodeId}
use Rattle.cops_model.specs.declared.calls.NodeReply.{NodeReply}
use Rattle.cops_model.specs.declared.deliveries.Progress.{Progress}
use Rattle.cops_model.specs.declared.deliveries.Progress.TheVariants.{Working}
use Rattle.cops_model.specs.declared.replies.Reply.TheVariants as reply
use Rattle.cops_model.specs.Carrier.{Carrier, Stream}
use Rattle.cops_model.specs.Log.{Directed, Replied}
use Rattle.cops_repl.specs.Stands.{CarrierStandsFor, IsStepOf, KeptCarrier}
use Rattle.cops_served.specs.Conversations.{MakesTurns, turns_of_told}
use Rattle.cops_history.specs.Commands.{Begins}
use Rattle.cops_history.specs.History.{Told, Behaves}

module _ {N : Type 0} (Calls : N → NodeId → ℕ → ℕ → NodeCall → NodeReply → N → Type 0) (slot : ℕ) where
  -- A step of a carrier, as `Carrier::step` ensures it: it made this call, and for each carrier of the definition that it represented the call is the
  -- next one and the step is the definition's.
  pub record CarriesOne (old : KeptCarrier) (nodes : N) (shows : Progress) (new : KeptCarrier) (new_nodes : N) : Type 0 where
    pub given : ℕ
    pub directed : Directed
    pub reply : NodeReply
    pub called : Calls nodes directed.node slot (max old.moment given) directed.call reply new_nodes
    pub stepped : (shards : ℕ) (solo : Carrier) → CarrierStandsFor shards old solo → IsStepOf shards solo directed (record { moment = max solo.moment given; outcome = Replied reply }) shows new

  -- so many steps after which it goes on, and then no more or one more
  abbrev pub Carries : ℕ → KeptCarrier → N → KeptCarrier → N → Type 0
  Carries zero old nodes new new_nodes = ((new ≡ old) × (new_nodes ≡ nodes)) ⊎ ((shows : Progress) × CarriesOne old nodes shows new new_nodes)
  Carries (suc steps) old nodes new new_nodes = (mid : KeptCarrier) × (mid_nodes : N) × CarriesOne old nodes Working mid mid_nodes × Carries steps mid mid_nodes new new_nodes

-- a carrier of this stream began and carried out these commands, and their turns are the calls that were made
pub record IsCarriedBy {N : Type 0} (Calls : N → NodeId → ℕ → ℕ → NodeCall → NodeReply → N → Type 0) (config : TenantConfig) (slot : ℕ) (stream : Stream) (old new : N) : Type 0 where
  pub did : List Told
  pub behaves : Behaves config None (record { command = Begins stream; reply = reply.Started } ∷ did)
  pub made : MakesTurns Calls slot old (turns_of_told did) new

-- so is a collection at this node
pub record IsCollectedBy {N : Type 0} (Calls : N → NodeId → ℕ → ℕ → NodeCall → NodeReply → N → Type 0) (config : TenantConfig) (slot : ℕ) (old new : N) : Type 0 where
  pub did : List Told
  pub behaves : Behaves config None did
  pub made : MakesTurns Calls slot old (turns_of_told did) new

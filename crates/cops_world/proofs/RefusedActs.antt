-- Acts that the definition refuses before it asks their session, and puts that a session refuses.
use Rattle.std.proofs.Common.{◌≡◌, ℕ, Bool, true, not, ◌&&◌, List, [], ◌∷◌, ap, ◌∙◌}
use Rattle.std.specs.Prelude.{Some, Ok}
use Rattle.std.specs.List.{list_all}
use Rattle.std.specs.Option.{option_and_then}
use Rattle.cops_types.specs.declared.faults.Fault.{Fault}
use Rattle.cops_types.specs.declared.faults.Fault.TheVariants.{BadKey, ValueTooLong}
use Rattle.cops_types.specs.Key.{is_key}
use Rattle.cops_types.specs.Search.{first_refusal}
use Rattle.cops_types.specs.TenantConfig.{TenantConfig}
use Rattle.cops_types.specs.Value.{is_value}
use Rattle.cops_model.specs.declared.acts.Act.{Act}
use Rattle.cops_model.specs.declared.acts.Act.TheVariants as acts
use Rattle.cops_model.specs.declared.replies.Reply.TheVariants.{Refused, Started}
use Rattle.cops_model.specs.Cluster.{ActEffect, SoloCluster, cluster_step, find_actor, on_session, session_acts, session_in, unless_refused}
use Rattle.cops_model.specs.Lacks.{Lacks, is_refusal}
use Rattle.cops_model.specs.Session.{request_begun, session_put_refusal}
use Rattle.cops_model.specs.Setups.{config_in}
use Rattle.cops_model.specs.Request.{Write}
use Rattle.cops_world.specs.declared.actors.Deed.TheVariants as deeds
use Rattle.cops_world.specs.Deeds.{DeedLacks, IsRefusalOf}
use Rattle.cops_world.specs.Worlds.{AnyReply, ClusterStandsAt, Moves, World}
use Rattle.cops_world.proofs.WorldJoins.{refused_moves}

-- ---- puts

module _ (config : TenantConfig) (name : List ℕ) (number : ℕ) (key value : List ℕ) (cluster : SoloCluster) where
  abbrev put_if : Bool → Bool → ActEffect
  put_if k v =
      unless_refused (first_refusal ((not k, BadKey) ∷ (not v, ValueTooLong) ∷ [])) cluster
      (on_session (option_and_then session_in (find_actor name cluster)) cluster (λ s. session_acts name cluster (session_put_refusal config number key s) Started (request_begun number (Write key value) s)))

  put_is : is_key key ≡ true → is_value value ≡ true → cluster_step config (acts.Put name number key value) cluster ≡ put_if true true
  put_is good short = λ i. put_if (good i) (short i)

-- ---- where memory ran out before the session was asked

module _ (old : World) (slot : ℕ) (act : Act) where
  pub refusal_moves : (fault : Fault) → ((cluster : SoloCluster) → ClusterStandsAt old slot cluster → IsRefusalOf (config_in old.setup slot) act cluster (Some fault)) →
      Moves AnyReply (λ config. cluster_step config act) old slot (Ok (Refused fault)) old
  refusal_moves fault refuses = refused_moves AnyReply (λ config. cluster_step config act) old slot fault refuses

-- ---- keys

pub next_key : (slice : List ℕ) (slices left later : List (List ℕ)) → is_key slice ≡ true → left ≡ slice ∷ later → list_all is_key slices ≡ list_all is_key left → list_all is_key slices ≡ list_all is_key later
next_key slice slices left later good first same = same ∙ ap (list_all is_key) first ∙ ap (λ b. b && list_all is_key later) good

-- ---- where memory ran out in the session

-- an act is refused as what its session is asked
pub put_stays : (config : TenantConfig) (name : List ℕ) (number : ℕ) (key value : List ℕ) (before after : SoloCluster) → is_key key ≡ true → is_value value ≡ true → DeedLacks name (deeds.Put number key value) config before after →
    Lacks config (acts.Put name number key value) before after
put_stays config name number key value before after good short is = (ap (λ (t : ActEffect). is_refusal t.reply) (put_is config name number key value before good short) ∙ is.1, is.2)

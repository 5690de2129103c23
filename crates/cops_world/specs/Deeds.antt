-- What a deed does to the cluster of a tenant.
use Rattle.std.specs.Prelude.{◌≡◌, ℕ, Bool, true, false, List, Option, Some, None}
use Rattle.cops_types.specs.declared.faults.Fault.{Fault}
use Rattle.cops_types.specs.TenantConfig.{TenantConfig}
use Rattle.cops_types.specs.Context.{all_of, near_of}
use Rattle.cops_model.specs.Session.{Session, context_created, context_deleted, context_refusal, create_refusal, get_refusal, obs_of, request_begun, session_put_refusal}
use Rattle.cops_model.specs.declared.acts.Act.{Act}
use Rattle.cops_model.specs.declared.replies.Reply.TheVariants.{Created, Deleted, Lists, Refused, Started}
use Rattle.cops_model.specs.Cluster.{ActEffect, SoloCluster, cluster_step, find_session, on_session, reply_with, session_acts, unless_refused}
use Rattle.cops_model.specs.Lacks.{is_refusal}
use Rattle.cops_model.specs.Request.{Write, Fetch}
use Rattle.cops_world.specs.declared.actors.Deed.{Deed}
use Rattle.cops_world.specs.declared.actors.Deed.TheVariants.{Create, Delete, Put, Get, Show}

-- deleting a context needs no memory
abbrev pub needs_memory : Deed → Bool
needs_memory (Delete number) = false
needs_memory deed = true

-- as the act of the same name, once keys and values are known to be some
abbrev pub session_deed : TenantConfig → List ℕ → SoloCluster → Deed → Session → ActEffect
session_deed config name cluster Create s = session_acts name cluster (create_refusal config s) (Created s.next_context) (context_created s)
session_deed config name cluster (Delete number) s = session_acts name cluster (context_refusal number s) Deleted (context_deleted number s)
session_deed config name cluster (Put number key value) s = session_acts name cluster (session_put_refusal config number key s) Started (request_begun number (Write key value) s)
session_deed config name cluster (Get number keys) s = session_acts name cluster (get_refusal config number keys s) Started (request_begun number (Fetch keys) s)
session_deed config name cluster (Show number) s = unless_refused (context_refusal number s) cluster (reply_with (Lists (all_of (obs_of number s)) (near_of (obs_of number s))) cluster)

abbrev pub deed_step : TenantConfig → List ℕ → Deed → SoloCluster → ActEffect
deed_step config name deed cluster = on_session (find_session name cluster) cluster (session_deed config name cluster deed)

-- memory was refused to a deed that needs some and that the definition doesn't refuse, and nothing changed
abbrev pub DeedLacks : List ℕ → Deed → TenantConfig → SoloCluster → SoloCluster → Type 0
DeedLacks name deed config before after = (needs_memory deed ≡ true) × (is_refusal (deed_step config name deed before).reply ≡ false) × (after ≡ before)

-- the definition refuses the act with this fault, or with none
abbrev pub IsRefusalOf : TenantConfig → Act → SoloCluster → Option Fault → Type 0
IsRefusalOf config act cluster (Some fault) = cluster_step config act cluster ≡ reply_with (Refused fault) cluster
IsRefusalOf config act cluster None = is_refusal (cluster_step config act cluster).reply ≡ false

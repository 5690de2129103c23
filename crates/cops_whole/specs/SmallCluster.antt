-- A small cluster that is served: one seat puts a value for one tenant, and another seat collects for a second tenant.
use Rattle.std.specs.Prelude.{ℕ, zero, suc, List, [], ◌∷◌}
use Rattle.cops_types.specs.declared.configs.Config.{Config}
use Rattle.cops_types.specs.declared.configs.Tenant.{Tenant}
use Rattle.cops_types.specs.Version.{Timestamp}
use Rattle.cops_model.specs.declared.calls.NodeCall.TheVariants.{Put, Collect}
use Rattle.cops_model.specs.declared.calls.NodeReply.TheVariants.{Stored, Removed}
use Rattle.cops_model.specs.declared.replies.Reply.TheVariants as reply
use Rattle.cops_history.specs.Turns.{Turn}
use Rattle.cops_history.specs.Commands.{Opens, Creates, Puts, Steps, Collects}
use Rattle.cops_history.specs.Example.{told, turn}
use Rattle.cops_history.specs.History.{Told}
use Rattle.cops_whole.specs.Seats.{SlotActor, turn_by}
use Rattle.cops_whole.specs.Whole.{WholeTurn}

abbrev pub small_tenant : ℕ → Tenant
small_tenant last = record {
  name = 97 ∷ last ∷ [];
  token = 0 ∷ 0 ∷ 0 ∷ 0 ∷ 0 ∷ 0 ∷ 0 ∷ 0 ∷ 0 ∷ 0 ∷ 0 ∷ 0 ∷ 0 ∷ 0 ∷ 0 ∷ last ∷ [];
  first_clock = 0;
  quota = record { versions = 9; bytes = 99; outbox = 9; contexts = 9; deps = 9; actors = 9; audit = 9 };
}

abbrev pub small_config : Config
small_config = record { data_centres = 1; shards = 1; trans_time = 5; restarts = 3; tenants = small_tenant 1 ∷ small_tenant 2 ∷ [] }

abbrev pub small_version : Timestamp
small_version = record { clock = 1; node = 0 }

abbrev pub small_put : Turn
small_put = turn (record { dc = 0; shard = 0 }) 1 (Put (107 ∷ []) (118 ∷ []) [] []) (Stored small_version)

abbrev pub small_collection : Turn
small_collection = turn (record { dc = 0; shard = 0 }) 2 Collect (Removed 0)

abbrev pub small_log : List WholeTurn
small_log = turn_by small_config 0 0 small_put ∷ turn_by small_config 1 1 small_collection ∷ []

abbrev pub small_writer : List Told
small_writer =
    told (Opens 0) reply.Opened ∷ told Creates (reply.Created 1)
    ∷ told (Puts 1 (107 ∷ []) (118 ∷ [])) reply.Started ∷ told (Steps 1 small_put) (reply.Stored (record { key = 107 ∷ []; version = small_version })) ∷ []

abbrev pub small_collector : List Told
small_collector = told (Collects small_collection) (reply.Removed 0) ∷ []

abbrev pub small_actors : ℕ → List SlotActor
small_actors zero = record { slot = 0; did = small_writer } ∷ []
small_actors (suc zero) = record { slot = 1; did = small_collector } ∷ []
small_actors (suc (suc seat)) = []

-- A tenant is admitted, puts a value, and is closed. Then a collection of its life is refused, and another tenant gets the slot.
use Rattle.std.specs.Prelude.{ℕ, zero, suc, List, [], ◌∷◌, ◌++◌, Some}
use Rattle.cops_types.specs.declared.configs.Config.{Config}
use Rattle.cops_types.specs.declared.configs.Tenant.{Tenant}
use Rattle.cops_types.specs.declared.faults.Fault.TheVariants.{UnknownTenant}
use Rattle.cops_types.specs.Version.{Timestamp}
use Rattle.cops_model.specs.declared.calls.NodeCall.TheVariants.{Put, Collect}
use Rattle.cops_model.specs.declared.calls.NodeReply.TheVariants as node_reply
use Rattle.cops_model.specs.declared.replies.Reply.TheVariants as reply
use Rattle.cops_node.specs.declared.hosted.SlotCall.{SlotCall}
use Rattle.cops_node.specs.declared.hosted.SlotCall.TheVariants.{Own, Admit, Close}
use Rattle.cops_node.specs.declared.hosted.SlotReply.{SlotReply}
use Rattle.cops_node.specs.declared.hosted.SlotReply.TheVariants as answer
use Rattle.cops_node.specs.Hosting.{unknown_tenant}
use Rattle.cops_history.specs.Commands.{Opens, Creates, Puts, Steps, Collects}
use Rattle.cops_history.specs.Example.{told, turn}
use Rattle.cops_history.specs.History.{Told}
use Rattle.cops_history.specs.Lives.{SlotTurn, slot_entry}
use Rattle.cops_history.specs.Turns.{Turn}

abbrev pub some_tenant : ℕ → Tenant
some_tenant last = record {
  name = 97 ∷ last ∷ [];
  token = 0 ∷ 0 ∷ 0 ∷ 0 ∷ 0 ∷ 0 ∷ 0 ∷ 0 ∷ 0 ∷ 0 ∷ 0 ∷ 0 ∷ 0 ∷ 0 ∷ 0 ∷ last ∷ [];
  first_clock = 0;
  quota = record { versions = 9; bytes = 99; outbox = 9; contexts = 9; deps = 9; actors = 9; audit = 9 };
}

-- one node, and nobody at first
abbrev pub vacant : Config
vacant = record { data_centres = 1; shards = 1; trans_time = 5; restarts = 3; tenants = [] }

abbrev pub first_version : Timestamp
first_version = record { clock = 1; node = 0 }

abbrev pub put_there : Turn
put_there = turn (record { dc = 0; shard = 0 }) 1 (Put (107 ∷ []) (118 ∷ []) [] []) (node_reply.Stored first_version)

abbrev pub late_collection : Turn
late_collection = turn (record { dc = 0; shard = 0 }) 2 Collect (node_reply.Refused UnknownTenant)

abbrev pub turn_of_slot : ℕ → ℕ → SlotCall → SlotReply → SlotTurn
turn_of_slot seat moment call told_so = record { seat = seat; node = 0; entry = Some (slot_entry 0 moment call told_so) }

-- until a call of life 1 gets `UnknownTenant`
abbrev pub open_time : List SlotTurn
open_time =
    turn_of_slot 0 0 (Admit 1 (some_tenant 1)) answer.Admitted ∷ turn_of_slot 1 1 (Own 1 (Put (107 ∷ []) (118 ∷ []) [] [])) (answer.Own (node_reply.Stored first_version))
    ∷ turn_of_slot 0 0 Close answer.Closed ∷ []

abbrev pub later_turns : List SlotTurn
later_turns = turn_of_slot 2 2 (Own 1 Collect) unknown_tenant ∷ turn_of_slot 0 0 (Admit 2 (some_tenant 2)) answer.Admitted ∷ []

abbrev pub whole_log : List SlotTurn
whole_log = open_time ++ later_turns

abbrev pub life_writes : List Told
life_writes =
    told (Opens 0) reply.Opened ∷ told Creates (reply.Created 1)
    ∷ told (Puts 1 (107 ∷ []) (118 ∷ [])) reply.Started ∷ told (Steps 1 put_there) (reply.Stored (record { key = 107 ∷ []; version = first_version })) ∷ []

-- the actors of life 1, by their seats
abbrev pub life_did : ℕ → List (List Told)
life_did zero = []
life_did (suc zero) = life_writes ∷ []
life_did (suc (suc zero)) = (told (Collects late_collection) (reply.Refused UnknownTenant) ∷ []) ∷ []
life_did (suc (suc (suc seat))) = []

-- Two histories of nodes that no log has. A writer puts x, and then y, which depends on x, at two shards of one data centre. Two carriers bring
-- them to the other data centre. A reader there gets y and then x, and doesn't find x, because its second turn comes before its first.
use Rattle.std.specs.Prelude.{ℕ, true, zero, suc, List, [], ◌∷◌, filter, Some, None}
use Rattle.cops_types.specs.TenantConfig.{TenantConfig}
use Rattle.cops_types.specs.declared.pairs.Pair.{Pair}
use Rattle.cops_types.specs.declared.records.EntryParts.{EntryParts as Entry}
use Rattle.cops_types.specs.Founds.{found_in}
use Rattle.cops_types.specs.Version.{no_version}
use Rattle.cops_model.specs.declared.calls.NodeCall.TheVariants.{Get, Put, DepCheck, Pull, Commit}
use Rattle.cops_model.specs.declared.calls.NodeId.{NodeId}
use Rattle.cops_model.specs.declared.calls.NodeReply.TheVariants.{Stored, Checked, Pulled, Committed, Found, Absent}
use Rattle.cops_model.specs.declared.calls.Wanted.TheVariants.{Latest}
use Rattle.cops_model.specs.declared.replies.Reply.TheVariants as reply
use Rattle.cops_history.specs.Turns.{Turn, is_at}
use Rattle.cops_history.specs.Commands.{Opens, Creates, Puts, Gets, Begins, Steps, Carries}
use Rattle.cops_history.specs.Example.{logged, told, turn}
use Rattle.cops_history.specs.History.{Logged, Told}

abbrev pub two_shards : TenantConfig
two_shards = record {
  data_centres = 2;
  shards = 2;
  trans_time = 5;
  restarts = 3;
  first_clock = 0;
  quota = record { versions = 9; bytes = 99; outbox = 9; contexts = 9; deps = 9; actors = 0; audit = 9 };
}

abbrev pub node_at : ℕ → ℕ → NodeId
node_at dc shard = record { dc = dc; shard = shard }

abbrev pub x : Pair
x = record { key = 108 ∷ []; version = record { clock = 1; node = 0 } }

abbrev pub y : Pair
y = record { key = 107 ∷ []; version = record { clock = 2; node = 1 } }

abbrev pub value : List ℕ
value = 118 ∷ []

abbrev pub entry_of_x : Entry
entry_of_x = record { key = x.key; version = x.version; value = value; deps = []; near = []; prev = no_version }

abbrev pub entry_of_y : Entry
entry_of_y = record { key = y.key; version = y.version; value = value; deps = x ∷ []; near = x ∷ []; prev = no_version }

abbrev pub put_x : Turn
put_x = turn (node_at 0 0) 1 (Put x.key value [] []) (Stored x.version)

abbrev pub put_y : Turn
put_y = turn (node_at 0 1) 1 (Put y.key value (x ∷ []) (x ∷ [])) (Stored y.version)

abbrev pub pull_x : Turn
pull_x = turn (node_at 0 0) 1 (Pull 1) (Pulled entry_of_x)

abbrev pub commit_x : Turn
commit_x = turn (node_at 1 0) 1 (Commit entry_of_x) Committed

abbrev pub pull_y : Turn
pull_y = turn (node_at 0 1) 1 (Pull 1) (Pulled entry_of_y)

abbrev pub check_x : Turn
check_x = turn (node_at 1 0) 1 (DepCheck x.key x.version) (Checked true)

abbrev pub commit_y : Turn
commit_y = turn (node_at 1 1) 1 (Commit entry_of_y) Committed

abbrev pub get_y : Turn
get_y = turn (node_at 1 1) 1 (Get y.key Latest) (Found (found_in entry_of_y))

abbrev pub get_x : Turn
get_x = turn (node_at 1 0) 1 (Get x.key Latest) Absent

-- the history of each node
abbrev pub history_at : ℕ → List Logged
history_at zero = logged 0 put_x ∷ logged 1 pull_x ∷ []
history_at (suc zero) = logged 0 put_y ∷ logged 2 pull_y ∷ []
history_at (suc (suc zero)) = logged 3 get_x ∷ logged 1 commit_x ∷ logged 2 check_x ∷ []
history_at (suc (suc (suc zero))) = logged 2 commit_y ∷ logged 3 get_y ∷ []
history_at (suc (suc (suc (suc number)))) = []

-- what a log says of the node of this number
abbrev pub logged_at : ℕ → List Logged → List Logged
logged_at number log = filter (λ l. is_at two_shards number l.turn) log

abbrev pub writer : List Told
writer =
    told (Opens 0) reply.Opened ∷ told Creates (reply.Created 1)
    ∷ told (Puts 1 x.key value) reply.Started ∷ told (Steps 1 put_x) (reply.Stored x)
    ∷ told (Puts 1 y.key value) reply.Started ∷ told (Steps 1 put_y) (reply.Stored y) ∷ []

abbrev pub carrier_of_x : List Told
carrier_of_x = told (Begins (record { origin = node_at 0 0; to_dc = 1 })) reply.Started ∷ told (Carries 1 pull_x) reply.Working ∷ told (Carries 1 commit_x) reply.Working ∷ []

abbrev pub carrier_of_y : List Told
carrier_of_y =
    told (Begins (record { origin = node_at 0 1; to_dc = 1 })) reply.Started
    ∷ told (Carries 1 pull_y) reply.Working ∷ told (Carries 1 check_x) reply.Working ∷ told (Carries 1 commit_y) reply.Working ∷ []

abbrev pub reader : List Told
reader =
    told (Opens 1) reply.Opened ∷ told Creates (reply.Created 1)
    ∷ told (Gets 1 (y.key ∷ [])) reply.Started
    ∷ told (Steps 1 get_y) (reply.Values (record { key = y.key; value = Some value; version = y.version; deps = x ∷ [] } ∷ []))
    ∷ told (Gets 1 (x.key ∷ [])) reply.Started
    ∷ told (Steps 1 get_x) (reply.Values (record { key = x.key; value = None; version = no_version; deps = [] } ∷ [])) ∷ []

-- the actor of each seat
abbrev pub actors_at : ℕ → List (List Told)
actors_at zero = writer ∷ []
actors_at (suc zero) = carrier_of_x ∷ []
actors_at (suc (suc zero)) = carrier_of_y ∷ []
actors_at (suc (suc (suc zero))) = reader ∷ []
actors_at (suc (suc (suc (suc seat)))) = []

-- A small history: one seat puts a value, a second one carries it to another data centre, and a third one reads it there and collects at its origin.
use Rattle.std.specs.Prelude.{ℕ, true, List, [], ◌∷◌, zero, suc, Some}
use Rattle.cops_types.specs.TenantConfig.{TenantConfig}
use Rattle.cops_model.specs.declared.calls.NodeCall.{NodeCall}
use Rattle.cops_model.specs.declared.calls.NodeCall.TheVariants.{Get, Put, Pull, Commit, Ack, Collect}
use Rattle.cops_model.specs.declared.calls.NodeId.{NodeId}
use Rattle.cops_model.specs.declared.calls.NodeReply.{NodeReply}
use Rattle.cops_model.specs.declared.calls.NodeReply.TheVariants.{Stored, Pulled, Committed, Acked, Found, Removed}
use Rattle.cops_model.specs.declared.calls.Wanted.TheVariants.{Latest}
use Rattle.cops_model.specs.declared.replies.Reply.TheVariants as reply
use Rattle.cops_types.specs.declared.records.EntryParts.{EntryParts as Entry}
use Rattle.cops_types.specs.Founds.{found_in}
use Rattle.cops_types.specs.Version.{Timestamp}
use Rattle.cops_history.specs.Turns.{Turn}
use Rattle.cops_model.specs.declared.replies.Reply.{Reply}
use Rattle.cops_history.specs.Commands.{Command, Opens, Creates, Puts, Gets, Begins, Steps, Carries, Collects}
use Rattle.cops_history.specs.History.{Logged, Told}

abbrev pub config : TenantConfig
config = record {
  data_centres = 2;
  shards = 1;
  trans_time = 5;
  restarts = 3;
  first_clock = 0;
  quota = record { versions = 9; bytes = 99; outbox = 9; contexts = 9; deps = 9; actors = 0; audit = 9 };
}

abbrev pub here : NodeId
here = record { dc = 0; shard = 0 }

abbrev pub away : NodeId
away = record { dc = 1; shard = 0 }

abbrev pub key : List ℕ
key = 107 ∷ []

abbrev pub first : Timestamp
first = record { clock = 1; node = 0 }

abbrev pub entry : Entry
entry = record { key = key; version = first; value = 118 ∷ []; deps = []; near = []; prev = record { clock = 0; node = 0 } }

abbrev pub turn : NodeId → ℕ → NodeCall → NodeReply → Turn
turn id moment call reply = record { node = id; moment = moment; call = call; reply = reply }

abbrev pub put_turn : Turn
put_turn = turn here 1 (Put key (118 ∷ []) [] []) (Stored first)

abbrev pub pull_turn : Turn
pull_turn = turn here 2 (Pull 1) (Pulled entry)

abbrev pub commit_turn : Turn
commit_turn = turn away 3 (Commit entry) Committed

abbrev pub ack_turn : Turn
ack_turn = turn here 3 (Ack 1 first) Acked

abbrev pub get_turn : Turn
get_turn = turn away 3 (Get key Latest) (Found (found_in entry))

abbrev pub collect_turn : Turn
collect_turn = turn here 20 Collect (Removed 0)

abbrev pub logged : ℕ → Turn → Logged
logged seat t = record { seat = seat; turn = t }

abbrev pub log : List Logged
log = logged 0 put_turn ∷ logged 1 pull_turn ∷ logged 1 commit_turn ∷ logged 2 get_turn ∷ logged 1 ack_turn ∷ logged 2 collect_turn ∷ []

abbrev pub told : Command → Reply → Told
told command reply = record { command = command; reply = reply }

abbrev pub writes : List Told
writes = told (Opens 0) reply.Opened ∷ told Creates (reply.Created 1) ∷ told (Puts 1 key (118 ∷ [])) reply.Started ∷ told (Steps 1 put_turn) (reply.Stored (record { key = key; version = first })) ∷ []

abbrev pub carries : List Told
carries =
    told (Begins (record { origin = here; to_dc = 1 })) reply.Started
    ∷ told (Carries 2 pull_turn) reply.Working ∷ told (Carries 3 commit_turn) reply.Working ∷ told (Carries 3 ack_turn) (reply.Carried (record { key = key; version = first }) true true) ∷ []

abbrev pub reads : List Told
reads =
    told (Opens 1) reply.Opened ∷ told Creates (reply.Created 1) ∷ told (Gets 1 (key ∷ [])) reply.Started
    ∷ told (Steps 3 get_turn) (reply.Values (record { key = key; value = Some (118 ∷ []); version = first; deps = [] } ∷ [])) ∷ []

abbrev pub collects : List Told
collects = told (Collects collect_turn) (reply.Removed 0) ∷ []

abbrev pub did : ℕ → List (List Told)
did zero = writes ∷ []
did (suc zero) = carries ∷ []
did (suc (suc zero)) = reads ∷ collects ∷ []
did (suc (suc (suc seat))) = []

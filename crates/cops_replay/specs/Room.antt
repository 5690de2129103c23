-- The most room that the text of a record takes, in bytes.
use Rattle.std.specs.Prelude.{ℕ, ◌≡◌, ◌<◌, ◌≤◌, ◌+◌, ◌*◌, ◌^◌, List, [], ◌∷◌, ◌++◌, decimal, length}
use Rattle.cops_types.specs.declared.pairs.Pair.{Pair}
use Rattle.cops_types.specs.declared.records.EntryParts.{EntryParts as Entry}
use Rattle.cops_types.specs.Words.{space}
use Rattle.cops_model.specs.declared.calls.NodeCall.{NodeCall}
use Rattle.cops_model.specs.declared.calls.NodeCall.TheVariants.{Put, Commit}
use Rattle.cops_model.specs.declared.calls.NodeId.{NodeId}
use Rattle.cops_model.specs.declared.calls.NodeReply.{NodeReply}
use Rattle.cops_model.specs.declared.calls.NodeReply.TheVariants.{Found, Pulled}
use Rattle.cops_node.specs.declared.rows.Packing.{Packing}
use Rattle.cops_node.specs.Rows.{exchange_of}
use Rattle.cops_replay.specs.declared.Record.{Record}
use Rattle.cops_replay.specs.RecordText.{node_text}

-- two digits for each byte of a value, and 107 bytes for each pair of both lists
abbrev pub stored_room : List ℕ → List Pair → List Pair → ℕ
stored_room value deps near = 2 * length value + 107 * length deps + 107 * length near

abbrev pub entry_room : Entry → ℕ
entry_room entry = stored_room entry.value entry.deps entry.near

-- that of a call
abbrev pub call_room : NodeCall → ℕ
call_room (Put key value deps near) = stored_room value deps near
call_room (Commit entry) = entry_room entry
call_room call = 0

-- that of a reply
abbrev pub reply_room : NodeReply → ℕ
reply_room (Found f) = stored_room f.value f.deps []
reply_room (Pulled entry) = entry_room entry
reply_room reply = 0

-- that of a call and a reply in this form
abbrev pub packing_room : Packing → ℕ
packing_room packing = call_room (exchange_of packing).call + reply_room (exchange_of packing).reply

-- the whole line
abbrev pub line_room : Packing → ℕ
line_room packing = 430 + 2 * packing_room packing

-- so many bytes are enough for a text, unless there can't be as many
abbrev pub IsRoomFor : ℕ → ℕ → Type 0
IsRoomFor text room = room < 2 ^ 63 → text ≤ room

-- so many bytes are no more than a text takes, unless it is longer than any that there is memory for
abbrev pub IsNoMoreThan : ℕ → ℕ → Type 0
IsNoMoreThan text room = text < 2 ^ 50 → room ≡ text

-- the text before the call
abbrev pub front_text : List ℕ → NodeId → ℕ → List ℕ
front_text name node moment = name ++ (space ∷ (node_text node ++ (space ∷ (decimal moment ++ (space ∷ [])))))

-- the record of a call in this form
abbrev pub packed_record : NodeId → ℕ → Packing → Record
packed_record node moment packing = record { node = node; moment = moment; call = (exchange_of packing).call; reply = (exchange_of packing).reply }

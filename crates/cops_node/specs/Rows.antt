-- The calls and replies that rows of an audit represent.
use Rattle.std.specs.Prelude.{true, false}
use Rattle.cops_types.specs.Founds.{found_in}
use Rattle.cops_model.specs.declared.calls.NodeCall.TheVariants.{Get, Put, DepCheck, Pull, Commit, Ack, Collect}
use Rattle.cops_model.specs.declared.calls.NodeReply.TheVariants.{Found, Absent, NotYet, Stored, Checked, Pulled, Nothing, Committed, Already, OutOfOrder, Acked, NotFront, Removed}
use Rattle.cops_model.specs.declared.calls.Wanted.TheVariants.{Latest, Exactly}
use Rattle.cops_node.specs.declared.rows.Exchange.{Exchange}
use Rattle.cops_node.specs.declared.rows.Packing.{Packing}
use Rattle.cops_node.specs.declared.rows.Packing.TheVariants.{PutStored, LatestFound, ExactFound, LatestAbsent, NotCome, WasCommitted, WasNotCommitted, EntryPulled, NothingPulled, EntryCommitted, CommittedBefore, EntryOutOfOrder, FrontAcked, FrontNotAcked, Collected, InFull}

-- an entry has all parts of a put and its reply, and all that a get finds
abbrev pub exchange_of : Packing → Exchange
exchange_of (PutStored entry) = record { call = Put entry.key entry.value entry.deps entry.near; reply = Stored entry.version }
exchange_of (LatestFound entry) = record { call = Get entry.key Latest; reply = Found (found_in entry) }
exchange_of (ExactFound entry) = record { call = Get entry.key (Exactly entry.version); reply = Found (found_in entry) }
exchange_of (LatestAbsent key) = record { call = Get key Latest; reply = Absent }
exchange_of (NotCome key version) = record { call = Get key (Exactly version); reply = NotYet }
exchange_of (WasCommitted key version) = record { call = DepCheck key version; reply = Checked true }
exchange_of (WasNotCommitted key version) = record { call = DepCheck key version; reply = Checked false }
exchange_of (EntryPulled dc entry) = record { call = Pull dc; reply = Pulled entry }
exchange_of (NothingPulled dc) = record { call = Pull dc; reply = Nothing }
exchange_of (EntryCommitted entry) = record { call = Commit entry; reply = Committed }
exchange_of (CommittedBefore entry) = record { call = Commit entry; reply = Already }
exchange_of (EntryOutOfOrder entry mark) = record { call = Commit entry; reply = OutOfOrder mark }
exchange_of (FrontAcked dc version) = record { call = Ack dc version; reply = Acked }
exchange_of (FrontNotAcked dc version) = record { call = Ack dc version; reply = NotFront }
exchange_of (Collected count) = record { call = Collect; reply = Removed count }
exchange_of (InFull exchange) = exchange.value

-- Worked examples: a tenant's replies in a cluster of its own.
use Rattle.std.proofs.Common.{◌≡◌, ℕ, zero, suc, ◌<◌, true, false, List, [], ◌∷◌, ◌++◌, refl, arith}
use Rattle.std.specs.Prelude.{codes, IsTrue}
use Rattle.std.specs.List.{list_all}
use Rattle.cops_types.specs.declared.records.EntryParts.{EntryParts as Entry}
use Rattle.cops_types.specs.declared.faults.Fault.TheVariants.{UnknownName, NameTaken, Busy, Idle, NoContext, TooManyContexts, VersionQuota, ByteQuota, OutboxFull, DependenciesFull, ClockFull, AuditFull, Overrun, NoSuchPlace, RepeatedKey, ActorsFull}
use Rattle.cops_model.specs.declared.acts.Act.{Act}
use Rattle.cops_model.specs.declared.acts.Act.TheVariants.{Open, Create, Delete, Put, Get, Show, Carry, Step, Done, Collect}
use Rattle.cops_model.specs.declared.replies.Reply.{Reply}
use Rattle.cops_model.specs.declared.replies.Reply.TheVariants.{Opened, Created, Deleted, Started, Lists, Working, Restarted, Stored, Values, Nothing, Waits, Carried, Removed, Refused}
use Rattle.cops_model.specs.declared.acts.Event.{Event}
use Rattle.cops_model.specs.Causal.{Returned, past_of_put, deps_of, answers_consistently, Traced}
use Rattle.cops_types.specs.TenantConfig.{TenantConfig}
use Rattle.cops_model.specs.Events.{cluster_of, own, solo_replies}
use Rattle.cops_model.specs.Laws.{AreConsistent, AreExactDeps, committed_entries, is_committed_in, is_expected}
use Rattle.cops_model.specs.Told.{history_told}
use Rattle.cops_model.specs.Carrier.{pair_of_entry}
use Rattle.cops_script.proofs.Words.{cluster, quota, a, b, c, d, p, q, r, x, y, z, pair, read, absent}

-- a session of this name at a data centre, with its first context
abbrev session : List ℕ → ℕ → List Act
session name dc = Open name dc ∷ Create name ∷ []

abbrev opened : List Reply
opened = Opened ∷ Created 1 ∷ []

-- what is put is read
put_then_get :
    solo_replies (cluster 1 1) (session a 0 ++ Put a 1 x (codes "10") ∷ Step a 0 ∷ Get a 1 (x ∷ []) ∷ Step a 1 ∷ [])
    ≡ opened ++ Started ∷ Stored (pair x 1 0) ∷ Started ∷ Values (read x (codes "10") 1 0 [] ∷ []) ∷ []
put_then_get = refl

-- a key that nobody put is absent
absent_key :
    solo_replies (cluster 1 1) (session a 0 ++ Get a 1 (x ∷ []) ∷ Step a 0 ∷ Show a 1 ∷ [])
    ≡ opened ++ Started ∷ Values (absent x ∷ []) ∷ Lists [] [] ∷ []
absent_key = refl

-- a read that depends on a newer version of another key asks for that version
abbrev two_rounds_start : List Act
two_rounds_start = session a 0 ++ session b 0 ++ Get a 1 (x ∷ y ∷ []) ∷ Step a 10 ∷ Put b 1 x (codes "10") ∷ Done b 10 ∷ Put b 1 y (codes "20") ∷ Done b 10 ∷ []

abbrev two_rounds_told : List Reply
two_rounds_told = opened ++ opened ++ Started ∷ Working ∷ Started ∷ Stored (pair x 1 0) ∷ Started ∷ Stored (pair y 2 1) ∷ []

second_round_reads_the_wanted_version :
    solo_replies (cluster 1 2) (two_rounds_start ++ Step a 11 ∷ Step a 12 ∷ Show a 1 ∷ [])
    ≡ two_rounds_told ++ Working ∷ Values (read x (codes "10") 1 0 [] ∷ read y (codes "20") 2 1 (pair x 1 0 ∷ []) ∷ [])
    ∷ Lists (pair x 1 0 ∷ pair y 2 1 ∷ []) (pair y 2 1 ∷ []) ∷ []
second_round_reads_the_wanted_version = refl

-- ---- two tenants

abbrev acme : Act → Event
acme act = record { slot = 0; act = act }

abbrev beta : Act → Event
beta act = record { slot = 1; act = act }

-- both put the same key in turns, and each is answered by its own clock
puts_in_turns : List Event
puts_in_turns =
    acme (Open a 0) ∷ acme (Create a) ∷ beta (Open a 0) ∷ beta (Create a) ∷ acme (Put a 1 x (codes "1")) ∷ acme (Done a 0) ∷ beta (Put a 1 x (codes "2")) ∷ beta (Done a 0)
    ∷ acme (Put a 1 x (codes "3")) ∷ acme (Done a 0) ∷ beta (Put a 1 x (codes "4")) ∷ beta (Done a 0) ∷ []

two_tenants_have_clocks_of_their_own : (t : ℕ) → t < 2 → solo_replies (cluster 1 1) (own t puts_in_turns) ≡ opened ++ Started ∷ Stored (pair x 1 0) ∷ Started ∷ Stored (pair x 2 0) ∷ []
unfolding puts_in_turns
two_tenants_have_clocks_of_their_own zero lt = refl
two_tenants_have_clocks_of_their_own (suc zero) lt = refl
two_tenants_have_clocks_of_their_own (suc (suc t)) lt = absurd (omega arith)

-- what another tenant does before each of them, its collections too, is not among the tenant's events
abbrev other_tenant : List Event
other_tenant = beta (Put b 1 x (codes "99")) ∷ beta (Done b 900000) ∷ beta (Collect 0 0 990000) ∷ []

abbrev interleaved : List Act → List Event
interleaved [] = []
interleaved (act ∷ acts) = other_tenant ++ acme act ∷ interleaved acts

abbrev two_rounds_among_others : List Event
two_rounds_among_others = beta (Open b 0) ∷ beta (Create b) ∷ interleaved (two_rounds_start ++ Step a 11 ∷ Step a 12 ∷ Show a 1 ∷ [])

others_are_not_seen : own 0 two_rounds_among_others ≡ two_rounds_start ++ Step a 11 ∷ Step a 12 ∷ Show a 1 ∷ []
others_are_not_seen = refl

abbrev puts_of_other : List ℕ → List Reply
puts_of_other [] = []
puts_of_other (n ∷ ns) = Started ∷ Stored (pair x n 0) ∷ Removed 0 ∷ puts_of_other ns

other_is_not_disturbed :
    solo_replies (cluster 1 2) (own 1 two_rounds_among_others)
    ≡ opened ++ puts_of_other (1 ∷ 2 ∷ 3 ∷ 4 ∷ 5 ∷ 6 ∷ 7 ∷ 8 ∷ 9 ∷ 10 ∷ 11 ∷ 12 ∷ 13 ∷ [])
other_is_not_disturbed = refl

-- ---- carriers

-- an entry waits for its near dependency, and then goes
carried_after_its_dependency :
    solo_replies (cluster 2 2) (session a 0 ++ session b 1
    ++ Put a 1 x (codes "10") ∷ Done a 0 ∷ Put a 1 y (codes "20") ∷ Done a 0
    ∷ Carry c 0 1 1 ∷ Done c 5 ∷ Carry c 0 0 1 ∷ Done c 5 ∷ Carry c 0 1 1 ∷ Done c 5 ∷ Carry c 0 1 1 ∷ Done c 5
    ∷ Get b 1 (x ∷ y ∷ []) ∷ Done b 6 ∷ [])
    ≡ opened ++ opened
    ++ Started ∷ Stored (pair x 1 0) ∷ Started ∷ Stored (pair y 2 1)
    ∷ Started ∷ Waits (pair x 1 0) ∷ Started ∷ Carried (pair x 1 0) true true ∷ Started ∷ Carried (pair y 2 1) true true ∷ Started ∷ Nothing
    ∷ Started ∷ Values (read x (codes "10") 1 0 [] ∷ read y (codes "20") 2 1 (pair x 1 0 ∷ []) ∷ []) ∷ []
carried_after_its_dependency = refl

-- two carriers of one stream: the second finds the entry committed and taken out
carried_twice :
    solo_replies (cluster 2 1) (session a 0 ++ Put a 1 x (codes "10") ∷ Done a 0 ∷ Carry c 0 0 1 ∷ Carry d 0 0 1
    ∷ Step c 5 ∷ Step d 5 ∷ Step c 5 ∷ Step c 5 ∷ Step d 5 ∷ Step d 5 ∷ Step d 5 ∷ [])
    ≡ opened ++ Started ∷ Stored (pair x 1 0) ∷ Started ∷ Started
    ∷ Working ∷ Working ∷ Working ∷ Carried (pair x 1 0) true true ∷ Working ∷ Carried (pair x 1 0) false false ∷ Refused UnknownName ∷ []
carried_twice = refl

-- of two puts of one key the greater version wins at both data centres
last_writer_wins :
    solo_replies (cluster 2 1) (session a 0 ++ session b 1 ++ Put a 1 x (codes "10") ∷ Done a 0 ∷ Put b 1 x (codes "20") ∷ Done b 0
    ∷ Carry c 0 0 1 ∷ Done c 5 ∷ Carry c 1 0 0 ∷ Done c 5 ∷ Get a 1 (x ∷ []) ∷ Done a 6 ∷ Get b 1 (x ∷ []) ∷ Done b 6 ∷ [])
    ≡ opened ++ opened ++ Started ∷ Stored (pair x 1 0) ∷ Started ∷ Stored (pair x 1 1)
    ∷ Started ∷ Carried (pair x 1 0) true true ∷ Started ∷ Carried (pair x 1 1) true true
    ∷ Started ∷ Values (read x (codes "20") 1 1 [] ∷ []) ∷ Started ∷ Values (read x (codes "20") 1 1 [] ∷ []) ∷ []
last_writer_wins = refl

-- a context keeps what both versions depend on, and a put leaves itself as the nearest
both_versions : List Act
both_versions =
    session a 0 ++ session b 1 ++ session r 0
    ++ Put a 1 p (codes "1") ∷ Done a 0 ∷ Put a 1 x (codes "10") ∷ Done a 0 ∷ Put b 1 q (codes "2") ∷ Done b 0 ∷ Put b 1 x (codes "20") ∷ Done b 0
    ∷ Get r 1 (x ∷ []) ∷ Done r 5 ∷ Carry c 1 0 0 ∷ Done c 5 ∷ Carry c 1 0 0 ∷ Done c 5 ∷ Get r 1 (x ∷ []) ∷ Done r 6 ∷ Show r 1
    ∷ Put r 1 z (codes "30") ∷ Done r 6 ∷ Show r 1 ∷ []

both_versions_count :
    solo_replies (cluster 2 1) both_versions
    ≡ opened ++ opened ++ opened
    ++ Started ∷ Stored (pair p 1 0) ∷ Started ∷ Stored (pair x 2 0) ∷ Started ∷ Stored (pair q 1 1) ∷ Started ∷ Stored (pair x 2 1)
    ∷ Started ∷ Values (read x (codes "10") 2 0 (pair p 1 0 ∷ []) ∷ []) ∷ Started ∷ Carried (pair q 1 1) true true ∷ Started ∷ Carried (pair x 2 1) true true
    ∷ Started ∷ Values (read x (codes "20") 2 1 (pair q 1 1 ∷ []) ∷ [])
    ∷ Lists (pair p 1 0 ∷ pair q 1 1 ∷ pair x 2 1 ∷ []) (pair x 2 0 ∷ pair x 2 1 ∷ [])
    ∷ Started ∷ Stored (pair z 3 0) ∷ Lists (pair p 1 0 ∷ pair q 1 1 ∷ pair x 2 1 ∷ pair z 3 0 ∷ []) (pair z 3 0 ∷ []) ∷ []
unfolding both_versions
both_versions_count = refl

-- the operations that a cluster of one's own tells, each with its past
abbrev history : TenantConfig → List Act → List Traced
history config acts = history_told acts (solo_replies config acts)

-- the past of the last put, from the operations alone
past_of_the_last_put : deps_of (history (cluster 2 1) both_versions) (pair z 3 0) ≡ pair p 1 0 ∷ pair q 1 1 ∷ pair x 2 1 ∷ []
unfolding both_versions
past_of_the_last_put = refl

-- what the records carry is what the operations say
exact_deps : AreExactDeps (history (cluster 2 1) both_versions) (committed_entries (cluster 2 1) (cluster_of (cluster 2 1) both_versions) 0 0)
unfolding both_versions
exact_deps = (refl, refl)

consistent_answers : AreConsistent (history (cluster 2 1) both_versions)
unfolding both_versions
consistent_answers = refl

-- ---- collection

-- a version is kept for the time of a transaction after it was overtaken
collected_when_outdated :
    solo_replies (cluster 1 1) (session a 0 ++ Put a 1 x (codes "10") ∷ Done a 0 ∷ Put a 1 x (codes "20") ∷ Done a 100
    ∷ Collect 0 0 5100 ∷ Collect 0 0 5101 ∷ Collect 0 0 5101 ∷ [])
    ≡ opened ++ Started ∷ Stored (pair x 1 0) ∷ Started ∷ Stored (pair x 2 0) ∷ Removed 0 ∷ Removed 1 ∷ Removed 0 ∷ []
collected_when_outdated = refl

abbrev gone_start : List Act
gone_start = two_rounds_start ++ Put b 1 x (codes "11") ∷ Done b 20 ∷ Collect 0 0 5021 ∷ Step a 11 ∷ Step a 12 ∷ []

-- a version that is gone in the second round restarts the transaction
gone_restarts :
    solo_replies (cluster 1 2) (gone_start ++ Step a 13 ∷ Step a 14 ∷ [])
    ≡ two_rounds_told ++ Started ∷ Stored (pair x 3 0) ∷ Removed 1 ∷ Working ∷ Restarted 1 ∷ Working
    ∷ Values (read x (codes "11") 3 0 (pair x 1 0 ∷ pair y 2 1 ∷ []) ∷ read y (codes "20") 2 1 (pair x 1 0 ∷ []) ∷ []) ∷ []
gone_restarts = refl

-- if no restart is left, the transaction fails
gone_without_restarts :
    solo_replies (record (cluster 1 2) { restarts = 0 }) (gone_start ++ Step a 13 ∷ [])
    ≡ two_rounds_told ++ Started ∷ Stored (pair x 3 0) ∷ Removed 1 ∷ Working ∷ Refused Overrun ∷ Refused Idle ∷ []
gone_without_restarts = refl

-- a late step makes no call and restarts
late_restarts :
    solo_replies (cluster 1 1) (session a 0 ++ Get a 1 (x ∷ y ∷ []) ∷ Step a 10 ∷ Step a 5010
    ∷ Get a 1 (x ∷ y ∷ []) ∷ Step a 3 ∷ Step a 10011 ∷ Step a 0 ∷ Step a 0 ∷ [])
    ≡ opened ++ Started ∷ Working ∷ Values (absent x ∷ absent y ∷ []) ∷ Started ∷ Working ∷ Restarted 1 ∷ Working ∷ Values (absent x ∷ absent y ∷ []) ∷ []
late_restarts = refl

-- ---- refusals

-- one record more than the quota of versions is refused, and a collection keeps the greatest
versions_full :
    solo_replies (record (cluster 1 1) { quota = record quota { versions = 1 } })
    (session a 0 ++ Put a 1 x (codes "10") ∷ Done a 0 ∷ Put a 1 x (codes "11") ∷ Done a 0 ∷ Collect 0 0 999999 ∷ Put a 1 x (codes "12") ∷ Done a 0 ∷ Get a 1 (x ∷ []) ∷ Done a 0 ∷ [])
    ≡ opened ++ Started ∷ Stored (pair x 1 0) ∷ Started ∷ Refused VersionQuota ∷ Removed 0 ∷ Started ∷ Refused VersionQuota ∷ Started ∷ Values (read x (codes "10") 1 0 [] ∷ []) ∷ []
versions_full = refl

bytes_full :
    solo_replies (record (cluster 1 1) { quota = record quota { bytes = 5 } }) (session a 0 ++ Put a 1 x (codes "10") ∷ Done a 0 ∷ Put a 1 y (codes "10") ∷ Done a 0 ∷ [])
    ≡ opened ++ Started ∷ Stored (pair x 1 0) ∷ Started ∷ Refused ByteQuota ∷ []
bytes_full = refl

-- names, numbers and places
handles_and_names :
    solo_replies (cluster 1 1) (session a 0 ++ Delete a 1 ∷ Put a 1 x (codes "10") ∷ Create a ∷ Get a 2 (x ∷ []) ∷ Create a ∷ Done a 0 ∷ Get a 2 (x ∷ x ∷ [])
    ∷ Step a 0 ∷ Step b 0 ∷ Open a 0 ∷ Open b 1 ∷ Carry c 0 0 0 ∷ [])
    ≡ opened ++ Deleted ∷ Refused NoContext ∷ Created 2 ∷ Started ∷ Refused Busy ∷ Values (absent x ∷ []) ∷ Refused RepeatedKey
    ∷ Refused Idle ∷ Refused UnknownName ∷ Refused NameTaken ∷ Refused NoSuchPlace ∷ Refused NoSuchPlace ∷ []
handles_and_names = refl

-- the last clock is used, and then no put is
clock_full :
    solo_replies (record (cluster 1 1) { first_clock = 281474976710654 }) (session a 0 ++ Put a 1 x (codes "10") ∷ Done a 0 ∷ Put a 1 x (codes "11") ∷ Done a 0 ∷ Get a 1 (x ∷ []) ∷ Done a 0 ∷ [])
    ≡ opened ++ Started ∷ Stored (pair x 281474976710655 0) ∷ Started ∷ Refused ClockFull ∷ Started ∷ Values (read x (codes "10") 281474976710655 0 [] ∷ []) ∷ []
clock_full = refl

-- contexts, pairs in a context, and actors have limits
limits :
    solo_replies (record (cluster 1 1) { quota = record quota { contexts = 1; deps = 2; actors = 2 } })
    (session a 0 ++ Create a ∷ Put a 1 p (codes "1") ∷ Done a 0 ∷ Put a 1 q (codes "1") ∷ Done a 0 ∷ Put a 1 r (codes "1") ∷ Put a 1 p (codes "2") ∷ Done a 0 ∷ Open b 0 ∷ Open c 0 ∷ [])
    ≡ opened ++ Refused TooManyContexts ∷ Started ∷ Stored (pair p 1 0) ∷ Started ∷ Stored (pair q 2 0) ∷ Refused DependenciesFull ∷ Started ∷ Stored (pair p 3 0) ∷ Opened ∷ Refused ActorsFull ∷ []
limits = refl

-- a full audit ends the request, and nothing is done
audit_full :
    solo_replies (record (cluster 1 1) { quota = record quota { audit = 2 } })
    (session a 0 ++ Put a 1 x (codes "1") ∷ Done a 0 ∷ Put a 1 x (codes "2") ∷ Done a 0 ∷ Put a 1 x (codes "3") ∷ Step a 0 ∷ Step a 0 ∷ [])
    ≡ opened ++ Started ∷ Stored (pair x 1 0) ∷ Started ∷ Stored (pair x 2 0) ∷ Started ∷ Refused AuditFull ∷ Refused Idle ∷ []
audit_full = refl

-- a full queue refuses a put until an entry was carried
outbox_full :
    solo_replies (record (cluster 2 1) { quota = record quota { outbox = 1 } })
    (session a 0 ++ Put a 1 x (codes "1") ∷ Done a 0 ∷ Put a 1 y (codes "1") ∷ Done a 0 ∷ Carry c 0 0 1 ∷ Done c 5 ∷ Put a 1 y (codes "1") ∷ Done a 0 ∷ [])
    ≡ opened ++ Started ∷ Stored (pair x 1 0) ∷ Started ∷ Refused OutboxFull ∷ Started ∷ Carried (pair x 1 0) true true ∷ Started ∷ Stored (pair y 2 0) ∷ []
outbox_full = refl

-- an entry that the destination refuses stays queued
refused_entry_stays :
    solo_replies (record (cluster 2 1) { quota = record quota { versions = 1 } })
    (session a 0 ++ session b 1 ++ Put a 1 x (codes "1") ∷ Done a 0 ∷ Put b 1 z (codes "1") ∷ Done b 0 ∷ Carry c 0 0 1 ∷ Done c 5 ∷ Carry c 0 0 1 ∷ Done c 5 ∷ [])
    ≡ opened ++ opened ++ Started ∷ Stored (pair x 1 0) ∷ Started ∷ Stored (pair z 1 1) ∷ Started ∷ Refused VersionQuota ∷ Started ∷ Refused VersionQuota ∷ []
refused_entry_stays = refl

-- three carriers of one stream: none takes out what another committed
three_carriers :
    solo_replies (cluster 2 1) (session a 0 ++ Put a 1 x (codes "10") ∷ Done a 0 ∷ Put a 1 y (codes "20") ∷ Done a 0 ∷ Carry c 0 0 1 ∷ Carry d 0 0 1
    ∷ Step c 5 ∷ Step d 5 ∷ Step c 5 ∷ Step c 5 ∷ Carry p 0 0 1 ∷ Step p 5 ∷ Step p 5 ∷ Step d 5 ∷ Step p 5 ∷ Step d 5 ∷ Step p 5 ∷ [])
    ≡ opened ++ Started ∷ Stored (pair x 1 0) ∷ Started ∷ Stored (pair y 2 0) ∷ Started ∷ Started
    ∷ Working ∷ Working ∷ Working ∷ Carried (pair x 1 0) true true ∷ Started ∷ Working ∷ Working ∷ Working ∷ Working ∷ Carried (pair x 1 0) false false ∷ Carried (pair y 2 0) true true ∷ []
three_carriers = refl

-- each context has its own past
contexts_are_apart :
    solo_replies (cluster 1 2) (session a 0 ++ Put a 1 x (codes "10") ∷ Done a 0 ∷ Put a 1 y (codes "20") ∷ Done a 0 ∷ Create a ∷ Put a 2 y (codes "30") ∷ Done a 0 ∷ Show a 2
    ∷ Get a 1 (y ∷ []) ∷ Done a 0 ∷ Show a 1 ∷ [])
    ≡ opened ++ Started ∷ Stored (pair x 1 0) ∷ Started ∷ Stored (pair y 2 1) ∷ Created 2 ∷ Started ∷ Stored (pair y 3 1) ∷ Lists (pair y 3 1 ∷ []) (pair y 3 1 ∷ [])
    ∷ Started ∷ Values (read y (codes "30") 3 1 [] ∷ []) ∷ Lists (pair x 1 0 ∷ pair y 3 1 ∷ []) (pair y 2 1 ∷ pair y 3 1 ∷ []) ∷ []
contexts_are_apart = refl

-- ---- the laws, on examples

-- an answer older than its past is not consistent
older_answer : answers_consistently (record { operation = record { session = a; context = 1; effect = Returned [] }; past = pair x 2 0 ∷ [] }) (Returned (read x (codes "10") 1 0 [] ∷ [])) ≡ false
older_answer = refl

-- what was carried has its past if it came
abbrev carried : List Act
carried = session a 0 ++ Put a 1 x (codes "10") ∷ Done a 0 ∷ Put a 1 y (codes "20") ∷ Done a 0 ∷ Carry c 0 0 1 ∷ Done c 5 ∷ Carry c 0 1 1 ∷ Done c 5 ∷ []

committed_pasts :
    let left = cluster_of (cluster 2 2) carried in
    list_all (λ (e : Entry). list_all (is_committed_in (cluster 2 2) left 1) (past_of_put (history (cluster 2 2) carried) (pair_of_entry e))) (committed_entries (cluster 2 2) left 1 1) ≡ true
committed_pasts = refl

past_of_the_carried : past_of_put (history (cluster 2 2) carried) (pair y 2 1) ≡ pair x 1 0 ∷ []
past_of_the_carried = refl

-- before the first entry was carried the second waits, so its past is never missing
nothing_unexpected : IsTrue (list_all is_expected (solo_replies (cluster 2 2) carried))
nothing_unexpected = refl

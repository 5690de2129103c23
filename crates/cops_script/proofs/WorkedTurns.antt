-- Worked examples: runs of a tenant alone in which memory runs out.
use Rattle.std.proofs.Common.{◌≡◌, List, [], ◌∷◌, inl, inr, refl, sym, true≢false}
use Rattle.std.specs.Prelude.{codes, length}
use Rattle.cops_types.specs.declared.faults.Fault.TheVariants.{OutOfMemory}
use Rattle.cops_model.specs.declared.acts.Act.{Act}
use Rattle.cops_model.specs.declared.acts.Act.TheVariants.{Open, Create, Put, Get, Step}
use Rattle.cops_model.specs.declared.replies.Reply.{Reply}
use Rattle.cops_model.specs.declared.replies.Reply.TheVariants.{Opened, Created, Started, Stored, Values, Refused}
use Rattle.cops_model.specs.Cluster.{SoloCluster, new_cluster}
use Rattle.cops_model.specs.Events.{cluster_of}
use Rattle.cops_model.specs.Goes.{Goes}
use Rattle.cops_model.specs.Laws.{AreExactDeps, committed_entries, node_in}
use Rattle.cops_model.specs.Request.{Fetch}
use Rattle.cops_model.specs.Told.{history_told}
use Rattle.cops_script.proofs.Words.{a, absent, b, cluster, pair, x, y}

-- the last read of a transaction was made, and then memory was refused; the session goes on
abbrev lacked : List Act
lacked = Open a 0 ∷ Create a ∷ Get a 1 (x ∷ []) ∷ Step a 0 ∷ Get a 1 (x ∷ []) ∷ Step a 1 ∷ []

abbrev lacked_told : List Reply
lacked_told = Opened ∷ Created 1 ∷ Started ∷ Refused OutOfMemory ∷ Started ∷ Values (absent x ∷ []) ∷ []

-- its audit has both reads
a_read_is_dropped : (left : SoloCluster) × Goes (cluster 1 1) lacked lacked_told (new_cluster (cluster 1 1)) left × (length (node_in (cluster 1 1) left 0 0).trail ≡ 2)
a_read_is_dropped = (
  _,
  (
    _,
    inl (refl, refl),
    (
      _,
      inl (refl, refl),
      (
        _,
        inl (refl, refl),
        (
          _,
          inr (
            refl,
            record {
              running = record { number = 1; context = 1; action = Fetch (x ∷ []); log = [] };
              directed = _;
              runs = refl;
              calls = refl;
              left = inr ((x ∷ [], refl, record { same_attempt = refl; is_read = inr (absent x ∷ [], refl) }), refl);
            },
          ),
          (_, inl (refl, refl), (_, inl (refl, refl), refl)),
        ),
      ),
    ),
  ),
  refl,
)

-- if the reply to a put that was stored could be out of memory, a stored record would be of no put that the tenant knows
abbrev stored : List Act
stored = Open a 0 ∷ Create a ∷ Put a 1 x (codes "10") ∷ Step a 0 ∷ []

a_stored_put_must_be_told :
    AreExactDeps (history_told stored (Opened ∷ Created 1 ∷ Started ∷ Refused OutOfMemory ∷ [])) (committed_entries (cluster 1 1) (cluster_of (cluster 1 1) stored) 0 0) → ⊥
a_stored_put_must_be_told exact = true≢false (sym exact.0)

-- a context that keeps what a dropped get read: of y, by the put of b, in the session of a
abbrev kept : List Act
kept = Open b 0 ∷ Create b ∷ Put b 1 y (codes "20") ∷ Step b 0 ∷ Open a 0 ∷ Create a ∷ Get a 1 (y ∷ []) ∷ Step a 0 ∷ Put a 1 x (codes "10") ∷ Step a 0 ∷ []

abbrev kept_told : List Reply
kept_told = Opened ∷ Created 1 ∷ Started ∷ Stored (pair y 1 0) ∷ Opened ∷ Created 1 ∷ Started ∷ Refused OutOfMemory ∷ Started ∷ Stored (pair x 2 0) ∷ []

-- then a's put has a dependency that no operation of a returned
a_dropped_read_must_not_be_kept : AreExactDeps (history_told kept kept_told) (committed_entries (cluster 1 1) (cluster_of (cluster 1 1) kept) 0 0) → ⊥
a_dropped_read_must_not_be_kept exact =
    let same : ([] ∷ (pair y 1 0 ∷ []) ∷ []) ≡ ([] ∷ [] ∷ []) = exact.1 in cc

-- All that each move keeps, together.
use Rattle.std.proofs.Common.{◌<◌, List, []}
use Rattle.cops_types.specs.TenantConfig.{TenantConfig}
use Rattle.cops_model.specs.Causal.{Traced}
use Rattle.cops_model.specs.Cluster.{SoloCluster, new_cluster}
use Rattle.cops_causal.proofs.Closure.{IsClosed}
use Rattle.cops_causal.proofs.Committed.{closed_kept, closed_at_first}
use Rattle.cops_causal.proofs.Moves.{IsKept, Both, kept_both, leads_through}
use Rattle.cops_causal.proofs.NodesKeep.{AllKeepGreatest, greatest_stays, greatest_at_first}
use Rattle.cops_causal.proofs.Past.{traced_kept, traced_at_first}
use Rattle.cops_causal.proofs.Provenance.{IsTraced}
use Rattle.cops_causal.proofs.Settled.{AreEquivalent, equivalent_kept, equivalent_at_first}
use Rattle.cops_causal.proofs.StreamMoves.{flowing_kept, flowing_at_first}
use Rattle.cops_causal.proofs.Streams.{IsFlowing}

-- what is stored was put, the streams flow, pasts are in their data centres, entries are at their shards, and the greatest versions are kept
pub record IsSound (config : TenantConfig) (c : SoloCluster) (ts : List Traced) : Type 0 where
  pub traced : IsTraced config c ts
  pub flowing : IsFlowing config c ts
  pub closed : IsClosed config c ts
  pub equivalent : AreEquivalent config c ts
  pub keeps : AllKeepGreatest config c ts

module _ (config : TenantConfig) (some : 0 < config.shards) where
  abbrev Flowing : SoloCluster → List Traced → Type 0
  Flowing = Both (IsTraced config) (IsFlowing config)

  abbrev Closed : SoloCluster → List Traced → Type 0
  Closed = Both Flowing (IsClosed config)

  abbrev Placed : SoloCluster → List Traced → Type 0
  Placed = Both Closed (AreEquivalent config)

  abbrev Stacked : SoloCluster → List Traced → Type 0
  Stacked = Both Placed (AllKeepGreatest config)

  stacked_kept : IsKept config Stacked
  stacked_kept =
      kept_both
      (kept_both (kept_both (kept_both (traced_kept config some) (flowing_kept config some)) (closed_kept config some))
      (leads_through config (Both Flowing (AreEquivalent config)) Placed (AreEquivalent config) (AreEquivalent config) (λ c ts is. (is.0.0, is.1)) (λ c ts is. is) (equivalent_kept config some)))
      (leads_through config (AllKeepGreatest config) Stacked (AllKeepGreatest config) (AllKeepGreatest config) (λ c ts is. is.1) (λ c ts is. is) (greatest_stays config))

  to_sound : (c : SoloCluster) (ts : List Traced) → Stacked c ts → IsSound config c ts
  to_sound c ts is = record { traced = is.0.0.0.0; flowing = is.0.0.0.1; closed = is.0.0.1; equivalent = is.0.1; keeps = is.1 }

  pub sound_kept : IsKept config (IsSound config)
  sound_kept =
      leads_through config Stacked (IsSound config) Stacked (IsSound config) (λ c ts is. ((((is.traced, is.flowing), is.closed), is.equivalent), is.keeps)) to_sound stacked_kept

  pub sound_at_first : IsSound config (new_cluster config) []
  sound_at_first = record { traced = traced_at_first config; flowing = flowing_at_first config; closed = closed_at_first config; equivalent = equivalent_at_first config; keeps = greatest_at_first config }

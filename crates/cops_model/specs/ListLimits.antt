-- Lists of pairs are within the limit of the tenant's lists.
use Rattle.std.specs.Prelude.{◌≤◌, length}
use Rattle.std.specs.List.{AllByRecursion}
use Rattle.cops_types.specs.declared.records.EntryParts.{EntryParts as Entry}
use Rattle.cops_types.specs.TenantConfig.{TenantConfig}
use Rattle.cops_model.specs.declared.calls.AuditEntry.{AuditEntry}
use Rattle.cops_model.specs.declared.calls.NodeCall.{NodeCall}
use Rattle.cops_model.specs.declared.calls.NodeCall.TheVariants.{Get, Put, Pull, Commit}
use Rattle.cops_model.specs.declared.calls.NodeReply.{NodeReply}
use Rattle.cops_model.specs.declared.calls.NodeReply.TheVariants.{Found, Pulled}
use Rattle.cops_model.specs.SoloNode.{SoloNode}

module _ (config : TenantConfig) where
  abbrev pub HasFewPairs : Entry → Type 0
  HasFewPairs e = (length e.near ≤ config.quota.deps) × (length e.deps ≤ config.quota.deps)

  abbrev pub HasFewInCall : NodeCall → Type 0
  HasFewInCall (Put key value deps near) = (length near ≤ config.quota.deps) × (length deps ≤ config.quota.deps)
  HasFewInCall (Commit e) = HasFewPairs e
  HasFewInCall call = Unit {0}

  -- only a get replies found, and only a pull replies with an entry
  abbrev pub HasFewInReply : NodeReply → NodeCall → Type 0
  HasFewInReply (Found f) (Get key wanted) = length f.deps ≤ config.quota.deps
  HasFewInReply (Found f) call = ⊥
  HasFewInReply (Pulled e) (Pull dc) = HasFewPairs e
  HasFewInReply (Pulled e) call = ⊥
  HasFewInReply reply call = Unit {0}

  pub record HasFew (entry : AuditEntry) : Type 0 where
    pub asked : HasFewInCall entry.call
    pub told : HasFewInReply entry.reply entry.call

  -- the limit holds for each call and reply in the audit of a node
  abbrev pub HasFewInAudit : SoloNode → Type 0
  HasFewInAudit solo = AllByRecursion HasFew solo.trail

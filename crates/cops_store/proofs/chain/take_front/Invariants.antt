use Rattle.std.proofs.Common.{◌≡◌, drop, take, sum_by}
use Rattle.cops_store.specs.Tables.{gone_use}
use Rattle.cops_store.proofs.chain.take_front.Given as goal

abbrev pub invariant-loop-row : goal.invariant-loop-row
invariant-loop-row l = (l.older.items ≡ drop l._row l.initial.older.items) × (l.records ≡ sum_by (λ k. (gone_use l.now l.trans_time k).records) (take l._row l.initial.older.items)) × (l.bytes ≡ sum_by (λ k. (gone_use l.now l.trans_time k).bytes) (take l._row l.initial.older.items))

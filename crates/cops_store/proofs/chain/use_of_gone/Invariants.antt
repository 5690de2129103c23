use Rattle.std.proofs.Common.{◌≡◌, take, sum_by}
use Rattle.cops_store.specs.Tables.{gone_use}
use Rattle.cops_store.proofs.chain.use_of_gone.Given as goal

abbrev pub invariant-loop-i : goal.invariant-loop-i
invariant-loop-i l = (l.records ≡ sum_by (λ k. (gone_use l.now l.trans_time k).records) (take l.i l.chain.items)) × (l.bytes ≡ sum_by (λ k. (gone_use l.now l.trans_time k).bytes) (take l.i l.chain.items))

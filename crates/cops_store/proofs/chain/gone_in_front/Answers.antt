use Rattle.std.proofs.Common.{◌≡◌, arith, length, deque_len, rules}
use Rattle.std.proofs.lemmas.List.Sorted.{IsPartitionPoint-from_clause}
use Rattle.cops_types.specs.declared.records.Dated.{Dated}
use Rattle.cops_store.specs.Contents.{is_ripe}
use Rattle.cops_store.proofs.Chains.{prefix_from_point}
use Rattle.cops_store.proofs.StaleOrder.{ripe_parted}
use Rattle.cops_store.proofs.chain.gone_in_front.Goals as goal

pub returns : goal.returns
returns c =
    let rows = c.args.older.now.items in
    let len : deque_len c.args.older.now ≡ length rows = c.args.older.now.ok.0 in
    let bound = c.partition_point.ensures.bound in
    let point = IsPartitionPoint-from_clause (λ (k : Dated). is_ripe c.args.now c.args.trans_time k.stale) rows c.partition_point.result c.partition_point.ensures.partitioned
    (ripe_parted c.args.now c.args.trans_time rows c.requires) (λ a r f' k. search rules) in
    prefix_from_point (λ (k : Dated). is_ripe c.args.now c.args.trans_time k.stale) rows c.partition_point.result (omega (arith, len, bound)) point.0 point.1

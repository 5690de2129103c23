use Rattle.std.specs.List.{AllByRecursion}
use Rattle.std.proofs.Common.{arith, refl, ◌≡◌, true, ◌∙◌, ap, sym, subst, not, filter, drop, take, sum_by, ◌++◌}
use Rattle.cops_types.specs.declared.records.Dated.{Dated}
use Rattle.cops_store.specs.Chains.{AreStaleInOrder, HasLatest, KeptChain, is_by, latest_row}
use Rattle.cops_store.specs.declared.usage.InUse.{InUse}
use Rattle.cops_store.specs.Tables.{AreCountable, IsFreed, gone_use}
use Rattle.cops_store.specs.Contents.{is_ripe}
use Rattle.cops_store.proofs.Chains.{prefix_within}
use Rattle.cops_store.proofs.StaleOrder.{by_dropped, front_dropped, front_use, latest_dropped, latest_stays, order_dropped}
use Rattle.cops_store.proofs.Collections.{countable_front, freed_beside, freed_by, gone_fits}
use Rattle.cops_store.proofs.chain.Chain.clean.Goals as goal

pub use_of_gone-freed-requires-clause-records : goal.use_of_gone-freed-requires-clause-records
use_of_gone-freed-requires-clause-records c =
    let rows = c.self.inside.older.items in
    let all = countable_front rows (latest_row c.self.inside.latest) (subst (λ (k : KeptChain). AreCountable k.items) (sym c.self.view_is) c.requires) in
    (gone_fits c.args.now c.args.trans_time rows all).0

pub use_of_gone-freed-requires-clause-bytes : goal.use_of_gone-freed-requires-clause-bytes
use_of_gone-freed-requires-clause-bytes c =
    let rows = c.self.inside.older.items in
    let all = countable_front rows (latest_row c.self.inside.latest) (subst (λ (k : KeptChain). AreCountable k.items) (sym c.self.view_is) c.requires) in
    (gone_fits c.args.now c.args.trans_time rows all).1

pub returns-clause-freed : goal.returns-clause-freed
returns-clause-freed c =
    let freed = c.use_of_gone-freed.result in
    let rows = c.self.inside.older.items in
    let next = c.keep_staying.new.chain.items in
    let last = latest_row c.self.inside.latest in
    subst (λ (k : KeptChain). IsFreed freed k.items (next ++ last)) c.self.view_is
    (freed_beside freed rows next last
    (freed_by c.args.now c.args.trans_time rows next freed
    c.use_of_gone-freed.ensures.records
    c.use_of_gone-freed.ensures.bytes
    c.keep_staying.ensures))

pub take_front-requires-clause-count : goal.take_front-requires-clause-count
take_front-requires-clause-count c =
    let within = prefix_within (λ (k : Dated). is_ripe c.args.now c.args.trans_time k.stale) c.self.inside.older.items in
    omega (arith, within, c.gone_in_front-gone.ensures)

pub take_front-requires-clause-records : goal.take_front-requires-clause-records
take_front-requires-clause-records c =
    let rows = c.self.inside.older.items in
    (gone_fits c.args.now c.args.trans_time rows (countable_front rows (latest_row c.self.inside.latest) (subst (λ (k : KeptChain). AreCountable k.items) (sym c.self.view_is) c.requires))).0

pub take_front-requires-clause-bytes : goal.take_front-requires-clause-bytes
take_front-requires-clause-bytes c =
    let rows = c.self.inside.older.items in
    (gone_fits c.args.now c.args.trans_time rows (countable_front rows (latest_row c.self.inside.latest) (subst (λ (k : KeptChain). AreCountable k.items) (sym c.self.view_is) c.requires))).1

pub invariant_of-self : goal.invariant_of-self
invariant_of-self c =
    let rows = c.self.inside.older.items in
    let items = c.take_front.ensures.items in (
      subst (λ xs. HasLatest xs c.self.inside.latest) (sym items) (latest_dropped c.gone_in_front-gone.result rows c.self.inside.latest c.self.invariant.0),
      (λ below. subst (λ xs. AreStaleInOrder xs × AllByRecursion (λ k. is_by c.self.inside.stale_by k.stale ≡ true) xs) (sym items)
          (order_dropped c.gone_in_front-gone.result rows (c.self.invariant.1 below).0, by_dropped c.gone_in_front-gone.result c.self.inside.stale_by rows (c.self.invariant.1 below).1)),
    )

pub returns-then-self-lt18446744073709551615-clause-items : goal.returns-then-self-lt18446744073709551615-clause-items
returns-then-self-lt18446744073709551615-clause-items c =
    let rows = c.self.inside.older.items in
    ap (λ xs. xs ++ latest_row c.self.inside.latest) (c.take_front.ensures.items ∙ ap (λ n. drop n rows) c.gone_in_front-gone.ensures ∙ front_dropped c.args.now c.args.trans_time rows (c.self.invariant.1 c.if-self-lt18446744073709551615.true).0)
    ∙ latest_stays c.args.now c.args.trans_time rows c.self.inside.latest
    ∙ ap (λ (k : KeptChain). filter (λ (x : Dated). not (is_ripe c.args.now c.args.trans_time x.stale)) k.items) c.self.view_is

pub returns-then-self-lt18446744073709551615-clause-freed : goal.returns-then-self-lt18446744073709551615-clause-freed
returns-then-self-lt18446744073709551615-clause-freed c =
    let freed = c.take_front.result in
    let rows = c.self.inside.older.items in
    let next = c.take_front.new.older.items in
    let last = latest_row c.self.inside.latest in
    let in_order = (c.self.invariant.1 c.if-self-lt18446744073709551615.true).0 in
    subst (λ (k : KeptChain). IsFreed freed k.items (next ++ last)) c.self.view_is
    (freed_beside freed rows next last
    (freed_by c.args.now c.args.trans_time rows next freed
    (c.take_front.ensures.records ∙ ap (λ n. sum_by (λ (k : Dated). (gone_use c.args.now c.args.trans_time k).records) (take n rows)) c.gone_in_front-gone.ensures ∙ front_use c.args.now c.args.trans_time (λ (u : InUse). u.records) refl rows in_order)
    (c.take_front.ensures.bytes ∙ ap (λ n. sum_by (λ (k : Dated). (gone_use c.args.now c.args.trans_time k).bytes) (take n rows)) c.gone_in_front-gone.ensures ∙ front_use c.args.now c.args.trans_time (λ (u : InUse). u.bytes) refl rows in_order)
    (c.take_front.ensures.items ∙ ap (λ n. drop n rows) c.gone_in_front-gone.ensures ∙ front_dropped c.args.now c.args.trans_time rows in_order)))

use Rattle.std.proofs.Common.{arith, ◌∙◌, ap, sym, option_to_list, ◌++◌}
use Rattle.cops_types.specs.declared.records.Dated.{Dated}
use Rattle.cops_store.specs.Tables.{gone_use}
use Rattle.cops_store.proofs.StaleOrder.{front_fits}
use Rattle.cops_store.proofs.chain.take_front.Goals as goal

pub overflow_add-bytes : goal.overflow_add-bytes
overflow_add-bytes c =
    let rows = c.args.older.now.items in
    let bytes_of = λ (k : Dated). (gone_use c.args.now c.args.trans_time k).bytes in
    let first = sym c.loop-row.invariant.0 ∙ c.pop_front.ensures.items ∙ ap (λ o. option_to_list o ++ c.pop_front.new.self.items) c.unwrap-kept.ensures in
    let fits = front_fits bytes_of rows c.pop_front.new.self.items c.unwrap-kept.result c.loop-row._row first c.requires.bytes in
    let here = ap (λ u. u.bytes) c.gone_use_of-gone.ensures in
    omega (arith, fits, here, c.loop-row.invariant.2)

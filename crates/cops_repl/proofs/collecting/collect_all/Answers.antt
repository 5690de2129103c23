use Rattle.std.proofs.Common.{◌∙◌}
use Rattle.std.proofs.lemmas.Result.{err_from_is_err_and}
use Rattle.cops_repl.proofs.CollectSteps.{dc_counts, dc_stops}
use Rattle.cops_types.specs.RequestErrors.{fault_told}
use Rattle.cops_repl.proofs.collecting.collect_all.Goals as goal

-- a node of the data centre refused, or ran out of memory
pub returns-in_err-total-clause-collected : goal.returns-in_err-total-clause-collected
returns-in_err-total-clause-collected g c =
    let config = c.args.config.now in
    let p = err_from_is_err_and c.from_residual.result c.from_residual.ensures.1 in
    rw (p.1, p.2)
    (dc_stops g.N.Nodes.Answers c.args.slot c.args.moment c.args.nodes.now c.loop-dc.nodes c.collect_in.new.nodes c.loop-dc.total config.data_centres config.shards c.loop-dc.dc (fault_told c.in_err-total.field-0.0)
    c.loop-dc-test.true c.loop-dc.invariant.so_far c.in_err-total.ensures.collected)

pub loop-dc-preserved : goal.loop-dc-preserved
loop-dc-preserved g c =
    record {
      so_far =
          dc_counts g.N.Nodes.Answers c.args.slot c.args.moment c.args.nodes.now c.loop-dc.nodes c.collect_in.new.nodes c.loop-dc.total c.in_ok-total.total c.args.config.now.shards c.loop-dc.dc
          c.loop-dc.invariant.so_far c.in_ok-total.ensures.collected;
      shape = c.collect_in.ensures.shape ∙ c.loop-dc.invariant.shape;
    }

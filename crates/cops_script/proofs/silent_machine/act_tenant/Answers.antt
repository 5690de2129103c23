use Rattle.std.proofs.Common.{◌∙◌, ap, sym, true, false}
use Rattle.std.proofs.lemmas.Result.{on_err_weaker, on_ok_weaker}
use Rattle.cops_types.specs.OpenSlots.{open_slot_of_name}
use Rattle.cops_script.proofs.MachineLemmas.{open_found}
use Rattle.cops_script.proofs.SilentMachine.{done_by, done_by_nobody}
use Rattle.cops_script.proofs.silent_machine.act_tenant.Goals as goal

pub returns-in_default-clause-done : goal.returns-in_default-clause-done
returns-in_default-clause-done g c =
    done_by_nobody g.W.Tenancy.setup g.W.Tenancy.StandsFor c.args.world.now c.args.line.now c.args.word.now c.tenants.result.now c.slot_of_name.result c.tenants.ensures c.requires c.slot_of_name.ensures c.in_default.is

pub act_for-requires : goal.act_for-requires
act_for-requires g c =
    let tenants = (g.W.Tenancy.setup c.args.world.now).tenants in
    open_found tenants c.args.word.now c.in-Some.slot (ap (λ ts. open_slot_of_name ts c.args.word.now) (sym c.tenants.ensures) ∙ sym c.slot_of_name.ensures ∙ c.in-Some.is)

pub returns : goal.returns
returns g c = record {
  done = on_ok_weaker c.act_for.result (λ done.
      done_by g.W.Tenancy.setup g.W.Tenancy.StandsFor c.args.world.now c.act_for.new.world c.args.line.now c.args.word.now c.tenants.result.now c.slot_of_name.result c.in-Some.slot false
      c.tenants.ensures c.requires c.slot_of_name.ensures c.in-Some.is done) c.act_for.ensures.done;
  lacked = on_err_weaker c.act_for.result (λ done.
      done_by g.W.Tenancy.setup g.W.Tenancy.StandsFor c.args.world.now c.act_for.new.world c.args.line.now c.args.word.now c.tenants.result.now c.slot_of_name.result c.in-Some.slot true
      c.tenants.ensures c.requires c.slot_of_name.ensures c.in-Some.is done) c.act_for.ensures.lacked;
}

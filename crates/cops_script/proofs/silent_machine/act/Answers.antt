use Rattle.std.proofs.Common.{true, false, subst, sym}
use Rattle.std.specs.Prelude.{codes}
use Rattle.std.proofs.lemmas.Result.{on_err_weaker, on_ok_weaker}
use Rattle.cops_script.specs.HostLines.{admitted_in, closed_in}
use Rattle.cops_script.specs.Said.{OfHost, admission_of, closing_of, said_in}
use Rattle.cops_script.specs.SilentRules.{HasLacked, IsDoneWhole}
use Rattle.cops_script.proofs.MachineLemmas.{admission_said, closing_said, first_is, tenant_said}
use Rattle.cops_script.proofs.SilentMachine.{done_for_host}
use Rattle.cops_script.proofs.silent_machine.act.Goals as goal

pub returns-then-eq : goal.returns-then-eq
returns-then-eq g c =
    let tenants = (g.W.Tenancy.setup c.args.world.now).tenants in
    let is = first_is c.args.line.now c.split_word.result.0.now c.as_slice.result.now (codes "+") c.eq.result c.split_word.ensures.word c.as_slice.ensures c.eq.ensures c.if-eq.true in
    record {
      done = on_ok_weaker c.unless_host_lacked.result (λ told.
          done_for_host g.W.Tenancy.setup g.W.Tenancy.StandsFor c.args.world.now c.admit-reply.new.world (OfHost (admission_of tenants (admitted_in c.args.line.now))) (said_in tenants c.args.line.now) c.admit-reply.result false (admission_said tenants c.args.line.now is) c.admit-reply.ensures (sym told)) c.unless_host_lacked.ensures.done;
      lacked = on_err_weaker c.unless_host_lacked.result (λ told.
          done_for_host g.W.Tenancy.setup g.W.Tenancy.StandsFor c.args.world.now c.admit-reply.new.world (OfHost (admission_of tenants (admitted_in c.args.line.now))) (said_in tenants c.args.line.now) c.admit-reply.result true (admission_said tenants c.args.line.now is) c.admit-reply.ensures (sym told)) c.unless_host_lacked.ensures.lacked;
    }

pub returns-then-eq-2 : goal.returns-then-eq-2
returns-then-eq-2 g c =
    let tenants = (g.W.Tenancy.setup c.args.world.now).tenants in
    let other = first_is c.args.line.now c.split_word.result.0.now c.as_slice.result.now (codes "+") c.eq.result c.split_word.ensures.word c.as_slice.ensures c.eq.ensures c.if-eq.false in
    let is = first_is c.args.line.now c.split_word.result.0.now c.as_slice-2.result.now (codes "-") c.eq-2.result c.split_word.ensures.word c.as_slice-2.ensures c.eq-2.ensures c.if-eq-2.true in
    record {
      done = on_ok_weaker c.unless_host_lacked-then-eq-2.result (λ told.
          done_for_host g.W.Tenancy.setup g.W.Tenancy.StandsFor c.args.world.now c.close-reply.new.world (OfHost (closing_of tenants (closed_in c.args.line.now))) (said_in tenants c.args.line.now) c.close-reply.result false (closing_said tenants c.args.line.now other is) c.close-reply.ensures (sym told)) c.unless_host_lacked-then-eq-2.ensures.done;
      lacked = on_err_weaker c.unless_host_lacked-then-eq-2.result (λ told.
          done_for_host g.W.Tenancy.setup g.W.Tenancy.StandsFor c.args.world.now c.close-reply.new.world (OfHost (closing_of tenants (closed_in c.args.line.now))) (said_in tenants c.args.line.now) c.close-reply.result true (closing_said tenants c.args.line.now other is) c.close-reply.ensures (sym told)) c.unless_host_lacked-then-eq-2.ensures.lacked;
    }

pub returns : goal.returns
returns g c =
    let old = c.args.world.now in
    let tenants = (g.W.Tenancy.setup old).tenants in
    let other = first_is c.args.line.now c.split_word.result.0.now c.as_slice.result.now (codes "+") c.eq.result c.split_word.ensures.word c.as_slice.ensures c.eq.ensures c.if-eq.false in
    let another = first_is c.args.line.now c.split_word.result.0.now c.as_slice-2.result.now (codes "-") c.eq-2.result c.split_word.ensures.word c.as_slice-2.ensures c.eq-2.ensures c.if-eq-2.false in
    let says = sym (tenant_said tenants c.args.line.now other another) in
    record {
      done = on_ok_weaker c.act_tenant.result (λ done. subst (λ said. IsDoneWhole g.W.Tenancy.setup g.W.Tenancy.StandsFor old said c.act_tenant.new.world) says done) c.act_tenant.ensures.done;
      lacked = on_err_weaker c.act_tenant.result (λ done. subst (λ said. HasLacked g.W.Tenancy.setup g.W.Tenancy.StandsFor old said c.act_tenant.new.world) says done) c.act_tenant.ensures.lacked;
    }

use Rattle.std.proofs.Common.{◌∙◌, true, false, sym}
use Rattle.std.proofs.lemmas.Result.{on_err_weaker, on_ok_weaker}
use Rattle.cops_script.proofs.SilentMachine.{done_act, done_unformed}
use Rattle.cops_script.proofs.silent_machine.act_for.Goals as goal

pub returns-in_default-clause-done : goal.returns-in_default-clause-done
returns-in_default-clause-done g c = done_unformed g.W.Tenancy.setup g.W.Tenancy.StandsFor c.args.world.now c.args.slot c.args.line.now (sym c.parse_act.ensures ∙ c.in_default.is)

pub returns : goal.returns
returns g c =
    let says = sym c.parse_act.ensures ∙ c.in-Some.is in
    record {
      done = on_ok_weaker c.unless_act_lacked.result (λ told.
          done_act g.W.Tenancy.setup g.W.Tenancy.StandsFor c.args.world.now c.act-answered.new.self c.args.slot c.args.line.now c.in-Some.act c.act-answered.result false says c.act-answered.ensures (sym told)) c.unless_act_lacked.ensures.done;
      lacked = on_err_weaker c.unless_act_lacked.result (λ told.
          done_act g.W.Tenancy.setup g.W.Tenancy.StandsFor c.args.world.now c.act-answered.new.self c.args.slot c.args.line.now c.in-Some.act c.act-answered.result true says c.act-answered.ensures (sym told)) c.unless_act_lacked.ensures.lacked;
    }

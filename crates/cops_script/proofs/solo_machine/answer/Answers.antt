use Rattle.std.proofs.Common.{◌||◌, ap}
use Rattle.std.specs.Prelude.{codes}
use Rattle.std.proofs.lemmas.Result.{on_ok_weaker}
use Rattle.cops_script.specs.HostLines.{admitted_in, closed_in}
use Rattle.cops_script.specs.Said.{OfHost, admission_of, begins_closing, closing_of}
use Rattle.cops_script.proofs.MachineLemmas.{admission_said, closing_said, first_is}
use Rattle.cops_script.proofs.SoloMachine.{answers_taken}
use Rattle.cops_script.proofs.solo_machine.answer.Goals as goal

pub returns-then-eq : goal.returns-then-eq
returns-then-eq g c =
    let tenants = c.args.run.now.tenants in
    let line = c.args.line.now in
    let is = first_is line c.split_word.result.0.now c.as_slice.result.now (codes "+") c.eq.result c.split_word.ensures.word c.as_slice.ensures c.eq.ensures c.if-eq.true in
    on_ok_weaker c.admit.result
    (answers_taken g.W.Tenancy.setup g.W.Tenancy.StandsFor c.args.name.now line c.args.run.now c.admit.new.run (OfHost (admission_of tenants (admitted_in line))) c.args.out.now.items
    (ap (λ b. b || begins_closing line) is) (admission_said tenants line is))
    c.admit.ensures

pub returns-then-eq-2 : goal.returns-then-eq-2
returns-then-eq-2 g c =
    let tenants = c.args.run.now.tenants in
    let line = c.args.line.now in
    let other = first_is line c.split_word.result.0.now c.as_slice.result.now (codes "+") c.eq.result c.split_word.ensures.word c.as_slice.ensures c.eq.ensures c.if-eq.false in
    let is = first_is line c.split_word.result.0.now c.as_slice-2.result.now (codes "-") c.eq-2.result c.split_word.ensures.word c.as_slice-2.ensures c.eq-2.ensures c.if-eq-2.true in
    answers_taken g.W.Tenancy.setup g.W.Tenancy.StandsFor c.args.name.now line c.args.run.now c.close.new.run (OfHost (closing_of tenants (closed_in line))) c.args.out.now.items
    (λ i. other i || is i) (closing_said tenants line other is) c.close.ensures

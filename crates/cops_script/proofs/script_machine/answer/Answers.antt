use Rattle.std.proofs.Common.{subst, sym}
use Rattle.std.specs.Prelude.{codes}
use Rattle.std.proofs.lemmas.Result.{on_ok_weaker}
use Rattle.cops_script.specs.LineAnswers.{Answers}
use Rattle.cops_script.specs.HostLines.{admitted_in, closed_in}
use Rattle.cops_script.specs.Said.{OfHost, admission_of, closing_of}
use Rattle.cops_script.proofs.MachineLemmas.{MayAnswer, admission_said, answers_host, closing_said, first_is}
use Rattle.cops_script.proofs.script_machine.answer.Goals as goal

pub returns-then-eq : goal.returns-then-eq
returns-then-eq g c =
    let old = c.args.world.now in
    let tenants = (g.W.Tenancy.setup old).tenants in
    let is = first_is c.args.line.now c.split_word.result.0.now c.as_slice.result.now (codes "+") c.eq.result c.split_word.ensures.word c.as_slice.ensures c.eq.ensures c.if-eq.true in
    on_ok_weaker c.push_host.result
    (λ appended.
    subst (λ said. Answers (MayAnswer g.W.Tenancy.setup g.W.Tenancy.StandsFor old said) c.admit-reply.new.world c.args.out.now.items c.push_host.new.out.items)
    (sym (admission_said tenants c.args.line.now is))
    (answers_host g.W.Tenancy.setup g.W.Tenancy.StandsFor old c.admit-reply.new.world (OfHost (admission_of tenants (admitted_in c.args.line.now))) c.admit-reply.result c.args.out.now.items c.push_host.new.out.items
    c.admit-reply.ensures appended))
    c.push_host.ensures

pub returns-then-eq-2 : goal.returns-then-eq-2
returns-then-eq-2 g c =
    let old = c.args.world.now in
    let tenants = (g.W.Tenancy.setup old).tenants in
    let other = first_is c.args.line.now c.split_word.result.0.now c.as_slice.result.now (codes "+") c.eq.result c.split_word.ensures.word c.as_slice.ensures c.eq.ensures c.if-eq.false in
    let is = first_is c.args.line.now c.split_word.result.0.now c.as_slice-2.result.now (codes "-") c.eq-2.result c.split_word.ensures.word c.as_slice-2.ensures c.eq-2.ensures c.if-eq-2.true in
    on_ok_weaker c.push_host-then-eq-2.result
    (λ appended.
    subst (λ said. Answers (MayAnswer g.W.Tenancy.setup g.W.Tenancy.StandsFor old said) c.close-reply.new.world c.args.out.now.items c.push_host-then-eq-2.new.out.items)
    (sym (closing_said tenants c.args.line.now other is))
    (answers_host g.W.Tenancy.setup g.W.Tenancy.StandsFor old c.close-reply.new.world (OfHost (closing_of tenants (closed_in c.args.line.now))) c.close-reply.result c.args.out.now.items c.push_host-then-eq-2.new.out.items
    c.close-reply.ensures appended))
    c.push_host-then-eq-2.ensures

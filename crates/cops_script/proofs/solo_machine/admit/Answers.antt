use Rattle.std.proofs.Common.{◌≡◌, ◌∙◌, false, [], ap, refl, subst, sym}
use Rattle.std.specs.Prelude.{Some}
use Rattle.std.specs.Str.{bytes_eq}
use Rattle.std.proofs.lemmas.Result.{on_ok_weaker}
use Rattle.cops_types.specs.declared.faults.Fault.TheVariants.{Syntax}
use Rattle.cops_script.specs.HostLines.{admitted_in}
use Rattle.cops_types.proofs.WordLemmas.{bytes_from_test}
use Rattle.cops_script.specs.Said.{OfHost, admission_of}
use Rattle.cops_script.specs.SoloRules.{Takes}
use Rattle.cops_script.proofs.SoloMachine.{other_takes, refused_takes}
use Rattle.cops_script.proofs.solo_machine.admit.Goals as goal

pub returns-in_default : goal.returns-in_default
returns-in_default g c =
    subst (λ o. Takes g.W.Tenancy.setup g.W.Tenancy.StandsFor c.args.name.now c.args.run.now (OfHost (admission_of c.args.run.now.tenants o)) [] c.args.run.now) (sym c.in_default.is ∙ c.read_admission.ensures.value)
    (refused_takes g.W.Tenancy.setup g.W.Tenancy.StandsFor c.args.name.now c.args.run.now c.args.run.now Syntax refl refl refl refl)

pub returns-then-eq : goal.returns-then-eq
returns-then-eq g c =
    let name = sym c.bytes.ensures.value ∙ bytes_from_test c.bytes.result.now c.args.name.now (sym c.eq.ensures ∙ c.if-eq.true) in
    on_ok_weaker c.admit_named.result
    (λ takes.
    subst (λ o. Takes g.W.Tenancy.setup g.W.Tenancy.StandsFor c.args.name.now c.args.run.now (OfHost (admission_of c.args.run.now.tenants o)) [] c.admit_named.new.run) (sym c.in-Some.is ∙ c.read_admission.ensures.value)
    (subst (λ n. Takes g.W.Tenancy.setup g.W.Tenancy.StandsFor n c.args.run.now (OfHost (admission_of c.args.run.now.tenants (Some c.in-Some.tenant))) [] c.admit_named.new.run) name takes))
    c.admit_named.ensures

pub returns : goal.returns
returns g c =
    let differs : bytes_eq c.in-Some.tenant.name c.args.name.now ≡ false = ap (λ n. bytes_eq n c.args.name.now) (sym c.bytes.ensures.value) ∙ sym c.eq.ensures ∙ c.if-eq.false in
    other_takes g.W.Tenancy.setup g.W.Tenancy.StandsFor c.args.name.now c.args.run.now _ (admitted_in c.args.line.now) c.in-Some.tenant c.in_ok-give_slot.field-0
    (sym c.read_admission.ensures.value ∙ c.in-Some.is) differs c.in_ok-give_slot.ensures refl refl refl

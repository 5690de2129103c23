use Rattle.std.proofs.Common.{◌≡◌, ◌∙◌, [], true, false, ap, refl, subst, sym}
use Rattle.std.specs.Prelude.{None, Some}
use Rattle.std.specs.Str.{bytes_eq}
use Rattle.cops_types.specs.declared.faults.Fault.TheVariants.{Syntax, UnknownTenant}
use Rattle.cops_script.specs.HostLines.{closed_in}
use Rattle.cops_types.specs.OpenSlots.{open_slot_of_name}
use Rattle.cops_script.specs.Said.{OfHost, closing_at, closing_of}
use Rattle.cops_script.specs.SoloRules.{Takes}
use Rattle.cops_script.proofs.NamedSlots.{named_found}
use Rattle.cops_script.proofs.SoloMachine.{closed_tenants, named_closes, other_closes, refused_takes}
use Rattle.cops_script.proofs.solo_machine.close.Goals as goal

pub returns-in_default : goal.returns-in_default
returns-in_default g c =
    subst (λ o. Takes g.W.Tenancy.setup g.W.Tenancy.StandsFor c.args.name.now c.args.run.now (OfHost (closing_of c.args.run.now.tenants o)) [] c.args.run.now) (sym c.in_default.is ∙ c.read_closing.ensures)
    (refused_takes g.W.Tenancy.setup g.W.Tenancy.StandsFor c.args.name.now c.args.run.now c.args.run.now Syntax refl refl refl refl)

pub returns-in_default-slot_of_name : goal.returns-in_default-slot_of_name
returns-in_default-slot_of_name g c =
    let tenants = c.args.run.now.tenants in
    let none : open_slot_of_name tenants c.in-Some.closed ≡ None = ap (open_slot_of_name tenants) (sym c.bytes.ensures.value) ∙ sym c.slot_of_name.ensures ∙ c.in_default-slot_of_name.is in
    subst (λ o. Takes g.W.Tenancy.setup g.W.Tenancy.StandsFor c.args.name.now c.args.run.now (OfHost (closing_of tenants o)) [] c.args.run.now) (sym c.in-Some.is ∙ c.read_closing.ensures)
    (subst (λ o. Takes g.W.Tenancy.setup g.W.Tenancy.StandsFor c.args.name.now c.args.run.now (OfHost (closing_at c.in-Some.closed o)) [] c.args.run.now) (sym none)
    (refused_takes g.W.Tenancy.setup g.W.Tenancy.StandsFor c.args.name.now c.args.run.now c.args.run.now UnknownTenant refl refl refl refl))

pub returns-then-eq : goal.returns-then-eq
returns-then-eq g c =
    let tenants = c.args.run.now.tenants in
    let slot = c.in-Some-slot_of_name.slot in
    let found : open_slot_of_name tenants c.in-Some.closed ≡ Some slot = ap (open_slot_of_name tenants) (sym c.bytes.ensures.value) ∙ sym c.slot_of_name.ensures ∙ c.in-Some-slot_of_name.is in
    let there = named_found tenants c.in-Some.closed slot found in
    let after = closed_tenants g.W.Tenancy.setup g.W.Tenancy.StandsFor c.close-closed.result tenants c.close-closed.new.self slot there.0 there.1 c.close-closed.ensures.closed c.close-closed.ensures.there in
    let named : bytes_eq c.in-Some.closed c.args.name.now ≡ true = ap (λ n. bytes_eq n c.args.name.now) (sym c.bytes-2.ensures.value) ∙ sym c.eq.ensures ∙ c.if-eq.true in
    named_closes g.W.Tenancy.setup g.W.Tenancy.StandsFor c.args.name.now c.args.run.now _ c.in-Some.closed slot found refl after refl (closed_in c.args.line.now) (sym c.read_closing.ensures ∙ c.in-Some.is) named refl

pub returns-else-eq : goal.returns-else-eq
returns-else-eq g c =
    let tenants = c.args.run.now.tenants in
    let slot = c.in-Some-slot_of_name.slot in
    let found : open_slot_of_name tenants c.in-Some.closed ≡ Some slot = ap (open_slot_of_name tenants) (sym c.bytes.ensures.value) ∙ sym c.slot_of_name.ensures ∙ c.in-Some-slot_of_name.is in
    let there = named_found tenants c.in-Some.closed slot found in
    let after = closed_tenants g.W.Tenancy.setup g.W.Tenancy.StandsFor c.close-closed.result tenants c.close-closed.new.self slot there.0 there.1 c.close-closed.ensures.closed c.close-closed.ensures.there in
    let differs : bytes_eq c.in-Some.closed c.args.name.now ≡ false = ap (λ n. bytes_eq n c.args.name.now) (sym c.bytes-2.ensures.value) ∙ sym c.eq.ensures ∙ c.if-eq.false in
    other_closes g.W.Tenancy.setup g.W.Tenancy.StandsFor c.args.name.now c.args.run.now _ c.in-Some.closed slot found refl after refl (closed_in c.args.line.now) (sym c.read_closing.ensures ∙ c.in-Some.is) differs refl

use Rattle.std.proofs.Common.{◌≡◌, ap, sym, subst, ◌∙◌}
use Rattle.std.proofs.Math.ListN.{length-set}
use Rattle.std.specs.List.{list_any}
use Rattle.std.specs.Prelude.{Err, IfSome, List, Option, Some, length}
use Rattle.cops_types.specs.declared.configs.Tenant.{Tenant}
use Rattle.cops_types.specs.OpenSlots.{admission_refusal}
use Rattle.cops_node.specs.Parts.{is_taken}
use Rattle.cops_node.proofs.LifeLemmas.{unrefused}
use Rattle.cops_world.specs.Worlds.{Admits, IsKeptWorld, KeptWorld, StaysOpen}
use Rattle.cops_world.proofs.WorldLives.{IsErrOfUnit, admits, closed_again, no_refusal, stays_open, taken_nowhere, was_given, whole_back, whole_given, within_given}
use Rattle.cops_world.proofs.world.World.admit_at.Goals as goal

pub invariant_of-self-in-Err : goal.invariant_of-self-in-Err
invariant_of-self-in-Err c =
    let slot = c.args.slot in
    let tenant = c.args.tenant in
    let inside = c.self.inside in
    let old : KeptWorld = record { setup = record { head = inside.config; tenants = inside.tenants }; nodes = inside.nodes; table = inside.actors } in
    let whole = c.self.invariant.whole in
    let may = was_given inside.tenants slot tenant c.in_ok-admit_at.field-0 c.in_ok-admit_at.ensures.refused in
    let free = taken_nowhere old.setup slot may inside.nodes.nodes whole.sites_are.each in
    let back = c.in-Err.ensures.err free in
    let same = closed_again c.close-closed.result inside.tenants c.admit_at.new.self c.close-closed.new.self slot tenant (within_given old whole slot tenant may) may.vacant c.in_ok-admit_at.ensures.ok
    c.close-closed.ensures.closed c.close-closed.ensures.there in
    record {
      whole = whole_back old whole slot tenant may c.admit.new.self c.close-closed.new.self back same c.admit.ensures.shape;
      tabled = c.self.invariant.tabled ∙ sym (ap length same);
    }

pub returns-in-Err-clause-refused : goal.returns-in-Err-clause-refused
returns-in-Err-clause-refused c =
    subst (λ (k : KeptWorld). IfSome (admission_refusal k.setup.tenants c.args.slot c.args.tenant) (IsErrOfUnit c.in-Err.error)) c.self.view_is
    (no_refusal (IsErrOfUnit c.in-Err.error) c.self.inside.tenants c.args.slot c.args.tenant c.in_ok-admit_at.field-0 c.in_ok-admit_at.ensures.refused)

pub returns-in-Err-clause-faults : goal.returns-in-Err-clause-faults
returns-in-Err-clause-faults c =
    let slot = c.args.slot in
    let tenant = c.args.tenant in
    let inside = c.self.inside in
    let old : KeptWorld = record { setup = record { head = inside.config; tenants = inside.tenants }; nodes = inside.nodes; table = inside.actors } in
    let whole = c.self.invariant.whole in
    let may = was_given inside.tenants slot tenant c.in_ok-admit_at.field-0 c.in_ok-admit_at.ensures.refused in
    let free = taken_nowhere old.setup slot may inside.nodes.nodes whole.sites_are.each in
    unrefused (λ fault. admission_refusal c.args.self.now.setup.tenants slot tenant ≡ Some fault) (list_any (is_taken slot) inside.nodes.nodes) (Err c.in-Err.error) free c.in-Err.ensures.answer

pub returns-in-Err-clause-err : goal.returns-in-Err-clause-err
returns-in-Err-clause-err c =
    let slot = c.args.slot in
    let tenant = c.args.tenant in
    let inside = c.self.inside in
    let old : KeptWorld = record { setup = record { head = inside.config; tenants = inside.tenants }; nodes = inside.nodes; table = inside.actors } in
    let whole = c.self.invariant.whole in
    let may = was_given inside.tenants slot tenant c.in_ok-admit_at.field-0 c.in_ok-admit_at.ensures.refused in
    let free = taken_nowhere old.setup slot may inside.nodes.nodes whole.sites_are.each in
    let back = c.in-Err.ensures.err free in
    let same = closed_again c.close-closed.result inside.tenants c.admit_at.new.self c.close-closed.new.self slot tenant (within_given old whole slot tenant may) may.vacant c.in_ok-admit_at.ensures.ok
    c.close-closed.ensures.closed c.close-closed.ensures.there in
    subst (λ (k : KeptWorld). StaysOpen k (record { setup = record { head = inside.config; tenants = c.close-closed.new.self }; nodes = c.admit.new.self; table = inside.actors })) c.self.view_is
    (stays_open old whole slot tenant may c.admit.new.self c.close-closed.new.self back same)

pub invariant_of-self-in_default : goal.invariant_of-self-in_default
invariant_of-self-in_default c =
    let slot = c.args.slot in
    let tenant = c.args.tenant in
    let inside = c.self.inside in
    let old : KeptWorld = record { setup = record { head = inside.config; tenants = inside.tenants }; nodes = inside.nodes; table = inside.actors } in
    let whole = c.self.invariant.whole in
    let may = was_given inside.tenants slot tenant c.in_ok-admit_at.field-0 c.in_ok-admit_at.ensures.refused in
    subst (λ (ts : List (Option Tenant)). IsKeptWorld (record { setup = record { head = inside.config; tenants = ts }; nodes = c.admit.new.self; table = inside.actors })) (sym c.in_ok-admit_at.ensures.ok)
    (record {
      whole = whole_given old whole slot tenant may c.admit.new.self c.in_default.ensures.ok c.requires c.admit.ensures.shape;
      tabled = c.self.invariant.tabled ∙ sym (length-set inside.tenants slot (Some tenant));
    })

pub returns-clause-ok : goal.returns-clause-ok
returns-clause-ok c =
    let slot = c.args.slot in
    let tenant = c.args.tenant in
    let inside = c.self.inside in
    let old : KeptWorld = record { setup = record { head = inside.config; tenants = inside.tenants }; nodes = inside.nodes; table = inside.actors } in
    let whole = c.self.invariant.whole in
    let may = was_given inside.tenants slot tenant c.in_ok-admit_at.field-0 c.in_ok-admit_at.ensures.refused in
    subst (λ (k : KeptWorld). Admits slot tenant k (record { setup = record { head = inside.config; tenants = c.admit_at.new.self }; nodes = c.admit.new.self; table = inside.actors })) c.self.view_is
    (subst (λ (ts : List (Option Tenant)). Admits slot tenant old (record { setup = record { head = inside.config; tenants = ts }; nodes = c.admit.new.self; table = inside.actors })) (sym c.in_ok-admit_at.ensures.ok)
    (admits old whole slot tenant may c.admit.new.self c.in_default.ensures.ok))

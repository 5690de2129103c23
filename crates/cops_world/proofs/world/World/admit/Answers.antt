use Rattle.std.proofs.Common.{subst}
use Rattle.std.specs.Prelude.{◌≡◌, ℕ, Err, IfSome, Some}
use Rattle.cops_types.specs.RequestErrors.{IfRefusal}
use Rattle.cops_model.specs.Setups.{next_slot}
use Rattle.cops_types.specs.OpenSlots.{admission_refusal}
use Rattle.cops_world.proofs.WorldLives.{IsErrOfSlot, SlotIsErr, no_refusal, refusal_too, refused_too}
use Rattle.cops_world.proofs.world.World.admit.Goals as goal

pub returns-in-Ok-clause-refused : goal.returns-in-Ok-clause-refused
returns-in-Ok-clause-refused c =
    let tenants = c.args.self.now.setup.tenants in
    let slot = c.next_slot-slot.result in
    subst (λ n. IfSome (admission_refusal tenants n c.args.tenant) (SlotIsErr slot)) c.next_slot-slot.ensures
    (no_refusal (SlotIsErr slot) tenants slot c.args.tenant c.in-Ok.field-0 c.in-Ok.ensures.refused)

pub returns-in-Err-clause-refused : goal.returns-in-Err-clause-refused
returns-in-Err-clause-refused c =
    let tenants = c.args.self.now.setup.tenants in
    let slot = c.next_slot-slot.result in
    subst (λ n. IfSome (admission_refusal tenants n c.args.tenant) (IsErrOfSlot c.in-Err.error)) c.next_slot-slot.ensures
    (refused_too (admission_refusal tenants slot c.args.tenant) c.in-Err.error c.in-Err.ensures.refused)

pub returns-in-Err-clause-faults : goal.returns-in-Err-clause-faults
returns-in-Err-clause-faults c =
    let tenants = c.args.self.now.setup.tenants in
    refusal_too (Unit {0}) ℕ (λ fault. admission_refusal tenants (next_slot tenants) c.args.tenant ≡ Some fault) c.in-Err.error
    (subst (λ n. IfRefusal {A = Unit {0}} (Err c.in-Err.error) (λ fault. admission_refusal tenants n c.args.tenant ≡ Some fault)) c.next_slot-slot.ensures c.in-Err.ensures.faults)

use Rattle.std.proofs.Common.{subst, sym}
use Rattle.cops_types.specs.Slots.{AreDistinct, AreNamed}
use Rattle.cops_types.proofs.BegunSlots.{open_of}
use Rattle.cops_types.proofs.open_tenants.OpenTenants.of.Goals as goal

pub invariant_of-result : goal.invariant_of-result
invariant_of-result c =
    let tenants = c.as_slice-tenants.result.now in
    open_of tenants c.in_ok-slots_of.field-0.items c.note_all.new.names c.note_all.new.tokens
    (subst AreNamed (sym c.as_slice-tenants.ensures.value) c.as_slice-tenants.ensures.named)
    (subst AreDistinct (sym c.as_slice-tenants.ensures.value) c.as_slice-tenants.ensures.distinct)
    c.in_ok-note_all.ensures c.in_ok-slots_of.ensures

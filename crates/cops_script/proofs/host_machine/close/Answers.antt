use Rattle.std.proofs.Common.{◌∙◌, ap, sym}
use Rattle.cops_types.specs.OpenSlots.{open_slot_of_name}
use Rattle.cops_script.proofs.MachineLemmas.{open_found}
use Rattle.cops_script.proofs.host_machine.close.Goals as goal

pub close-requires : goal.close-requires
close-requires g c =
    let tenants = (g.W.Tenancy.setup c.args.world.now).tenants in
    open_found tenants c.bytes.result.now c.in-Some-slot_of_name.slot
    (ap (λ ts. open_slot_of_name ts c.bytes.result.now) (sym c.tenants.ensures) ∙ sym c.slot_of_name.ensures ∙ c.in-Some-slot_of_name.is)

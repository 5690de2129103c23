use Rattle.std.proofs.Common.{◌≡◌, ◌∙◌, ap, sym}
use Rattle.std.specs.Prelude.{slice_get, Some}
use Rattle.cops_types.specs.OpenSlots.{open_at}
use Rattle.cops_script.proofs.BegunSetups.{open_begun}
use Rattle.cops_script.proofs.MainLemmas.{alone_good}
use Rattle.cops_script.proofs.MachineLemmas.{open_found}
use Rattle.cops_script.proofs.solo_machine.begin_run.Goals as goal

pub tenant_in-tenant-requires : goal.tenant_in-tenant-requires
tenant_in-tenant-requires g c = open_found c.in_ok-tenants.tenants c.args.name.now c.in-Some.slot (sym c.slot_of_name.ensures ∙ c.in-Some.is)

pub begin_alone-requires : goal.begin_alone-requires
begin_alone-requires g c =
    let tenants = c.args.head.tenants in
    let slot = c.in-Some.slot in
    let at : slice_get tenants slot ≡ Some c.tenant_in-tenant.result.now =
    sym (open_begun tenants slot) ∙ ap (open_at slot) (sym c.in_ok-tenants.ensures) ∙ c.tenant_in-tenant.ensures in
    alone_good c.args.head slot c.tenant_in-tenant.result.now c.requires at

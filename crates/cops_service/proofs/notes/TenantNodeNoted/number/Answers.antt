use Rattle.cops_service.proofs.Wrapping.{place_wrapped}
use Rattle.cops_service.proofs.notes.TenantNodeNoted.number.Goals as goal

pub returns : goal.returns
returns c = place_wrapped _ _ _ _ _ _

use Rattle.std.proofs.Common.{◌∙◌, ap, sym}
use Rattle.std.specs.Prelude.{is_some}
use Rattle.cops_types.specs.OpenSlots.{open_at}
use Rattle.cops_world.proofs.HostRunLemmas.{acted_at, some_copied}
use Rattle.cops_world.proofs.host_runs.act_at.Goals as goal

pub returns : goal.returns
returns c =
    acted_at c.args.world.now c.act.new.self c.args.slot c.args.act.now c.act.result c.as_reply.result c.as_reply.ensures
    (ap (λ ts. is_some (open_at c.args.slot ts)) (sym c.tenants.ensures) ∙ ap is_some (sym c.tenant.ensures) ∙ some_copied c.tenant.result ∙ c.if-is_none.ensures)
    c.act.ensures.moves c.act.ensures.lack

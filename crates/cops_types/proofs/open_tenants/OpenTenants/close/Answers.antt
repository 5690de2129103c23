use Rattle.std.proofs.Common.{◌∙◌, ap, sym}
use Rattle.cops_types.specs.OpenSlots.{open_at}
use Rattle.cops_types.proofs.OpenSlotLemmas.{open_left}
use Rattle.cops_types.proofs.open_tenants.OpenTenants.close.Goals as goal

pub invariant_of-self : goal.invariant_of-self
invariant_of-self c =
    open_left c.self.inside.slots.items c.args.slot c.in-Some.tenant.now c.self.inside.names c.forget.new.names c.self.inside.tokens c.forget.new.tokens (c.in-Some.ensures ∙ ap (open_at c.args.slot) (sym c.self.view_is)) c.self.invariant c.forget.ensures.names c.forget.ensures.tokens

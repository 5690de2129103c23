use Rattle.std.proofs.Common.{◌∙◌, ap, sym}
use Rattle.cops_types.specs.OpenSlots.{admission_refusal}
use Rattle.cops_types.proofs.OpenSlotLemmas.{open_put, open_same}
use Rattle.cops_types.proofs.open_tenants.OpenTenants.admit_at.Goals as goal

pub invariant_of-self : goal.invariant_of-self
invariant_of-self c =
    open_same c.self.inside.slots.items c.self.inside.names c.note.new.names c.self.inside.tokens c.note.new.tokens c.self.invariant c.in_err-note.ensures.same_names c.in_err-note.ensures.same_tokens

pub invariant_of-self-2 : goal.invariant_of-self-2
invariant_of-self-2 c =
    open_put c.self.inside.slots.items c.args.slot c.args.tenant c.self.inside.names c.note.new.names c.self.inside.tokens c.note.new.tokens
    (ap (λ ts. admission_refusal ts c.args.slot c.args.tenant) c.self.view_is ∙ sym c.refusal.ensures ∙ c.in_default.is) c.in_ok-note.ensures.name c.self.invariant c.in_ok-note.ensures.names c.in_ok-note.ensures.tokens

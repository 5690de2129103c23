use Rattle.std.proofs.Common.{◌∙◌}
use Rattle.cops_types.specs.Slots.{slot_of_token}
use Rattle.cops_types.proofs.SlotLemmas.{place_found}
use Rattle.cops_types.proofs.tenants.Tenants.slot_of_token.Goals as goal

pub returns-in-Some : goal.returns-in-Some
returns-in-Some c =
    c.in-Some.ensures.index ∙ place_found (λ t. t.token) c.as_bytes.result.now c.self.inside.tokens.keys c.self.inside.tenants.items c.self.invariant.tokens_are
    ∙ (λ i. slot_of_token (c.self.view_is i) (c.as_bytes.ensures i))

pub returns-in-None : goal.returns-in-None
returns-in-None c =
    c.in-None.ensures.index ∙ place_found (λ t. t.token) c.as_bytes.result.now c.self.inside.tokens.keys c.self.inside.tenants.items c.self.invariant.tokens_are
    ∙ (λ i. slot_of_token (c.self.view_is i) (c.as_bytes.ensures i))

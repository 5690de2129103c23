use Rattle.std.proofs.Common.{◌∙◌, ap, length}
use Rattle.cops_node.specs.Parts.{Shared, place_at, solo_of}
use Rattle.cops_node.proofs.Slots.{solo_trail}
use Rattle.cops_node.proofs.node.Node.audit_len.Goals as goal

pub returns-clause-solo : goal.returns-clause-solo
returns-clause-solo c = λ place found.
    c.len.ensures
    ∙ ap length (solo_trail c.self.inside.home c.args.slot c.self.inside.parts.items c.self.inside.audit.trails c.self.inside.storage.store c.self.inside.storage.outbox place c.self.invariant (ap (place_at c.args.slot) c.self.view_is ∙ found))
    ∙ ap (λ (v : Shared). length (solo_of c.args.slot place v).trail) c.self.view_is

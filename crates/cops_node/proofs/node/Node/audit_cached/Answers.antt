use Rattle.std.proofs.Common.{◌∙◌, ap}
use Rattle.std.specs.Prelude.{slice_get}
use Rattle.cops_node.specs.Parts.{Shared, place_at, solo_of, trail_of}
use Rattle.cops_node.proofs.Slots.{copied_none, no_part_shown, solo_trail}
use Rattle.cops_node.proofs.node.Node.audit_cached.Goals as goal

pub returns-clause-call : goal.returns-clause-call
returns-clause-call c = c.get_cached.ensures ∙ ap (λ (v : Shared). slice_get (trail_of c.args.slot v.audit) c.args.place) c.self.view_is

pub returns-clause-solo : goal.returns-clause-solo
returns-clause-solo c = λ own found.
    c.get_cached.ensures
    ∙ ap (λ t. slice_get t c.args.place) (solo_trail c.self.inside.home c.args.slot c.self.inside.parts.items c.self.inside.audit.trails c.self.inside.storage.store c.self.inside.storage.outbox own c.self.invariant (ap (place_at c.args.slot) c.self.view_is ∙ found))
    ∙ ap (λ (v : Shared). slice_get (solo_of c.args.slot own v).trail c.args.place) c.self.view_is

pub returns-clause-vacant : goal.returns-clause-vacant
returns-clause-vacant c = λ none.
    copied_none c.get_cached.result
    (c.get_cached.ensures ∙ ap (λ t. slice_get t c.args.place) (c.self.invariant.vacant c.args.slot (no_part_shown c.self.inside.home c.self.inside.parts.items c.self.inside.audit.trails c.args.slot (ap (place_at c.args.slot) c.self.view_is ∙ none))).none)

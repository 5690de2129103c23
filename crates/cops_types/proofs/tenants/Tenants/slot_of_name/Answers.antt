use Rattle.std.proofs.Common.{◌∙◌, ap}
use Rattle.cops_types.specs.Slots.{slot_of_name}
use Rattle.cops_types.proofs.SlotLemmas.{names_named, place_found}
use Rattle.cops_types.proofs.tenants.Tenants.slot_of_name.Goals as goal

pub place_of_name-requires : goal.place_of_name-requires
place_of_name-requires c = names_named c.self.inside.tenants.items c.self.inside.names.keys c.self.invariant.named c.self.invariant.names_are

pub returns-in-Some : goal.returns-in-Some
returns-in-Some c =
    c.in-Some.ensures ∙ place_found (λ t. t.name) c.args.name.now c.self.inside.names.keys c.self.inside.tenants.items c.self.invariant.names_are
    ∙ ap (λ ts. slot_of_name ts c.args.name.now) c.self.view_is

pub returns-in-None : goal.returns-in-None
returns-in-None c =
    c.in-None.ensures ∙ place_found (λ t. t.name) c.args.name.now c.self.inside.names.keys c.self.inside.tenants.items c.self.invariant.names_are
    ∙ ap (λ ts. slot_of_name ts c.args.name.now) c.self.view_is

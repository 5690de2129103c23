use Rattle.std.proofs.Common.{◌≡◌, ap, sym, ◌∙◌}
use Rattle.std.specs.Prelude.{Some}
use Rattle.cops_types.proofs.WordLemmas.{same_value}
use Rattle.cops_world.specs.ActorsStand.{actor_ended}
use Rattle.cops_world.specs.ActorTables.{Table, actor_at, actor_place}
use Rattle.cops_world.proofs.PlaceLemmas.{actor_here, below}
use Rattle.cops_world.proofs.actor_table.ActorTable.has_ended.Goals as goal

pub index-row-requires : goal.index-row-requires
index-row-requires c =
    let id = c.args.id.now in
    below c.self.inside.rows c.self.inside.rings.items c.self.invariant id c.args.place (c.requires ∙ ap (actor_place id) (sym c.self.view_is))

pub returns : goal.returns
returns c = λ actor is.
    let id = c.args.id.now in
    let row = c.index-row.result.now in
    let found = actor_here c.self.inside.rows c.self.inside.rings.items c.self.invariant id c.args.place (c.requires ∙ ap (actor_place id) (sym c.self.view_is)) row c.index-row.ensures in
    c.has_ended.ensures ∙ ap actor_ended (same_value row.actor actor (sym found ∙ ap (λ (t : Table). actor_at t id) c.self.view_is ∙ is))

use Rattle.std.proofs.Common.{ap, sym, ◌∙◌}
use Rattle.std.specs.Option.{option_map}
use Rattle.cops_world.specs.declared.rings.ActorRow.{ActorRow}
use Rattle.cops_world.specs.ActorTables.{Table, actor_at}
use Rattle.cops_world.proofs.PlaceLemmas.{actors_found}
use Rattle.cops_world.proofs.actor_table.ActorTable.actor.Goals as goal

pub returns-in-Some : goal.returns-in-Some
returns-in-Some c =
    ap (option_map (λ (r : ActorRow). r.actor)) c.in-Some.ensures.value ∙ sym (actors_found c.args.id.now c.self.inside.rows.entries) ∙ ap (λ (t : Table). actor_at t c.args.id.now) c.self.view_is

pub returns-in-None : goal.returns-in-None
returns-in-None c =
    ap (option_map (λ (r : ActorRow). r.actor)) c.in-None.ensures.value ∙ sym (actors_found c.args.id.now c.self.inside.rows.entries) ∙ ap (λ (t : Table). actor_at t c.args.id.now) c.self.view_is

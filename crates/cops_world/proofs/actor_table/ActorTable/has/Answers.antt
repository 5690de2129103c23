use Rattle.std.proofs.Common.{ap, ◌∙◌}
use Rattle.std.specs.Prelude.{is_some}
use Rattle.cops_world.specs.ActorTables.{Table, actor_at}
use Rattle.cops_world.proofs.PlaceLemmas.{some_found}
use Rattle.cops_world.proofs.actor_table.ActorTable.has.Goals as goal

pub returns : goal.returns
returns c = c.contains_key.ensures ∙ some_found c.args.id.now c.self.inside.rows.entries ∙ ap (λ (t : Table). is_some (actor_at t c.args.id.now)) c.self.view_is

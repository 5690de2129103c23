use Rattle.std.proofs.Common.{◌≡◌, ◌+◌, ap, sym, subst, ◌∙◌}
use Rattle.std.specs.Prelude.{None}
use Rattle.cops_world.specs.ActorRings.{table_in}
use Rattle.cops_world.specs.ActorTables.{Places, Table, actor_place, count_at}
use Rattle.cops_world.proofs.PlaceLemmas.{here, index_of_row}
use Rattle.cops_world.proofs.actor_table.ActorTable.take_out.Goals as goal

pub returns-clause-out : goal.returns-clause-out
returns-clause-out c =
    let id = c.args.id.now in
    let map = c.self.inside.rows in
    let rings = c.self.inside.rings.items in
    let h = here id map.entries c.args.place (index_of_row map rings c.self.invariant id c.args.place (c.requires ∙ ap (actor_place id) (sym c.self.view_is))) in
    subst (λ (t : Table). Places t id None (table_in c.remove.new.rows.entries c.remove.new.rings.items)) c.self.view_is (c.remove.ensures.out id h.value h.entry)

pub returns-clause-count : goal.returns-clause-count
returns-clause-count c =
    let id = c.args.id.now in
    let map = c.self.inside.rows in
    let rings = c.self.inside.rings.items in
    let h = here id map.entries c.args.place (index_of_row map rings c.self.invariant id c.args.place (c.requires ∙ ap (actor_place id) (sym c.self.view_is))) in
    subst (λ (t : Table). count_at (table_in c.remove.new.rows.entries c.remove.new.rings.items) id.slot + 1 ≡ count_at t id.slot) c.self.view_is (c.remove.ensures.count id h.value h.entry)

use Rattle.std.proofs.Common.{◌≡◌, length, refl, sym, subst, ap, ◌∙◌}
use Rattle.std.specs.Prelude.{Some}
use Rattle.indexmap.specs.IndexMap.{set_value_at}
use Rattle.cops_world.specs.ActorTables.{PutsBack, Table, actor_at, actor_place}
use Rattle.cops_world.proofs.PlaceLemmas.{actor_here, below, kept_changed, place_stays, put_back_now, table_changed}
use Rattle.cops_world.proofs.actor_table.ActorTable.actor_mut.Goals as goal

pub index_mut-row-requires : goal.index_mut-row-requires
index_mut-row-requires c =
    let id = c.args.id.now in
    below c.self.inside.rows c.self.inside.rings.items c.self.invariant id c.args.place (c.requires ∙ ap (actor_place id) (sym c.self.view_is))

pub invariant_of-self-lent : goal.invariant_of-self-lent
invariant_of-self-lent c w = kept_changed c.self.inside.rows.entries c.self.inside.rings.items c.self.invariant c.args.place c.index_mut-row.result.now c.index_mut-row.ensures.value w

pub returns : goal.returns
returns c =
    let id = c.args.id.now in
    let place = c.args.place in
    let map = c.self.inside.rows in
    let rings = c.self.inside.rings.items in
    let row = c.index_mut-row.result.now in
    let there = c.index_mut-row.ensures.value in
    let index = c.requires ∙ ap (actor_place id) (sym c.self.view_is) in (
      (
        refl,
        λ w.
            ap (λ actors. let t : Table = record { slots = length rings; actors = actors } in t) (table_changed map rings c.self.invariant id place index row there w)
            ∙ ap (λ (t : Table). let u : Table = record { slots = t.slots; actors = set_value_at t.actors place w } in u) c.self.view_is,
      ),
      record {
        lent = tt;
        before = ap (λ (t : Table). actor_at t id) (sym c.self.view_is) ∙ actor_here map rings c.self.invariant id place index row there;
        back = λ actor. subst (λ (t : Table). PutsBack t id actor (record { slots = t.slots; actors = set_value_at t.actors place actor })) c.self.view_is (put_back_now map rings c.self.invariant id place index row there actor);
        place = λ actor. subst (λ (t : Table). Some place ≡ actor_place id (record { slots = t.slots; actors = set_value_at t.actors place actor })) c.self.view_is (place_stays map rings c.self.invariant id place index row there actor);
      },
    )

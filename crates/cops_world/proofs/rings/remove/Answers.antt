use Rattle.std.proofs.Common.{◌≡◌, ℕ, ◌<◌, refl, length, subst, sym, ap, ◌∙◌, arith, cond}
use Rattle.std.specs.Map.{lookup}
use Rattle.std.specs.Option.{option_map}
use Rattle.std.specs.Prelude.{None, Option, IfSome}
use Rattle.indexmap.specs.IndexMap.{Updates}
use Rattle.cops_world.specs.declared.actors.ActorId.{ActorId}
use Rattle.cops_world.specs.declared.rings.ActorRow.{ActorRow}
use Rattle.cops_world.specs.ActorTables.{same_actor}
use Rattle.cops_world.specs.ActorRings.{links_of, ring_at}
use Rattle.cops_world.proofs.PlaceLemmas.{actor_placed}
use Rattle.cops_world.proofs.RowLemmas.{entry_here, kept_removed, links_here, long_now, one_there, others_as, own_less, row_now}
use Rattle.cops_world.proofs.rings.remove.Goals as goal

pub index_mut-ring-requires : goal.index_mut-ring-requires
index_mut-ring-requires c =
    let own = links_here c.args.rows.now.entries c.args.place c.requires.place in
    let low = subst (λ n. n < length c.args.rings.now.items) (sym (c.slot_of-slot.ensures own.0 own.1)) (c.requires.kept.ringed.within c.args.place own.0 own.1) in
    let long = c.make_way.ensures.len ∙ c.take_out.ensures.len in
    let ok = c.make_way.new.rings.ok.0 in
    omega (arith, low, long, ok)

pub overflow_sub-ring : goal.overflow_sub-ring
overflow_sub-ring c =
    let e = entry_here c.args.rows.now.entries c.args.place c.requires.place in
    let links = ap (option_map links_of) e.1 in
    (one_there c.args.rows.now.entries c.args.rings.now.items c.make_way.new.rings.items c.args.place c.slot_of-slot.result c.index_mut-ring.result.now (links_of e.0) c.requires.kept links
    (c.slot_of-slot.ensures (links_of e.0) links) (c.make_way.ensures.len ∙ c.take_out.ensures.len) (λ s. c.make_way.ensures.counts s ∙ c.take_out.ensures.counts s) c.index_mut-ring.ensures.value).1

pub returns-clause-kept : goal.returns-clause-kept
returns-clause-kept c =
    let e = entry_here c.args.rows.now.entries c.args.place c.requires.place in
    let over = c.swap_remove_index-over in
    kept_removed c.args.rows.now.entries c.make_way.new.rows.entries over.new.self.entries c.args.rings.now.items c.make_way.new.rings.items _ c.args.place c.slot_of-slot.result c.index_mut-ring.result.now
    e.0.0 e.0.1 c.requires.kept e.1 (c.make_way.ensures.actors ∙ c.take_out.ensures.actors) c.make_way.ensures.rings (c.make_way.ensures.len ∙ c.take_out.ensures.len) (λ s. c.make_way.ensures.counts s ∙ c.take_out.ensures.counts s)
    (c.slot_of-slot.ensures (links_of e.0) (ap (option_map links_of) e.1)) c.index_mut-ring.ensures.value refl over.result over.ensures.entry over.ensures.entries over.ensures.unique

pub returns-clause-out : goal.returns-clause-out
returns-clause-out c = λ id row there.
    let mid = c.make_way.new.rows in
    let over = c.swap_remove_index-over in
    let actors = c.make_way.ensures.actors ∙ c.take_out.ensures.actors in
    let slot_is = c.slot_of-slot.ensures (links_of (id, row)) (ap (option_map links_of) there) in
    let counts : (s : ℕ) → (ring_at s c.make_way.new.rings.items).count ≡ (ring_at s c.args.rings.now.items).count = λ s. c.make_way.ensures.counts s ∙ c.take_out.ensures.counts s in
    let long = c.make_way.ensures.len ∙ c.take_out.ensures.len in
    let after = row_now c.args.rows.now.entries mid.entries over.new.self.entries c.args.rings.now.items c.make_way.new.rings.items _ c.args.place c.slot_of-slot.result c.index_mut-ring.result.now
    id row c.requires.kept there actors c.make_way.ensures.rings long counts slot_is c.index_mut-ring.ensures.value refl over.result over.ensures.entry over.ensures.entries in
    let updates = subst (λ (o : Option (ActorId × ActorRow)). IfSome o (λ p. Updates same_actor mid over.new.self p.0 None)) (over.ensures.entry ∙ after.1) over.ensures.updates in
    record {
      at = λ q. actor_placed id None mid.entries over.new.self.entries updates.0 q ∙ ap (λ actors. cond (same_actor id q) None (lookup (same_actor q) actors)) actors;
      slots = long_now c.args.rows.now.entries mid.entries over.new.self.entries c.args.rings.now.items c.make_way.new.rings.items _ c.args.place c.slot_of-slot.result c.index_mut-ring.result.now
          id row c.requires.kept there actors c.make_way.ensures.rings long counts slot_is c.index_mut-ring.ensures.value refl over.result over.ensures.entry over.ensures.entries;
      others = others_as c.args.rows.now.entries mid.entries over.new.self.entries c.args.rings.now.items c.make_way.new.rings.items _ c.args.place c.slot_of-slot.result c.index_mut-ring.result.now
          id row c.requires.kept there actors c.make_way.ensures.rings long counts slot_is c.index_mut-ring.ensures.value refl over.result over.ensures.entry over.ensures.entries;
    }

pub returns-clause-count : goal.returns-clause-count
returns-clause-count c = λ id row there.
    let over = c.swap_remove_index-over in
    own_less c.args.rows.now.entries c.make_way.new.rows.entries over.new.self.entries c.args.rings.now.items c.make_way.new.rings.items _ c.args.place c.slot_of-slot.result c.index_mut-ring.result.now
    id row c.requires.kept there (c.make_way.ensures.actors ∙ c.take_out.ensures.actors) c.make_way.ensures.rings (c.make_way.ensures.len ∙ c.take_out.ensures.len) (λ s. c.make_way.ensures.counts s ∙ c.take_out.ensures.counts s)
    (c.slot_of-slot.ensures (links_of (id, row)) (ap (option_map links_of) there)) c.index_mut-ring.ensures.value refl over.result over.ensures.entry over.ensures.entries

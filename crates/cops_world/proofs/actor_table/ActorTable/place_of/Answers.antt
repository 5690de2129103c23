use Rattle.std.proofs.Common.{◌≡◌, ◌∙◌, ap, sym, subst}
use Rattle.std.specs.Prelude.{Some, is_some, position}
use Rattle.std.specs.Map.{keys_of}
use Rattle.indexmap.proofs.MapLemmas.{some_index}
use Rattle.cops_world.specs.ActorTables.{Table, actor_place, same_actor}
use Rattle.cops_world.proofs.PlaceLemmas.{guessed_place}
use Rattle.cops_world.proofs.RowLemmas.{keys_in}
use Rattle.cops_world.proofs.actor_table.ActorTable.place_of.Goals as goal

pub returns-in-Some-clause-index : goal.returns-in-Some-clause-index
returns-in-Some-clause-index c =
    let id = c.args.id.now in
    let es = c.self.inside.rows.entries in
    sym (guessed_place id es c.args.guess (c.in-Some.at.now, c.in-Some.field-0-1.now) c.self.invariant.distinct (sym c.in-Some.ensures.entry) (sym c.eq.ensures ∙ c.if-eq.true))
    ∙ ap (position (same_actor id)) (sym (keys_in es)) ∙ ap (actor_place id) c.self.view_is

pub returns-in-Some-clause-found : goal.returns-in-Some-clause-found
returns-in-Some-clause-found c = ap is_some (returns-in-Some-clause-index c) ∙ some_index (same_actor c.args.id.now) c.args.self.now.actors

pub returns-in_default-clause-index : goal.returns-in_default-clause-index
returns-in_default-clause-index c =
    c.get_index_of.ensures.index ∙ ap (position (same_actor c.args.id.now)) (sym (keys_in c.self.inside.rows.entries)) ∙ ap (actor_place c.args.id.now) c.self.view_is

pub returns-in_default-clause-found : goal.returns-in_default-clause-found
returns-in_default-clause-found c = ap is_some (returns-in_default-clause-index c) ∙ some_index (same_actor c.args.id.now) c.args.self.now.actors

use Rattle.std.proofs.Common.{◌≡◌, arith, cond, List, subst, sym}
use Rattle.std.specs.Prelude.{Some}
use Rattle.std.specs.Map.{lookup}
use Rattle.cops_world.specs.declared.actors.ActorId.{ActorId}
use Rattle.cops_world.specs.declared.rings.ActorRow.{ActorRow}
use Rattle.cops_world.specs.ActorTables.{same_actor}
use Rattle.cops_world.proofs.rings.append.Goals as goal

pub returns-in-Vacant-clause-entries : goal.returns-in-Vacant-clause-entries
returns-in-Vacant-clause-entries c = λ new.
    let written : c.insert.result.now ≡ c.args.row = c.insert.ensures.value in
    let added = c.in_ok-_place.ensures.update.1 c.args.row in
    grind (arith, added, written)

pub returns-in-Vacant-clause-updates : goal.returns-in-Vacant-clause-updates
returns-in-Vacant-clause-updates c = λ new q.
    let added = c.in_ok-_place.ensures.update.1 c.args.row in
    let update = c.in_ok-_place.ensures.update.0 c.args.row in
    subst (λ (rows : List (ActorId × ActorRow)). lookup (same_actor q) rows ≡ cond (same_actor c.args.id q) (Some c.args.row) (lookup (same_actor q) c.args.rows.now.entries))
    (sym (returns-in-Vacant-clause-entries c new))
    (subst (λ (rows : List (ActorId × ActorRow)). lookup (same_actor q) rows ≡ cond (same_actor c.args.id q) (Some c.args.row) (lookup (same_actor q) c.args.rows.now.entries)) added (update.0 q))

use Rattle.std.proofs.Common.{◌≡◌, ◌∙◌, arith, ap, subst, refl, rules, true}
use Rattle.std.specs.Prelude.{None, is_some}
use Rattle.std.specs.List.{position_or_len}
use Rattle.std.specs.Map.{keys_of, lookup}
use Rattle.indexmap.proofs.CallerLemmas.{insert_entry-new}
use Rattle.cops_store.specs.declared.rows.Row.{Row}
use Rattle.cops_store.specs.Chains.{KeptChain}
use Rattle.cops_store.specs.Lines.{IsNewRow, IsAt, row_of, same_place}
use Rattle.cops_store.proofs.Lines.{occupied_at, place, vacant_added, vacant_at}
use Rattle.cops_store.proofs.rows.find_or_add.Goals as goal

pub returns-in-Occupied-clause-at : goal.returns-in-Occupied-clause-at
returns-in-Occupied-clause-at c =
    let there : is_some (lookup (same_place (place c.args.slot c.args.key.now)) c.args.rows.now.entries) ≡ true = search rules in
    let index : c.index.result ≡ position_or_len (same_place (place c.args.slot c.args.key.now)) (keys_of c.args.rows.now.entries) = search rules in
    let at = occupied_at c.args.rows.now.entries c.args.slot c.args.key.now c.index.result index there in
    subst (λ rows. IsAt rows c.index.result c.args.slot c.args.key.now) (search rules) at

pub returns-in_ok-link-in-Vacant-clause-at : goal.returns-in_ok-link-in-Vacant-clause-at
returns-in_ok-link-in-Vacant-clause-at c =
    let none : row_of c.args.rows.now.entries c.args.slot c.args.key.now ≡ None = search rules in
    let index : c.index-i.result ≡ position_or_len (same_place (place c.args.slot c.args.key.now)) (keys_of c.args.rows.now.entries) = search rules in
    let row : Row = record { chain = c.new.result; next = c.args.first.now } in
    let written : c.insert.result.now ≡ row = c.insert.ensures.value ∙ ap (λ next. record { chain = c.new.result; next = next }) c.replace.ensures.value in
    let added = c.in_ok-place.ensures.update.1 row ∙ insert_entry-new same_place c.args.rows.now (place c.args.slot c.args.key.now) row none in
    subst (λ rows. IsAt rows c.index-i.result c.args.slot c.args.key.now) (grind (arith, added, written)) (vacant_at c.args.rows.now.entries c.args.slot c.args.key.now row none c.index-i.result index)

pub returns-in_ok-link-in-Vacant-clause-added : goal.returns-in_ok-link-in-Vacant-clause-added
returns-in_ok-link-in-Vacant-clause-added c = λ new.
    let none : row_of c.args.rows.now.entries c.args.slot c.args.key.now ≡ None = search rules in
    let row : Row = record { chain = c.new.result; next = c.args.first.now } in
    let written : c.insert.result.now ≡ row = c.insert.ensures.value ∙ ap (λ next. record { chain = c.new.result; next = next }) c.replace.ensures.value in
    let added = c.in_ok-place.ensures.update.1 row ∙ insert_entry-new same_place c.args.rows.now (place c.args.slot c.args.key.now) row none in
    let update = c.in_ok-place.ensures.update.0 row in
    let all = vacant_added c.args.rows.now.entries c.args.slot c.args.key.now row none _ c.args.first.now c.new.result added refl
    (ap (λ (k : KeptChain). k.items) c.new.ensures) (ap (λ (k : KeptChain). k.room) c.new.ensures) update.1 update.2 (c.in_ok-place.ensures.update.2 row) in (
      subst (λ rows. IsNewRow c.args.rows.now.entries rows c.args.slot c.args.key.now c.args.first.now) (grind (arith, added, written)) all,
      c.replace.ensures.after ∙ c.in_ok-link-in-Vacant.ensures,
    )

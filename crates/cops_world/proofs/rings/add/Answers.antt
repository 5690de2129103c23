use Rattle.std.proofs.Common.{◌≡◌, ◌<◌, cond, List, length, refl, subst, sym, ap, ◌∙◌, arith}
use Rattle.std.specs.Map.{lookup}
use Rattle.std.specs.Prelude.{Some}
use Rattle.std.specs.Option.{option_map}
use Rattle.cops_world.specs.ActorRings.{AreKeptIn, table_in}
use Rattle.cops_world.proofs.PlaceLemmas.{actors_found, some_found}
use Rattle.cops_world.specs.declared.actors.ActorId.{ActorId}
use Rattle.cops_world.specs.declared.rings.ActorRow.{ActorRow}
use Rattle.cops_world.specs.ActorTables.{same_actor}
use Rattle.cops_world.specs.ActorRings.{Links, links_at}
use Rattle.cops_world.proofs.ActorTableLemmas.{on_err_any}
use Rattle.cops_world.proofs.JoinLemmas.{at_below, before_below, counted_few, first_below, inserted_at, kept_inserted, own_inserted, places_inserted}
use Rattle.cops_world.proofs.rings.add.Goals as goal

pub lead_in-requires-clause-at : goal.lead_in-requires-clause-at
lead_in-requires-clause-at c =
    let long = ap length (inserted_at c.args.rows.now c.args.rings.now.items c.args.id c.args.actor c.len-at.result c.len-at.ensures.len (actors_found c.args.id c.args.rows.now.entries ∙ ap (option_map (λ (r : ActorRow). r.actor)) (c.in_ok-added.ensures.free c.if-not-added.false)) c.append.new.rows.entries (c.in_ok-added.ensures.entries c.if-not-added.false)) in
    let low = at_below c.args.rows.now.entries c.args.rings.now.items c.requires.kept c.args.id c.args.actor c.index_mut-ring.result.now c.requires.slot c.index_mut-ring.ensures.value in
    let len = c.len-at.ensures.len in
    omega (arith, long, low, len)

pub lead_in-requires-clause-counted : goal.lead_in-requires-clause-counted
lead_in-requires-clause-counted c =
    let few = counted_few c.args.rows.now.entries c.args.rings.now.items c.requires.kept c.args.id c.args.actor c.index_mut-ring.result.now c.requires.slot c.index_mut-ring.ensures.value in
    let len = c.len-at.ensures.len in
    let small = c.len-at.ensures.small in
    omega (arith, few, len, small)

pub lead_in-requires-clause-first : goal.lead_in-requires-clause-first
lead_in-requires-clause-first c = λ some.
    subst (λ n. c.index_mut-ring.result.now.first < n) (sym (ap length (inserted_at c.args.rows.now c.args.rings.now.items c.args.id c.args.actor c.len-at.result c.len-at.ensures.len (actors_found c.args.id c.args.rows.now.entries ∙ ap (option_map (λ (r : ActorRow). r.actor)) (c.in_ok-added.ensures.free c.if-not-added.false)) c.append.new.rows.entries (c.in_ok-added.ensures.entries c.if-not-added.false)))) (first_below c.args.rows.now.entries c.args.rings.now.items c.requires.kept c.args.id c.args.actor c.index_mut-ring.result.now c.requires.slot c.index_mut-ring.ensures.value some)

pub lead_in-requires-clause-before : goal.lead_in-requires-clause-before
lead_in-requires-clause-before c = λ some own there.
    let mid_is = (inserted_at c.args.rows.now c.args.rings.now.items c.args.id c.args.actor c.len-at.result c.len-at.ensures.len (actors_found c.args.id c.args.rows.now.entries ∙ ap (option_map (λ (r : ActorRow). r.actor)) (c.in_ok-added.ensures.free c.if-not-added.false)) c.append.new.rows.entries (c.in_ok-added.ensures.entries c.if-not-added.false)) in
    subst (λ n. own.before < n) (sym (ap length mid_is)) (before_below c.args.rows.now.entries c.args.rings.now.items c.requires.kept c.args.id c.args.actor c.index_mut-ring.result.now c.requires.slot c.index_mut-ring.ensures.value some own (ap (λ (rows : List (ActorId × ActorRow)). links_at rows c.index_mut-ring.result.now.first) (sym mid_is) ∙ there))

pub returns-clause-kept : goal.returns-clause-kept
returns-clause-kept c =
    kept_inserted c.args.rows.now.entries c.args.rings.now.items c.requires.kept c.args.id c.args.actor c.index_mut-ring.result.now c.requires.slot c.index_mut-ring.ensures.value c.append.new.rows.entries (inserted_at c.args.rows.now c.args.rings.now.items c.args.id c.args.actor c.len-at.result c.len-at.ensures.len (actors_found c.args.id c.args.rows.now.entries ∙ ap (option_map (λ (r : ActorRow). r.actor)) (c.in_ok-added.ensures.free c.if-not-added.false)) c.append.new.rows.entries (c.in_ok-added.ensures.entries c.if-not-added.false)) c.len-at.result c.len-at.ensures.len
    c.lead_in.new.rows.entries _ c.lead_in.new.ring c.lead_in.ensures.ring refl c.lead_in.ensures.actors c.lead_in.ensures.alone c.lead_in.ensures.links c.append.ensures.unique

pub returns-clause-ok : goal.returns-clause-ok
returns-clause-ok c = λ yes.
    let len = c.len-at.ensures.len in
    places_inserted c.args.rows.now.entries c.args.rings.now.items c.requires.kept c.args.id c.args.actor c.index_mut-ring.result.now c.requires.slot c.index_mut-ring.ensures.value c.append.new.rows.entries (inserted_at c.args.rows.now c.args.rings.now.items c.args.id c.args.actor c.len-at.result c.len-at.ensures.len (actors_found c.args.id c.args.rows.now.entries ∙ ap (option_map (λ (r : ActorRow). r.actor)) (c.in_ok-added.ensures.free c.if-not-added.false)) c.append.new.rows.entries (c.in_ok-added.ensures.entries c.if-not-added.false)) c.len-at.result c.len-at.ensures.len
    c.lead_in.new.rows.entries _ c.lead_in.new.ring c.lead_in.ensures.ring refl c.lead_in.ensures.actors c.lead_in.ensures.alone c.lead_in.ensures.links
    (λ q. c.in_ok-added.ensures.updates c.if-not-added.false q ∙ (λ i. cond (same_actor c.args.id q) (Some (record { actor = c.args.actor; before = len i; behind = len i })) (lookup (same_actor q) c.args.rows.now.entries)))

pub returns-clause-count : goal.returns-clause-count
returns-clause-count c = λ yes.
    own_inserted c.args.rows.now.entries c.args.rings.now.items c.requires.kept c.args.id c.args.actor c.index_mut-ring.result.now c.requires.slot c.index_mut-ring.ensures.value c.append.new.rows.entries (inserted_at c.args.rows.now c.args.rings.now.items c.args.id c.args.actor c.len-at.result c.len-at.ensures.len (actors_found c.args.id c.args.rows.now.entries ∙ ap (option_map (λ (r : ActorRow). r.actor)) (c.in_ok-added.ensures.free c.if-not-added.false)) c.append.new.rows.entries (c.in_ok-added.ensures.entries c.if-not-added.false)) c.len-at.result c.len-at.ensures.len
    c.lead_in.new.rows.entries _ c.lead_in.new.ring c.lead_in.ensures.ring refl c.lead_in.ensures.actors c.lead_in.ensures.alone c.lead_in.ensures.links

pub returns-clause-free : goal.returns-clause-free
returns-clause-free c = λ yes. actors_found c.args.id c.args.rows.now.entries ∙ ap (option_map (λ (r : ActorRow). r.actor)) (c.in_ok-added.ensures.free c.if-not-added.false)

pub returns-then-not-added-clause-kept : goal.returns-then-not-added-clause-kept
returns-then-not-added-clause-kept c = subst (λ (rows : List (ActorId × ActorRow)). AreKeptIn rows c.args.rings.now.items) (sym (c.in_ok-added.ensures.same c.if-not-added.true)) c.requires.kept

pub returns-then-not-added-clause-taken : goal.returns-then-not-added-clause-taken
returns-then-not-added-clause-taken c = λ no. sym (some_found c.args.id c.args.rows.now.entries) ∙ c.in_ok-added.ensures.taken c.if-not-added.true

pub returns-then-not-added-clause-same : goal.returns-then-not-added-clause-same
returns-then-not-added-clause-same c = λ no. ap (λ (rows : List (ActorId × ActorRow)). table_in rows c.args.rings.now.items) (c.in_ok-added.ensures.same c.if-not-added.true)

pub returns-in_err-added-clause-lacks : goal.returns-in_err-added-clause-lacks
returns-in_err-added-clause-lacks c = on_err_any _ (actors_found c.args.id c.args.rows.now.entries ∙ ap (option_map (λ (r : ActorRow). r.actor)) c.in_err-added.ensures.lacks)

use Rattle.std.proofs.Common.{◌<◌, length, subst, sym, ap, ◌∙◌}
use Rattle.std.specs.Option.{option_map}
use Rattle.cops_types.proofs.WordLemmas.{same_value}
use Rattle.cops_world.specs.ActorRings.{Links, linked, links_at}
use Rattle.cops_world.proofs.RowLemmas.{links_there}
use Rattle.cops_world.proofs.rings.pass_over.Goals as goal

pub link-requires-clause-at : goal.link-requires-clause-at
link-requires-clause-at c =
    let own = links_there c.args.rows.now.entries c.args.place c.index-row.result.now c.index-row.ensures in
    subst (λ n. n < length c.args.rows.now.entries) own.2 (c.requires.before own.0 own.1)

pub link-requires-clause-next : goal.link-requires-clause-next
link-requires-clause-next c =
    let own = links_there c.args.rows.now.entries c.args.place c.index-row.result.now c.index-row.ensures in
    subst (λ n. n < length c.args.rows.now.entries) own.3 (c.requires.behind own.0 own.1)

pub returns-clause-links : goal.returns-clause-links
returns-clause-links c = λ own at q.
    let there = links_there c.args.rows.now.entries c.args.place c.index-row.result.now c.index-row.ensures in
    let same = same_value there.0 own (sym there.1 ∙ at) in
    let before = sym there.2 ∙ ap (λ (l : Links). l.before) same in
    let behind = sym there.3 ∙ ap (λ (l : Links). l.behind) same in
    c.link.ensures.links q ∙ (λ i. option_map (linked (before i) (behind i) q) (links_at c.args.rows.now.entries q))

use Rattle.std.proofs.Common.{◌<◌, length, subst, sym, ap, ◌∙◌}
use Rattle.std.specs.Option.{option_map}
use Rattle.cops_types.proofs.WordLemmas.{same_value}
use Rattle.cops_world.specs.ActorRings.{Links, linked, links_at}
use Rattle.cops_world.proofs.RowLemmas.{linked_twice, links_there, same_long}
use Rattle.cops_world.proofs.rings.hand_over.Goals as goal

pub link-requires-clause-at : goal.link-requires-clause-at
link-requires-clause-at c =
    let own = links_there c.args.rows.now.entries c.args.from c.index-row.result.now c.index-row.ensures in
    subst (λ n. n < length c.args.rows.now.entries) own.2 (c.requires.before own.0 own.1)

pub link-requires-2-clause-at : goal.link-requires-2-clause-at
link-requires-2-clause-at c = subst (λ n. c.args.to < n) (sym (same_long c.args.rows.now.entries c.link.new.rows.entries c.link.ensures.actors)) c.requires.to

pub link-requires-2-clause-next : goal.link-requires-2-clause-next
link-requires-2-clause-next c =
    let own = links_there c.args.rows.now.entries c.args.from c.index-row.result.now c.index-row.ensures in
    subst (λ n. c.index-row.result.now.behind < n) (sym (same_long c.args.rows.now.entries c.link.new.rows.entries c.link.ensures.actors))
    (subst (λ n. n < length c.args.rows.now.entries) own.3 (c.requires.behind own.0 own.1))

pub returns-clause-links : goal.returns-clause-links
returns-clause-links c = λ own at q.
    let es = c.args.rows.now.entries in
    let to = c.args.to in
    let row = c.index-row.result.now in
    let there = links_there es c.args.from row c.index-row.ensures in
    let same = same_value there.0 own (sym there.1 ∙ at) in
    let before = sym there.2 ∙ ap (λ (l : Links). l.before) same in
    let behind = sym there.3 ∙ ap (λ (l : Links). l.behind) same in
    c.link-2.ensures.links q ∙ ap (option_map (linked to row.behind q)) (c.link.ensures.links q) ∙ linked_twice row.before to to row.behind q (links_at es q)
    ∙ (λ i. option_map (λ l. linked to (behind i) q (linked (before i) to q l)) (links_at es q))

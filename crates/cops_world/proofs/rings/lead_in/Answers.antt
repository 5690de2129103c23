use Rattle.std.proofs.Common.{◌<◌, length, subst, sym, ap, ◌∙◌, arith}
use Rattle.std.specs.Option.{option_map}
use Rattle.cops_types.proofs.WordLemmas.{same_value}
use Rattle.cops_world.specs.ActorRings.{Links, linked, links_at}
use Rattle.cops_world.proofs.RowLemmas.{linked_twice, links_there}
use Rattle.cops_world.proofs.rings.lead_in.Goals as goal

pub link-requires-clause-at : goal.link-requires-clause-at
link-requires-clause-at c =
    let own = links_there c.args.rows.now.entries c.args.ring.now.first c.index-row.result.now c.index-row.ensures in
    let some : 0 < c.args.ring.now.count = (let test = c.if-ring-eq0.false in omega (arith, test)) in
    subst (λ n. n < length c.args.rows.now.entries) own.2 (c.requires.before some own.0 own.1)

pub returns-clause-links : goal.returns-clause-links
returns-clause-links c = λ some own there q.
    let es = c.args.rows.now.entries in
    let at = c.args.at in
    let first = c.args.ring.now.first in
    let row = c.index-row.result.now in
    let read = links_there es first row c.index-row.ensures in
    let before = sym read.2 ∙ ap (λ (l : Links). l.before) (same_value read.0 own (sym read.1 ∙ there)) in
    c.link-2.ensures.links q ∙ ap (option_map (linked at first q)) (c.link.ensures.links q) ∙ linked_twice row.before at at first q (links_at es q)
    ∙ (λ i. option_map (λ l. linked at first q (linked (before i) at q l)) (links_at es q))

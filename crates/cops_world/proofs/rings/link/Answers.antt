use Rattle.std.proofs.Common.{◌<◌, subst, sym}
use Rattle.indexmap.proofs.CallerLemmas.{index_map_len-with_value_at}
use Rattle.cops_world.specs.declared.rings.ActorRow.{ActorRow}
use Rattle.cops_world.proofs.RowLemmas.{actors_linked, links_linked}
use Rattle.cops_world.proofs.rings.link.Goals as goal

pub index_mut-row-requires-2 : goal.index_mut-row-requires-2
index_mut-row-requires-2 c =
    let row : ActorRow = record c.index_mut-row.result.now { behind = c.args.next } in
    subst (λ n. c.args.next < n) (sym (index_map_len-with_value_at c.args.rows.now c.args.at row)) c.requires.next

pub returns-clause-actors : goal.returns-clause-actors
returns-clause-actors c =
    actors_linked c.args.rows.now.entries c.args.at c.args.next c.index_mut-row.result.now c.index_mut-row-2.result.now c.index_mut-row.ensures.value c.index_mut-row-2.ensures.value

pub returns-clause-links : goal.returns-clause-links
returns-clause-links c =
    links_linked c.args.rows.now.entries c.args.at c.args.next c.index_mut-row.result.now c.index_mut-row-2.result.now c.index_mut-row.ensures.value c.index_mut-row-2.ensures.value

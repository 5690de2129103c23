use Rattle.cops_node.proofs.FoundLemmas.{latest_asked}
use Rattle.cops_node.proofs.gets.latest.Goals as goal

pub returns-in_ok-entry-in-Some-clause-kept : goal.returns-in_ok-entry-in-Some-clause-kept
returns-in_ok-entry-in-Some-clause-kept c =
    latest_asked c.args.key.now c.requires.0 c.in-Some.stored.now c.in_ok-entry-in-Some.entry c.in_ok-entry-in-Some.ensures c.in_ok-told-in-Some.told c.in_ok-told-in-Some.ensures
    c.found_latest.result (c.in-Some.ensures c.requires.0 c.requires.1) c.found_latest.ensures

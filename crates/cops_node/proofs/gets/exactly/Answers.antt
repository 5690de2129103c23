use Rattle.cops_node.proofs.FoundLemmas.{exactly_asked}
use Rattle.cops_node.proofs.gets.exactly.Goals as goal

pub returns-in_ok-entry-in-Some-clause-kept : goal.returns-in_ok-entry-in-Some-clause-kept
returns-in_ok-entry-in-Some-clause-kept c =
    exactly_asked c.args.key.now c.requires.0 c.in-Some.stored.now c.in_ok-entry-in-Some.entry c.in_ok-entry-in-Some.ensures c.in_ok-told-in-Some.told c.in_ok-told-in-Some.ensures
    c.found_exactly.result c.args.version (c.in-Some.ensures.found c.requires.0 c.requires.1) c.found_exactly.ensures

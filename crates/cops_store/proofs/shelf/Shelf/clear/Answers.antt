use Rattle.cops_store.proofs.shelf.Shelf.clear.Goals as goal

pub clear-requires-2 : goal.clear-requires-2
clear-requires-2 c = record { line = (c.args.slot, c.requires.line) }

pub returns-clause-turn : goal.returns-clause-turn
returns-clause-turn c = c.clear-2.ensures.turn c.args.slot c.requires.line

use Rattle.cops_node.proofs.pages.find_cached.Goals as goal

pub find-requires : goal.find-requires
find-requires c = (c.args.slot, c.requires.0, c.requires.1, c.requires.2, c.requires.3, c.requires.4)

pub returns : goal.returns
returns c = c.find.ensures c.args.slot c.requires.0 c.requires.1 c.requires.2 c.requires.3 c.requires.4

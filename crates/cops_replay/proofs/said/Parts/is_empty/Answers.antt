use Rattle.cops_replay.proofs.PartLemmas.{no_part_left}
use Rattle.cops_replay.proofs.said.Parts.is_empty.Goals as goal

pub returns : goal.returns
returns c = no_part_left c.self.inside.separator c.self.inside.rest c.is_none.result c.args.self.now c.is_none.ensures c.self.view_is

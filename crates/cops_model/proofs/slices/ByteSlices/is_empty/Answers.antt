use Rattle.cops_model.proofs.SliceLemmas.{none_in_line}
use Rattle.cops_model.proofs.slices.ByteSlices.is_empty.Goals as goal

pub returns-in-InLine : goal.returns-in-InLine
returns-in-InLine c = none_in_line c.self.inside.form c.in-InLine.part c.is_none.result c.args.self.now c.in-InLine.is c.is_none.ensures c.self.view_is

use Rattle.std.proofs.Common.{◌-◌, ◌∙◌, ap, drop, length, sym, take}
use Rattle.std.proofs.lemmas.List.{take_rest}
use Rattle.cops_service.proofs.Keeping.{nil_if, reads_on}
use Rattle.cops_service.proofs.watching.Watched.give.Goals as goal

pub returns-then-is_empty-clause-bytes : goal.returns-then-is_empty-clause-bytes
returns-then-is_empty-clause-bytes g c =
    let kept = c.as_slice.result.now in
    let given = c.args.self.now.given in
    let none = nil_if (take (length kept - given) (drop given kept)) (sym c.is_empty.ensures ∙ c.if-is_empty.true) in
    reads_on (drop given c.args.self.now.kept.items) _ _ c.read.result c.read.new.buf (ap (drop given) (sym c.as_slice.ensures.value) ∙ sym (take_rest kept given) ∙ none) c.read.ensures.bytes

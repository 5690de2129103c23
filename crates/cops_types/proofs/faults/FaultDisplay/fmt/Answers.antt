use Rattle.std.proofs.Common.{◌≡◌, ◌∷◌, ◌∙◌, subst}
use Rattle.std.specs.Fmt.{HasWritten, styled_decimal}
use Rattle.cops_types.specs.FaultText.{fault_text}
use Rattle.cops_types.proofs.FaultLemmas.{fault_printed}
use Rattle.cops_types.proofs.faults.FaultDisplay.fmt.Goals as goal

pub returns-clause-writes : goal.returns-clause-writes
returns-clause-writes g c = λ p q.
    let printed : 69 ∷ styled_decimal c.laid_out.result c.number-number.result ≡ fault_text c.args.self.now =
    (λ i. 69 ∷ styled_decimal (c.laid_out.ensures i) (c.number-number.ensures.value i)) ∙ fault_printed c.args.self.now in
    subst (λ text. HasWritten {W = g.row.W.Denot} g.W.Write.write_str_gives c.args.f.now text c.write.new.self) printed (c.write.ensures.writes p q)

use Rattle.std.proofs.Common.{◌≡◌, refl, ap, sym, ◌∙◌, length}
use Rattle.std.specs.Prelude.{replicate}
use Rattle.cops_types.specs.Version.{Timestamp}
use Rattle.cops_node.proofs.Fresh.{copies_are}
use Rattle.cops_node.proofs.parts.fresh.Goals as goal

pub returns-clause-fresh : goal.returns-clause-fresh
returns-clause-fresh c =
    let long : length c.in_ok-marks.marks.items ≡ c.args.data_centres = sym c.in_ok-marks.marks.ok.0 ∙ c.in_ok-marks.ensures.len in
    record {
      moment = refl;
      clock_is = refl;
      marks = copies_are (λ (x y : Timestamp). y ≡ x) c.none.result c.in_ok-marks.marks.items (λ y k. k) c.in_ok-marks.ensures.items ∙ ap (λ n. replicate n c.none.result) long ∙ ap (replicate c.args.data_centres) c.none.ensures;
    }

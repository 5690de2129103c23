use Rattle.std.proofs.Common.{◌≡◌, ◌∷◌, ◌++◌, [], ap, ◌∙◌, rules, slice_set}
use Rattle.std.proofs.Math.Seq.{set-append_seam}
use Rattle.cops_types.proofs.bytes.ByteLists.push_few.Goals as goal

pub returns-clause-ok : goal.returns-clause-ok
returns-clause-ok c =
    let lists = c.args.self.now in
    let pushed : c.push.new.self.items ≡ lists ++ [] ∷ [] = search rules in
    ap (λ l. slice_set l c.len-place.result c.set_few.new.self) pushed
    ∙ ap (λ n. slice_set (lists ++ [] ∷ []) n c.set_few.new.self) c.len-place.ensures
    ∙ set-append_seam lists [] [] c.set_few.new.self
    ∙ ap (λ l. lists ++ l ∷ []) c.set_few.ensures

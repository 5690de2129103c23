use Rattle.std.proofs.Common.{◌≡◌, ◌∙◌, ◌+◌, ◌-◌, arith, length, refl, subst, sym}
use Rattle.std.specs.Prelude.{if◌then◌else◌, is_some}
use Rattle.cops_store.proofs.Lines.{turn_released}
use Rattle.cops_store.proofs.rows.release.Goals as goal

pub returns-clause-turn : goal.returns-clause-turn
returns-clause-turn c =
    let some = c.requires.some in
    let count : (c.args.line.now.count - 1) + 1 ≡ c.args.line.now.count = omega arith in
    turn_released c.args.rows.now c.swap_remove.new.self c.args.slot c.unwrap-key.result c.args.line.now (record { first = c.unwrap-row.result.next; count = c.args.line.now.count - 1 }) c.unwrap-row.result c.requires.line
    (sym c.key.ensures ∙ c.unwrap-key.ensures) count refl (sym c.swap_remove.ensures.value ∙ c.unwrap-row.ensures) c.swap_remove.ensures.updates c.swap_remove.ensures.unique
    (subst (λ o. length c.swap_remove.new.self.entries + (if is_some o then 1 else 0) ≡ length c.args.rows.now.entries) c.unwrap-row.ensures c.swap_remove.ensures.len)

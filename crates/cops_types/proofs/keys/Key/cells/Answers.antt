use Rattle.std.proofs.Common.{◌≡◌, ◌≤◌, ℕ, List, length, take, sym, subst, ◌∙◌, ap, arith}
use Rattle.cops_types.specs.Key.{is_key}
use Rattle.cops_types.specs.Padding.{IsPadded, padded-take}
use Rattle.cops_types.proofs.Padded.{short_cells-text, short_cells-padded}
use Rattle.cops_types.proofs.keys.Key.cells.Goals as goal

short : (bytes text : List ℕ) (len : ℕ) → IsPadded 64 is_key bytes len → take len bytes ≡ text → length text ≤ 15 → len ≤ 15
short bytes text len h shown fits =
    let size = (padded-take 64 is_key bytes len h).1 in
    omega (arith, fits, size, ap length shown)

pub returns-clause-bytes : goal.returns-clause-bytes
returns-clause-bytes c =
    let bytes = c.self.inside.bytes in
    let len = c.self.inside.len in
    let text = c.args.self.now in
    let below = short bytes text len c.self.invariant c.self.view_is c.requires in
    ap (take (length text)) c.copy_from_slice.ensures.after
    ∙ subst (λ (t : List ℕ). take (length t) (take 15 bytes) ≡ t) c.self.view_is (short_cells-text bytes len c.self.invariant below)

pub returns-clause-padded : goal.returns-clause-padded
returns-clause-padded c =
    let bytes = c.self.inside.bytes in
    let len = c.self.inside.len in
    let text = c.args.self.now in
    let below = short bytes text len c.self.invariant c.self.view_is c.requires in
    subst (λ (cells : List ℕ). IsPadded 15 is_key cells (length text)) (sym c.copy_from_slice.ensures.after)
    (subst (λ (t : List ℕ). IsPadded 15 is_key (take 15 bytes) (length t)) c.self.view_is (short_cells-padded bytes len c.self.invariant below))

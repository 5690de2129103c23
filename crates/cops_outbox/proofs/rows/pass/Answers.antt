use Rattle.std.proofs.Common.{◌≡◌, ◌<◌, ◌-◌, ◌∙◌, refl, ap, sym, subst, length, arith, get_or, set, List, ℕ}
use Rattle.std.specs.Prelude.{Option, ◌==◌}
use Rattle.std.specs.List.{list_any}
use Rattle.std.specs.Vec.{with_item}
use Rattle.cops_outbox.specs.declared.rows.Row.{Row}
use Rattle.cops_outbox.specs.declared.rows.Span.{Span}
use Rattle.cops_outbox.specs.declared.rows.Line.{Line}
use Rattle.cops_outbox.specs.Lines.{cell_at, next_in, span_at}
use Rattle.cops_outbox.proofs.Lines.{row_at_span, read_at, kept_there, line_passed, line_released, none_waits, waited_for, passed_less, needed_released}
use Rattle.cops_outbox.proofs.rows.pass.Goals as goal

pub shortened-requires-clause-row : goal.shortened-requires-clause-row
shortened-requires-clause-row c = (
  c.requires.line.1,
  row_at_span c.args.rows.now.slots c.requires.line.0 c.requires.line.1 c.args.dc c.args.line.now c.index.result.now c.requires.line.2 c.requires.dc c.index.ensures
      (subst (λ (s : Span). 0 < s.count) (sym (read_at c.args.line.now c.args.dc c.index.result.now c.requires.dc c.index.ensures)) c.requires.some),
)

pub release-line-requires-clause-row : goal.release-line-requires-clause-row
release-line-requires-clause-row c =
    let some = c.requires.some in
    let le = c.requires.line.2.within c.args.dc in
    (c.requires.line.1, kept_there c.args.rows.now.slots c.requires.line.0 (length c.args.line.now.waits.items) c.requires.line.1 c.args.line.now c.requires.line.2 (omega arith))

moved : (rows : List (Option Row)) (dc : ℕ) (line : Line) (span next : Span) → dc < length line.waits.items → span ≡ get_or line.waits.items dc span → next ≡ record { first = next_in (cell_at rows span.first); count = span.count - 1 }
    → next ≡ record { first = next_in (cell_at rows (span_at dc line).first); count = (span_at dc line).count - 1 }
moved rows dc line span next lt read is = is ∙ ap (λ (s : Span). record { first = next_in (cell_at rows s.first); count = s.count - 1 }) (read_at line dc span lt read)

pub returns-else-not-is_waited_for-clause-shorter : goal.returns-else-not-is_waited_for-clause-shorter
returns-else-not-is_waited_for-clause-shorter c = λ own slot h.
    line_passed c.args.rows.now.slots own slot c.args.dc c.shortened.result c.args.line.now _ h c.requires.dc c.requires.some
    (moved c.args.rows.now.slots c.args.dc c.args.line.now c.index.result.now c.shortened.result c.requires.dc c.index.ensures c.shortened.ensures) refl refl refl

pub returns-else-not-is_waited_for-clause-needed : goal.returns-else-not-is_waited_for-clause-needed
returns-else-not-is_waited_for-clause-needed c =
    waited_for (record { last = c.args.line.now.last; kept = c.args.line.now.kept; waits = with_item c.args.line.now.waits c.args.dc c.shortened.result }) c.deref.result.now c.deref.ensures.value (sym c.is_waited_for.ensures ∙ c.if-not-is_waited_for.false)

pub returns-then-not-is_waited_for-clause-shorter : goal.returns-then-not-is_waited_for-clause-shorter
returns-then-not-is_waited_for-clause-shorter c = λ own slot h.
    let line1 : Line = record { last = c.args.line.now.last; kept = c.args.line.now.kept; waits = with_item c.args.line.now.waits c.args.dc c.shortened.result } in
    let shorter = line_passed c.args.rows.now.slots own slot c.args.dc c.shortened.result c.args.line.now line1 h c.requires.dc c.requires.some
    (moved c.args.rows.now.slots c.args.dc c.args.line.now c.index.result.now c.shortened.result c.requires.dc c.index.ensures c.shortened.ensures) refl refl refl in
    let count = c.requires.some in
    let le = h.within c.args.dc in
    let some : 0 < c.args.line.now.kept.count = omega arith in
    line_released c.args.rows.now.slots c.release-line.new.rows.slots own slot c.args.dc c.args.line.now line1 _ shorter some
    (none_waits (set c.args.line.now.waits.items c.args.dc c.shortened.result) c.args.line.now.kept.count (ap (list_any (λ (s : Span). s.count == c.args.line.now.kept.count)) (sym c.deref.ensures.value) ∙ sym c.is_waited_for.ensures ∙ c.if-not-is_waited_for.true) some)
    c.release-line.ensures.gone c.release-line.ensures.len refl c.release-line.ensures.rest refl

pub returns-then-not-is_waited_for-clause-needed : goal.returns-then-not-is_waited_for-clause-needed
returns-then-not-is_waited_for-clause-needed c =
    let line1 : Line = record { last = c.args.line.now.last; kept = c.args.line.now.kept; waits = with_item c.args.line.now.waits c.args.dc c.shortened.result } in
    let less = passed_less c.args.rows.now.slots c.args.dc c.shortened.result c.args.line.now line1 c.requires.dc
    (moved c.args.rows.now.slots c.args.dc c.args.line.now c.index.result.now c.shortened.result c.requires.dc c.index.ensures c.shortened.ensures) refl in
    let count = c.requires.some in
    let le = c.requires.line.2.within c.args.dc in
    let some : 0 < c.args.line.now.kept.count = omega arith in
    let line2 : Line = record { last = c.args.line.now.last; kept = c.release-line.result; waits = with_item c.args.line.now.waits c.args.dc c.shortened.result } in
    needed_released c.args.dc c.args.line.now line1 line2 c.requires.needed some refl less.1 less.0
    (none_waits (set c.args.line.now.waits.items c.args.dc c.shortened.result) c.args.line.now.kept.count (ap (list_any (λ (s : Span). s.count == c.args.line.now.kept.count)) (sym c.deref.ensures.value) ∙ sym c.is_waited_for.ensures ∙ c.if-not-is_waited_for.true) some)
    (ap (λ (s : Span). s.count) c.release-line.ensures.rest) refl

use Rattle.std.proofs.Common.{◌≡◌, ◌∙◌, ℕ, ◌<◌, ap, refl, subst, sym, length, List, get_or, arith}
use Rattle.std.specs.Vec.{with_items}
use Rattle.cops_outbox.specs.declared.rows.Span.{Span}
use Rattle.cops_outbox.specs.declared.rows.Line.{Line}
use Rattle.cops_outbox.specs.Lines.{span_at}
use Rattle.cops_outbox.proofs.Lines.{kept_there, refilled, none_waited, line_forgotten, turn_released}
use Rattle.cops_outbox.proofs.rows.clear.Goals as goal

forgotten : (c : goal.After-line-1) → Line
forgotten c = record { last = c.args.line.now.last; kept = c.args.line.now.kept; waits = with_items c.args.line.now.waits c.forget_all.new.waits }

written : (c : goal.After-line-1) → (with_items c.args.line.now.waits c.forget_all.new.waits).items ≡ c.forget_all.new.waits
written c = refilled c.args.line.now.waits.len c.forget_all.new.waits c.args.line.now.waits.items (c.forget_all.auto.waits ∙ c.deref_mut.ensures.len)

long : (c : goal.After-line-1) → length (with_items c.args.line.now.waits c.forget_all.new.waits).items ≡ length c.args.line.now.waits.items
long c = ap (λ (ss : List Span). length ss) (written c) ∙ c.forget_all.auto.waits ∙ ap (λ (ss : List Span). length ss) c.deref_mut.ensures.value

none : (c : goal.After-line-1) → (dc : ℕ) → (span_at dc (record { last = c.args.line.now.last; kept = c.args.line.now.kept; waits = with_items c.args.line.now.waits c.forget_all.new.waits })).count ≡ 0
none c = none_waited (record { last = c.args.line.now.last; kept = c.args.line.now.kept; waits = with_items c.args.line.now.waits c.forget_all.new.waits })
    (λ dc d lt. ap (λ (ss : List Span). get_or ss dc d) (written c) ∙ c.forget_all.ensures dc d (subst (λ n. dc < n) (long c ∙ sym (ap (λ (ss : List Span). length ss) c.deref_mut.ensures.value)) lt))

pub loop-row-init : goal.loop-row-init
loop-row-init c = record {
  turn = λ own slot h. line_forgotten c.args.rows.now.slots own slot c.args.line.now (record { last = c.args.line.now.last; kept = c.args.line.now.kept; waits = with_items c.args.line.now.waits c.forget_all.new.waits }) h refl refl (long c) (none c);
  none = none c;
  left = omega arith;
}

pub release-line-requires-clause-row : goal.release-line-requires-clause-row
release-line-requires-clause-row c =
    let turn = c.loop-row.invariant.turn c.requires.line.0 c.requires.line.1 c.requires.line.2 in
    let left = c.loop-row.invariant.left in
    (c.requires.line.1, kept_there c.loop-row.rows.slots c.requires.line.0 (length c.args.line.now.waits.items) c.requires.line.1 c.loop-row.line turn.stays (omega arith))

pub loop-row-preserved : goal.loop-row-preserved
loop-row-preserved c =
    let before = c.loop-row.invariant.left in
    record {
      turn = λ own slot h.
          turn_released c.args.rows.now.slots c.loop-row.rows.slots c.release-line.new.rows.slots own slot c.args.line.now c.loop-row.line _ (c.loop-row.invariant.turn own slot h) c.loop-row.invariant.none (omega arith)
          c.release-line.ensures.gone c.release-line.ensures.len refl c.release-line.ensures.rest refl;
      none = c.loop-row.invariant.none;
      left = omega (arith, ap (λ (s : Span). s.count) c.release-line.ensures.rest);
    }

pub returns : goal.returns
returns c = record {
  cleared = λ own slot h. record {
    turn = c.loop-row.invariant.turn own slot h;
    kept = let left = c.loop-row.invariant.left in omega arith;
    waits = c.loop-row.invariant.none;
  };
}

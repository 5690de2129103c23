use Rattle.std.proofs.Common.{◌≡◌, ℕ, ◌+◌, ◌^◌, ◌<◌, arith, ◌∙◌, refl, ap, sym, subst, length, List, get_or}
use Rattle.std.specs.Prelude.{◌==◌, if◌then◌else◌}
use Rattle.std.specs.Vec.{with_items}
use Rattle.cops_outbox.specs.declared.rows.Span.{Span}
use Rattle.cops_outbox.specs.Lines.{extended}
use Rattle.cops_outbox.proofs.Lines.{line_longer, needed_longer, counts_fit, refilled}
use Rattle.cops_outbox.proofs.rows.add.Goals as goal

written : (c : goal.After-line-3-1) → (with_items c.args.line.now.waits c.extend_all.new.waits).items ≡ c.extend_all.new.waits
written c = refilled c.args.line.now.waits.len c.extend_all.new.waits c.args.line.now.waits.items (c.extend_all.auto.waits ∙ c.deref_mut.ensures.len)

told : (own at : ℕ) (new old lent kept : List Span) → kept ≡ new → lent ≡ old → ((dc : ℕ) (d : Span) → dc < length lent → get_or new dc d ≡ (if dc == own then get_or lent dc d else extended at (get_or lent dc d)))
    → (dc : ℕ) (d : Span) → dc < length old → get_or kept dc d ≡ (if dc == own then get_or old dc d else extended at (get_or old dc d))
told own at new old lent kept e f h dc d lt = ap (λ (ss : List Span). get_or ss dc d) e ∙ h dc d (subst (λ (ss : List Span). dc < length ss) (sym f) lt) ∙ ap (λ (ss : List Span). if dc == own then get_or ss dc d else extended at (get_or ss dc d)) f

pub extend_all-requires : goal.extend_all-requires
extend_all-requires c =
    let fits : c.args.line.now.kept.count + 1 < 2 ^ 64 = omega arith in
    counts_fit c.args.rows.now.slots c.args.own (length c.args.line.now.waits.items) c.args.slot c.args.line.now c.deref_mut.result.now c.requires.line c.deref_mut.ensures.value fits

pub returns-clause-longer : goal.returns-clause-longer
returns-clause-longer c =
    line_longer c.args.rows.now.slots c.link-at.new.rows.slots c.args.own c.args.slot c.link-at.result c.args.entry c.args.line.now _
    c.requires.line c.link-at.ensures.added refl c.extended-line.ensures (ap (λ (ss : List Span). length ss) (written c) ∙ c.extend_all.auto.waits ∙ ap (λ (ss : List Span). length ss) c.deref_mut.ensures.value)
    (told c.args.own c.link-at.result c.extend_all.new.waits c.args.line.now.waits.items c.deref_mut.result.now _ (written c) c.deref_mut.ensures.value c.extend_all.ensures)
    c.link-at.ensures.len

pub returns-clause-needed : goal.returns-clause-needed
returns-clause-needed c =
    needed_longer c.args.rows.now.slots c.link-at.new.rows.slots c.args.own c.args.slot c.link-at.result c.args.entry c.args.line.now (record { last = c.link-at.result; kept = c.extended-line.result; waits = with_items c.args.line.now.waits c.extend_all.new.waits })
    c.requires.line c.link-at.ensures.added refl c.extended-line.ensures (ap (λ (ss : List Span). length ss) (written c) ∙ c.extend_all.auto.waits ∙ ap (λ (ss : List Span). length ss) c.deref_mut.ensures.value)
    (told c.args.own c.link-at.result c.extend_all.new.waits c.args.line.now.waits.items c.deref_mut.result.now _ (written c) c.deref_mut.ensures.value c.extend_all.ensures)
    c.link-at.ensures.len c.requires.another c.requires.needed

use Rattle.cops_replay.proofs.Names.{[], append-nil, refl, subst, sym, Answers, OldPart, part_answers}
use Rattle.cops_replay.specs.declared.migrations.OldPart.TheVariants.{Head}
use Rattle.cops_replay.proofs.migrations.answer_line.Goals as goal

pub returns-in_default-clause-ok : goal.returns-in_default-clause-ok
returns-in_default-clause-ok c =
    subst (λ (p : OldPart). Answers (part_answers p c.args.line.now) (Head c.read_old_head.new.reader) c.args.out.now.items c.args.out.now.items) (sym c.in-Head.is)
    (record { text = []; answered = ((rw c.in_default.is at c.in_ok-config-in-Head.ensures.more), refl); appended = sym (append-nil c.args.out.now.items) })

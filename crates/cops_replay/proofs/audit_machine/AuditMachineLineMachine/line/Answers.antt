use Rattle.cops_replay.proofs.Names.{◌≡◌, ℕ, Bool, false, List, [], refl, sym, subst, ◌∙◌, append-nil, Within, AuditRules, head_answers, line_answers, count_in, layout_in, tells_layout, GoesOnAfter, AuditFile, Head, FileHead}
use Rattle.cops_replay.proofs.audit_machine.AuditMachineLineMachine.line.Goals as goal

goes_on : {B R F : Type 0} (rules : AuditRules B R F) (body : B) (file : AuditFile R) (head new : FileHead) (line before after : List ℕ) → file ≡ Head head → tells_layout (layout_in head) (count_in head) line ≡ false →
    GoesOnAfter head line new before after → line_answers rules body file line [] (Head new)
goes_on {R = R} rules body file head new line before after at told ((config, found, there), same) =
    subst (λ (f : AuditFile R). line_answers rules body f line [] (Head new)) (sym at)
    (subst (λ (b : Bool). head_answers rules body b head line [] (Head new)) (sym told) (Within config, found, (refl, there)))

pub returns-in_default-clause-ok : goal.returns-in_default-clause-ok
returns-in_default-clause-ok g c =
    let more = (rw c.in_default.is at c.in_ok-state-in-Head.ensures.more) in
    record {
      text = [];
      answered = (refl, goes_on g.B.AuditBody.rules c.args.self.now.body c.args.self.now.file c.in-Head.head c.read_line.new.head c.args.line.now c.args.out.now.items c.read_line.new.out.items c.in-Head.is (sym c.tells_today.ensures ∙ c.if-tells_today.false) more);
      appended = more.1 ∙ sym (append-nil c.args.out.now.items);
    }

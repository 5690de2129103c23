use Rattle.std.proofs.Common.{◌∷◌, ◌++◌, ◌∙◌, [], Err, ap, subst, sym}
use Rattle.std.proofs.lemmas.Result.{err_from_is_err_and}
use Rattle.cops_wire.specs.Running.{AreMadeOf}
use Rattle.cops_wire.proofs.AskedLemmas.{failed_key, one_more_key, still_failed}
use Rattle.cops_wire.proofs.reading.add_key.Goals as goal

pub returns-in_err-made : goal.returns-in_err-made
returns-in_err-made c = λ lists h.
    let failed = err_from_is_err_and c.from_residual.result c.from_residual.ensures.1 in
    subst (λ made. AreMadeOf (lists ++ c.args.bytes.now ∷ []) made c.args.keys.now.items) (sym (failed.1 ∙ ap Err failed.2))
    (still_failed lists c.args.keys.now.items c.args.bytes.now c.in_err-made.field-0.0 (subst (λ made. AreMadeOf lists made c.args.keys.now.items) c.in_err-made.was h))

pub returns-in_err-key : goal.returns-in_err-key
returns-in_err-key c = λ lists h.
    let failed = err_from_is_err_and c.from_residual-in_err-key.result c.from_residual-in_err-key.ensures.1 in
    subst (λ made. AreMadeOf (lists ++ c.args.bytes.now ∷ []) made c.args.keys.now.items) (sym (failed.1 ∙ ap Err failed.2))
    (failed_key lists c.args.keys.now.items c.args.keys.now.items c.args.bytes.now c.in_err-key.field-0.0 (subst (λ made. AreMadeOf lists made c.args.keys.now.items) c.in_ok-made.was h) c.in_err-key.ensures)

pub returns : goal.returns
returns c = λ lists h.
    one_more_key lists c.args.keys.now.items c.push.new.self.items c.args.bytes.now c.in_ok-key.key (subst (λ made. AreMadeOf lists made c.args.keys.now.items) c.in_ok-made.was h) c.in_ok-key.ensures c.in_ok-push.ensures.items

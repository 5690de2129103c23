use Rattle.std.proofs.Common.{Err, ap, refl, subst, sym, ◌∙◌}
use Rattle.std.proofs.lemmas.Result.{err_from_is_err_and}
use Rattle.cops_wire.specs.declared.messages.Message.TheVariants.{GetTrans}
use Rattle.cops_wire.specs.Reading.{get_at}
use Rattle.cops_wire.specs.Running.{IsPartsAsked}
use Rattle.cops_wire.proofs.AskedLemmas.{fails_asked, get_fails_count, get_fails_handle, get_fails_keys, get_read}
use Rattle.cops_wire.proofs.reading.Unseen.get_request.Goals as goal

pub returns-in_err-handle : goal.returns-in_err-handle
returns-in_err-handle c =
    let p = err_from_is_err_and c.from_residual.result c.from_residual.ensures.1 in
    subst (λ r. IsPartsAsked r c.args.keys.now.items c.handle.new.self (get_at c.args.self.now)) (sym (p.1 ∙ ap Err p.2))
    (fails_asked c.in_err-handle.field-0.0 c.args.keys.now.items c.handle.new.self (get_at c.args.self.now) (get_fails_handle c.in_err-handle.field-0.0 c.args.self.now c.in_err-handle.ensures))

pub returns-in_err-count : goal.returns-in_err-count
returns-in_err-count c =
    let p = err_from_is_err_and c.from_residual-in_err-count.result c.from_residual-in_err-count.ensures.1 in
    subst (λ r. IsPartsAsked r c.args.keys.now.items c.number_8.new.self (get_at c.args.self.now)) (sym (p.1 ∙ ap Err p.2))
    (fails_asked c.in_err-count.field-0.0 c.args.keys.now.items c.number_8.new.self (get_at c.args.self.now)
    (get_fails_count c.in_err-count.field-0.0 c.args.self.now c.in_ok-handle.handle c.handle.new.self c.in_ok-handle.ensures c.in_err-count.ensures))

pub returns-in_err-made : goal.returns-in_err-made
returns-in_err-made c =
    let p = err_from_is_err_and c.from_residual-in_err-made.result c.from_residual-in_err-made.ensures.1 in
    subst (λ r. IsPartsAsked r c.take_keys.new.keys.items c.take_keys.new.self (get_at c.args.self.now)) (sym (p.1 ∙ ap Err p.2))
    (fails_asked c.in_err-made.field-0.0 c.take_keys.new.keys.items c.take_keys.new.self (get_at c.args.self.now)
    (get_fails_keys c.in_err-made.field-0.0 c.args.self.now c.in_ok-handle.handle c.handle.new.self c.number_8.new.self c.in_ok-count.count c.in_ok-handle.ensures c.in_ok-count.ensures c.in_err-made.ensures))

pub returns : goal.returns
returns c =
    let keys = c.in_ok-made.ensures in (
      GetTrans c.in_ok-handle.handle keys.0,
      get_read c.args.self.now c.in_ok-handle.handle c.handle.new.self c.number_8.new.self c.take_keys.new.self c.in_ok-count.count keys.0 c.in_ok-handle.ensures c.in_ok-count.ensures keys.1,
      (keys.0, refl, keys.2),
    )

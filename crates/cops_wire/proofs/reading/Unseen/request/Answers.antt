use Rattle.std.proofs.Common.{◌≡◌, false, Err, ap, refl, subst, sym, ◌∙◌, arith}
use Rattle.std.specs.Prelude.{◌==◌}
use Rattle.std.proofs.lemmas.Bool.Decides.{nat_tests}
use Rattle.std.proofs.lemmas.Result.{err_from_is_err_and}
use Rattle.cops_wire.specs.declared.messages.Message.TheVariants.{CreateContext, DeleteContext}
use Rattle.cops_wire.specs.Reading.{Fails, parts_of_tag, put_message_of}
use Rattle.cops_wire.specs.Running.{IsPartsAsked}
use Rattle.cops_wire.proofs.AskedLemmas.{create_parts, delete_fails, delete_parts, delete_read, fails_asked, get_parts, other_tag, put_parts}
use Rattle.cops_wire.proofs.reading.Unseen.request.Goals as goal

pub returns-in_err-handle-in-3 : goal.returns-in_err-handle-in-3
returns-in_err-handle-in-3 c =
    let tag : c.args.tag ≡ 3 = c.in-3.is in
    let p = err_from_is_err_and c.from_residual.result c.from_residual.ensures.1 in
    subst (λ r. IsPartsAsked r c.args.keys.now.items c.handle.new.self (parts_of_tag c.args.tag c.args.self.now)) (sym (p.1 ∙ ap Err p.2))
    (fails_asked c.in_err-handle-in-3.field-0.0 c.args.keys.now.items c.handle.new.self (parts_of_tag c.args.tag c.args.self.now)
    (subst (Fails c.in_err-handle-in-3.field-0.0) (sym (delete_parts c.args.tag c.args.self.now tag)) (delete_fails c.in_err-handle-in-3.field-0.0 c.args.self.now c.in_err-handle-in-3.ensures)))

pub returns-in_err-put_parts-in-4 : goal.returns-in_err-put_parts-in-4
returns-in_err-put_parts-in-4 c =
    let tag : c.args.tag ≡ 4 = c.in-4.is in
    let p = err_from_is_err_and c.from_residual-in_err-put_parts-in-4.result c.from_residual-in_err-put_parts-in-4.ensures.1 in
    subst (λ r. IsPartsAsked r c.args.keys.now.items c.put_parts.new.self (parts_of_tag c.args.tag c.args.self.now)) (sym (p.1 ∙ ap Err p.2))
    (fails_asked c.in_err-put_parts-in-4.field-0.0 c.args.keys.now.items c.put_parts.new.self (parts_of_tag c.args.tag c.args.self.now)
    (subst (Fails c.in_err-put_parts-in-4.field-0.0) (sym (put_parts c.args.tag c.args.self.now tag)) c.in_err-put_parts-in-4.ensures))

pub returns-in-2 : goal.returns-in-2
returns-in-2 c =
    let tag : c.args.tag ≡ 2 = c.in-2.is in
    (CreateContext, create_parts c.args.tag c.args.self.now tag, refl)

pub returns-in_ok-handle-in-3 : goal.returns-in_ok-handle-in-3
returns-in_ok-handle-in-3 c =
    let tag : c.args.tag ≡ 3 = c.in-3.is in
    let handle = c.in_ok-handle-in-3.field-0 in
    (DeleteContext handle, delete_parts c.args.tag c.args.self.now tag ∙ delete_read c.args.self.now handle c.handle.new.self c.in_ok-handle-in-3.ensures, refl)

pub returns-in_ok-put_parts-in-4 : goal.returns-in_ok-put_parts-in-4
returns-in_ok-put_parts-in-4 c =
    let tag : c.args.tag ≡ 4 = c.in-4.is in
    (put_message_of c.in_ok-put_parts-in-4.field-0, put_parts c.args.tag c.args.self.now tag ∙ c.in_ok-put_parts-in-4.ensures, refl)

pub returns-in-5 : goal.returns-in-5
returns-in-5 c =
    let tag : c.args.tag ≡ 5 = c.in-5.is in
    subst (IsPartsAsked c.get_request.result c.get_request.new.keys.items c.get_request.new.self) (sym (get_parts c.args.tag c.args.self.now tag)) c.get_request.ensures

pub returns-in_default : goal.returns-in_default
returns-in_default c =
    let n2 : (c.args.tag == 2) ≡ false = grind (arith, nat_tests) in
    let n3 : (c.args.tag == 3) ≡ false = grind (arith, nat_tests) in
    let n4 : (c.args.tag == 4) ≡ false = grind (arith, nat_tests) in
    let n5 : (c.args.tag == 5) ≡ false = grind (arith, nat_tests) in
    other_tag c.args.tag c.args.self.now n2 n3 n4 n5

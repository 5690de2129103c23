use Rattle.std.proofs.Common.{rules, ◌≡◌, ◌∷◌, ◌∙◌, Err, Ok, ap, sym, subst}
use Rattle.std.proofs.lemmas.Result.{err_from_is_err_and}
use Rattle.cops_wire.specs.Reading.{message_of, parts_of_tag}
use Rattle.cops_wire.specs.Running.{IsRequestRead, IsPartsAsked}
use Rattle.cops_wire.proofs.AskedLemmas.{asked_longer, asked_none, asked_nothing, asked_whole, tag_missing}
use Rattle.cops_wire.proofs.reading.read_request.Goals as goal

pub returns-in_err-tag : goal.returns-in_err-tag
returns-in_err-tag c =
    let p = err_from_is_err_and c.from_residual.result c.from_residual.ensures.1 in
    let missing = tag_missing c.split_first.result c.args.body.now _ c.in_err-tag.field-0.0 c.split_first.ensures.cases c.in_err-tag.ensures.value in
    subst (λ r. IsRequestRead r c.args.keys.now.items (message_of c.args.body.now)) (sym (p.1 ∙ ap Err (p.2 ∙ missing.1))) (asked_nothing c.args.body.now c.args.keys.now.items missing.0)

pub returns-in_err-request : goal.returns-in_err-request
returns-in_err-request c =
    let whole : c.args.body.now ≡ c.in_ok-tag.tag.now ∷ c.in_ok-tag.rest.now = search rules in
    let p = err_from_is_err_and c.from_residual-in_err-request.result c.from_residual-in_err-request.ensures.1 in
    subst (λ r. IsRequestRead r c.request.new.keys.items (message_of c.args.body.now)) (sym (p.1 ∙ ap Err p.2))
    (asked_none c.args.body.now c.in_ok-tag.rest.now c.request.new.self c.in_ok-tag.tag.now c.request.new.keys.items c.in_err-request.field-0.0 whole
    (subst (λ l. IsPartsAsked (Err c.in_err-request.field-0.0) c.request.new.keys.items c.request.new.self (parts_of_tag c.in_ok-tag.tag.now l)) c.of-unseen.ensures c.in_err-request.ensures))

pub returns-then-is_empty : goal.returns-then-is_empty
returns-then-is_empty c =
    let whole : c.args.body.now ≡ c.in_ok-tag.tag.now ∷ c.in_ok-tag.rest.now = search rules in
    asked_whole c.args.body.now c.in_ok-tag.rest.now c.request.new.self c.in_ok-tag.tag.now c.request.new.keys.items c.in_ok-request.request whole
    (subst (λ l. IsPartsAsked (Ok c.in_ok-request.request) c.request.new.keys.items c.request.new.self (parts_of_tag c.in_ok-tag.tag.now l)) c.of-unseen.ensures c.in_ok-request.ensures) (sym c.is_empty.ensures ∙ c.if-is_empty.true)

pub returns-else-is_empty : goal.returns-else-is_empty
returns-else-is_empty c =
    let whole : c.args.body.now ≡ c.in_ok-tag.tag.now ∷ c.in_ok-tag.rest.now = search rules in
    asked_longer c.args.body.now c.in_ok-tag.rest.now c.request.new.self c.in_ok-tag.tag.now c.request.new.keys.items c.in_ok-request.request whole
    (subst (λ l. IsPartsAsked (Ok c.in_ok-request.request) c.request.new.keys.items c.request.new.self (parts_of_tag c.in_ok-tag.tag.now l)) c.of-unseen.ensures c.in_ok-request.ensures) (sym c.is_empty.ensures ∙ c.if-is_empty.false)

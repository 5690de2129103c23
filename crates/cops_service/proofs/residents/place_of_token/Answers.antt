use Rattle.std.proofs.Common.{◌≡◌, ◌∙◌, ◌<◌, length, refl, sym, ap, subst, arith}
use Rattle.std.specs.Prelude.{IfSome}
use Rattle.std.proofs.lemmas.Grind.{common_steps}
use Rattle.std.proofs.lemmas.Option.{slice_get_read}
use Rattle.std.proofs.lemmas.Slice.Eq.{bytes_eq-Decides}
use Rattle.cops_service.proofs.residents.place_of_token.Goals as goal

pub returns-then-eq-clause-found : goal.returns-then-eq-clause-found
returns-then-eq-clause-found g c =
    let within : c.loop-place.place < length c.args.all.now = grind (arith, common_steps) in
    let there = slice_get_read c.args.all.now (length c.args.all.now) c.loop-place.place c.index-all-place.result refl within c.index-all-place.is in
    let same : c.as_bytes.result.now ≡ c.args.token.now = (bytes_eq-Decides c.as_bytes.result.now c.args.token.now).0 (sym c.eq.ensures ∙ c.if-eq.true) in
    subst (λ o. IfSome o (λ entered. entered.resident.tenant.token ≡ c.args.token.now)) (sym there)
    (ap (λ entered. entered.resident.tenant.token) c.index-all-place.is ∙ sym c.as_bytes.ensures ∙ same)

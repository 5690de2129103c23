use Rattle.std.proofs.Common.{◌≡◌, ◌∙◌, ◌<◌, List, length, inl, refl, ap, subst, arith}
use Rattle.std.specs.Prelude.{slice_get, Some}
use Rattle.std.proofs.lemmas.Grind.{common_steps}
use Rattle.std.proofs.lemmas.Option.{slice_get_read}
use Rattle.cops_types.specs.declared.configs.Config.{Config}
use Rattle.cops_types.specs.declared.configs.Tenant.{Tenant}
use Rattle.cops_gate.specs.Seats.{gate_home}
use Rattle.cops_node.specs.Hosting.{Hosted}
use Rattle.cops_service.specs.Gates.{Gates}
use Rattle.cops_service.proofs.residents.Residents.of.Goals as goal

pub invariant_of-entered : goal.invariant_of-entered
invariant_of-entered g c =
    let place = c.loop-place.place in
    let tenant : Tenant = c.index-tenants-place.result in
    let tenants : List Tenant = c.as_slice-tenants.result.now in
    let within : place < length tenants = grind (arith, common_steps) in
    let there = slice_get_read tenants (length tenants) place tenant refl within c.index-tenants-place.is in
    record {
      own = c.witness.ensures.own ∙ ap (λ (cluster : Gates Hosted). gate_home cluster.gate) c.requires.site;
      shown = ∣ inl (refl, subst (λ (ts : List Tenant). slice_get ts place ≡ Some tenant) (c.as_slice-tenants.ensures.value ∙ ap (λ (config : Config). config.tenants) c.requires.config) there) ∣₁;
    }

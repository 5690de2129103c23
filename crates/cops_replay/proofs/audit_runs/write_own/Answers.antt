use Rattle.cops_replay.proofs.Names.{◌∙◌, sym, inr, refl, subst, IsTrue, is_some}
use Rattle.cops_replay.proofs.OwnAuditParts.{open_found}
use Rattle.cops_replay.proofs.AuditRunLemmas.{opened_at}
use Rattle.cops_replay.proofs.audit_runs.write_own.Goals as goal

pub tenant_in-tenant-requires : goal.tenant_in-tenant-requires
tenant_in-tenant-requires g c =
    let there = open_found c.tenants-tenants.result.now c.args.name.now c.in-Some.slot (sym c.slot_of_name.ensures ∙ c.in-Some.is) in
    subst (λ at. IsTrue (is_some at)) (sym there.1) refl

pub returns-in-Ok-clause-ok : goal.returns-in-Ok-clause-ok
returns-in-Ok-clause-ok g c = record {
  slot = c.in-Some.slot;
  tenant = c.tenant_in-tenant.result.now;
  opened = opened_at c.args.world.now c.tenants-tenants.result.now c.args.name.now c.in-Some.slot c.tenant_in-tenant.result.now c.tenants-tenants.ensures (sym c.slot_of_name.ensures ∙ c.in-Some.is) c.tenant_in-tenant.ensures;
  formed = c.in-Ok.ensures.formed;
  written = c.in-Ok.ensures.ok;
}

pub returns-in-Err-Refused-clause-front : goal.returns-in-Err-Refused-clause-front
returns-in-Err-Refused-clause-front g c = inr (
  c.in-Some.slot,
  c.tenant_in-tenant.result.now,
  opened_at c.args.world.now c.tenants-tenants.result.now c.args.name.now c.in-Some.slot c.tenant_in-tenant.result.now c.tenants-tenants.ensures (sym c.slot_of_name.ensures ∙ c.in-Some.is) c.tenant_in-tenant.ensures,
  c.write_slot.ensures.front,
)

pub returns-in-Err-OutOfMemory-clause-front : goal.returns-in-Err-OutOfMemory-clause-front
returns-in-Err-OutOfMemory-clause-front g c = inr (
  c.in-Some.slot,
  c.tenant_in-tenant.result.now,
  opened_at c.args.world.now c.tenants-tenants.result.now c.args.name.now c.in-Some.slot c.tenant_in-tenant.result.now c.tenants-tenants.ensures (sym c.slot_of_name.ensures ∙ c.in-Some.is) c.tenant_in-tenant.ensures,
  c.write_slot.ensures.front,
)

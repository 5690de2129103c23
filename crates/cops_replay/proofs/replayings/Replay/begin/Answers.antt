use Rattle.cops_replay.proofs.Names.{◌≡◌, ◌∙◌, ◌∷◌, [], refl, subst, sym, Some, Tenant, tenant_config, fresh_nodes, AreLoneNodes}
use Rattle.cops_replay.proofs.ReplayLemmas.{clock_at}
use Rattle.cops_replay.proofs.replayings.Replay.begin.Goals as goal

pub new-requires-clause-clock : goal.new-requires-clause-clock
new-requires-clause-clock c = clock_at (c.tenant.result.now ∷ []) 0 c.tenant.result.now (c.requires.clocks c.tenant.result.now c.tenant.ensures) refl

pub returns-clause-fresh : goal.returns-clause-fresh
returns-clause-fresh c = λ tenant at.
    let some : Some c.tenant.result.now ≡ Some tenant = sym c.tenant.ensures ∙ at in
    let same : c.tenant.result.now ≡ tenant = cc in
    (record {
      nodes_are = subst (λ (t : Tenant). AreLoneNodes (tenant_config c.args.config.now t) c.in_ok-nodes.nodes (fresh_nodes (tenant_config c.args.config.now t))) same c.in_ok-nodes.ensures;
      passed_is = refl;
      found_is = refl;
    })

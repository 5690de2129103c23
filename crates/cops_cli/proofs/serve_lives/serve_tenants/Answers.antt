use Rattle.cops_cli.proofs.serve_lives.serve_tenants.Goals as goal

pub returns-in-Ok-told_end-clause-tenants : goal.returns-in-Ok-told_end-clause-tenants
returns-in-Ok-told_end-clause-tenants g c =
    (c.open_tenants_are_at_all_nodes.ensures.tenants c.args.config.now _ _ _ _ (c.in-Ok.ensures.served c.in-Ok-told_end.ensures.threads)).have

use Rattle.cops_service.proofs.host_serving.serve_with_host.Given as goal

abbrev pub ghosts-serve_nodes : goal.ghosts-serve_nodes
ghosts-serve_nodes g a = record { config = a.seated.now.config.now; cluster = a.seated.now.cluster.now }

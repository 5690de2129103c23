use Rattle.cops_service.proofs.following_tests.follow_lines.Given as goal

abbrev pub ghosts-follow_at : goal.ghosts-follow_at
ghosts-follow_at g a = record { config = a.config.now; cluster = a.cluster.now }

use Rattle.std.proofs.lemmas.Result.{MatchResult-weaker}
use Rattle.cops_script.proofs.MainLemmas.{some_shard}
use Rattle.cops_world.proofs.host_runs.run_lives.Goals as goal

pub returns-clause-lives : goal.returns-clause-lives
returns-clause-lives c =
    MatchResult-weaker c.happen_all-told.result c.happen_all-told.ensures.lives (λ told all. all c.args.config (some_shard c.args.config c.requires.good) c.in_ok-world.ensures) (λ error none. tt)

pub returns-clause-alone : goal.returns-clause-alone
returns-clause-alone c =
    MatchResult-weaker c.happen_all-told.result c.happen_all-told.ensures.alone (λ told all. all c.args.config (some_shard c.args.config c.requires.good) c.in_ok-world.ensures) (λ error none. tt)

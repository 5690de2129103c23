use Rattle.std.proofs.Common.{subst, sym}
use Rattle.std.specs.Prelude.{All, IsTrue}
use Rattle.std.proofs.lemmas.Result.{MatchResult-weaker}
use Rattle.cops_model.specs.Setups.{Setup, is_open_at}
use Rattle.cops_script.proofs.MainLemmas.{some_shard}
use Rattle.cops_script.proofs.RunLaws.{all_open}
use Rattle.cops_world.proofs.WholeRunLemmas.{causal_for}
use Rattle.cops_world.proofs.whole_runs.run.Goals as goal

pub run_all-told-requires : goal.run_all-told-requires
run_all-told-requires c = subst (λ (s : Setup). All (λ e. IsTrue (is_open_at s e.slot)) c.args.events.now) (sym c.in_ok-world.ensures.setup_is) (all_open c.args.config c.args.events.now c.requires.slots)

pub returns-clause-theorem : goal.returns-clause-theorem
returns-clause-theorem c =
    MatchResult-weaker c.run_all-told.result c.run_all-told.ensures.goes (λ told goes.
    causal_for c.args.config c.args.events.now told.items c.in_ok-world.world c.run_all-told.new.world c.in_ok-world.ensures goes (some_shard c.args.config c.requires.good)) (λ error none. tt)

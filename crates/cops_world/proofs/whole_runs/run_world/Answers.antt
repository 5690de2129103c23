use Rattle.std.proofs.Common.{subst, sym}
use Rattle.std.specs.Prelude.{All, IsTrue}
use Rattle.cops_model.specs.Setups.{Setup, is_open_at}
use Rattle.cops_script.proofs.MainLemmas.{some_shard}
use Rattle.cops_script.proofs.RunLaws.{all_open}
use Rattle.cops_world.proofs.WholeRunLemmas.{causal_for, left_in}
use Rattle.cops_world.proofs.whole_runs.run_world.Goals as goal

pub run_all-requires : goal.run_all-requires
run_all-requires c = subst (λ (s : Setup). All (λ e. IsTrue (is_open_at s e.slot)) c.args.events.now) (sym c.in_ok-world.ensures.setup_is) (all_open c.args.config c.args.events.now c.requires.slots)

-- each tenant's run, and the cluster that it left in the world
pub returns-clause-left : goal.returns-clause-left
returns-clause-left c = left_in c.args.config c.args.events.now c.in_ok-told.told.items c.in_ok-world.world c.run_all.new.world c.in_ok-world.ensures c.in_ok-told.ensures.goes

pub returns-clause-theorem : goal.returns-clause-theorem
returns-clause-theorem c =
    causal_for c.args.config c.args.events.now c.in_ok-told.told.items c.in_ok-world.world c.run_all.new.world c.in_ok-world.ensures c.in_ok-told.ensures.goes (some_shard c.args.config c.requires.good)

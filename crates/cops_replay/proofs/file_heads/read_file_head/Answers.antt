use Rattle.cops_replay.proofs.Names.{IfOk, IfSome, IsTrue, Option, None, Some, Result, Ok, Err, Config, layout_in, Layout, is_good, Stop, clocks_of_good, HaveClocks}
use Rattle.cops_script.specs.declared.scripts.BadConfig.{BadConfig}
use Rattle.cops_replay.proofs.ReplayLemmas.{clocks_alone}
use Rattle.cops_replay.proofs.file_heads.read_file_head.Goals as goal

clocks : (layout : Layout) (result : Result (Option Config) (Stop BadConfig)) → IfOk result (λ begun. IfSome begun (λ config. IsTrue (is_good config))) → IfOk result (λ begun. IfSome begun (λ config. HaveClocks layout config))
clocks layout (Ok None) good = tt
clocks layout (Ok (Some config)) good = λ slot tenant at fits. clocks_alone config slot tenant (clocks_of_good config good) at
clocks layout (Err stop) good = tt

pub returns-in-Today-clause-clocks : goal.returns-in-Today-clause-clocks
returns-in-Today-clause-clocks c = clocks (layout_in c.args.head.now) c.read_head.result c.read_head.ensures.good

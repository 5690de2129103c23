use Rattle.std.proofs.Common.{not, rules}
use Rattle.std.proofs.lemmas.Fn.{filter_same}
use Rattle.cops_types.specs.Pairs.{holds}
use Rattle.cops_types.proofs.pair_lists.take_out_held.Goals as goal

pub returns : goal.returns
returns g c = filter_same _ (λ p. not (holds c.args.deps.now (g.T.KeptPair.kept p))) _ (λ p b f k. search rules) _ _ c.retain.ensures.filtered

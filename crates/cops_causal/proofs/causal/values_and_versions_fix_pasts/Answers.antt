use Rattle.cops_causal.proofs.FixedPasts.{pasts_fixed}
use Rattle.cops_causal.proofs.causal.values_and_versions_fix_pasts.Goals as goal

pub returns : goal.returns
returns c = pasts_fixed

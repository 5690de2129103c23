use Rattle.cops_model.specs.Events.{config_at, own, replies}
use Rattle.cops_causal.proofs.ShownLists.{lists_shown}
use Rattle.cops_causal.proofs.Transcripts.{transcript_keeps}
use Rattle.cops_causal.proofs.ViewLaws.{pasts_shown}
use Rattle.cops_causal.proofs.laws.tenants_transcripts_are_causal.Goals as goal

pub returns : goal.returns
returns c = λ config events told slot theorem within some.
    let run = theorem slot within in (
      transcript_keeps (config_at config slot) some (own slot events) (replies slot events told) run.left run.goes,
      lists_shown (config_at config slot) some (own slot events) (replies slot events told) run.left run.goes,
      pasts_shown (config_at config slot) some (own slot events) (replies slot events told) run.left run.goes,
    )

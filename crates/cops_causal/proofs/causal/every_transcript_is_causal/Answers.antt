use Rattle.cops_causal.proofs.ShownLists.{lists_shown}
use Rattle.cops_causal.proofs.ToldRequests.{operations_same}
use Rattle.cops_causal.proofs.Transcripts.{transcript_keeps}
use Rattle.cops_causal.proofs.ViewLaws.{pasts_shown}
use Rattle.cops_causal.proofs.causal.every_transcript_is_causal.Goals as goal

pub returns-clause-of_a_run : goal.returns-clause-of_a_run
returns-clause-of_a_run c = λ config acts told left some goes. transcript_keeps config some acts told left goes

pub returns-clause-shown : goal.returns-clause-shown
returns-clause-shown c = λ config acts told left some goes. lists_shown config some acts told left goes

pub returns-clause-pasts : goal.returns-clause-pasts
returns-clause-pasts c = λ config acts told left some goes. pasts_shown config some acts told left goes

pub returns-clause-operations : goal.returns-clause-operations
returns-clause-operations c = operations_same

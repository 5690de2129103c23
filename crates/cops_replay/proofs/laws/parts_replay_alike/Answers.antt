use Rattle.cops_replay.proofs.OneAnswer.{refused_alike, replayed_alike}
use Rattle.cops_replay.proofs.PartsBack.{part_replays}
use Rattle.cops_replay.proofs.laws.parts_replay_alike.Goals as goal

pub returns-clause-own : goal.returns-clause-own
returns-clause-own c = λ name one other layout config own text p q. replayed_alike name one other layout config own p q text

pub returns-clause-own_refusal : goal.returns-clause-own_refusal
returns-clause-own_refusal c = λ name one other layout config own refusal p q. refused_alike name one other layout config own p q refusal

pub returns-clause-part : goal.returns-clause-part
returns-clause-part c = λ name bytes part text p. part_replays name bytes part p text

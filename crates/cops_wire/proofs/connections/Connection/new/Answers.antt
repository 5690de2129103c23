use Rattle.std.proofs.Common.{[], ap, ◌∙◌}
use Rattle.cops_wire.specs.Streams.{split_of}
use Rattle.cops_wire.proofs.StreamLaws.{first_frame-nil, split_of-partial}
use Rattle.cops_wire.proofs.connections.Connection.new.Goals as goal

pub returns-clause-waiting : goal.returns-clause-waiting
returns-clause-waiting g c = ap (λ l. (split_of l).messages) c.new-2.ensures.items ∙ ap (λ s. s.messages) (split_of-partial [] first_frame-nil)

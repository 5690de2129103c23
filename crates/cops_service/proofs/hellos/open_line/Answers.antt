use Rattle.std.proofs.Common.{◌∙◌, ℕ, List, [], ap, sym}
use Rattle.cops_wire.specs.Decoding.{kept_of}
use Rattle.cops_wire.specs.Streams.{SplitStream, split_of}
use Rattle.cops_wire.proofs.StreamLaws.{first_frame-nil, split_of-partial}
use Rattle.cops_service.proofs.hellos.open_line.Goals as goal

pub loop-init : goal.loop-init
loop-init g c = (
  c.new-decoder.ensures ∙ ap (λ (bytes : List ℕ). kept_of bytes) (sym c.new-bytes.ensures.items),
  ap (λ (bytes : List ℕ). (split_of bytes).messages) c.new-bytes.ensures.items ∙ ap (λ (s : SplitStream). s.messages) (split_of-partial [] first_frame-nil),
)

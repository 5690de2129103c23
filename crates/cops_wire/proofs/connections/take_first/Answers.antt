use Rattle.std.proofs.Common.{sym, ap, ◌∙◌}
use Rattle.cops_wire.specs.Streams.{first_frame}
use Rattle.cops_wire.proofs.Greetings.{taken_broken, taken_partial, taken_whole}
use Rattle.cops_wire.proofs.StreamLaws.{front_size}
use Rattle.cops_wire.proofs.connections.take_first.Goals as goal

pub cut_front-requires : goal.cut_front-requires
cut_front-requires c =
    let size = front_size c.args.bytes.now.items c.in-Whole.message c.in-Whole.size (ap first_frame (sym c.deref.ensures.value) ∙ sym c.in_ok-message.ensures ∙ c.in-Whole.is) in
    size.within

pub returns-in-Whole : goal.returns-in-Whole
returns-in-Whole c = taken_whole c.args.bytes.now.items c.cut_front.new.bytes.items c.in-Whole.message c.in-Whole.size (ap first_frame (sym c.deref.ensures.value) ∙ sym c.in_ok-message.ensures ∙ c.in-Whole.is) c.cut_front.ensures

pub returns-in-Partial : goal.returns-in-Partial
returns-in-Partial c = taken_partial c.args.bytes.now.items (ap first_frame (sym c.deref.ensures.value) ∙ sym c.in_ok-message.ensures ∙ c.in-Partial.is)

pub returns-in-Broken : goal.returns-in-Broken
returns-in-Broken c = taken_broken c.args.bytes.now.items (ap first_frame (sym c.deref.ensures.value) ∙ sym c.in_ok-message.ensures ∙ c.in-Broken.is)

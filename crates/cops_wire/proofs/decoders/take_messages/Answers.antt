use Rattle.std.proofs.Common.{arith, ◌∙◌, sym, ap}
use Rattle.std.proofs.lemmas.List.{take_rest}
use Rattle.cops_wire.specs.Streams.{first_frame}
use Rattle.cops_wire.proofs.Decoding.{parted_partial, parted_broken, one_more}
use Rattle.cops_wire.proofs.decoders.take_messages.Goals as goal

pub returns-in-Partial : goal.returns-in-Partial
returns-in-Partial c =
    parted_partial c.args.bytes.now c.loop-message.taken c.args.messages.now.items c.loop-message.messages.items c.loop-message.invariant.within (ap first_frame (sym (take_rest c.args.bytes.now c.loop-message.taken)) ∙ sym c.in_ok-first_message.ensures ∙ c.in-Partial.is) c.loop-message.invariant.so_far

pub returns-in-Broken : goal.returns-in-Broken
returns-in-Broken c =
    parted_broken c.args.bytes.now c.loop-message.taken c.args.messages.now.items c.loop-message.messages.items (ap first_frame (sym (take_rest c.args.bytes.now c.loop-message.taken)) ∙ sym c.in_ok-first_message.ensures ∙ c.in-Broken.is) c.loop-message.invariant.so_far

pub overflow_add-taken : goal.overflow_add-taken
overflow_add-taken c =
    let on = one_more c.args.bytes.now c.loop-message.taken c.in-Whole.size c.args.messages.now.items c.loop-message.messages.items c.in-Whole.message c.loop-message.invariant.within (ap first_frame (sym (take_rest c.args.bytes.now c.loop-message.taken)) ∙ sym c.in_ok-first_message.ensures ∙ c.in-Whole.is) c.loop-message.invariant.so_far in
    omega (arith, on.within)

pub loop-message-smaller : goal.loop-message-smaller
loop-message-smaller c =
    let on = one_more c.args.bytes.now c.loop-message.taken c.in-Whole.size c.args.messages.now.items c.loop-message.messages.items c.in-Whole.message c.loop-message.invariant.within (ap first_frame (sym (take_rest c.args.bytes.now c.loop-message.taken)) ∙ sym c.in_ok-first_message.ensures ∙ c.in-Whole.is) c.loop-message.invariant.so_far in
    omega (arith, on.within, on.some)

pub loop-message-preserved : goal.loop-message-preserved
loop-message-preserved c =
    let on = one_more c.args.bytes.now c.loop-message.taken c.in-Whole.size c.args.messages.now.items c.loop-message.messages.items c.in-Whole.message c.loop-message.invariant.within (ap first_frame (sym (take_rest c.args.bytes.now c.loop-message.taken)) ∙ sym c.in_ok-first_message.ensures ∙ c.in-Whole.is) c.loop-message.invariant.so_far in
    rw c.in_ok-push-in-Whole.ensures.items (record { within = on.within; so_far = on.so_far })

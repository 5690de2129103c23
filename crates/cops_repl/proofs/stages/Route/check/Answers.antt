use Rattle.std.proofs.Common.{◌≡◌, ◌∙◌, List, Some, ap, get_or, length, refl, sym}
use Rattle.std.specs.Prelude.{slice_get}
use Rattle.std.proofs.lemmas.Option.{slice_get_read}
use Rattle.cops_types.specs.declared.pairs.Pair.{Pair}
use Rattle.cops_model.specs.Carrier.{check}
use Rattle.std.proofs.lemmas.Result.{err_from_is_err_and}
use Rattle.cops_types.specs.declared.faults.Fault.TheVariants.{OutOfMemory}
use Rattle.cops_model.specs.declared.calls.NodeReply.TheVariants as reply
use Rattle.cops_model.specs.declared.deliveries.Delivery.TheVariants as delivery
use Rattle.cops_repl.specs.Stands.{stream_of}
use Rattle.cops_repl.proofs.NextSteps.{asks_check, ends_check, goes_check}
use Rattle.cops_repl.proofs.stages.Route.check.Goals as goal

pub returns-in-Some-clause-called : goal.returns-in-Some-clause-called
returns-in-Some-clause-called g c =
    let route = c.args.self.now in
    let shards = route.shards in
    let stream = stream_of route in
    let entry = c.args.entry in
    let pair = c.pair-pair.result in
    let place : slice_get entry.near c.args.checked ≡ Some pair =
    slice_get_read entry.near (length entry.near) c.args.checked pair refl c.requires.left (c.pair-pair.ensures ∙ ap (λ (n : List Pair). get_or n c.args.checked pair) c.near.ensures) in
    let ends = c.end_of_check.ensures shards stream in (
      check shards stream pair,
      c.in_ok-reply.reply,
      rw c.shard.ensures at c.in_ok-reply.ensures.answers,
      (asks_check shards stream entry c.args.checked pair place, ends_check shards stream entry c.args.checked pair c.in_ok-reply.reply c.in-Some.ending place (sym ends ∙ c.in-Some.is)),
    )

pub returns-in-None-clause-called : goal.returns-in-None-clause-called
returns-in-None-clause-called g c =
    let route = c.args.self.now in
    let shards = route.shards in
    let stream = stream_of route in
    let entry = c.args.entry in
    let pair = c.pair-pair.result in
    let place : slice_get entry.near c.args.checked ≡ Some pair =
    slice_get_read entry.near (length entry.near) c.args.checked pair refl c.requires.left (c.pair-pair.ensures ∙ ap (λ (n : List Pair). get_or n c.args.checked pair) c.near.ensures) in
    let ends = c.end_of_check.ensures shards stream in (
      check shards stream pair,
      c.in_ok-reply.reply,
      rw c.shard.ensures at c.in_ok-reply.ensures.answers,
      (asks_check shards stream entry c.args.checked pair place, goes_check shards stream entry c.args.checked pair c.in_ok-reply.reply c.requires.left (sym ends ∙ c.in-None.is)),
    )

pub returns-in_err-reply-clause-called : goal.returns-in_err-reply-clause-called
returns-in_err-reply-clause-called g c =
    let route = c.args.self.now in
    let shards = route.shards in
    let stream = stream_of route in
    let entry = c.args.entry in
    let pair = c.pair-pair.result in
    let place : slice_get entry.near c.args.checked ≡ Some pair =
    slice_get_read entry.near (length entry.near) c.args.checked pair refl c.requires.left (c.pair-pair.ensures ∙ ap (λ (n : List Pair). get_or n c.args.checked pair) c.near.ensures) in
    let lack = err_from_is_err_and c.from_residual.result c.from_residual.ensures.1 in
    rw lack.1 (
      check shards stream pair,
      reply.Refused OutOfMemory,
      rw c.shard.ensures at c.in_err-reply.ensures.answers,
      (asks_check shards stream entry c.args.checked pair place, ends_check shards stream entry c.args.checked pair (reply.Refused OutOfMemory) (delivery.Refused OutOfMemory) place refl),
    )

pub returns-in_err-reply-clause-refused : goal.returns-in_err-reply-clause-refused
returns-in_err-reply-clause-refused g c =
    let route = c.args.self.now in
    let lack = err_from_is_err_and c.from_residual.result c.from_residual.ensures.1 in
    rw lack.1 (check route.shards (stream_of route) c.pair-pair.result, rw c.shard.ensures at c.in_err-reply.ensures.answers)

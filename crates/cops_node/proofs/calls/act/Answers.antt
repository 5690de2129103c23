use Rattle.std.proofs.Common.{◌≡◌, ◌∙◌, refl, ap, sym, subst, IsTrue}
use Rattle.cops_types.specs.Records.{StandsFor, collected, collectable}
use Rattle.cops_store.specs.Contents.{rows_of}
use Rattle.cops_outbox.specs.Queues.{queue_of, is_front}
use Rattle.cops_model.specs.declared.calls.NodeCall.{NodeCall}
use Rattle.cops_model.specs.declared.calls.NodeReply.TheVariants.{Removed}
use Rattle.cops_node.specs.Parts.{StandsAt, place_under}
use Rattle.cops_model.specs.Place.{fits}
use Rattle.cops_model.specs.Step.{effect}
use Rattle.cops_node.proofs.Effects.{StandsAt-collected}
use Rattle.cops_node.proofs.Stored.{ack_done, told_acked}
use Rattle.cops_model.specs.SoloNode.{front}
use Rattle.cops_node.proofs.calls.act.Goals as goal

pub returns-in-Ack-clause-done : goal.returns-in-Ack-clause-done
returns-in-Ack-clause-done c = λ solo moment h.
    subst (λ (k : NodeCall). (c.acknowledged.result.told ≡ (effect (place_under c.args.home.now c.args.terms.now) k solo).reply) × StandsAt c.args.caller.slot (place_under c.args.home.now c.args.terms.now) c.args.counters.now c.args.storage.now.store c.ack-answer.new.self (effect (place_under c.args.home.now c.args.terms.now) k solo).after) (sym c.in-Ack.is)
    (ack_done c.args.caller.slot c.in-Ack.dc c.in-Ack.version (is_front c.in-Ack.version (front (queue_of c.args.caller.slot c.in-Ack.dc c.args.storage.now.outbox))) (place_under c.args.home.now c.args.terms.now) c.args.counters.now c.args.storage.now.store c.args.storage.now.outbox c.ack-answer.new.self solo c.acknowledged.result.told h
    (subst (λ (k : NodeCall). IsTrue (fits (place_under c.args.home.now c.args.terms.now) k)) c.in-Ack.is c.requires.fits) refl c.ack-answer.ensures.entry c.ack-answer.ensures.elsewhere c.ack-answer.ensures.own c.ack-answer.ensures.tenants c.ack-answer.ensures.data_centres
    (told_acked (is_front c.in-Ack.version (front (queue_of c.args.caller.slot c.in-Ack.dc c.args.storage.now.outbox))) c.ack-answer.result c.acknowledged.result.told c.ack-answer.ensures.found c.acknowledged.ensures.acked c.acknowledged.ensures.not_front))

pub returns-in-Collect-clause-done : goal.returns-in-Collect-clause-done
returns-in-Collect-clause-done c = λ solo moment h.
    subst (λ (k : NodeCall). (c.removed.result.told ≡ (effect (place_under c.args.home.now c.args.terms.now) k solo).reply) × StandsAt c.args.caller.slot (place_under c.args.home.now c.args.terms.now) c.args.counters.now c.collect.new.self c.args.storage.now.outbox (effect (place_under c.args.home.now c.args.terms.now) k solo).after) (sym c.in-Collect.is) (
      c.removed.ensures.told ∙ ap Removed (c.collect.ensures.removed solo.recs h.rows ∙ ap (λ n. collectable c.args.home.now.trans_time n solo.recs) (sym moment)),
      StandsAt-collected c.args.caller.slot (place_under c.args.home.now c.args.terms.now) c.args.counters.now c.args.storage.now.store c.collect.new.self c.args.storage.now.outbox solo h
          (subst (λ n. StandsFor (rows_of c.args.caller.slot c.collect.new.self) (collected c.args.home.now.trans_time n solo.recs)) (sym moment) (c.collect.ensures.stands_for solo.recs h.rows)) c.collect.ensures.tenants,
    )

use Rattle.std.proofs.Common.{◌≡◌, ◌≤◌, ◌<◌, ◌∙◌, [], refl, ap, arith, length, subst, sym}
use Rattle.std.specs.Prelude.{replicate}
use Rattle.cops_types.specs.Version.{last_clock}
use Rattle.cops_outbox.specs.Queues.{Queues, queue_of}
use Rattle.cops_model.specs.SoloNode.{new_node}
use Rattle.cops_node.specs.Counting.{RepresentsSolo}
use Rattle.cops_node.specs.declared.Home.{Home}
use Rattle.cops_node.specs.declared.Terms.{Terms}
use Rattle.cops_node.specs.Parts.{IsFresh, IsHome, home_of}
use Rattle.cops_node.proofs.Fresh.{fresh_part, length_replicate, nothing_waits, numbers_fit}
use Rattle.cops_node.proofs.counting.CountingNode.new.Goals as goal

fresh : (c : goal.After-of) → RepresentsSolo (record { home = c.of.result; part = c.in_ok-part.part; calls = 0; store = c.in_ok-store.store; outbox = c.in_ok-outbox.outbox }) (new_node c.args.config.now.data_centres)
fresh c =
    let config = c.args.config.now in
    let outbox = c.in_ok-outbox.outbox in
    let home : IsHome (home_of config c.args.id) = record { dc_exists = c.requires.dc_exists; shard_exists = c.requires.shard_exists; numbers_fit = numbers_fit config c.requires.sizes } in
    let terms = c.in_ok-part.ensures.terms ∙ c.terms_for.ensures in
    let clock : c.in_ok-part.part.terms.first_clock ≤ last_clock = subst (λ (t : Terms). t.first_clock ≤ last_clock) (sym terms) c.requires.clock in
    let many = c.in_ok-store.ensures.tenants in
    let queued = ap (λ (o : Queues). o.tenants) c.in_ok-outbox.ensures in
    let h = fresh_part (home_of config c.args.id) 0 c.in_ok-part.part c.in_ok-store.store outbox home c.in_ok-part.ensures.fresh clock (omega arith) (omega arith) (ap (λ (o : Queues). o.own) c.in_ok-outbox.ensures)
    (ap (λ (o : Queues). length o.queues) c.in_ok-outbox.ensures ∙ length_replicate config.data_centres (replicate 1 [])) (c.in_ok-store.ensures.empty 0) (λ dc. ap (queue_of 0 dc) c.in_ok-outbox.ensures ∙ nothing_waits config.data_centres 1 dc 0) in
    subst (λ (k : Home). RepresentsSolo (record { home = k; part = c.in_ok-part.part; calls = 0; store = c.in_ok-store.store; outbox = outbox }) (new_node config.data_centres)) (sym c.of.ensures)
    (record { stands = h.stands; moment = h.moment; counted = refl })

pub invariant_of-result : goal.invariant_of-result
invariant_of-result c = (new_node c.args.config.now.data_centres, fresh c)

pub returns-clause-fresh : goal.returns-clause-fresh
returns-clause-fresh c = fresh c

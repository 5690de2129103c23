use Rattle.cops_replay.proofs.Names.{◌≡◌, ◌*◌, ◌∙◌, ◌∷◌, [], ap, arith, length, length-append, refl, subst, sym, tenant_config, place_of, id_of, numbers_fit}
use Rattle.cops_replay.proofs.ReplayLemmas.{AreNew, nodes_new, none_new, one_new}
use Rattle.cops_replay.proofs.replaying.LoneNodes.new.Goals as goal

pub loop-number-init : goal.loop-number-init
loop-number-init c =
    let own = tenant_config c.args.config.now c.args.tenant.now in
    record { counted = ap length c.new-nodes.ensures.items; new = subst (AreNew own) (sym c.new-nodes.ensures.items) (none_new own) }

pub loop-number-preserved : goal.loop-number-preserved
loop-number-preserved c =
    let own = tenant_config c.args.config.now c.args.tenant.now in
    let here = c.loop-number.invariant.counted in
    let size = length-append c.loop-number.nodes.items (c.in_ok-new.field-0 ∷ []) in
    (record {
      counted = ap length c.in_ok-push.ensures.items ∙ omega arith;
      new = subst (AreNew own) (sym c.in_ok-push.ensures.items) (one_new own c.loop-number.nodes.items c.in_ok-new.field-0
          (record { place = c.in_ok-new.ensures.place ∙ ap (λ n. place_of own (id_of c.args.config.now.shards n)) (sym here); represents = c.in_ok-new.ensures.fresh })
          c.loop-number.invariant.new);
    })

pub invariant_of-result : goal.invariant_of-result
invariant_of-result c =
    let here = c.loop-number.invariant.counted in
    let done : c.loop-number.number ≡ c.args.config.now.data_centres * c.args.config.now.shards = omega (arith, c.loop-number-test.false, c.loop-number.auto.number-end) in
    record { all = here ∙ done; numbers_fit = numbers_fit c.args.config.now c.requires.sizes }

pub returns : goal.returns
returns c =
    let here = c.loop-number.invariant.counted in
    let done : c.loop-number.number ≡ c.args.config.now.data_centres * c.args.config.now.shards = omega (arith, c.loop-number-test.false, c.loop-number.auto.number-end) in
    nodes_new (tenant_config c.args.config.now c.args.tenant.now) (record { data_centres = c.args.config.now.data_centres; shards = c.args.config.now.shards }) c.loop-number.nodes.items refl refl (here ∙ done) c.loop-number.invariant.new

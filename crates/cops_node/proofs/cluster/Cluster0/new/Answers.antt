use Rattle.std.proofs.Common.{◌≡◌, ◌*◌, ◌∙◌, ap, sym, subst, map, arith, List, ◌++◌, ◌∷◌, []}
use Rattle.std.specs.List.{range_with_len}
use Rattle.std.proofs.lemmas.List.FromFn.{map-range_with_len_more}
use Rattle.cops_types.specs.TenantConfig.{tenant_config}
use Rattle.cops_node.specs.Clusters.{HasTenant, nodes_of, new_shared, shape_of}
use Rattle.cops_node.specs.Parts.{Shared}
use Rattle.cops_node.proofs.Clusters.{HoldsNodes-new, tenant_new, solos_new}
use Rattle.cops_node.proofs.Fresh.{numbers_fit}
use Rattle.cops_node.proofs.cluster.Cluster0.new.Goals as goal

pub loop-number-preserved : goal.loop-number-preserved
loop-number-preserved c =
    let before = c.loop-number.invariant in
    let made = c.in_ok-new.ensures in
    c.in_ok-push.ensures.items
    ∙ (λ i. before i ++ made i ∷ [])
    ∙ sym (map-range_with_len_more (new_shared c.args.config.now) 0 c.loop-number.number c.loop-number.number (omega arith))

pub invariant_of-result : goal.invariant_of-result
invariant_of-result c =
    let done : c.loop-number.number ≡ c.args.config.now.data_centres * c.args.config.now.shards = omega (arith, c.count_of-number-end.ensures.value, c.loop-number-test.false, c.loop-number.auto.number-end) in
    HoldsNodes-new c.args.config.now c.loop-number.nodes.items (numbers_fit c.args.config.now c.requires.sizes) (c.loop-number.invariant ∙ ap (λ n. map (new_shared c.args.config.now) (range_with_len 0 n)) done)

pub returns-clause-tenants : goal.returns-clause-tenants
returns-clause-tenants c = λ slot tenant found.
    let done : c.loop-number.number ≡ c.args.config.now.data_centres * c.args.config.now.shards = omega (arith, c.count_of-number-end.ensures.value, c.loop-number-test.false, c.loop-number.auto.number-end) in
    let made = c.loop-number.invariant ∙ ap (λ n. map (new_shared c.args.config.now) (range_with_len 0 n)) done in
    subst (λ (nodes : List Shared). HasTenant (tenant_config c.args.config.now tenant) slot (record { shape = shape_of c.args.config.now; nodes = nodes })) (sym made) (tenant_new c.args.config.now slot tenant found)

pub returns-clause-fresh : goal.returns-clause-fresh
returns-clause-fresh c = λ slot tenant found.
    let done : c.loop-number.number ≡ c.args.config.now.data_centres * c.args.config.now.shards = omega (arith, c.count_of-number-end.ensures.value, c.loop-number-test.false, c.loop-number.auto.number-end) in
    let made = c.loop-number.invariant ∙ ap (λ n. map (new_shared c.args.config.now) (range_with_len 0 n)) done in
    ap (λ (nodes : List Shared). nodes_of (tenant_config c.args.config.now tenant) slot (record { shape = shape_of c.args.config.now; nodes = nodes })) made ∙ solos_new c.args.config.now slot tenant

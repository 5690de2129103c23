use Rattle.std.proofs.Common.{◌≡◌, ◌<◌, ◌∙◌, ap, sym, subst, length, set, IsTrue}
use Rattle.cops_model.specs.declared.calls.NodeId.{NodeId}
use Rattle.std.specs.Prelude.{IfOk}
use Rattle.std.proofs.lemmas.Result.{on_err_weaker}
use Rattle.std.proofs.lemmas.List.{set-get_or}
use Rattle.cops_types.specs.TenantConfig.{TenantConfig}
use Rattle.cops_node.specs.Clusters.{Cluster, HasTenant, IsCall, IsTurnOf}
use Rattle.cops_model.specs.Place.{fits, node_number}
use Rattle.cops_node.specs.declared.Shape.{Shape}
use Rattle.cops_node.specs.Shape.{Fits, place_in}
use Rattle.cops_node.specs.Parts.{AuditFits}
use Rattle.cops_node.proofs.Clusters.{all_set, call_is, cluster_stays, fits_next, number_within, id_is}
use Rattle.cops_node.proofs.ToldTurns.{audited_told, full_told, ok_turned, turn_told}
use Rattle.cops_node.specs.ToldReplies.{told_reply}
use Rattle.cops_node.proofs.cluster.Cluster0Nodes.step.Goals as goal

pub step-requires : goal.step-requires
step-requires c =
    let shape : Shape = record { data_centres = c.self.inside.data_centres; shards = c.self.inside.shards } in
    let fitting : Fits shape c.args.id c.args.call = subst (λ (v : Cluster). Fits v.shape c.args.id c.args.call) (sym c.self.view_is) c.requires in
    let within : node_number shape.shards c.args.id < length c.self.inside.nodes.items = subst (λ n. node_number shape.shards c.args.id < n) (sym c.self.invariant.in_order.all) (number_within shape c.args.id fitting.dc_exists fitting.shard_exists) in
    let at = c.self.invariant.in_order.each (node_number shape.shards c.args.id) c.index_mut-node.result.now within c.index_mut-node.ensures.value in
    subst (λ (s : Shape). IsTrue (fits (place_in s c.index_mut-node.result.now.home.id) c.args.call)) (sym at.1)
    (subst (λ (i : NodeId). IsTrue (fits (place_in shape i) c.args.call)) (sym (at.0 ∙ id_is shape.shards c.args.id fitting.shard_exists)) fitting.call_fits)

pub returns-clause-answers : goal.returns-clause-answers
returns-clause-answers c =
    let shape : Shape = record { data_centres = c.self.inside.data_centres; shards = c.self.inside.shards } in
    let fitting : Fits shape c.args.id c.args.call = subst (λ (v : Cluster). Fits v.shape c.args.id c.args.call) (sym c.self.view_is) c.requires in
    let within : node_number shape.shards c.args.id < length c.self.inside.nodes.items = subst (λ n. node_number shape.shards c.args.id < n) (sym c.self.invariant.in_order.all) (number_within shape c.args.id fitting.dc_exists fitting.shard_exists) in
    let at = c.self.invariant.in_order.each (node_number shape.shards c.args.id) c.index_mut-node.result.now within c.index_mut-node.ensures.value in
    let new : Cluster = record { shape = shape; nodes = set c.self.inside.nodes.items (node_number shape.shards c.args.id) c.step.new.self } in
    subst (λ (v : Cluster). IsCall v c.args.id c.args.slot c.args.moment c.args.call (told_reply c.step.result) new) c.self.view_is
    (call_is shape c.self.inside.nodes.items c.args.id c.args.slot c.args.moment c.args.call (told_reply c.step.result) c.index_mut-node.result.now c.step.new.self within c.index_mut-node.ensures.value
    (at.0 ∙ id_is shape.shards c.args.id fitting.shard_exists) (turn_told c.args.slot c.args.moment c.args.call c.index_mut-node.result.now c.step.new.self c.step.result c.step.ensures.turn c.step.ensures.err) (full_told c.args.slot c.args.moment c.args.call c.index_mut-node.result.now c.step.new.self c.step.result c.step.ensures.full) c.step.ensures.others c.step.ensures.home c.step.ensures.terms
    (λ none. (ap told_reply (c.step.ensures.vacant none), c.step.ensures.unchanged none)))

pub returns-clause-ok : goal.returns-clause-ok
returns-clause-ok c =
    let shape : Shape = record { data_centres = c.self.inside.data_centres; shards = c.self.inside.shards } in
    let fitting : Fits shape c.args.id c.args.call = subst (λ (v : Cluster). Fits v.shape c.args.id c.args.call) (sym c.self.view_is) c.requires in
    let within : node_number shape.shards c.args.id < length c.self.inside.nodes.items = subst (λ n. node_number shape.shards c.args.id < n) (sym c.self.invariant.in_order.all) (number_within shape c.args.id fitting.dc_exists fitting.shard_exists) in
    let at = c.self.invariant.in_order.each (node_number shape.shards c.args.id) c.index_mut-node.result.now within c.index_mut-node.ensures.value in
    let new : Cluster = record { shape = shape; nodes = set c.self.inside.nodes.items (node_number shape.shards c.args.id) c.step.new.self } in
    subst (λ (v : Cluster). IfOk c.step.result (λ reply. (config : TenantConfig) → config.shards ≡ v.shape.shards → HasTenant config c.args.slot v → IsTurnOf config c.args.id c.args.slot c.args.moment c.args.call reply v new)) c.self.view_is
    (ok_turned shape c.self.inside.nodes.items c.args.id c.args.slot c.args.moment c.args.call c.index_mut-node.result.now c.step.new.self within c.index_mut-node.ensures.value
    (at.0 ∙ id_is shape.shards c.args.id fitting.shard_exists) c.step.ensures.others c.step.ensures.home c.step.ensures.terms c.step.result c.step.ensures.turn
    (turn_told c.args.slot c.args.moment c.args.call c.index_mut-node.result.now c.step.new.self c.step.result c.step.ensures.turn c.step.ensures.err)
    (full_told c.args.slot c.args.moment c.args.call c.index_mut-node.result.now c.step.new.self c.step.result c.step.ensures.full))

pub returns-clause-err : goal.returns-clause-err
returns-clause-err c =
    let shape : Shape = record { data_centres = c.self.inside.data_centres; shards = c.self.inside.shards } in
    on_err_weaker c.step.result
    (λ same. ap (λ ns. record { shape = shape; nodes = ns }) (ap (set c.self.inside.nodes.items (node_number shape.shards c.args.id)) (same ∙ c.index_mut-node.ensures.value) ∙ set-get_or c.self.inside.nodes.items (node_number shape.shards c.args.id) c.index_mut-node.result.now) ∙ c.self.view_is)
    c.step.ensures.err

pub invariant_of-self : goal.invariant_of-self
invariant_of-self c =
    let shape : Shape = record { data_centres = c.self.inside.data_centres; shards = c.self.inside.shards } in
    let fitting : Fits shape c.args.id c.args.call = subst (λ (v : Cluster). Fits v.shape c.args.id c.args.call) (sym c.self.view_is) c.requires in
    let within : node_number shape.shards c.args.id < length c.self.inside.nodes.items = subst (λ n. node_number shape.shards c.args.id < n) (sym c.self.invariant.in_order.all) (number_within shape c.args.id fitting.dc_exists fitting.shard_exists) in
    let at = c.self.invariant.in_order.each (node_number shape.shards c.args.id) c.index_mut-node.result.now within c.index_mut-node.ensures.value in
    let here = at.0 ∙ id_is shape.shards c.args.id fitting.shard_exists in
    let fit : IsTrue (fits (place_in c.index_mut-node.result.now.home.shape c.index_mut-node.result.now.home.id) c.args.call) = subst (λ (s : Shape). IsTrue (fits (place_in s c.index_mut-node.result.now.home.id) c.args.call)) (sym at.1)
    (subst (λ (i : NodeId). IsTrue (fits (place_in shape i) c.args.call)) (sym here) fitting.call_fits) in
    record {
      in_order = cluster_stays shape c.self.inside.nodes.items c.args.id c.args.slot c.args.moment c.args.call (told_reply c.step.result) c.index_mut-node.result.now c.step.new.self within c.index_mut-node.ensures.value
          here (turn_told c.args.slot c.args.moment c.args.call c.index_mut-node.result.now c.step.new.self c.step.result c.step.ensures.turn c.step.ensures.err) (full_told c.args.slot c.args.moment c.args.call c.index_mut-node.result.now c.step.new.self c.step.result c.step.ensures.full) c.step.ensures.others c.step.ensures.home c.step.ensures.terms c.self.invariant.in_order;
      fitting = all_set AuditFits c.self.inside.nodes.items (node_number shape.shards c.args.id) c.index_mut-node.result.now c.step.new.self c.self.invariant.fitting
          (fits_next c.args.slot c.args.moment c.args.call (told_reply c.step.result) c.index_mut-node.result.now c.step.new.self fit c.step.ensures.home c.step.ensures.unchanged (audited_told c.args.slot c.args.moment c.args.call c.index_mut-node.result.now c.step.new.self c.step.result c.step.ensures.noted c.step.ensures.err)) c.index_mut-node.ensures.value;
    }

use Rattle.std.proofs.Common.{◌≡◌, true, ap, refl, subst, sym, ◌∙◌}
use Rattle.std.specs.Prelude.{Ok}
use Rattle.cops_node.specs.declared.Shape.{Shape}
use Rattle.cops_types.specs.declared.faults.Fault.TheVariants.{NoSuchPlace}
use Rattle.cops_model.specs.declared.acts.Act.TheVariants as acts
use Rattle.cops_model.specs.declared.replies.Reply.TheVariants.{Refused}
use Rattle.cops_model.specs.Cluster.{cluster_step, has_node}
use Rattle.cops_model.specs.Setups.{config_in}
use Rattle.cops_model.specs.Lacks.{Lacks}
use Rattle.cops_world.specs.Worlds.{AnyReply, KeptWorld, Leaves, Moves, world_of}
use Rattle.cops_world.proofs.WorldJoins.{lack_moves}
use Rattle.cops_world.proofs.WorldKeeps.{kept_called, sizes_in}
use Rattle.cops_world.proofs.WorldCalls.{node_fits, no_node_moves, node_collects}
use Rattle.cops_world.proofs.WorldLacks.{collect_leaves, collect_stops, spared_leaves}
use Rattle.cops_world.proofs.WorldSteps.{collect_moves}
use Rattle.cops_world.proofs.world.World.collect.Goals as goal
use Rattle.cops_world.proofs.world.World.collect.Goals.{in-Ok, in-Err}

pub returns-then-not-has_node-clause-moves : goal.returns-then-not-has_node-clause-moves
returns-then-not-has_node-clause-moves c =
    let sizes = sizes_in c.args.self.now.setup c.args.slot c.requires in
    no_node_moves (world_of c.args.self.now) c.args.slot c.args.id c.args.moment
    (sym (c.has_node.ensures (config_in c.args.self.now.setup c.args.slot) sizes) ∙ c.if-not-has_node.true)

pub step-requires : goal.step-requires
step-requires c =
    let now = c.args.self.now in
    let shape = c.self.inside.nodes.shape in
    let sizes = sizes_in now.setup c.args.slot c.requires in
    let same_shape = c.self.invariant.whole.shape_is in
    let same_setup = ap (λ (k : KeptWorld). k.setup) c.self.view_is in
    node_fits shape (config_in now.setup c.args.slot) c.args.id
    (sizes.data_centres ∙ sym (ap (λ (s : Shape). s.data_centres) same_shape ∙ ap (λ setup. setup.head.data_centres) same_setup))
    (sizes.shards ∙ sym (ap (λ (s : Shape). s.shards) same_shape ∙ ap (λ setup. setup.head.shards) same_setup))
    (sym (c.has_node.ensures (config_in now.setup c.args.slot) sizes) ∙ c.if-not-has_node.false)

pub returns-clause-moves : goal.returns-clause-moves
returns-clause-moves c =
    let now = c.args.self.now in
    let sizes = sizes_in now.setup c.args.slot c.requires in
    let old : KeptWorld = record { setup = record { head = c.self.inside.config; tenants = c.self.inside.tenants }; nodes = c.self.inside.nodes; table = c.self.inside.actors } in
    let new : KeptWorld = record old { nodes = c.step.new.self } in
    let there = sym (c.has_node.ensures (config_in now.setup c.args.slot) sizes) ∙ c.if-not-has_node.false in
    let shards = subst (λ (k : KeptWorld). (config_in k.setup c.args.slot).shards ≡ k.setup.head.shards) (sym c.self.view_is) sizes.shards ∙ sym (ap (λ (s : Shape). s.shards) c.self.invariant.whole.shape_is) in
    subst (λ (kept : KeptWorld). Moves AnyReply (λ config. cluster_step config (acts.Collect c.args.id.dc c.args.id.shard c.args.moment)) (world_of kept) c.args.slot c.match-step.result (world_of new)) c.self.view_is
    (elim c.match-step.branch [
      | in-Ok w ↦
          subst (λ answered. Moves AnyReply (λ config. cluster_step config (acts.Collect c.args.id.dc c.args.id.shard c.args.moment)) (world_of old) c.args.slot answered (world_of new)) (sym w.result-is)
          (node_collects (world_of old) c.args.slot c.args.id c.args.moment
          (subst (λ (k : KeptWorld). has_node (config_in k.setup c.args.slot) c.args.id.dc c.args.id.shard ≡ true) (sym c.self.view_is) there)
          (Ok w.reply_of_collect.result) (world_of new)
          (collect_moves (world_of old) c.args.slot c.args.id c.args.moment w.in-Ok.reply c.step.new.self w.reply_of_collect.result shards w.in-Ok.ensures.answers w.in-Ok.ensures.ok w.reply_of_collect.ensures))
      | in-Err w ↦
          subst (λ answered. Moves AnyReply (λ config. cluster_step config (acts.Collect c.args.id.dc c.args.id.shard c.args.moment)) (world_of old) c.args.slot answered (world_of new)) (sym w.result-is)
          (lack_moves AnyReply _ (world_of old) c.args.slot w.in-Err.error (world_of new) (ap (λ nodes. world_of (record old { nodes = nodes })) w.in-Err.ensures.err))
    ])

pub returns-then-not-has_node-clause-lack : goal.returns-then-not-has_node-clause-lack
returns-then-not-has_node-clause-lack c = spared_leaves (λ config. Lacks config (acts.Collect c.args.id.dc c.args.id.shard c.args.moment)) (world_of c.args.self.now) c.args.slot (Ok (Refused NoSuchPlace)) (world_of c.args.self.now) refl

pub returns-clause-lack : goal.returns-clause-lack
returns-clause-lack c =
    let sizes = sizes_in c.args.self.now.setup c.args.slot c.requires in
    let old : KeptWorld = record { setup = record { head = c.self.inside.config; tenants = c.self.inside.tenants }; nodes = c.self.inside.nodes; table = c.self.inside.actors } in
    let new : KeptWorld = record old { nodes = c.step.new.self } in
    let shards = subst (λ (k : KeptWorld). (config_in k.setup c.args.slot).shards ≡ k.setup.head.shards) (sym c.self.view_is) sizes.shards ∙ sym (ap (λ (s : Shape). s.shards) c.self.invariant.whole.shape_is) in
    let there = sym (c.has_node.ensures (config_in c.args.self.now.setup c.args.slot) sizes) ∙ c.if-not-has_node.false in
    subst (λ (kept : KeptWorld). Leaves (λ config. Lacks config (acts.Collect c.args.id.dc c.args.id.shard c.args.moment)) (world_of kept) c.args.slot c.match-step.result (world_of new)) c.self.view_is
    (elim c.match-step.branch [
      | in-Ok w ↦
          subst (λ answered. Leaves (λ config. Lacks config (acts.Collect c.args.id.dc c.args.id.shard c.args.moment)) (world_of old) c.args.slot answered (world_of new)) (sym w.result-is)
          (collect_leaves (world_of old) c.args.slot c.args.id c.args.moment c.step.new.self shards w.in-Ok.reply w.reply_of_collect.result w.in-Ok.ensures.ok w.reply_of_collect.ensures)
      | in-Err w ↦
          subst (λ answered. Leaves (λ config. Lacks config (acts.Collect c.args.id.dc c.args.id.shard c.args.moment)) (world_of old) c.args.slot answered (world_of new)) (sym w.result-is)
          (collect_stops (world_of old) c.args.slot c.args.id c.args.moment c.step.new.self shards w.in-Err.error w.in-Err.ensures.answers w.in-Err.ensures.err
          (subst (λ (k : KeptWorld). has_node (config_in k.setup c.args.slot) c.args.id.dc c.args.id.shard ≡ true) (sym c.self.view_is) there))
    ])

pub invariant_of-self : goal.invariant_of-self
invariant_of-self c =
    let old : KeptWorld = record { setup = record { head = c.self.inside.config; tenants = c.self.inside.tenants }; nodes = c.self.inside.nodes; table = c.self.inside.actors } in
    kept_called old c.self.invariant c.step.new.self c.step.ensures.shape c.step.ensures.answers.sites

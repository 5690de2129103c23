use Rattle.std.proofs.Common.{◌≡◌, Ok}
use Rattle.cops_repl.specs.Collections.{CollectsAll, all_nodes}
use Rattle.cops_repl.proofs.collecting.collect_all.Given as goal

abbrev pub invariant-loop-dc : goal.invariant-loop-dc
invariant-loop-dc g l =
    record {
      so_far : CollectsAll g.N.Nodes.Answers l.slot l.moment 0 (all_nodes l.dc l.config.shards) l.initial.nodes l.nodes (Ok l.total);
      shape : g.N.Nodes.shape l.nodes ≡ g.N.Nodes.shape l.initial.nodes;
    }

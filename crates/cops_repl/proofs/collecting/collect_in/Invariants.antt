use Rattle.std.proofs.Common.{◌≡◌, ◌<◌, ◌^◌, Ok}
use Rattle.cops_repl.specs.Collections.{CollectsAll, nodes_of_data_centre}
use Rattle.cops_repl.proofs.collecting.collect_in.Given as goal

abbrev pub invariant-loop-shard : goal.invariant-loop-shard
invariant-loop-shard g l =
    record {
      so_far : CollectsAll g.N.Nodes.Answers l.slot l.moment l.start (nodes_of_data_centre l.shard l.dc) l.initial.nodes l.nodes (Ok l.total);
      fits : l.total < 2 ^ 64;
      shape : g.N.Nodes.shape l.nodes ≡ g.N.Nodes.shape l.initial.nodes;
    }

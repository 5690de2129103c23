-- The operation that an act ends, by the request that its session runs in the cluster.
use Rattle.std.proofs.Common.{ℕ, List}
use Rattle.std.specs.Prelude.{Option}
use Rattle.std.specs.Option.{option_map, option_and_then}
use Rattle.cops_model.specs.Session.{Session, Running}
use Rattle.cops_model.specs.declared.acts.Act.{Act}
use Rattle.cops_model.specs.declared.replies.Reply.{Reply}
use Rattle.cops_model.specs.Causal.{Effect, Operation, effect_of, stepped_actor}
use Rattle.cops_model.specs.Cluster.{SoloCluster, find_session}

-- the request that the session of this name runs, as an operation with this effect
abbrev pub operation_by : SoloCluster → Effect → List ℕ → Option Operation
operation_by cluster effect name =
    option_map (λ (r : Running). record { session = name; context = r.context; effect = effect })
    (option_and_then (λ (s : Session). s.running) (find_session name cluster))

-- the operation that the act ended with this reply, if it ended one
abbrev pub operation_ended : SoloCluster → Act → Reply → Option Operation
operation_ended cluster act reply = option_and_then (λ effect. option_and_then (operation_by cluster effect) (stepped_actor act)) (effect_of reply)

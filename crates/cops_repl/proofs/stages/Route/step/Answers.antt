use Rattle.std.proofs.Common.{◌≡◌, ◌∙◌, List, ap, arith, length, subst, sym}
use Rattle.cops_types.specs.declared.pairs.Pair.{Pair}
use Rattle.cops_repl.specs.declared.stages.Stage.{Stage}
use Rattle.cops_repl.specs.declared.stages.Stage.TheVariants.{Carrying}
use Rattle.cops_repl.specs.Stands.{IsSound, IsStepFrom, stream_of, told_after}
use Rattle.cops_repl.proofs.stages.Route.step.Goals as goal

pub returns-in-Pulling-clause-called : goal.returns-in-Pulling-clause-called
returns-in-Pulling-clause-called g c =
    let route = c.args.self.now in
    let made = c.pull.ensures.called in
    (made.0, made.1, made.2, subst (λ (s : Stage). IsStepFrom route.shards (stream_of route) s made.0 made.1 (told_after c.pull.result)) (sym c.in-Pulling.is) made.3)

pub returns-then-checked-len-clause-called : goal.returns-then-checked-len-clause-called
returns-then-checked-len-clause-called g c =
    let route = c.args.self.now in
    let made = c.check.ensures.called in
    (made.0, made.1, made.2, subst (λ (s : Stage). IsStepFrom route.shards (stream_of route) s made.0 made.1 (told_after c.check.result)) (sym c.in-Carrying.is) made.3)

pub returns-else-checked-len-clause-called : goal.returns-else-checked-len-clause-called
returns-else-checked-len-clause-called g c =
    let route = c.args.self.now in
    let made = c.commit.ensures.called in
    let entry = c.in-Carrying.entry in
    let sound = subst (λ (s : Stage). IsSound route.shards (stream_of route) s) c.in-Carrying.is c.requires.sound in
    let count = c.len.ensures ∙ ap (λ (n : List Pair). length n) c.near.ensures in
    let all : c.in-Carrying.checked ≡ length entry.near = omega (arith, sound.1, count) in
    let stage : c.args.stage ≡ Carrying entry (length entry.near) = c.in-Carrying.is ∙ ap (λ n. Carrying entry n) all in
    (made.0, made.1, made.2, subst (λ (s : Stage). IsStepFrom route.shards (stream_of route) s made.0 made.1 (told_after c.commit.result)) (sym stage) made.3)

pub returns-in-Stored-clause-called : goal.returns-in-Stored-clause-called
returns-in-Stored-clause-called g c =
    let route = c.args.self.now in
    let made = c.acknowledge.ensures.called in
    (made.0, made.1, made.2, subst (λ (s : Stage). IsStepFrom route.shards (stream_of route) s made.0 made.1 (told_after c.acknowledge.result)) (sym c.in-Stored.is) made.3)

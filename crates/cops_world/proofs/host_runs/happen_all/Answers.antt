use Rattle.std.proofs.Common.{◌≡◌, ◌+◌, List, [], ◌∷◌, ◌++◌, length, length-append, take, sym, subst, ap, ◌∙◌, arith}
use Rattle.std.proofs.lemmas.Bool.Decides.{nat_tests}
use Rattle.std.proofs.lemmas.List.{take_more}
use Rattle.cops_script.specs.Lives.{first_lives}
use Rattle.cops_script.proofs.RunLaws.{taken_whole}
use Rattle.cops_world.specs.declared.host_runs.HostEvent.{HostEvent}
use Rattle.cops_world.specs.declared.host_runs.LifeReply.{LifeReply}
use Rattle.cops_world.specs.Worlds.{HasOpenCluster, open_setup}
use Rattle.cops_world.proofs.HostRunLemmas.{IsSoFar, slots_alone, so_far_more, so_far_nothing, tells_lives}
use Rattle.cops_world.proofs.host_runs.happen_all.Goals as goal

pub loop-event-init : goal.loop-event-init
loop-event-init c =
    let start = c.args.world.now in
    record {
      as_long = ap length c.in_ok-told.ensures.items;
      so_far = λ config. subst (λ (replies : List LifeReply). IsSoFar open_setup HasOpenCluster start (first_lives config) start [] replies) (sym c.in_ok-told.ensures.items)
          (so_far_nothing open_setup HasOpenCluster start (first_lives config));
    }

pub loop-event-preserved : goal.loop-event-preserved
loop-event-preserved c =
    let i = c.loop-event.event-index in
    let xs = c.args.events.now in
    let e = c.event-item.result in
    let start = c.args.world.now in
    let next = c.happen-reply.new.world in
    let takes : take (i + 1) xs ≡ take i xs ++ e ∷ [] = take_more xs i e c.loop-event-test.true ∙ ap (λ d. take i xs ++ d ∷ []) (sym c.event-item.is) in
    record {
      as_long = ap length c.in_ok-push.ensures.items ∙ length-append c.loop-event.told.items (c.happen-reply.result ∷ []) ∙ ap (λ n. n + 1) c.loop-event.invariant.as_long;
      so_far = λ config.
          let more =
          so_far_more open_setup HasOpenCluster start (first_lives config) c.loop-event.world next (take i xs) c.loop-event.told.items e c.happen-reply.result c.happen-reply.ensures (c.loop-event.invariant.so_far config) in
          subst (λ (past : List HostEvent). IsSoFar open_setup HasOpenCluster start (first_lives config) next past c.push.new.self.items) (sym takes)
          (subst (λ (replies : List LifeReply). IsSoFar open_setup HasOpenCluster start (first_lives config) next (take i xs ++ e ∷ []) replies) (sym c.in_ok-push.ensures.items) more);
    }

pub returns-clause-lives : goal.returns-clause-lives
returns-clause-lives c = λ config some new.
    let i = c.loop-event.event-index in
    let xs = c.args.events.now in
    let start = c.args.world.now in
    let all : take i xs ≡ xs = taken_whole i xs (let test = c.loop-event-test.false in grind (arith, nat_tests)) in
    tells_lives open_setup HasOpenCluster config start c.loop-event.world xs c.loop-event.told.items some new
    (subst (λ (past : List HostEvent). IsSoFar open_setup HasOpenCluster start (first_lives config) c.loop-event.world past c.loop-event.told.items) all (c.loop-event.invariant.so_far config))

pub returns-clause-alone : goal.returns-clause-alone
returns-clause-alone c = λ config some new.
    let i = c.loop-event.event-index in
    let xs = c.args.events.now in
    let start = c.args.world.now in
    let all : take i xs ≡ xs = taken_whole i xs (let test = c.loop-event-test.false in grind (arith, nat_tests)) in
    slots_alone open_setup HasOpenCluster config start c.loop-event.world xs c.loop-event.told.items some new
    (subst (λ (past : List HostEvent). IsSoFar open_setup HasOpenCluster start (first_lives config) c.loop-event.world past c.loop-event.told.items) all (c.loop-event.invariant.so_far config))

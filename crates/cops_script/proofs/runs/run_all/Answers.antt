use Rattle.std.proofs.Common.{◌≡◌, ℕ, ◌+◌, length, length-append, take, List, [], ◌∷◌, ◌++◌, sym, ◌∙◌, ap, subst, arith, length-take}
use Rattle.std.proofs.lemmas.List.{take_more}
use Rattle.cops_model.specs.declared.acts.Event.{Event}
use Rattle.cops_model.specs.declared.replies.Reply.{Reply}
use Rattle.cops_model.specs.Cluster.{SoloCluster}
use Rattle.cops_model.specs.Events.{own, replies}
use Rattle.cops_model.specs.Goes.{Goes, Turns}
use Rattle.cops_model.specs.Setups.{Setup, config_in}
use Rattle.cops_script.proofs.RunLaws.{goes_step}
use Rattle.cops_script.proofs.ToldActs.{ActsAsTold, as_told_act, as_turn}
use Rattle.cops_script.proofs.runs.run_all.Goals as goal

pub loop-event-preserved : goal.loop-event-preserved
loop-event-preserved g c =
    let i = c.loop-event.event-index in
    let xs = c.args.events.now in
    let e = c.event-item.result in
    let reply = c.as_reply-reply.result in
    let told = c.loop-event.told.items in
    let setup = g.W.Tenancy.setup in
    let acted = subst (λ r. ActsAsTold g.W.Tenancy.setup g.W.Tenancy.StandsFor c.loop-event.world e r c.act.new.self) (sym c.as_reply-reply.ensures)
    (as_told_act g.W.Tenancy.setup g.W.Tenancy.StandsFor c.loop-event.world e c.act.result c.act.new.self c.act.ensures) in
    let Before = g.W.Tenancy.StandsFor c.loop-event.world in
    let After = g.W.Tenancy.StandsFor c.act.new.self in
    let invariant = c.loop-event.invariant in
    let takes : take (i + 1) xs ≡ take i xs ++ e ∷ [] = take_more xs i e c.loop-event-test.true ∙ ap (λ d. take i xs ++ d ∷ []) (sym c.event-item.is) in
    let items : c.push.new.self.items ≡ told ++ reply ∷ [] = c.in_ok-push.ensures.items in
    record {
      same = acted.same ∙ invariant.same;
      as_long = ap length items ∙ length-append told (reply ∷ []) ∙ ap (λ n. n + 1) invariant.as_long;
      goes = λ slot cluster stood.
          let config = config_in (setup c.args.world.now) slot in
          let Told : List Event → List Reply → Type 0 = λ es rs. (left : SoloCluster) × Goes config (own slot es) (replies slot es rs) cluster left × After slot left in
          subst (λ es. Told es c.push.new.self.items) (sym takes)
          (subst (λ rs. Told (take i xs ++ e ∷ []) rs) (sym items)
          (goes_step config slot cluster (take i xs) e told reply (Before slot) (After slot)
          (let taken = length-take i xs in omega arith)
          (λ same_slot.
          let One : Setup → ℕ → Type 0 = λ setup s. (k : SoloCluster) → Before s k → (after : SoloCluster) × Turns (config_in setup s) e.act k reply after × After s after in
          let turn : One (setup c.loop-event.world) e.slot = as_turn g.W.Tenancy.setup g.W.Tenancy.StandsFor c.loop-event.world e reply c.act.new.self acted in
          subst (One (setup c.args.world.now)) same_slot (subst (λ s. One s e.slot) invariant.same turn))
          (λ differ. acted.others slot differ)
          (invariant.goes slot cluster stood)));
    }

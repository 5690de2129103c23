use Rattle.std.proofs.Common.{◌≡◌, ◌+◌, length, length-append, take, List, [], ◌∷◌, ◌++◌, sym, ◌∙◌, ap, subst, refl}
use Rattle.std.proofs.lemmas.List.{take_more}
use Rattle.cops_types.specs.TenantConfig.{TenantConfig}
use Rattle.cops_model.specs.declared.acts.Act.{Act}
use Rattle.cops_model.specs.declared.acts.Event.{Event}
use Rattle.cops_model.specs.declared.replies.Reply.{Reply}
use Rattle.cops_model.specs.Cluster.{SoloCluster}
use Rattle.cops_model.specs.Events.{own}
use Rattle.cops_model.specs.Goes.{Goes, Turns}
use Rattle.cops_model.specs.Setups.{Setup, config_in}
use Rattle.cops_world.specs.Worlds.{HasOpenCluster, KeptWorld, open_setup}
use Rattle.cops_script.proofs.RunLaws.{taken_whole, own_stays, own_too}
use Rattle.cops_script.proofs.ToldActs.{ActsAsTold, as_told_act, as_turn}
use Rattle.cops_script.proofs.Turning.{goes_push}
use Rattle.cops_world.proofs.WorldLives.{has_acted}
use Rattle.cops_world.proofs.whole_runs.answer_own.Goals as goal
use Rattle.cops_world.proofs.whole_runs.answer_own.Goals.{then-event-slot+in_ok-push, else-event-slot}

pub loop-event-init : goal.loop-event-init
loop-event-init c =
    let config = config_in c.args.world.now.setup 0 in
    record {
      same = refl;
      as_long = ap length c.new-told.ensures.items;
      run = λ cluster stood. (cluster, subst (λ rs. Goes config [] rs cluster cluster) (sym c.new-told.ensures.items) refl, stood);
    }

pub loop-event-preserved : goal.loop-event-preserved
loop-event-preserved c =
    let slot = c.args.slot in
    let config = config_in c.args.world.now.setup 0 in
    let i = c.loop-event.event-index in
    let xs = c.args.events.now in
    let e = c.event-item.result in
    let l = c.loop-event in
    let takes : take (i + 1) xs ≡ take i xs ++ e ∷ [] = take_more xs i e c.loop-event-test.true ∙ ap (λ d. take i xs ++ d ∷ []) (sym c.event-item.is) in
    elim c.if-event-slot.branch [
      | then-event-slot+in_ok-push w ↦
          let reply = w.as_reply.result in
          let event : Event = record { slot = 0; act = e.act } in
          let moves = subst (λ r. ActsAsTold open_setup HasOpenCluster l.world event r w.act.new.self) (sym w.as_reply.ensures)
          (as_told_act open_setup HasOpenCluster l.world event w.act.result w.act.new.self (has_acted l.world event w.act.result w.act.new.self w.act.ensures.moves w.act.ensures.lack)) in
          let items = ap (λ t. t.items) w.told-is ∙ w.in_ok-push.ensures.items in
          let After = HasOpenCluster w.act.new.self 0 in
          let One : TenantConfig → Type 0 = λ k. (cluster : SoloCluster) → HasOpenCluster l.world 0 cluster → (after : SoloCluster) × Turns k e.act cluster reply after × After after in
          let turn : One config = subst One l.invariant.same (as_turn open_setup HasOpenCluster l.world event reply w.act.new.self moves) in
          record {
            same = ap (λ (k : KeptWorld). config_in k.setup 0) w.world-is ∙ ap (λ (s : Setup). config_in s 0) moves.same ∙ l.invariant.same;
            as_long = ap length items ∙ length-append l.told.items (reply ∷ []) ∙ ap (λ n. n + 1) l.invariant.as_long ∙ sym (length-append (own slot (take i xs)) (e.act ∷ []))
                ∙ ap length (sym (own_too slot (take i xs) e w.if-event-slot.true)) ∙ ap (λ es. length (own slot es)) (sym takes);
            run = λ first stood.
                let before = l.invariant.run first stood in
                let one = turn before.0 before.2 in
                let Runs : List Act → List Reply → Type 0 = λ acts rs. (left : SoloCluster) × Goes config acts rs first left × HasOpenCluster c.if-event-slot.world 0 left in
                subst (λ acts. Runs acts c.if-event-slot.told.items) (sym (ap (own slot) takes ∙ own_too slot (take i xs) e w.if-event-slot.true))
                (subst (Runs (own slot (take i xs) ++ e.act ∷ [])) (sym items) (
                  one.0,
                  goes_push config (own slot (take i xs)) l.told.items e.act reply first before.0 one.0 before.1 one.1,
                  subst (λ (k : KeptWorld). HasOpenCluster k 0 one.0) (sym w.world-is) one.2,
                ));
          }
      | else-event-slot w ↦
          let items = ap (λ t. t.items) w.told-is in
          let stays = own_stays slot (take i xs) e w.if-event-slot.false in
          record {
            same = ap (λ (k : KeptWorld). config_in k.setup 0) w.world-is ∙ l.invariant.same;
            as_long = ap length items ∙ l.invariant.as_long ∙ ap length (sym stays) ∙ ap (λ es. length (own slot es)) (sym takes);
            run = λ first stood.
                let before = l.invariant.run first stood in
                let Runs : List Act → List Reply → Type 0 = λ acts rs. (left : SoloCluster) × Goes config acts rs first left × HasOpenCluster c.if-event-slot.world 0 left in
                subst (λ acts. Runs acts c.if-event-slot.told.items) (sym (ap (own slot) takes ∙ stays))
                (subst (Runs (own slot (take i xs))) (sym items) (before.0, before.1, subst (λ (k : KeptWorld). HasOpenCluster k 0 before.0) (sym w.world-is) before.2));
          }
    ]

pub returns-clause-run : goal.returns-clause-run
returns-clause-run c = λ cluster stood.
    let run = c.loop-event.invariant.run cluster stood in
    let whole = taken_whole c.loop-event.event-index c.args.events.now c.loop-event-test.false in
    (run.0, subst (λ es. Goes (config_in c.args.world.now.setup 0) (own c.args.slot es) c.loop-event.told.items cluster run.0) whole run.1)

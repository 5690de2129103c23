use Rattle.std.proofs.Common.{◌≡◌, ◌+◌, drop, List, [], ◌∷◌, ◌++◌, sym, subst, ap, ◌∙◌}
use Rattle.std.proofs.lemmas.Bool.Decides.{Decides-eqb}
use Rattle.std.proofs.lemmas.List.{drop_more}
use Rattle.cops_types.specs.TenantConfig.{tenant_config}
use Rattle.cops_model.specs.declared.acts.Event.{Event}
use Rattle.cops_model.specs.declared.replies.Reply.{Reply}
use Rattle.cops_model.specs.MainTheorem.{with_tenant_alone}
use Rattle.cops_script.specs.Acting.{told_act}
use Rattle.cops_script.proofs.MainLemmas.{some_shard}
use Rattle.cops_world.specs.declared.host_runs.HostEvent.{HostEvent}
use Rattle.cops_world.specs.SlotLives.{acts_to_close, acts_with}
use Rattle.cops_world.specs.Worlds.{KeptWorld}
use Rattle.cops_world.proofs.SlotLifeLemmas.{IsLiving, acts_elsewhere, acts_here, drop_whole, living_acts, living_begins, living_ends, living_skips, unlike_slots}
use Rattle.cops_world.proofs.WorldLives.{has_acted}
use Rattle.cops_world.proofs.lone_lives.live_in.Goals as goal
use Rattle.cops_world.proofs.lone_lives.live_in.Goals.{then-event-slot+in-Own+in_ok-push-in-Own, then-event-slot+in-Admit, else-event-slot}

pub loop-event-init : goal.loop-event-init
loop-event-init c =
    let xs = c.args.events.now in
    let world = c.args.world.now in
    record {
      living = λ config tenant new.
          subst (λ (told : List Reply). IsLiving (tenant_config config tenant) c.args.slot xs world xs told) (sym c.new-told.ensures.items) (living_begins config c.args.slot tenant xs world new);
    }

pub returns-in-Close : goal.returns-in-Close
returns-in-Close c = λ config tenant good new.
    let slot = c.args.slot in
    let xs = c.args.events.now in
    let i = c.loop-event.event-index in
    let e = c.event-item.result in
    let later = drop (i + 1) xs in
    let split : drop i xs ≡ e ∷ later = drop_more xs i e c.loop-event-test.true ∙ ap (λ d. d ∷ later) (sym c.event-item.is) in
    let ends : acts_to_close slot (drop i xs) ≡ [] =
    ap (acts_to_close slot) split ∙ acts_here slot e later ((Decides-eqb e.slot slot).1 c.if-event-slot.true) ∙ ap (λ d. acts_with d (acts_to_close slot later)) c.in-Close.is in
    living_ends config slot tenant xs c.loop-event.world (drop i xs) c.loop-event.told.items (some_shard (with_tenant_alone config tenant) good) ends (c.loop-event.invariant.living config tenant new)

pub loop-event-preserved : goal.loop-event-preserved
loop-event-preserved c =
    let slot = c.args.slot in
    let xs = c.args.events.now in
    let l = c.loop-event in
    let i = l.event-index in
    let e = c.event-item.result in
    let later = drop (i + 1) xs in
    let split : drop i xs ≡ e ∷ later = drop_more xs i e c.loop-event-test.true ∙ ap (λ d. d ∷ later) (sym c.event-item.is) in
    record {
      living = λ config tenant new.
          let own = tenant_config config tenant in
          let p = subst (λ (rest : List HostEvent). IsLiving own slot xs l.world rest l.told.items) split (l.invariant.living config tenant new) in
          let Is : KeptWorld → List Reply → Type 0 = λ world told. IsLiving own slot xs world later told in
          elim c.if-event-slot.branch [
            | then-event-slot+in-Own+in_ok-push-in-Own w ↦
                let act = w.in-Own.act in
                let alone : Event = record { slot = 0; act = act } in
                let next = w.act.new.self in
                let acted = has_acted l.world alone w.act.result next w.act.ensures.moves w.act.ensures.lack in
                let items = ap (λ t. t.items) w.told-is ∙ w.in_ok-push-in-Own.ensures.items ∙ ap (λ (r : Reply). l.told.items ++ r ∷ []) w.as_reply.ensures in
                let done = living_acts config slot tenant xs l.world next e act w.act.result later l.told.items w.if-event-slot.true w.in-Own.is acted p in
                subst (λ (told : List Reply). Is c.if-event-slot.world told) (sym items) (subst (λ (k : KeptWorld). Is k (l.told.items ++ told_act w.act.result ∷ [])) (sym w.world-is) done)
            | then-event-slot+in-Admit w ↦
                let skips = acts_here slot e later ((Decides-eqb e.slot slot).1 w.if-event-slot.true) ∙ ap (λ d. acts_with d (acts_to_close slot later)) w.in-Admit.is in
                let done = living_skips config slot tenant xs l.world e later l.told.items skips p in
                subst (λ (told : List Reply). Is c.if-event-slot.world told) (sym (ap (λ t. t.items) w.told-is)) (subst (λ (k : KeptWorld). Is k l.told.items) (sym w.world-is) done)
            | else-event-slot w ↦
                let done = living_skips config slot tenant xs l.world e later l.told.items (acts_elsewhere slot e later (unlike_slots e.slot slot w.if-event-slot.false)) p in
                subst (λ (told : List Reply). Is c.if-event-slot.world told) (sym (ap (λ t. t.items) w.told-is)) (subst (λ (k : KeptWorld). Is k l.told.items) (sym w.world-is) done)
          ];
    }

pub returns : goal.returns
returns c = λ config tenant good new.
    let xs = c.args.events.now in
    let i = c.loop-event.event-index in
    let ends = ap (acts_to_close c.args.slot) (drop_whole i xs c.loop-event-test.false) in
    living_ends config c.args.slot tenant xs c.loop-event.world (drop i xs) c.loop-event.told.items (some_shard (with_tenant_alone config tenant) good) ends (c.loop-event.invariant.living config tenant new)

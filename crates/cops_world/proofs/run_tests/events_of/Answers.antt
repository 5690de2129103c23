use Rattle.std.proofs.Common.{◌<◌, All, length, sym, subst, List, [], ◌∷◌, ◌++◌}
use Rattle.std.proofs.lemmas.List.Elements.{All-push}
use Rattle.cops_model.specs.declared.acts.Event.{Event}
use Rattle.cops_world.proofs.run_tests.events_of.Goals as goal

pub loop-line-preserved-in-Continue-1 : goal.loop-line-preserved-in-Continue-1
loop-line-preserved-in-Continue-1 g c =
    let Within : Event → Type 0 = λ e. e.slot < length c.args.tenants.now in
    subst (All Within) (sym c.in_ok-push.ensures.items) (All-push Within c.loop-line.events.items c.event_of-event.result c.loop-line.invariant c.event_of-event.ensures)

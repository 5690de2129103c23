use Rattle.std.proofs.Common.{◌≡◌, ◌-◌, suc, refl, ap, sym, subst, ◌∙◌, arith}
use Rattle.std.specs.Prelude.{IsTrue, Ok, Some}
use Rattle.cops_types.specs.declared.faults.Fault.TheVariants.{UnknownName}
use Rattle.cops_model.specs.declared.replies.Reply.TheVariants.{Refused}
use Rattle.cops_model.specs.Cluster.{actor_steps}
use Rattle.cops_model.specs.Setups.{Setup, is_open_at}
use Rattle.cops_script.specs.Acting.{IsSparedReply}
use Rattle.cops_model.specs.Lacks.{StepsStop}
use Rattle.cops_world.specs.ActorTables.{actor_place}
use Rattle.cops_world.specs.Worlds.{KeptWorld, Leaves, Moves, open_setup, world_of}
use Rattle.cops_world.proofs.WorldLacks.{spared_leaves, steps_end_leaves, steps_on_leaves}
use Rattle.cops_world.proofs.WorldSteps.{absent_step, steps_end, steps_on}
use Rattle.cops_world.proofs.world.World.steps.Goals as goal

pub returns-in_default-clause-moves : goal.returns-in_default-clause-moves
returns-in_default-clause-moves c =
    let old = world_of c.args.self.now in
    subst (λ (k : KeptWorld). Moves IsSparedReply (λ config. actor_steps c.args.more config c.args.name.now c.args.moment) old c.args.slot (Ok (Refused UnknownName)) (world_of k)) (sym c.place_of.ensures.same)
    (steps_end c.args.more c.args.name.now c.args.moment old c.args.slot (Ok (Refused UnknownName)) old refl (absent_step old c.args.slot c.args.name.now c.args.moment c.in_default.ensures.nobody))

pub returns-in_default-clause-lack : goal.returns-in_default-clause-lack
returns-in_default-clause-lack c =
    spared_leaves (λ config. StepsStop c.args.more config c.args.name.now c.args.moment) (world_of c.args.self.now) c.args.slot (Ok (Refused UnknownName)) (world_of c.place_of.new.self) refl

pub loop-self-init : goal.loop-self-init
loop-self-init c = record {
  same = ap open_setup c.place_of.ensures.same;
  placed = subst (λ (k : KeptWorld). Some c.in-Some.place ≡ actor_place (record { slot = c.args.slot; name = c.args.name.now }) k.table) (sym c.place_of.ensures.same) c.in-Some.ensures.place;
  rest = λ answered new later. subst (λ (k : KeptWorld). Moves IsSparedReply (λ config. actor_steps c.args.more config c.args.name.now c.args.moment) (world_of k) c.args.slot answered new) c.place_of.ensures.same later;
  lack_rest = λ answered new later. subst (λ (k : KeptWorld). Leaves (λ config. StepsStop c.args.more config c.args.name.now c.args.moment) (world_of k) c.args.slot answered new) c.place_of.ensures.same later;
}

pub step_at-answered-requires-clause-slot : goal.step_at-answered-requires-clause-slot
step_at-answered-requires-clause-slot c = subst (λ (s : Setup). IsTrue (is_open_at s c.args.slot)) (sym c.loop-self.invariant.same) c.requires

pub step_at-answered-requires-clause-place : goal.step_at-answered-requires-clause-place
step_at-answered-requires-clause-place c = c.loop-self.invariant.placed

pub leave-requires-clause-slot : goal.leave-requires-clause-slot
leave-requires-clause-slot c = subst (λ (s : Setup). IsTrue (is_open_at s c.args.slot)) (sym (c.step_at-answered.ensures.setup ∙ c.loop-self.invariant.same)) c.requires

pub leave-requires-clause-place : goal.leave-requires-clause-place
leave-requires-clause-place c = c.step_at-answered.ensures.place

pub returns-then-not-goes_on-clause-moves : goal.returns-then-not-goes_on-clause-moves
returns-then-not-goes_on-clause-moves c =
    let l = c.loop-self in
    let after = world_of c.leave.new.self in
    l.invariant.rest c.step_at-answered.result after
    (steps_end l.more c.args.name.now c.args.moment (world_of l.self) c.args.slot c.step_at-answered.result after (sym c.goes_on.ensures ∙ c.if-not-goes_on.true) (c.step_at-answered.ensures.moves c.leave.new.self c.leave.ensures))

pub returns-then-not-goes_on-clause-lack : goal.returns-then-not-goes_on-clause-lack
returns-then-not-goes_on-clause-lack c =
    let l = c.loop-self in
    let after = world_of c.leave.new.self in
    l.invariant.lack_rest c.step_at-answered.result after (steps_end_leaves l.more c.args.name.now c.args.moment (world_of l.self) c.args.slot c.step_at-answered.result after (c.step_at-answered.ensures.lack c.leave.new.self c.leave.ensures))

pub returns-then-more-eq0-clause-moves : goal.returns-then-more-eq0-clause-moves
returns-then-more-eq0-clause-moves c =
    let l = c.loop-self in
    let stays = c.step_at-answered.ensures.goes_on (sym c.goes_on.ensures ∙ c.if-not-goes_on.false) in
    let after = world_of c.step_at-answered.new.self in
    let none_left : l.more ≡ 0 = c.if-more-eq0.true in
    l.invariant.rest c.step_at-answered.result after
    (subst (λ n. Moves IsSparedReply (λ config. actor_steps n config c.args.name.now c.args.moment) (world_of l.self) c.args.slot c.step_at-answered.result after) (sym none_left) (c.step_at-answered.ensures.moves c.step_at-answered.new.self stays))

pub returns-then-more-eq0-clause-lack : goal.returns-then-more-eq0-clause-lack
returns-then-more-eq0-clause-lack c =
    let l = c.loop-self in
    let stays = c.step_at-answered.ensures.goes_on (sym c.goes_on.ensures ∙ c.if-not-goes_on.false) in
    let after = world_of c.step_at-answered.new.self in
    l.invariant.lack_rest c.step_at-answered.result after (steps_end_leaves l.more c.args.name.now c.args.moment (world_of l.self) c.args.slot c.step_at-answered.result after (c.step_at-answered.ensures.lack c.step_at-answered.new.self stays))

pub loop-self-preserved : goal.loop-self-preserved
loop-self-preserved c =
    let l = c.loop-self in
    let goes = sym c.goes_on.ensures ∙ c.if-not-goes_on.false in
    let some_left = c.if-more-eq0.false in
    let one = c.step_at-answered.ensures.moves c.step_at-answered.new.self (c.step_at-answered.ensures.goes_on goes) in
    record {
      same = c.step_at-answered.ensures.setup ∙ l.invariant.same;
      placed = c.step_at-answered.ensures.place;
      rest = λ answered new later.
          let one_more : suc (l.more - 1) ≡ l.more = (let test = some_left in omega arith) in
          l.invariant.rest answered new
          (subst (λ n. Moves IsSparedReply (λ config. actor_steps n config c.args.name.now c.args.moment) (world_of l.self) c.args.slot answered new) one_more
          (steps_on (l.more - 1) c.args.name.now c.args.moment (world_of l.self) c.args.slot c.step_at-answered.result (world_of c.step_at-answered.new.self) answered new goes one later));
      lack_rest = λ answered new later.
          let one_more : suc (l.more - 1) ≡ l.more = (let test = some_left in omega arith) in
          l.invariant.lack_rest answered new
          (subst (λ n. Leaves (λ config. StepsStop n config c.args.name.now c.args.moment) (world_of l.self) c.args.slot answered new) one_more
          (steps_on_leaves (l.more - 1) c.args.name.now c.args.moment (world_of l.self) c.args.slot c.step_at-answered.result (world_of c.step_at-answered.new.self) answered new goes one later));
    }

use Rattle.std.proofs.Common.{◌≡◌, ◌∙◌, ap, arith, ne_eqb, refl, subst, sym}
use Rattle.cops_node.specs.declared.hosted.SlotCall.{SlotCall}
use Rattle.cops_node.specs.declared.hosted.SlotReply.TheVariants as told
use Rattle.cops_node.specs.Hosting.{Hosted, IsSlotTurn, life_at, unknown_tenant}
use Rattle.cops_node.proofs.Hosting.{own_turns, unknown_turn}
use Rattle.cops_node.proofs.hosted.HostedNodeMachine.turn.Goals as goal

pub returns-then-life-clause-reply : goal.returns-then-life-clause-reply
returns-then-life-clause-reply c =
    let now = c.args.self.now in
    let apart = ne_eqb c.in-Own.life (life_at c.args.slot now) (λ same. omega (arith, c.if-life.true, c.life.ensures, same)) in
    rw c.refuse_other_life.ensures (subst (λ (call : SlotCall). IsSlotTurn now c.args.slot c.args.moment call unknown_tenant now) (sym c.in-Own.is)
    (unknown_turn now c.args.slot c.args.moment c.in-Own.life c.in-Own.call apart))

pub returns-in_ok-turn-in-Own-clause-reply : goal.returns-in_ok-turn-in-Own-clause-reply
returns-in_ok-turn-in-Own-clause-reply c =
    let old : Hosted = record { node = c.self.inside.node; lives = c.self.inside.lives } in
    let new : Hosted = record { node = c.turn.new.self; lives = c.self.inside.lives } in
    let reply = c.in_ok-turn-in-Own.field-0 in
    let here : c.life.result ≡ life_at c.args.slot old = c.life.ensures ∙ ap (λ (h : Hosted). life_at c.args.slot h) (sym c.self.view_is) in
    let present : c.in-Own.life ≡ life_at c.args.slot old = omega (arith, c.if-life.false, here) in
    subst (λ (before : Hosted). IsSlotTurn before c.args.slot c.args.moment c.args.call (told.Own reply) new) c.self.view_is
    (subst (λ (call : SlotCall). IsSlotTurn old c.args.slot c.args.moment call (told.Own reply) new) (sym c.in-Own.is)
    (own_turns old c.args.slot c.args.moment c.in-Own.life c.in-Own.call reply new c.in_ok-turn-in-Own.ensures.reply refl present))

use Rattle.cops_replay.proofs.Names.{arith, subst, sym, ◌∙◌, AreLoneNodes, Lone}
use Rattle.cops_replay.proofs.ReplayLemmas.{not_fitting, number_small, replied}
use Rattle.cops_replay.proofs.replaying.LoneNodes.ask.Goals as goal

pub overflow_mul-number : goal.overflow_mul-number
overflow_mul-number c =
    let small = number_small c.self.inside.shape c.self.inside.nodes.items c.args.asked.node.dc c.args.asked.node.shard c.self.invariant c.if-id-self.false c.if-id-self-2.false in
    let below = small.1 in omega arith

pub overflow_add-number : goal.overflow_add-number
overflow_add-number c =
    let small = number_small c.self.inside.shape c.self.inside.nodes.items c.args.asked.node.dc c.args.asked.node.shard c.self.invariant c.if-id-self.false c.if-id-self-2.false in
    let below = small.1 in omega arith

pub returns-then-not-fits : goal.returns-then-not-fits
returns-then-not-fits c = λ config solos are.
    let shape = c.self.inside.shape in
    let nodes = c.self.inside.nodes.items in
    let asked = c.args.asked in
    let small = number_small shape nodes asked.node.dc asked.node.shard c.self.invariant c.if-id-self.false c.if-id-self-2.false in
    not_fitting config asked shape nodes c.index_mut-node.result.now solos (subst (λ (v : Lone). AreLoneNodes config v solos) (sym c.self.view_is) are) c.if-id-self-2.false small.0 c.index_mut-node.ensures.value
    c.args.self.now c.fits.result c.fits.ensures c.if-not-fits.true

pub returns : goal.returns
returns c = λ config solos are.
    let shape = c.self.inside.shape in
    let nodes = c.self.inside.nodes.items in
    let asked = c.args.asked in
    let small = number_small shape nodes asked.node.dc asked.node.shard c.self.invariant c.if-id-self.false c.if-id-self-2.false in
    replied config asked shape nodes c.index_mut-node.result.now solos (subst (λ (v : Lone). AreLoneNodes config v solos) (sym c.self.view_is) are) c.if-id-self-2.false small.0 c.index_mut-node.ensures.value
    c.step.new.self c.in_ok-reply.reply (sym c.fits.ensures ∙ c.if-not-fits.false) c.if-id-self.false c.step.ensures.place c.in_ok-reply.ensures.turn

use Rattle.std.proofs.Common.{arith, subst}
use Rattle.cops_node.specs.Pages.{AreNumbered}
use Rattle.cops_node.proofs.PageLemmas.{earlier_last, far_below, far_is_earlier, far_there, one_owner}
use Rattle.cops_node.proofs.pages.skip_behind.Goals as goal

pub returns-then-last-eq0 : goal.returns-then-last-eq0
returns-then-last-eq0 c = λ slot rows h. earlier_last c.args.pages.now.slots slot rows c.args.list.now.pages c.args.list.now.last h

pub index-far-requires : goal.index-far-requires
index-far-requires c =
    far_there c.args.pages.now.slots c.requires.0 c.requires.1 c.args.list.now.pages c.args.list.now.last c.requires.3 c.requires.2 c.index-last.result.now c.index-near.result.now (let test = c.if-list-eq0.false in omega arith)
    c.index-last.ensures (let test = c.if-last-eq0.false in omega arith) c.index-near.ensures (let test = c.if-near-eq0.false in omega arith)

pub overflow_sub-near : goal.overflow_sub-near
overflow_sub-near c =
    far_below c.args.pages.now.slots c.requires.0 c.requires.1 c.args.list.now.pages c.args.list.now.last c.requires.3 c.requires.2 c.index-last.result.now c.index-near.result.now (let test = c.if-list-eq0.false in omega arith)
    c.index-last.ensures (let test = c.if-last-eq0.false in omega arith) c.index-near.ensures (let test = c.if-near-eq0.false in omega arith) c.index-far.result.now c.index-far.ensures

pub returns-then-last-near : goal.returns-then-last-near
returns-then-last-near c = λ slot rows h.
    let same = one_owner c.args.pages.now.slots c.requires.0 c.requires.1 slot rows c.args.list.now.pages c.args.list.now.last c.requires.2 h (let test = c.if-list-eq0.false in omega arith) in
    far_is_earlier c.args.pages.now.slots slot rows c.args.list.now.pages c.args.list.now.last (subst (AreNumbered c.args.pages.now.slots) same c.requires.3) h c.index-last.result.now c.index-near.result.now (let test = c.if-list-eq0.false in omega arith)
    c.index-last.ensures (let test = c.if-last-eq0.false in omega arith) c.index-near.ensures (let test = c.if-near-eq0.false in omega arith)

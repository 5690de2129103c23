use Rattle.std.proofs.Common.{rules, arith}
use Rattle.cops_gate.specs.Rule.{start}
use Rattle.cops_gate.proofs.Keeps.{looks, there_at}
use Rattle.cops_gate.proofs.turns.look_once.Goals as goal

pub load-requires : goal.load-requires
load-requires g c =
    let first = there_at c.args.board.now.shared.key.value.states.items c.args.node c.requires.board.2 in
    (search rules, (let w = c.requires.board.1.0 in let b = c.requires.board.2 in omega arith), looks g.M.Machine.turns g.M.Machine.place (start c.args.board.now.shared.key.value) _ _ _ c.args.node c.args.ticket first.0 first.1 c.requires.waits.0)

pub returns-clause-served : goal.returns-clause-served
returns-clause-served g c =
    let first = there_at c.args.board.now.shared.key.value.states.items c.args.node c.requires.board.2 in
    let told = c.load.ensures.2 (start c.args.board.now.shared.key.value) c.args.node c.args.ticket first.0 c.requires.opened first.1 c.requires.waits.0 c.requires.waits.1 in
    (λ hit. let got = told.0 hit in (first.0, first.1, got))

pub returns-clause-waits : goal.returns-clause-waits
returns-clause-waits g c =
    let first = there_at c.args.board.now.shared.key.value.states.items c.args.node c.requires.board.2 in
    let told = c.load.ensures.2 (start c.args.board.now.shared.key.value) c.args.node c.args.ticket first.0 c.requires.opened first.1 c.requires.waits.0 c.requires.waits.1 in
    told.1

use Rattle.std.proofs.Common.{rules, refl, arith}
use Rattle.cops_gate.specs.Rule.{start}
use Rattle.cops_gate.proofs.Keeps.{draws, there_at}
use Rattle.cops_gate.proofs.turns.draw_once.Goals as goal

pub compare_exchange-requires : goal.compare_exchange-requires
compare_exchange-requires g c =
    let first = there_at c.args.board.now.shared.key.value.states.items c.args.node c.requires.board.2 in
    (search rules, (let w = c.requires.board.1.0 in let b = c.requires.board.2 in omega arith), draws g.M.Machine.turns g.M.Machine.place (start c.args.board.now.shared.key.value) _ _ _ c.args.node first.0 _ _ first.1 c.requires.idle.0 c.requires.idle.1 c.requires.expected refl)

pub returns-clause-same : goal.returns-clause-same
returns-clause-same g c =
    let first = there_at c.args.board.now.shared.key.value.states.items c.args.node c.requires.board.2 in
    let told = c.compare_exchange.ensures.2 (start c.args.board.now.shared.key.value) c.args.node first.0 c.requires.opened first.1 refl in
    (c.compare_exchange.ensures.0, c.compare_exchange.ensures.1, told.0)

pub returns-clause-most : goal.returns-clause-most
returns-clause-most g c =
    let first = there_at c.args.board.now.shared.key.value.states.items c.args.node c.requires.board.2 in
    let told = c.compare_exchange.ensures.2 (start c.args.board.now.shared.key.value) c.args.node first.0 c.requires.opened first.1 refl in
    told.1

pub returns-clause-again : goal.returns-clause-again
returns-clause-again g c =
    let first = there_at c.args.board.now.shared.key.value.states.items c.args.node c.requires.board.2 in
    let told = c.compare_exchange.ensures.2 (start c.args.board.now.shared.key.value) c.args.node first.0 c.requires.opened first.1 refl in
    told.2

pub returns-clause-room : goal.returns-clause-room
returns-clause-room g c =
    let first = there_at c.args.board.now.shared.key.value.states.items c.args.node c.requires.board.2 in
    let told = c.compare_exchange.ensures.2 (start c.args.board.now.shared.key.value) c.args.node first.0 c.requires.opened first.1 refl in
    told.3

pub returns-clause-hit : goal.returns-clause-hit
returns-clause-hit g c =
    let first = there_at c.args.board.now.shared.key.value.states.items c.args.node c.requires.board.2 in
    let told = c.compare_exchange.ensures.2 (start c.args.board.now.shared.key.value) c.args.node first.0 c.requires.opened first.1 refl in
    told.4

pub returns-clause-miss : goal.returns-clause-miss
returns-clause-miss g c =
    let first = there_at c.args.board.now.shared.key.value.states.items c.args.node c.requires.board.2 in
    let told = c.compare_exchange.ensures.2 (start c.args.board.now.shared.key.value) c.args.node first.0 c.requires.opened first.1 refl in
    told.5

pub returns-clause-end : goal.returns-clause-end
returns-clause-end g c =
    let first = there_at c.args.board.now.shared.key.value.states.items c.args.node c.requires.board.2 in
    let told = c.compare_exchange.ensures.2 (start c.args.board.now.shared.key.value) c.args.node first.0 c.requires.opened first.1 refl in
    told.6

use Rattle.std.proofs.Common.{◌∙◌, sym, true≢false}
use Rattle.cops_store.proofs.Lines.{rechained_at, still_at, turn_rechained}
use Rattle.cops_store.proofs.Rechained.{chains_found, chains_kept, roomy_after, roomy_before}
use Rattle.cops_store.proofs.Rooms.{OnErr-any}
use Rattle.cops_store.proofs.rows.make_room.Goals as goal

pub returns-in_err-reserve-clause-turn : goal.returns-in_err-reserve-clause-turn
returns-in_err-reserve-clause-turn c =
    turn_rechained _ _ c.args.slot c.args.key.now _ _ c.args.line.now c.requires.line
    (rechained_at c.args.rows.now c.args.guess c.args.slot c.args.key.now c.index_mut-row.result.now c.reserve.new.self c.requires.unique (c.is_at.ensures c.if-is_at.true) c.index_mut-row.ensures.value)

pub returns-in_err-reserve-clause-err : goal.returns-in_err-reserve-clause-err
returns-in_err-reserve-clause-err c = OnErr-any _ _
    (chains_kept _ _ c.args.slot c.args.key.now _ _ c.args.line.now c.requires.line
    (rechained_at c.args.rows.now c.args.guess c.args.slot c.args.key.now c.index_mut-row.result.now c.reserve.new.self c.requires.unique (c.is_at.ensures c.if-is_at.true) c.index_mut-row.ensures.value) c.reserve.ensures.items)

pub returns-in_err-reserve-clause-succeeds : goal.returns-in_err-reserve-clause-succeeds
returns-in_err-reserve-clause-succeeds c = λ room.
    let r = rechained_at c.args.rows.now c.args.guess c.args.slot c.args.key.now c.index_mut-row.result.now c.reserve.new.self c.requires.unique (c.is_at.ensures c.if-is_at.true) c.index_mut-row.ensures.value in
    absurd (true≢false (sym (c.in_err-reserve.ensures.succeeds (roomy_before _ _ c.args.slot c.args.key.now _ _ c.args.line.now c.requires.line r room))))

pub returns-then-is_at-clause-at : goal.returns-then-is_at-clause-at
returns-then-is_at-clause-at c = still_at c.args.rows.now c.args.guess c.args.slot c.args.key.now _ (c.is_at.ensures c.if-is_at.true)

pub returns-then-is_at-clause-turn : goal.returns-then-is_at-clause-turn
returns-then-is_at-clause-turn c =
    turn_rechained _ _ c.args.slot c.args.key.now _ _ c.args.line.now c.requires.line
    (rechained_at c.args.rows.now c.args.guess c.args.slot c.args.key.now c.index_mut-row.result.now c.reserve.new.self c.requires.unique (c.is_at.ensures c.if-is_at.true) c.index_mut-row.ensures.value)

pub returns-then-is_at-clause-chains : goal.returns-then-is_at-clause-chains
returns-then-is_at-clause-chains c =
    let r = rechained_at c.args.rows.now c.args.guess c.args.slot c.args.key.now c.index_mut-row.result.now c.reserve.new.self c.requires.unique (c.is_at.ensures c.if-is_at.true) c.index_mut-row.ensures.value in
    chains_kept _ _ c.args.slot c.args.key.now _ _ c.args.line.now c.requires.line r c.reserve.ensures.items
    ∙ sym (chains_found _ _ c.args.slot c.args.key.now _ _ c.args.line.now c.requires.line r)

pub returns-then-is_at-clause-room : goal.returns-then-is_at-clause-room
returns-then-is_at-clause-room c =
    let r = rechained_at c.args.rows.now c.args.guess c.args.slot c.args.key.now c.index_mut-row.result.now c.reserve.new.self c.requires.unique (c.is_at.ensures c.if-is_at.true) c.index_mut-row.ensures.value in
    roomy_after _ _ c.args.slot c.args.key.now _ _ c.args.line.now c.requires.line r c.in_ok-reserve.ensures.room

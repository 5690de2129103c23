use Rattle.std.proofs.Common.{◌∙◌, ◌+◌, ap, sym, subst, true≢false}
use Rattle.cops_store.specs.Lines.{IsLineTurn, chain_in, linked_in, HasRecordRoom, row_of}
use Rattle.cops_store.specs.Tables.{chains_of}
use Rattle.cops_store.proofs.Lines.{at_within, rechained_at, still_at, turn_added}
use Rattle.cops_store.proofs.Rechained.{chains_added, found_chains, found_kept, found_roomy, found_turn}
use Rattle.cops_store.proofs.Rooms.{OnErr-any}
use Rattle.cops_store.proofs.rows.find_room.Goals as goal

pub returns-then-is_new-clause-turn : goal.returns-then-is_new-clause-turn
returns-then-is_new-clause-turn c =
    let added = c.in_ok-i.ensures.added c.if-is_new.true in
    subst (λ first. IsLineTurn c.args.rows.now.entries c.find_or_add.new.rows.entries c.args.slot c.args.line.now (record { first = first; count = c.args.line.now.count + 1 })) (sym added.1)
    (turn_added _ _ c.args.slot c.args.key.now c.args.line.now c.requires.line added.0)

pub returns-then-is_new-clause-chains : goal.returns-then-is_new-clause-chains
returns-then-is_new-clause-chains c =
    let added = c.in_ok-i.ensures.added c.if-is_new.true in
    ap (λ first. chains_of (linked_in (row_of c.find_or_add.new.rows.entries c.args.slot) (record { first = first; count = c.args.line.now.count + 1 }))) added.1
    ∙ chains_added _ _ c.args.slot c.args.key.now c.args.line.now c.requires.line added.0

pub index_mut-row-requires : goal.index_mut-row-requires
index_mut-row-requires c = at_within c.find_or_add.new.rows.entries c.in_ok-i.i c.args.slot c.args.key.now c.in_ok-i.ensures.at

pub returns-in_err-reserve-clause-turn : goal.returns-in_err-reserve-clause-turn
returns-in_err-reserve-clause-turn c = found_turn c.args.rows.now.entries c.find_or_add.new.rows.entries _ c.args.slot c.args.key.now _ _ c.args.line.now _ c.requires.line (c.in_ok-i.ensures.there c.if-is_new.false).0 (c.in_ok-i.ensures.there c.if-is_new.false).1
    (rechained_at c.find_or_add.new.rows c.in_ok-i.i c.args.slot c.args.key.now c.index_mut-row.result.now c.reserve.new.self c.find_or_add.ensures.unique c.in_ok-i.ensures.at c.index_mut-row.ensures.value)

pub returns-in_err-reserve-clause-err : goal.returns-in_err-reserve-clause-err
returns-in_err-reserve-clause-err c = OnErr-any _ _ (found_kept c.args.rows.now.entries c.find_or_add.new.rows.entries _ c.args.slot c.args.key.now _ _ c.args.line.now _ c.requires.line (c.in_ok-i.ensures.there c.if-is_new.false).0 (c.in_ok-i.ensures.there c.if-is_new.false).1
    (rechained_at c.find_or_add.new.rows c.in_ok-i.i c.args.slot c.args.key.now c.index_mut-row.result.now c.reserve.new.self c.find_or_add.ensures.unique c.in_ok-i.ensures.at c.index_mut-row.ensures.value) c.reserve.ensures.items)

pub returns-in_err-reserve-clause-succeeds : goal.returns-in_err-reserve-clause-succeeds
returns-in_err-reserve-clause-succeeds c = λ room.
    absurd (true≢false (sym (c.in_err-reserve.ensures.succeeds (found_roomy c.args.rows.now.entries c.find_or_add.new.rows.entries _ c.args.slot c.args.key.now _ _ c.args.line.now _ c.requires.line (c.in_ok-i.ensures.there c.if-is_new.false).0 (c.in_ok-i.ensures.there c.if-is_new.false).1
    (rechained_at c.find_or_add.new.rows c.in_ok-i.i c.args.slot c.args.key.now c.index_mut-row.result.now c.reserve.new.self c.find_or_add.ensures.unique c.in_ok-i.ensures.at c.index_mut-row.ensures.value) room))))

pub returns-clause-at : goal.returns-clause-at
returns-clause-at c = still_at c.find_or_add.new.rows c.in_ok-i.i c.args.slot c.args.key.now _ c.in_ok-i.ensures.at

pub returns-clause-turn : goal.returns-clause-turn
returns-clause-turn c = found_turn c.args.rows.now.entries c.find_or_add.new.rows.entries _ c.args.slot c.args.key.now _ _ c.args.line.now _ c.requires.line (c.in_ok-i.ensures.there c.if-is_new.false).0 (c.in_ok-i.ensures.there c.if-is_new.false).1
    (rechained_at c.find_or_add.new.rows c.in_ok-i.i c.args.slot c.args.key.now c.index_mut-row.result.now c.reserve.new.self c.find_or_add.ensures.unique c.in_ok-i.ensures.at c.index_mut-row.ensures.value)

pub returns-clause-chains : goal.returns-clause-chains
returns-clause-chains c = found_chains c.args.rows.now.entries c.find_or_add.new.rows.entries _ c.args.slot c.args.key.now _ _ c.args.line.now _ c.requires.line (c.in_ok-i.ensures.there c.if-is_new.false).0 (c.in_ok-i.ensures.there c.if-is_new.false).1
    (rechained_at c.find_or_add.new.rows c.in_ok-i.i c.args.slot c.args.key.now c.index_mut-row.result.now c.reserve.new.self c.find_or_add.ensures.unique c.in_ok-i.ensures.at c.index_mut-row.ensures.value) c.reserve.ensures.items

pub returns-clause-room : goal.returns-clause-room
returns-clause-room c = subst HasRecordRoom (sym (ap chain_in (rechained_at c.find_or_add.new.rows c.in_ok-i.i c.args.slot c.args.key.now c.index_mut-row.result.now c.reserve.new.self c.find_or_add.ensures.unique c.in_ok-i.ensures.at c.index_mut-row.ensures.value).changed.own)) c.in_ok-reserve.ensures.room

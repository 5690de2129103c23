use Rattle.cops_replay.proofs.Names.{sym, ◌∙◌}
use Rattle.cops_replay.proofs.replay_runs.begin_replay.Goals as goal

pub returns-in-Ok-clause-ok : goal.returns-in-Ok-clause-ok
returns-in-Ok-clause-ok c =
    let there = sym c.slot_of_name.ensures ∙ c.in-Some.is in
    (c.in-Some.slot, c.tenant.result.now, there, c.tenant.ensures, sym c.starts_great.ensures ∙ c.if-starts_great.false, c.in-Ok.ensures.layout, c.in-Ok.ensures.fresh c.tenant.result.now c.tenant.ensures)

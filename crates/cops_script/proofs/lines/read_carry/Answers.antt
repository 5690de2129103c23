use Rattle.cops_types.specs.Words.{parts_at, space}
use Rattle.cops_script.proofs.ActReading.{carry_found, named_rest, no_carry}
use Rattle.cops_script.proofs.lines.read_carry.Goals as goal

pub returns-in_err-dc : goal.returns-in_err-dc
returns-in_err-dc c =
    let named = named_rest c.args.words.now c.in_ok-name.name c.behind_name-rest.result.now c.in_ok-name.ensures.some c.behind_name-rest.ensures in
    rw c.from_residual-in_err-dc.ensures (no_carry (parts_at space c.args.words.now) (parts_at space c.behind_name-rest.result.now) c.in_ok-name.name named.1 c.in_err-dc.ensures.none)

pub returns : goal.returns
returns c =
    let named = named_rest c.args.words.now c.in_ok-name.name c.behind_name-rest.result.now c.in_ok-name.ensures.some c.behind_name-rest.ensures in
    carry_found (parts_at space c.args.words.now) (parts_at space c.behind_name-rest.result.now) c.in_ok-name.name c.in_ok-dc.dc c.in_ok-dc.shard c.in_ok-dc.to_dc named c.in_ok-dc.ensures.some

use Rattle.cops_types.specs.Words.{parts_at, space}
use Rattle.cops_script.proofs.ActReading.{collect_found}
use Rattle.cops_script.proofs.lines.read_collect.Goals as goal

pub returns : goal.returns
returns c = collect_found (parts_at space c.args.words.now) c.in_ok-dc.dc c.in_ok-dc.shard c.in_ok-dc.moment c.in_ok-dc.ensures.some

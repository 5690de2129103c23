use Rattle.std.proofs.Common.{rules}
use Rattle.cops_gate.specs.Rule.{start}
use Rattle.cops_gate.proofs.Keeps.{forks}
use Rattle.cops_gate.proofs.meetings.fork.Goals as goal

pub split_seat-requires : goal.split_seat-requires
split_seat-requires g c = (search rules, search rules, forks g.M.Machine.turns g.M.Machine.place (start c.args.board.now.shared.key.value) c.args.place.now.id c.args.place.now.me.0 c.requires.numbered)

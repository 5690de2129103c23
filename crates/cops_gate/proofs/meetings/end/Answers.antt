use Rattle.std.proofs.Common.{rules}
use Rattle.cops_gate.specs.Rule.{start}
use Rattle.cops_gate.proofs.Keeps.{ends}
use Rattle.cops_gate.proofs.meetings.end.Goals as goal

pub join_seat-requires : goal.join_seat-requires
join_seat-requires g c = (
  search rules,
  search rules,
  search rules,
  search rules,
  ends g.M.Machine.turns g.M.Machine.place (start c.args.board.now.shared.key.value) c.args.place.now.id c.args.place.now.me.0 c.args.ended.id c.args.ended.me.0 c.requires.idle.2 c.requires.numbered.0 c.requires.numbered.1 c.requires.seen,
)

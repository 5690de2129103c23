use Rattle.cops_gate.specs.History.{entry}
use Rattle.counting_gate.specs.declared.counter.Ask.TheVariants.{Go}
use Rattle.counting_gate.proofs.Rising.{keeps_last}
use Rattle.counting_gate.proofs.last_turn.Goals as goal

pub returns : goal.returns
returns g c =
    let end = c.in_ok-left.ensures.history in
    keeps_last c.args.gate.opening c.in_ok-left.left c.args.seat.number c.args.seat.history c.step.new.seat.history end.0
    (entry 0 0 Go c.in-Ok.reply) c.in-Ok.ensures.reply end.1 end.2

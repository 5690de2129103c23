use Rattle.cops_types.specs.Words.{parts_at, space}
use Rattle.cops_script.proofs.ActReading.{begin_named, copies_put, named_rest, no_put}
use Rattle.cops_script.proofs.lines.read_put.Goals as goal

pub returns-in_err-context : goal.returns-in_err-context
returns-in_err-context c =
    let named = named_rest c.args.words.now c.in_ok-name.name c.behind_name-rest.result.now c.in_ok-name.ensures.some c.behind_name-rest.ensures in
    rw c.from_residual-in_err-context.ensures (no_put (parts_at space c.args.words.now) (parts_at space c.behind_name-rest.result.now) c.in_ok-name.name named.1 c.in_err-context.ensures.none)

pub returns : goal.returns
returns c =
    let whole = parts_at space c.args.words.now in
    let middle = parts_at space c.behind_name-rest.result.now in
    let rest = parts_at space c.in_ok-context.rest.now in
    let named = named_rest c.args.words.now c.in_ok-name.name c.behind_name-rest.result.now c.in_ok-name.ensures.some c.behind_name-rest.ensures in
    let begin = begin_named whole middle rest c.in_ok-name.name c.in_ok-context.context named c.in_ok-context.ensures.some in
    copies_put whole rest c.in_ok-name.name c.in_ok-context.context c.in_ok-key.key.now c.in_ok-key.value.now c.of-key.result c.of-value.result
    c.of-key.ensures c.of-value.ensures begin c.in_ok-key.ensures.some
